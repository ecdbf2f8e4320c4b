-- Kinds of one place are one, and a token of each kind.
use Rattle.std.proofs.Common.{◌≡◌, ℕ, zero, suc, List, [], ◌∷◌, Bool, true, false, Some, refl, sym, ap, ◌∙◌, eqb, eq-eqb}
use Rattle.std.specs.Prelude.{codes}
use Rattle.std.proofs.lemmas.Bool.{eqb-true}
use Rattle.bg_base.specs.declared.pos.Pos.{Pos}
use Rattle.bg_text.specs.declared.token.Kind.{Kind}
use Rattle.bg_text.specs.declared.token.Kind.TheVariants as kinds
use Rattle.bg_text.specs.Pieces as piece
use Rattle.bg_text.specs.Tokens.{Tok}
use Rattle.bg_reader.specs.Kinds.{number, is_kind}

-- a kind that is no number's: two kinds in its place are one
abbrev pub is_single : Kind → Bool
is_single (kinds.Number z) = false
is_single _ = true

-- a text of the kind
abbrev pub sample_text : Kind → List ℕ
sample_text kinds.Name = codes "a"
sample_text (kinds.Number z) = codes "0"
sample_text kinds.Quoted = 34 ∷ 34 ∷ []
sample_text kinds.Assert = codes "assert"
sample_text kinds.Assume = codes "assume"
sample_text kinds.Axiom = codes "axiom"
sample_text kinds.Bool = codes "bool"
sample_text kinds.Break = codes "break"
sample_text kinds.Call = codes "call"
sample_text kinds.Const = codes "const"
sample_text kinds.Else = codes "else"
sample_text kinds.Ensures = codes "ensures"
sample_text kinds.False = codes "false"
sample_text kinds.Free = codes "free"
sample_text kinds.Function = codes "function"
sample_text kinds.Goto = codes "goto"
sample_text kinds.Havoc = codes "havoc"
sample_text kinds.If = codes "if"
sample_text kinds.Implementation = codes "implementation"
sample_text kinds.Int = codes "int"
sample_text kinds.Invariant = codes "invariant"
sample_text kinds.Modifies = codes "modifies"
sample_text kinds.Old = codes "old"
sample_text kinds.Procedure = codes "procedure"
sample_text kinds.Requires = codes "requires"
sample_text kinds.Return = codes "return"
sample_text kinds.Returns = codes "returns"
sample_text kinds.True = codes "true"
sample_text kinds.Type = codes "type"
sample_text kinds.Unique = codes "unique"
sample_text kinds.Var = codes "var"
sample_text kinds.While = codes "while"
sample_text kinds.Open = codes "("
sample_text kinds.Close = codes ")"
sample_text kinds.OpenBracket = codes "["
sample_text kinds.CloseBracket = codes "]"
sample_text kinds.OpenBrace = codes "{"
sample_text kinds.CloseBrace = codes "}"
sample_text kinds.Comma = codes ","
sample_text kinds.Semicolon = codes ";"
sample_text kinds.Colon = codes ":"
sample_text kinds.Becomes = codes ":="
sample_text kinds.Sets = codes "="
sample_text kinds.Less = codes "<"
sample_text kinds.AtMost = codes "<="
sample_text kinds.Greater = codes ">"
sample_text kinds.AtLeast = codes ">="
sample_text kinds.Equal = codes "=="
sample_text kinds.Unequal = codes "!="
sample_text kinds.Implies = codes "==>"
sample_text kinds.Explies = codes "<=="
sample_text kinds.Iff = codes "<==>"
sample_text kinds.And = codes "&&"
sample_text kinds.Or = codes "||"
sample_text kinds.Not = codes "!"
sample_text kinds.Plus = codes "+"
sample_text kinds.Minus = codes "-"
sample_text kinds.Times = codes "*"

abbrev nth : List Kind → ℕ → Kind
nth [] n = kinds.Name
nth (k ∷ ks) zero = k
nth (k ∷ ks) (suc n) = nth ks n

-- the kind in a place
abbrev in_place : ℕ → Kind
in_place = nth (kinds.Name ∷ kinds.Name ∷ kinds.Quoted ∷ kinds.Assert ∷ kinds.Assume ∷ kinds.Axiom ∷ kinds.Bool ∷ kinds.Break ∷ kinds.Call ∷ kinds.Const ∷ kinds.Else ∷ kinds.Ensures ∷ kinds.False ∷ kinds.Free ∷ kinds.Function ∷ kinds.Goto ∷ kinds.Havoc ∷ kinds.If ∷ kinds.Implementation ∷ kinds.Int ∷ kinds.Invariant ∷ kinds.Modifies ∷ kinds.Old ∷ kinds.Procedure ∷ kinds.Requires ∷ kinds.Return ∷ kinds.Returns ∷ kinds.True ∷ kinds.Type ∷ kinds.Unique ∷ kinds.Var ∷ kinds.While ∷ kinds.Open ∷ kinds.Close ∷ kinds.OpenBracket ∷ kinds.CloseBracket ∷ kinds.OpenBrace ∷ kinds.CloseBrace ∷ kinds.Comma ∷ kinds.Semicolon ∷ kinds.Colon ∷ kinds.Becomes ∷ kinds.Sets ∷ kinds.Less ∷ kinds.AtMost ∷ kinds.Greater ∷ kinds.AtLeast ∷ kinds.Equal ∷ kinds.Unequal ∷ kinds.Implies ∷ kinds.Explies ∷ kinds.Iff ∷ kinds.And ∷ kinds.Or ∷ kinds.Not ∷ kinds.Plus ∷ kinds.Minus ∷ kinds.Times ∷ [])

placed : (k : Kind) → is_single k ≡ true → in_place (number k) ≡ k
placed kinds.Name h = refl
placed kinds.Quoted h = refl
placed kinds.Assert h = refl
placed kinds.Assume h = refl
placed kinds.Axiom h = refl
placed kinds.Bool h = refl
placed kinds.Break h = refl
placed kinds.Call h = refl
placed kinds.Const h = refl
placed kinds.Else h = refl
placed kinds.Ensures h = refl
placed kinds.False h = refl
placed kinds.Free h = refl
placed kinds.Function h = refl
placed kinds.Goto h = refl
placed kinds.Havoc h = refl
placed kinds.If h = refl
placed kinds.Implementation h = refl
placed kinds.Int h = refl
placed kinds.Invariant h = refl
placed kinds.Modifies h = refl
placed kinds.Old h = refl
placed kinds.Procedure h = refl
placed kinds.Requires h = refl
placed kinds.Return h = refl
placed kinds.Returns h = refl
placed kinds.True h = refl
placed kinds.Type h = refl
placed kinds.Unique h = refl
placed kinds.Var h = refl
placed kinds.While h = refl
placed kinds.Open h = refl
placed kinds.Close h = refl
placed kinds.OpenBracket h = refl
placed kinds.CloseBracket h = refl
placed kinds.OpenBrace h = refl
placed kinds.CloseBrace h = refl
placed kinds.Comma h = refl
placed kinds.Semicolon h = refl
placed kinds.Colon h = refl
placed kinds.Becomes h = refl
placed kinds.Sets h = refl
placed kinds.Less h = refl
placed kinds.AtMost h = refl
placed kinds.Greater h = refl
placed kinds.AtLeast h = refl
placed kinds.Equal h = refl
placed kinds.Unequal h = refl
placed kinds.Implies h = refl
placed kinds.Explies h = refl
placed kinds.Iff h = refl
placed kinds.And h = refl
placed kinds.Or h = refl
placed kinds.Not h = refl
placed kinds.Plus h = refl
placed kinds.Minus h = refl
placed kinds.Times h = refl
placed (kinds.Number z) h = absurd cc

not_number : (k : Kind) → is_single k ≡ true → eqb 1 (number k) ≡ true → ⊥
not_number (kinds.Number z) s h = absurd cc
not_number _ s h = absurd cc

is_single_by : (j k : Kind) → is_single k ≡ true → eqb (number j) (number k) ≡ true → is_single j ≡ true
is_single_by (kinds.Number z) k s h = absurd (not_number k s h)
is_single_by _ k s h = refl

pub kind_is : (k j : Kind) → is_single k ≡ true → is_kind k j ≡ true → j ≡ k
kind_is k j s h = sym (placed j (is_single_by j k s h)) ∙ ap in_place (eqb-true (number j) (number k) h) ∙ placed k s

pub sample_is : (k : Kind) → is_single k ≡ true → piece.piece_of (sample_text k) ≡ Some (piece.Token k)
unfolding piece.is_space piece.is_digit piece.is_ident
sample_is kinds.Name h = refl
sample_is kinds.Quoted h = refl
sample_is kinds.Assert h = refl
sample_is kinds.Assume h = refl
sample_is kinds.Axiom h = refl
sample_is kinds.Bool h = refl
sample_is kinds.Break h = refl
sample_is kinds.Call h = refl
sample_is kinds.Const h = refl
sample_is kinds.Else h = refl
sample_is kinds.Ensures h = refl
sample_is kinds.False h = refl
sample_is kinds.Free h = refl
sample_is kinds.Function h = refl
sample_is kinds.Goto h = refl
sample_is kinds.Havoc h = refl
sample_is kinds.If h = refl
sample_is kinds.Implementation h = refl
sample_is kinds.Int h = refl
sample_is kinds.Invariant h = refl
sample_is kinds.Modifies h = refl
sample_is kinds.Old h = refl
sample_is kinds.Procedure h = refl
sample_is kinds.Requires h = refl
sample_is kinds.Return h = refl
sample_is kinds.Returns h = refl
sample_is kinds.True h = refl
sample_is kinds.Type h = refl
sample_is kinds.Unique h = refl
sample_is kinds.Var h = refl
sample_is kinds.While h = refl
sample_is kinds.Open h = refl
sample_is kinds.Close h = refl
sample_is kinds.OpenBracket h = refl
sample_is kinds.CloseBracket h = refl
sample_is kinds.OpenBrace h = refl
sample_is kinds.CloseBrace h = refl
sample_is kinds.Comma h = refl
sample_is kinds.Semicolon h = refl
sample_is kinds.Colon h = refl
sample_is kinds.Becomes h = refl
sample_is kinds.Sets h = refl
sample_is kinds.Less h = refl
sample_is kinds.AtMost h = refl
sample_is kinds.Greater h = refl
sample_is kinds.AtLeast h = refl
sample_is kinds.Equal h = refl
sample_is kinds.Unequal h = refl
sample_is kinds.Implies h = refl
sample_is kinds.Explies h = refl
sample_is kinds.Iff h = refl
sample_is kinds.And h = refl
sample_is kinds.Or h = refl
sample_is kinds.Not h = refl
sample_is kinds.Plus h = refl
sample_is kinds.Minus h = refl
sample_is kinds.Times h = refl
sample_is (kinds.Number z) h = absurd cc

-- a token of the kind, at this position
abbrev pub sample : (k : Kind) → is_single k ≡ true → Pos → Tok
sample k h p = record { kind = k; text = sample_text k; pos = p; is_token = sample_is k h }

pub is_itself : (k : Kind) → is_kind k k ≡ true
is_itself k = eq-eqb (number k) (number k) refl
