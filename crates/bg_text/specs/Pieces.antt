-- What a text is made of: layout, tokens, and what stands in no token list.
use Rattle.std.specs.Prelude.{ℕ, ◌+◌, ◌-◌, ◌*◌, List, [], ◌∷◌, length, Bool, true, false, Option, Some, None, ◌==◌, nat_le, ◌&&◌, ◌||◌, not, if◌then◌else◌, codes, pos, ◌^◌}
use Rattle.std.specs.List.{list_all}
use Rattle.std.specs.Str.{bytes_eq}
use Rattle.bg_text.specs.declared.token.Kind.{Kind}
use Rattle.bg_text.specs.declared.token.Kind.TheVariants as kinds

pub data Piece : Type 0 where
  Layout : Piece
  Token : Kind → Piece
  Reserved : List ℕ → Piece
  TooBig : Piece

unfoldable pub is_space : ℕ → Bool
is_space b = b == 32 || b == 9 || b == 13 || b == 10

unfoldable pub is_digit : ℕ → Bool
is_digit b = nat_le 48 b && nat_le b 57

-- a letter, a digit, or one of ' ~ # $ ^ _ . ? and the backquote
unfoldable pub is_ident : ℕ → Bool
is_ident b = (nat_le 97 b && nat_le b 122) || (nat_le 65 b && nat_le b 90) || is_digit b || b == 39 || b == 126 || b == 35 || b == 36 || b == 94 || b == 95 || b == 46 || b == 63 || b == 96

abbrev pub value_from : ℕ → List ℕ → ℕ
value_from n [] = n
value_from n (b ∷ bs) = value_from (n * 10 + (b - 48)) bs

abbrev pub number_of : ℕ → Piece
number_of n = if nat_le n (2 ^ 127 - 1) then Token (kinds.Number (pos n)) else TooBig

-- the first of these that is the word
abbrev pub named : List (List ℕ × Piece) → List ℕ → Piece → Piece
named [] word other = other
named (entry ∷ rest) word other = if bytes_eq word entry.0 then entry.1 else named rest word other

abbrev pub keywords : List (List ℕ × Piece)
keywords =
    (codes "assert", Token kinds.Assert) ∷ (codes "assume", Token kinds.Assume) ∷ (codes "axiom", Token kinds.Axiom) ∷ (codes "bool", Token kinds.Bool)
    ∷ (codes "break", Token kinds.Break) ∷ (codes "call", Token kinds.Call) ∷ (codes "const", Token kinds.Const) ∷ (codes "else", Token kinds.Else)
    ∷ (codes "ensures", Token kinds.Ensures) ∷ (codes "false", Token kinds.False) ∷ (codes "free", Token kinds.Free) ∷ (codes "function", Token kinds.Function)
    ∷ (codes "goto", Token kinds.Goto) ∷ (codes "havoc", Token kinds.Havoc) ∷ (codes "if", Token kinds.If) ∷ (codes "implementation", Token kinds.Implementation)
    ∷ (codes "int", Token kinds.Int) ∷ (codes "invariant", Token kinds.Invariant) ∷ (codes "modifies", Token kinds.Modifies) ∷ (codes "old", Token kinds.Old)
    ∷ (codes "procedure", Token kinds.Procedure) ∷ (codes "requires", Token kinds.Requires) ∷ (codes "return", Token kinds.Return) ∷ (codes "returns", Token kinds.Returns)
    ∷ (codes "true", Token kinds.True) ∷ (codes "type", Token kinds.Type) ∷ (codes "unique", Token kinds.Unique) ∷ (codes "var", Token kinds.Var) ∷ (codes "while", Token kinds.While)
    ∷ []

abbrev pub reserved_words : List (List ℕ)
reserved_words = codes "async" ∷ codes "complete" ∷ codes "datatype" ∷ codes "div" ∷ codes "exists" ∷ codes "extends" ∷ codes "finite" ∷ codes "forall" ∷ codes "lambda" ∷ codes "mod" ∷ codes "par" ∷ codes "real" ∷ codes "then" ∷ codes "where" ∷ codes "yield" ∷ []

abbrev pub is_one_of : List (List ℕ) → List ℕ → Bool
is_one_of [] word = false
is_one_of (w ∷ ws) word = bytes_eq word w || is_one_of ws word

-- bv and digits
abbrev pub is_bit_vector : List ℕ → Bool
is_bit_vector (b ∷ v ∷ d ∷ ds) = b == 98 && (v == 118 && (is_digit d && list_all is_digit ds))
is_bit_vector _ = false

abbrev pub word_of : List ℕ → Piece
word_of word = if is_one_of reserved_words word || is_bit_vector word then Reserved word else named keywords word (Token kinds.Name)

abbrev pub signs : List (List ℕ × Piece)
signs =
    (codes "(", Token kinds.Open) ∷ (codes ")", Token kinds.Close) ∷ (codes "[", Token kinds.OpenBracket) ∷ (codes "]", Token kinds.CloseBracket)
    ∷ (codes "{", Token kinds.OpenBrace) ∷ (codes "}", Token kinds.CloseBrace) ∷ (codes ",", Token kinds.Comma) ∷ (codes ";", Token kinds.Semicolon)
    ∷ (codes ":", Token kinds.Colon) ∷ (codes ":=", Token kinds.Becomes) ∷ (codes "=", Token kinds.Sets) ∷ (codes "<", Token kinds.Less)
    ∷ (codes "<=", Token kinds.AtMost) ∷ (codes ">", Token kinds.Greater) ∷ (codes ">=", Token kinds.AtLeast) ∷ (codes "==", Token kinds.Equal)
    ∷ (codes "!=", Token kinds.Unequal) ∷ (codes "==>", Token kinds.Implies) ∷ (codes "<==", Token kinds.Explies) ∷ (codes "<==>", Token kinds.Iff)
    ∷ (codes "&&", Token kinds.And) ∷ (codes "||", Token kinds.Or) ∷ (codes "!", Token kinds.Not) ∷ (codes "+", Token kinds.Plus) ∷ (codes "-", Token kinds.Minus) ∷ (codes "*", Token kinds.Times)
    ∷ (codes "/", Reserved (codes "/")) ∷ (codes "%", Reserved (codes "%")) ∷ (codes "**", Reserved (codes "**")) ∷ (codes "++", Reserved (codes "++")) ∷ (codes "<:", Reserved (codes "<:")) ∷ (codes "::", Reserved (codes "::")) ∷ (92 ∷ [], Reserved (92 ∷ []))
    ∷ []

abbrev pub sign_of : List (List ℕ × Piece) → List ℕ → Option Piece
sign_of [] text = None
sign_of (entry ∷ rest) text = if bytes_eq text entry.0 then Some entry.1 else sign_of rest text

abbrev pub when : Bool → Piece → Option Piece
when true p = Some p
when false p = None

-- a string from behind its first quote on; after a backslash one byte stands that is no newline
abbrev mutual
  pub is_quoted : Bool → List ℕ → Bool
  is_quoted escaped [] = false
  is_quoted true (b ∷ bs) = not (b == 10) && is_quoted false bs
  is_quoted false (b ∷ bs) = if b == 34 then length bs == 0 else (if b == 92 then is_quoted true bs else not (b == 10) && is_quoted false bs)

-- A comment with n + 1 open, from here on, is closed exactly at the end. Half is what the byte before may begin: 0 nothing,
-- 1 an opening, 2 a closing.
abbrev mutual
  pub is_closed : ℕ → ℕ → List ℕ → Bool
  is_closed n half [] = false
  is_closed n half (b ∷ bs) =
      if half == 1 && b == 42 then is_closed (n + 1) 0 bs else (if half == 2 && b == 47 then (if n == 0 then length bs == 0 else is_closed (n - 1) 0 bs) else is_closed n (if b == 47 then 1 else (if b == 42 then 2 else 0)) bs)

abbrev pub comment_of : List ℕ → Option Piece
comment_of [] = None
comment_of (b ∷ bs) = if b == 47 then when (list_all (λ c. not (c == 10)) bs) Layout else (if b == 42 then when (is_closed 0 0 bs) Layout else None)

abbrev pub or_else : Option Piece → Option Piece → Option Piece
or_else None other = other
or_else (Some p) other = Some p

-- what these bytes are, taken as a whole
abbrev pub piece_of : List ℕ → Option Piece
piece_of [] = None
piece_of (b ∷ bs) =
    if is_space b then when (length bs == 0) Layout else (if is_digit b then when (list_all is_digit bs) (number_of (value_from 0 (b ∷ bs))) else (if is_ident b then when (list_all is_ident bs) (word_of (b ∷ bs)) else (if b == 34 then when (is_quoted false bs) (Token kinds.Quoted) else or_else (if b == 47 then comment_of bs else None) (sign_of signs (b ∷ bs)))))
