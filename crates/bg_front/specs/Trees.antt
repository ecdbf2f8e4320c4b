-- The tree of a text, and why it has none.
use Rattle.std.specs.Prelude.{◌≡◌, ℕ, List, [], ◌∷◌}
use Rattle.bg_base.specs.declared.pos.Pos.{Pos}
use Rattle.bg_text.specs.Text.{Text, Refused, after_bytes, start}
use Rattle.bg_text.specs.Tokens.{Tok}
use Rattle.bg_text.specs.Trees.{Decl}
use Rattle.bg_text.specs.Declarations.{SpellsTree}
use Rattle.bg_reader.specs.Told.{IsTooDeep}
use Rattle.bg_parse.specs.Programs.{IsProgram, IsStopped}
use Rattle.bg_front.specs.Refusals as r
use Rattle.bg_front.specs.Refusals.{refusal_of}
use Rattle.bg_front.specs.declared.refusal.ReadError.{ReadError}
use Rattle.bg_front.specs.declared.refusal.ReadError.TheVariants as errors

-- the bytes hold these tokens, which spell the tree with their positions, no bracket being the 201st that is open
abbrev pub IsTreeOf : List ℕ → List Tok → List Decl → Type 0
IsTreeOf bytes ts ds = Text bytes ts × IsProgram 200 ts ds

-- the position of the first of these tokens, or the other where there is none
abbrev pub position_of : Pos → List Tok → Pos
position_of other [] = other
position_of other (t ∷ ts) = t.pos

-- the position behind the last byte
abbrev pub end_of : List ℕ → Pos
end_of bytes = after_bytes bytes start

-- no program goes on with the token at this position, or the text ends there too early
abbrev pub IsSyntax : List ℕ → Pos → Type 0
IsSyntax bytes p = (ts : List Tok) × (rest : List Tok) × Text bytes ts × IsStopped 200 ts rest × (p ≡ position_of (end_of bytes) rest)

-- a bracket is the first that is one too many
abbrev pub IsNesting : List ℕ → Type 0
IsNesting bytes = (ts : List Tok) × (rest : List Tok) × Text bytes ts × IsTooDeep SpellsTree 200 ts rest

-- why a text has no tree
abbrev pub HasNoTree : List ℕ → r.Refusal → Type 0
HasNoTree bytes (r.Bytes p f) = Refused bytes p f
HasNoTree bytes (r.Syntax p) = IsSyntax bytes p
HasNoTree bytes r.Nesting = IsNesting bytes
HasNoTree bytes _ = ⊥

-- the same of an answer, unless memory ran out
abbrev pub IsNoTree : List ℕ → ReadError → Type 0
IsNoTree bytes (errors.Refused e) = HasNoTree bytes (refusal_of e)
IsNoTree bytes errors.Memory = Unit {0}
