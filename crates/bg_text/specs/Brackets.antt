-- How many brackets may still be opened.
use Rattle.std.specs.Prelude.{ℕ, zero, suc, List, [], ◌∷◌, Option, Some, None}
use Rattle.bg_text.specs.declared.token.Kind.{Kind}
use Rattle.bg_text.specs.declared.token.Kind.TheVariants as kinds
use Rattle.bg_text.specs.Tokens.{Tok}

pub data Turn : Type 0 where
  Opens Shuts Neither : Turn

abbrev pub turn : Kind → Turn
turn kinds.Open = Opens
turn kinds.OpenBracket = Opens
turn kinds.OpenBrace = Opens
turn kinds.Close = Shuts
turn kinds.CloseBracket = Shuts
turn kinds.CloseBrace = Shuts
turn _ = Neither

abbrev pub left_by : Turn → ℕ → (ℕ → Option ℕ) → Option ℕ
left_by Opens zero rest = None
left_by Opens (suc d) rest = rest d
left_by Shuts d rest = rest (suc d)
left_by Neither d rest = rest d

-- where d more may be opened, how many more behind these tokens; None where one of them opens one too many
abbrev pub left : List Tok → ℕ → Option ℕ
left [] d = Some d
left (t ∷ ts) d = left_by (turn t.kind) d (left ts)
