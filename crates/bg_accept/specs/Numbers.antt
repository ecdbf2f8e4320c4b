-- What an index of names says.
use Rattle.std.specs.Prelude.{◌≡◌, ℕ, List, map, length, Option, Some, None}
use Rattle.std.specs.Str.{bytes_eq}
use Rattle.std.specs.Map.{lookup}
use denote.Bor.{Bor}
use Rattle.bg_text.specs.declared.expr.Name.{Name}
use Rattle.bg_text.specs.Views.{id_of}
use Rattle.bg_accept.specs.Names.{number_in}

-- the number at this name
abbrev pub found : List ℕ → List (Bor (List ℕ) × ℕ) → Option ℕ
found name es = lookup (λ k. bytes_eq name k.now) es

abbrev pub or_else : ℕ → Option ℕ → ℕ
or_else n None = n
or_else n (Some k) = k

-- each name has the number of the first candidate of this name
abbrev pub AreNumbers : List Name → List (Bor (List ℕ) × ℕ) → Type 0
AreNumbers cs es = (name : List ℕ) → or_else (length cs) (found name es) ≡ number_in (map id_of cs) name
