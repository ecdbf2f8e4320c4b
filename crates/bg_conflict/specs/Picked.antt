-- Rows picked from others, by their numbers.
use Rattle.std.specs.Prelude.{◌≡◌, ℕ, List, [], ◌∷◌, Some, get_or}
use Rattle.bg_rows.specs.declared.step.Step.{Step}
use Rattle.bg_rows.specs.declared.step.Step.TheVariants.{Path, Sum, Tight}
use Rattle.bg_rows.specs.Rows.{RowOf}
use Rattle.bg_rows.specs.Steps.{row_at}

-- each row is that of the number at its place among the given ones
abbrev pub ArePicked : List RowOf → List ℕ → List RowOf → Type 0
ArePicked given [] [] = Unit {0}
ArePicked given [] (r ∷ rs) = ⊥
ArePicked given (n ∷ ns) [] = ⊥
ArePicked given (n ∷ ns) (r ∷ rs) = (row_at given n ≡ Some r) × ArePicked given ns rs

-- a step of a derivation from picked rows, as one from those they were picked from
abbrev pub renumbered : List ℕ → Step → Step
renumbered numbers (Path k) = Path (get_or numbers k k)
renumbered numbers (Sum r p s q) = Sum r p s q
renumbered numbers (Tight r) = Tight r
