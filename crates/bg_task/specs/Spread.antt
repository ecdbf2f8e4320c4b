-- Marks of what is read, with its types.
use Rattle.std.specs.Prelude.{ℕ, ◌&&◌, Bool, false, List, [], ◌∷◌, slice_get, unwrap_or}
use Rattle.bg_ast.specs.Values.{Ty, BoolTy}
use Rattle.bg_task.specs.Targets.{is_spread}

-- those that are marked, of numbers and elements
abbrev pub both : List Ty → List Bool → List Bool
both [] ms = []
both (t ∷ ts) [] = false ∷ both ts []
both (t ∷ ts) (m ∷ ms) = (is_spread t && m) ∷ both ts ms

-- whether the one with this number is
abbrev pub apart_at : List Ty → List Bool → ℕ → Bool
apart_at ts ms i = is_spread (unwrap_or (slice_get ts i) BoolTy) && unwrap_or (slice_get ms i) false
