-- Types of which each map has an index.
use Rattle.std.specs.Prelude.{◌≡◌, ℕ, Bool, true, false, ◌&&◌, List, [], ◌∷◌, Some, slice_get}
use Rattle.bg_ast.specs.Values.{Ty, MapTy}
use Rattle.bg_ast.specs.Syntax.{Fun}

abbrev pub is_indexed : Ty → Bool
is_indexed (MapTy [] t) = false
is_indexed (MapTy (k ∷ ks) t) = is_indexed t
is_indexed _ = true

abbrev pub are_indexed : List Ty → Bool
are_indexed [] = true
are_indexed (t ∷ ts) = is_indexed t && are_indexed ts

-- what each function gives is of such a type
abbrev pub GiveIndexed : List Fun → Type 0
GiveIndexed fs = (f : ℕ) (fn : Fun) → slice_get fs f ≡ Some fn → is_indexed fn.result ≡ true
