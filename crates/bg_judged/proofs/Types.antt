-- Types of the grammar: each of their maps has an index.
use Rattle.std.proofs.Common.{◌≡◌, ℕ, Bool, true, false, List, refl, ap}
use Rattle.std.specs.Prelude.{◌&&◌, ◌≢◌, not}
use Rattle.bg_text.specs.Trees as t
use Rattle.bg_text.specs.Types.{IsType, AreIndices}
use Rattle.bg_ast.specs.Values as v
use Rattle.bg_ast.specs.Meaning as m
use Rattle.bg_names.specs.Spaces.{place, or_zero}
use Rattle.bg_names.specs.Exprs.{named_ty, named_tys, named_indices}
use Rattle.bg_sense.proofs.Bools.{both}
use Rattle.bg_fits.specs.Valued.{is_empty, is_value_type}

-- each declared type is one whose maps have an index
abbrev pub AreGood : (ℕ → v.Ty) → Type 0
AreGood named = (k : ℕ) → is_value_type (named k) ≡ true

-- a written type is one, where each declared one is
abbrev pub TypeGood : t.Ty → Type 0
TypeGood e = (types : List (List ℕ)) (named : ℕ → v.Ty) → AreGood named → is_value_type (m.type_in named (named_ty types e)) ≡ true

some_keys : (types : List (List ℕ)) (named : ℕ → v.Ty) (ts : t.Tys) → ts ≢ t.NoType → is_empty (m.keys_in named (named_tys types ts)) ≡ false
some_keys types named t.NoType h = absurd (h refl)
some_keys types named (t.OneType e es) h = refl

rows_good : (types : List (List ℕ)) (named : ℕ → v.Ty) (is : t.Indices) (u : v.Ty) → AreIndices is → is_value_type u ≡ true → is_value_type (m.map_type named (named_indices types is) u) ≡ true
rows_good types named t.NoIndex u h k = k
rows_good types named (t.Index p ts is) u h k =
    both (not (is_empty (m.keys_in named (named_tys types ts)))) (is_value_type (m.map_type named (named_indices types is) u)) (ap not (some_keys types named ts h.0)) (rows_good types named is u h.2 k)

pub type_good : (e : t.Ty) → IsType e → TypeGood e
type_good (t.IntType p) h types named all = refl
type_good (t.BoolType p) h types named all = refl
type_good (t.NamedType p x) h types named all = all (or_zero (place types x))
type_good (t.InParens p e) h types named all = type_good e h types named all
type_good (t.MapType is e) h types named all =
    rows_good types named is (m.type_in named (named_ty types e)) h.1 (type_good e h.2 types named all)
