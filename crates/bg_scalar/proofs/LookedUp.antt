-- What an ordered map has at a list of arguments is what the first of its entries for them says.
use Rattle.std.proofs.Common.{◌≡◌, ◌<◌, ◌≤◌, ℕ, zero, suc, Bool, true, false, List, [], ◌∷◌, map, length, get_or, Option, Some, refl, sym, ap, ◌∙◌, Vec, Global, arith}
use Rattle.std.specs.Prelude.{◌&&◌, if◌then◌else◌, cond, pos, unwrap_or, slice_get}
use Rattle.std.specs.declared.cmp.Ordering.{Ordering}
use Rattle.std.specs.Ordering.{is_eq}
use Rattle.std.specs.Cmp.Lexicographic.{slice_cmp}
use Rattle.std.specs.Map.{lookup}
use Rattle.bg_ast.specs.Values as v
use Rattle.bg_sense.specs.Eval.{vals_eq, entry_for, look_up}
use Rattle.bg_scalar.specs.Values.{value_of}
use Rattle.bg_scalar.specs.Views.{vals_in, entry_in, tables_in}
use Rattle.bg_scalar.specs.declared.value.Value.{Value}
use Rattle.bg_scalar.specs.declared.table.Table.{Table}
use Rattle.bg_scalar.proofs.Ordered.{then_is, value_cmp, values_alike}

chosen : (b c : Bool) (x : Value) (o : Option Value) (d : Value) (y : v.Val) → b ≡ c → value_of (unwrap_or o d) ≡ y → value_of (unwrap_or (cond b (Some x) o) d) ≡ (if c then value_of x else y)
chosen true true x o d y h k = refl
chosen true false x o d y h k = absurd cc
chosen false true x o d y h k = absurd cc
chosen false false x o d y h k = k

-- by an order in which the same values are equal
module _ (R : Value → Value → Ordering) (same : (x y : Value) → is_eq (R x y) ≡ v.val_eq (value_of y) (value_of x)) where
  keys_alike : (xs ys : List Value) → is_eq (slice_cmp R xs ys) ≡ vals_eq (vals_in ys) (vals_in xs)
  keys_alike [] [] = refl
  keys_alike [] (y ∷ ys) = refl
  keys_alike (x ∷ xs) [] = refl
  keys_alike (x ∷ xs) (y ∷ ys) =
      then_is (R x y) (slice_cmp R xs ys) (v.val_eq (value_of y) (value_of x)) (vals_eq (vals_in ys) (vals_in xs)) (same x y) (keys_alike xs ys)

  pub found : (es : List (Vec Value Global × Value)) (args : List Value) (d : Value) → value_of (unwrap_or (lookup (λ k. is_eq (slice_cmp R args k.items)) es) d) ≡ entry_for (map entry_in es) (vals_in args) (value_of d)
  found [] args d = refl
  found (e ∷ es) args d =
      chosen (is_eq (slice_cmp R args e.0.items)) (vals_eq (vals_in e.0.items) (vals_in args)) e.1 (lookup (λ k. is_eq (slice_cmp R args k.items)) es) d (entry_for (map entry_in es) (vals_in args) (value_of d)) (keys_alike args e.0.items) (found es args d)

there : (ts : List Table) (f : ℕ) (t : Table) → f < length ts → t ≡ get_or ts f t → slice_get ts f ≡ Some t
there [] f t h e = absurd (omega (arith, h))
there (u ∷ ts) zero t h e = ap Some (sym e)
there (u ∷ ts) (suc f) t h e = there ts f t (omega (arith, h)) e

by_table : (ts : List Table) (f : ℕ) (t : Table) (args : List v.Val) → slice_get ts f ≡ Some t → look_up (slice_get (tables_in ts) f) args ≡ entry_for (map entry_in t.entries.entries) args (value_of t.default)
by_table [] f t args e = absurd cc
by_table (u ∷ ts) zero t args e =
    let same : u ≡ t = cc in ap (λ z. entry_for (map entry_in z.entries.entries) args (value_of z.default)) same
by_table (u ∷ ts) (suc f) t args e = by_table ts f t args e

-- what the map of a function's table has, or else its default
pub told_by : (ts : List Table) (f : ℕ) (t : Table) (xs : List Value) (o : Option Value) → f < length ts → t ≡ get_or ts f t → o ≡ lookup (λ k. is_eq (slice_cmp value_cmp xs k.items)) t.entries.entries → value_of (unwrap_or o t.default) ≡ look_up (slice_get (tables_in ts) f) (vals_in xs)
told_by ts f t xs o h e k =
    ap (λ (x : Option Value). value_of (unwrap_or x t.default)) k
    ∙ (found value_cmp values_alike t.entries.entries xs t.default
    ∙ sym (by_table ts f t (vals_in xs) (there ts f t h e)))

-- no table is there
pub none_told : (ts : List Table) (f : ℕ) (args : List v.Val) → length ts ≤ f → look_up (slice_get (tables_in ts) f) args ≡ v.Num (pos 0)
none_told [] f args h = refl
none_told (t ∷ ts) zero args h = absurd (omega (arith, h))
none_told (t ∷ ts) (suc f) args h = none_told ts f args (omega (arith, h))
