-- What a program over values declares of functions, and that each map in it has an index.
use Rattle.std.proofs.Common.{◌≡◌, ℕ, true, List, [], ◌∷◌, Option, Some, None, refl}
use Rattle.std.specs.Prelude.{not, ◌&&◌, slice_get}
use Rattle.std.specs.List.{list_all}
use Rattle.bg_ast.specs.Values.{Ty, IntTy, BoolTy, UserTy, MapTy}
use Rattle.bg_ast.specs.Syntax.{Ex, Fun, Prog}
use Rattle.bg_sense.specs.Eval.{body_of}
use Rattle.bg_sense.specs.Tables.{has_body}
use Rattle.bg_sense.specs.Typed.{IsTyped}
use Rattle.bg_sense.proofs.Bools.{and_left, and_right, both}
use Rattle.bg_fits.specs.Valued.{is_empty, is_value_type, is_over_values}
use Rattle.bg_faithful.proofs.ValueTypes.{AreValueTypes}
use Rattle.bg_faithful.proofs.Whole.{no_constants, each_function}
use Rattle.bg_numbered.specs.Indexed.{is_indexed, are_indexed, GiveIndexed}
use Rattle.bg_termed.specs.Termed.{IsTabled}

value_indexed : (t : Ty) → is_value_type t ≡ true → is_indexed t ≡ true
value_indexed IntTy h = refl
value_indexed BoolTy h = refl
value_indexed (UserTy u) h = refl
value_indexed (MapTy [] t) h = absurd (let bad : ⊥ = cc in bad)
value_indexed (MapTy (k ∷ ks) t) h = value_indexed t (and_right (not (is_empty (k ∷ ks))) (is_value_type t) h)

pub types_indexed : (ts : List Ty) → AreValueTypes ts → are_indexed ts ≡ true
types_indexed [] h = refl
types_indexed (t ∷ ts) h = both (is_indexed t) (are_indexed ts) (value_indexed t h.0) (types_indexed ts h.1)

no_body : (b : Option Ex) → not (has_body b) ≡ true → b ≡ None
no_body None h = refl
no_body (Some e) h = absurd (let bad : ⊥ = cc in bad)

module _ (p : Prog) (o : is_over_values p ≡ true) where
  -- the result's type passes, and there is no body
  passing : (f : ℕ) (fn : Fun) → slice_get p.functions f ≡ Some fn → (is_value_type fn.result && not (has_body fn.body)) ≡ true
  passing f fn e = and_right (list_all is_value_type fn.params) _ (each_function p o f fn e)

  bodiless : (f : ℕ) (fn : Option Fun) → slice_get p.functions f ≡ fn → body_of fn ≡ None
  bodiless f None e = refl
  bodiless f (Some fn) e = no_body fn.body (and_right (is_value_type fn.result) (not (has_body fn.body)) (passing f fn e))

  pub tabled : IsTyped p → IsTabled p
  tabled t =
      record {
        typed = t;
        constants = no_constants p o;
        bodies = λ f. bodiless f (slice_get p.functions f) refl;
      }

  pub gives : GiveIndexed p.functions
  gives f fn e = value_indexed fn.result (and_left (is_value_type fn.result) (not (has_body fn.body)) (passing f fn e))
