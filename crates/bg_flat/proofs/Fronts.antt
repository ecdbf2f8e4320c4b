-- What instances in front say is true in a model; and lists of typed values.
use Rattle.std.proofs.Common.{◌≡◌, ℕ, zero, suc, ◌+◌, Bool, true, false, List, [], ◌∷◌, ◌++◌, map, length, Some, refl, ap, ◌∙◌, subst, arith}
use Rattle.std.specs.Prelude.{slice_get, not, if◌then◌else◌}
use Rattle.bg_ast.specs.Values.{Val, Ty, BoolTy, Table, val_eq, truth_of, is_of}
use Rattle.bg_ast.specs.Syntax.{Ex, Fun}
use Rattle.bg_ast.specs.Execution.{Interp}
use Rattle.bg_sense.specs.Eval.{value_at, ev, vals_eq, entry_for, look_up}
use Rattle.bg_sense.specs.Types.{are_of}
use Rattle.bg_sense.specs.Tables.{is_before, are_entries, is_table, is_table_of, are_tables}
use Rattle.bg_sense.proofs.Bools.{and_left, and_right, both}
use Rattle.bg_terms.specs.Terms.{Term, IsModel, Fit, over, term_value, extended}
use Rattle.bg_terms.specs.Instances.{Instance, instance_ex}
use Rattle.bg_terms.specs.Alike.{StandFor, HasFlatType, is_scalar}
use Rattle.bg_terms.specs.Typed.{type_of, types_with}
use Rattle.bg_flat.specs.Blocks.{all_true}
use Rattle.bg_flat.specs.Fronts.{stated, AreIndexed, AreTruths}

-- ---- what is in front is true

abbrev ScalarLaw : Type 0
ScalarLaw =
    (tys : List Ty) (w scalars : List Val) (x : Ex) (t : Ty) → StandFor tys w scalars → HasFlatType tys x t → is_scalar t ≡ true → ev x (over scalars) ≡ ev x (over w)

abbrev InstanceLaw : Type 0
InstanceLaw =
    (i : Interp) (n : ℕ) (ts : List Term) (w : List Val) (e : Instance) → IsModel i w n ts → Fit w ts → AreIndexed ts → truth_of (ev (instance_ex n ts e) (over w)) ≡ true

pub front_true : ScalarLaw → InstanceLaw → (i : Interp) (n : ℕ) (ts : List Term) (tys : List Ty) (w s : List Val) → IsModel i w n ts → StandFor tys w s → Fit w ts → AreIndexed ts → (es : List Instance) → AreTruths tys (stated n ts es) → all_true (over s) (stated n ts es) ≡ true
front_true scalar instances i n ts tys w s model stand fit indexed [] h = refl
front_true scalar instances i n ts tys w s model stand fit indexed (e ∷ es) h =
    both (truth_of (ev (instance_ex n ts e) (over s))) (all_true (over s) (stated n ts es)) (ap truth_of (scalar tys w s (instance_ex n ts e) BoolTy stand h.0 refl) ∙ instances i n ts w e model fit indexed) (front_true scalar instances i n ts tys w s model stand fit indexed es h.1)

-- ---- lists of values

pub of_each : (tys : List Ty) (w : List Val) → length w ≡ length tys → ((j : ℕ) (t : Ty) → slice_get tys j ≡ Some t → is_of t (value_at w j) ≡ true) → are_of tys w ≡ true
of_each [] [] l f = refl
of_each [] (v ∷ w) l f = absurd (omega arith)
of_each (t ∷ tys) [] l f = absurd (omega arith)
of_each (t ∷ tys) (v ∷ w) l f =
    both (is_of t v) (are_of tys w) (f 0 t refl) (of_each tys w (omega arith) (λ j u e. f (suc j) u e))

pub same_lengths : (tys : List Ty) (w : List Val) → are_of tys w ≡ true → length w ≡ length tys
same_lengths [] [] h = refl
same_lengths [] (v ∷ w) h = absurd (let bad : ⊥ = cc in bad)
same_lengths (t ∷ tys) [] h = absurd (let bad : ⊥ = cc in bad)
same_lengths (t ∷ tys) (v ∷ w) h =
    let e = same_lengths tys w (and_right (is_of t v) (are_of tys w) h) in omega arith

pub each_of : (tys : List Ty) (w : List Val) (j : ℕ) (t : Ty) → are_of tys w ≡ true → slice_get tys j ≡ Some t → is_of t (value_at w j) ≡ true
each_of [] w j t h e = absurd (let bad : ⊥ = cc in bad)
each_of (u ∷ tys) [] j t h e = absurd (let bad : ⊥ = cc in bad)
each_of (u ∷ tys) (v ∷ w) zero t h e =
    let same : u ≡ t = cc in subst (λ x. is_of x v ≡ true) same (and_left (is_of u v) (are_of tys w) h)
each_of (u ∷ tys) (v ∷ w) (suc j) t h e = each_of tys w j t (and_right (is_of u v) (are_of tys w) h) e

joined_length : {A : Type 0} → (xs ys : List A) → length (xs ++ ys) ≡ length xs + length ys
joined_length [] ys = omega arith
joined_length (x ∷ xs) ys = let e = joined_length xs ys in omega arith

mapped_length : {A B : Type 0} → (f : A → B) (xs : List A) → length (map f xs) ≡ length xs
mapped_length f [] = refl
mapped_length f (x ∷ xs) = ap (λ n. suc n) (mapped_length f xs)

longer : (i : Interp) (ts : List Term) (w : List Val) → length (extended i ts w) ≡ length w + length ts
longer i [] w = omega arith
longer i (t ∷ ts) w =
    let e = longer i ts (w ++ (term_value i w t ∷ [])) in
    let f = joined_length w (term_value i w t ∷ []) in
    omega (arith, e, f)

pub whole_length : (i : Interp) (incs : List Ty) (ts : List Term) (values : List Val) → length values ≡ length incs → length (extended i ts values) ≡ length (types_with incs ts)
whole_length i incs ts values e =
    let a = longer i ts values in
    let b = joined_length incs (map type_of ts) in
    let c = mapped_length type_of ts in
    omega (arith, a, b, c, e)

-- ---- tables are typed

entry_typed : (f : Fun) (d : Val) (es : List (List Val × Val)) (args : List Val) → are_entries f d es ≡ true → is_of f.result d ≡ true → is_of f.result (entry_for es args d) ≡ true
entry_typed f d [] args h k = k
entry_typed f d (e ∷ es) args h k =
    let h1 = and_right (are_of f.params e.0) _ h in
    let h2 = and_right (is_of f.result e.1) _ h1 in
    let h3 = and_right (not (val_eq e.1 d)) _ h2 in
    pick (vals_eq e.0 args) (and_left (is_of f.result e.1) _ h1) (entry_typed f d es args (and_right (is_before e.0 es) (are_entries f d es) h3) k)
  where
    pick : (b : Bool) → is_of f.result e.1 ≡ true → is_of f.result (entry_for es args d) ≡ true → is_of f.result (if b then e.1 else entry_for es args d) ≡ true
    pick true x y = x
    pick false x y = y

pub table_typed : (fs : List Fun) (ts : List Table) (f : ℕ) (fn : Fun) (args : List Val) → are_tables fs ts ≡ true → slice_get fs f ≡ Some fn → is_of fn.result (look_up (slice_get ts f) args) ≡ true
table_typed [] ts f fn args h e = absurd (let bad : ⊥ = cc in bad)
table_typed (x ∷ fs) [] f fn args h e = absurd (let bad : ⊥ = cc in bad)
table_typed (x ∷ fs) (t ∷ ts) zero fn args h e =
    let same : x ≡ fn = cc in
    let is = and_left (is_table x t) _ (and_left (is_table_of x t) (are_tables fs ts) h) in
    subst (λ y. is_of y.result (entry_for t.entries args t.default) ≡ true) same (entry_typed x t.default t.entries args (and_right (is_of x.result t.default) (are_entries x t.default t.entries) is) (and_left (is_of x.result t.default) (are_entries x t.default t.entries) is))
table_typed (x ∷ fs) (t ∷ ts) (suc f) fn args h e =
    table_typed fs ts f fn args (and_right (is_table_of x t) (are_tables fs ts) h) e
