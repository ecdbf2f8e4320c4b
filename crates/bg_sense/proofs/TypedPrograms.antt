-- A typed program has what the laws ask.
use Rattle.std.proofs.Common.{◌≡◌, ℕ, zero, suc, ◌+◌, ◌<◌, ◌≤◌, Bool, true, false, List, [], ◌∷◌, ◌++◌, length, map, Some, refl, sym, ap, ◌∙◌, subst, arith, inl, inr}
use Rattle.std.specs.Prelude.{◌||◌, ◌==◌, slice_get, All, Contains}
use Rattle.std.proofs.lemmas.Bool.{eq-eqb}
use Rattle.bg_ast.specs.Syntax.{Var, Global, Local, Call, St, Skip, Then, Label, Assert, Assume, Havoc, Assign, Invoke, If, While, Break, Goto, Return, Proc, Impl, Prog}
use Rattle.bg_ast.specs.Execution.{Interp, State, Choice, Place}
use Rattle.bg_sense.specs.Context.{Loops, Turning}
use Rattle.bg_sense.specs.Clauses.{is_kept}
use Rattle.bg_sense.specs.Variables.{var_eq, is_among, count_from, globals_of, modified, variables_in, procedure_of}
use Rattle.bg_sense.specs.Run.{context}
use Rattle.bg_sense.specs.Places.{places}
use Rattle.bg_sense.specs.Claims.{Safe, Fails}
use Rattle.bg_sense.specs.Typing.{AreVarsIn, CallHasType, IsTypedIn, IsTypedSt}
use Rattle.bg_sense.specs.Typed.{Around, MayChange, IsTypedCall, IsTypedStatement, around, IsTypedImpl, IsTyped}
use Rattle.bg_sense.proofs.Bools.{or_true_left, or_true_right}
use Rattle.bg_sense.proofs.Members.{In, member}
use Rattle.bg_sense.proofs.Renews.{filtered_among, appended_among}
use Rattle.bg_sense.proofs.OnlyPlaces.{safe_at_places}

var_eq_refl : (x : Var) → var_eq x x ≡ true
var_eq_refl (Global x) = eq-eqb x x refl
var_eq_refl (Local x) = eq-eqb x x refl

in_among : (xs : List Var) (x : Var) → In xs x → is_among xs x ≡ true
in_among [] x i = absurd i
in_among (y ∷ xs) x (inl e) =
    or_true_left (var_eq y x) (is_among xs x) (ap (λ z. var_eq z x) e ∙ var_eq_refl x)
in_among (y ∷ xs) x (inr i) = or_true_right (var_eq y x) (is_among xs x) (in_among xs x i)

behind_among : (xs ys : List Var) (x : Var) → is_among ys x ≡ true → is_among (xs ++ ys) x ≡ true
behind_among [] ys x h = h
behind_among (y ∷ xs) ys x h =
    or_true_right (var_eq y x) (is_among (xs ++ ys) x) (behind_among xs ys x h)

counted_among : (k n x : ℕ) → k ≤ x → x < k + n → is_among (map Local (count_from k n)) (Local x) ≡ true
counted_among k zero x h g = absurd (omega arith)
counted_among k (suc n) x h g = on (k == x) refl (λ l. counted_among (suc k) n x l (omega arith))
  where
    on : (b : Bool) → (k == x) ≡ b → (suc k ≤ x → is_among (map Local (count_from (suc k) n)) (Local x) ≡ true) → ((k == x) || is_among (map Local (count_from (suc k) n)) (Local x)) ≡ true
    on true e rest = or_true_left (k == x) _ e
    on false e rest =
        or_true_right (k == x) _ (rest (let apart : (k ≡ x → ⊥) = (λ s. (let same : (k == x) ≡ true = eq-eqb k x s in let bad : ⊥ = cc in bad)) in omega arith))

is_variable : (r : Around) (x : Var) → MayChange r x → is_among (variables_in r.program r.variables) x ≡ true
is_variable r (Global x) h =
    appended_among (globals_of r.program) _ (Global x) (filtered_among (is_among (map Global r.procedure.modifies)) (globals_of r.program) (Global x) (in_among (modified r.program r.procedure) (Global x) (member (modified r.program r.procedure) (Global x) h)))
is_variable r (Local x) h =
    behind_among (globals_of r.program) _ (Local x) (counted_among 0 (length r.variables) x (omega arith) (let l = h.1 in omega arith))

are_variables : (r : Around) (xs : List Var) → All (MayChange r) xs → AreVarsIn r.program r.variables xs
are_variables r [] h = tt
are_variables r (x ∷ xs) h =
    (is_variable r x (h 0 x (omega arith)), are_variables r xs (λ k d l. h (suc k) d (omega arith)))

call_typed : (r : Around) (k : Call) → IsTypedCall r k → AreVarsIn r.program r.variables k.takes × CallHasType r.program r.variables (procedure_of r.program k.procedure) k.args k.takes
call_typed r k h = (
  are_variables r k.takes h.1.1.1.1.1.1.0,
  subst (λ o. CallHasType r.program r.variables o k.args k.takes) (sym h.1.0) (h.1.1.0, h.1.1.1.1.0),
)

statement_typed : (r : Around) (inside before : List ℕ) (s : St) → IsTypedStatement r inside before s → IsTypedIn r.program r.variables s
statement_typed r inside before Skip h = tt
statement_typed r inside before (Then a b) h =
    (statement_typed r inside _ a h.0, statement_typed r inside before b h.1)
statement_typed r inside before (Label l) h = tt
statement_typed r inside before (Assert k) h = tt
statement_typed r inside before (Assume e) h = tt
statement_typed r inside before (Havoc xs) h = are_variables r xs h
statement_typed r inside before (Assign xs es) h = (are_variables r xs h.1, h.2)
statement_typed r inside before (Invoke k) h = call_typed r k h
statement_typed r inside before (If n g a b) h =
    (statement_typed r (n ∷ inside) before a h.1, statement_typed r (n ∷ inside) before b h.2)
statement_typed r inside before (While n g is a) h = statement_typed r (n ∷ inside) before a h.2
statement_typed r inside before (Break n) h = tt
statement_typed r inside before (Goto ls) h = tt
statement_typed r inside before Return h = tt

all_at : {A : Type 0} (P : A → Type 0) (xs : List A) (k : ℕ) (x : A) → All P xs → slice_get xs k ≡ Some x → P x
all_at P [] k x h e = absurd (let bad : ⊥ = cc in bad)
all_at P (y ∷ xs) zero x h e = let same : y ≡ x = cc in subst P same (h 0 y (omega arith))
all_at P (y ∷ xs) (suc k) x h e = all_at P xs k x (λ j d l. h (suc j) d (omega arith)) e

some_at : {A : Type 0} (xs : List A) (k : ℕ) → k < length xs → (x : A) × (slice_get xs k ≡ Some x)
some_at [] k h = absurd (omega arith)
some_at (x ∷ xs) zero h = (x, refl)
some_at (x ∷ xs) (suc k) h = some_at xs k (omega arith)

pub body_typed : (loops : Loops) (p : Prog) (set : ℕ → Bool) (i : Interp) (k : ℕ) (m : Impl) (q : Proc) (s : State) → IsTyped p → slice_get p.implementations k ≡ Some m → procedure_of p m.procedure ≡ Some q → IsTypedSt (context loops p set i k m q s) m.body
body_typed loops p set i k m q s h e f =
    let t = all_at (IsTypedImpl p) p.implementations k m h.implementations e in
    let same : t.procedure ≡ q = (let there = sym t.is_there ∙ f in cc) in
    subst (λ y. IsTypedIn p (y.params ++ (y.results ++ m.locals)) m.body) same (statement_typed (around p t.procedure m) [] [] m.body t.body)

pub typed_safe : (p : Prog) (set : ℕ → Bool) (k : ℕ) → IsTyped p → k < length p.implementations → ((t : Place) (i : Interp) (s : State) (cs : List Choice) → Contains (places p) t → t.implementation ≡ k → is_kept set t.candidate ≡ true → Fails p set t i s cs → ⊥) → Safe p set k
typed_safe p set k h l none =
    let m = some_at p.implementations k l in
    let t = all_at (IsTypedImpl p) p.implementations k m.0 h.implementations m.1 in
    safe_at_places p set k m.0 t.procedure m.1 t.is_there h.bodies (λ i s. body_typed Turning p set i k m.0 t.procedure s h m.1 t.is_there) none
