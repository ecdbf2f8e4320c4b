-- A function means its body, however deep bodies are opened.
use Rattle.std.proofs.Common.{◌≡◌, ◌<◌, ℕ, zero, suc, List, [], ◌∷◌, length, map, Option, Some, None, refl, ap, ◌∙◌, arith}
use Rattle.std.specs.Prelude.{slice_get}
use Rattle.bg_ast.specs.Values.{Val, select, update, number_of}
use Rattle.bg_ast.specs.Syntax.{Ex, Exs, Number, Fact, Constant, Read, Not, Negative, Binary, Apply, Select, Update, Old, NoMore, More, Global, Local, Fun, Prog}
use Rattle.bg_ast.specs.Execution.{Interp}
use Rattle.bg_sense.specs.Eval.{Scope, ev, evs, operate, look_up, body_value, body_of, functions_to, functions_of}
use Rattle.bg_sense.specs.Recursion.{AppliesBelow, EachAppliesBelow, HasNoRecursion}

abbrev Meaning : Type 0
Meaning = ℕ → List Val → Val

-- the same moment, where functions mean this
abbrev where_they_mean : Meaning → Scope → Scope
where_they_mean fs c =
    record { functions = fs; constants = c.constants; globals = c.globals; before = c.before; frame = c.frame }

module _ (rank : ℕ → ℕ) (r : ℕ) (fs gs : Meaning) (same : (f : ℕ) (args : List Val) → rank f < r → fs f args ≡ gs f args) where
  mutual
    ev_alike : (e : Ex) (c : Scope) → AppliesBelow rank r e → ev e (where_they_mean fs c) ≡ ev e (where_they_mean gs c)
    ev_alike (Number z) c h = refl
    ev_alike (Fact b) c h = refl
    ev_alike (Constant k) c h = refl
    ev_alike (Read (Global x)) c h = refl
    ev_alike (Read (Local x)) c h = refl
    ev_alike (Not e) c h = let i = ev_alike e c h in cc
    ev_alike (Negative e) c h = let i = ev_alike e c h in cc
    ev_alike (Binary op a b) c h =
        let i = ev_alike a c h.0 in
        let j = ev_alike b c h.1 in
        ap (λ v. operate op v (ev b (where_they_mean fs c))) i ∙ ap (operate op (ev a (where_they_mean gs c))) j
    ev_alike (Apply f es) c h = ap (fs f) (evs_alike es c h.1) ∙ same f (evs es (where_they_mean gs c)) h.0
    ev_alike (Select m es) c h =
        ap (λ v. select v (map number_of (evs es (where_they_mean fs c)))) (ev_alike m c h.0)
        ∙ ap (λ vs. select (ev m (where_they_mean gs c)) (map number_of vs)) (evs_alike es c h.1)
    ev_alike (Update m es e) c h =
        ap (λ v. update v (map number_of (evs es (where_they_mean fs c))) (ev e (where_they_mean fs c))) (ev_alike m c h.0)
        ∙ ap (λ vs. update (ev m (where_they_mean gs c)) (map number_of vs) (ev e (where_they_mean fs c))) (evs_alike es c h.1)
        ∙ ap (update (ev m (where_they_mean gs c)) (map number_of (evs es (where_they_mean gs c)))) (ev_alike e c h.2)
    ev_alike (Old e) c h =
        ev_alike e (record { functions = fs; constants = c.constants; globals = c.before; before = c.before; frame = c.frame }) h

    evs_alike : (es : Exs) (c : Scope) → EachAppliesBelow rank r es → evs es (where_they_mean fs c) ≡ evs es (where_they_mean gs c)
    evs_alike NoMore c h = refl
    evs_alike (More e es) c h =
        ap (λ v. v ∷ evs es (where_they_mean fs c)) (ev_alike e c h.0) ∙ ap (λ vs. ev e (where_they_mean gs c) ∷ vs) (evs_alike es c h.1)

module _ (p : Prog) (i : Interp) (none : HasNoRecursion p) where
  abbrev alone : List Val → Scope
  alone args =
      record { functions = λ f vs. look_up None vs; constants = i.constants; globals = []; before = []; frame = args }

  value_alike : (fs gs : Meaning) (f : ℕ) (args : List Val) → ((g : ℕ) (vs : List Val) → none.rank g < none.rank f → fs g vs ≡ gs g vs) → (o : Option Fun) → slice_get p.functions f ≡ o → body_value (body_of o) fs i f args ≡ body_value (body_of o) gs i f args
  value_alike fs gs f args same None e = refl
  value_alike fs gs f args same (Some fn) e = by_body fn.body refl
    where
      by_body : (b : Option Ex) → fn.body ≡ b → body_value b fs i f args ≡ body_value b gs i f args
      by_body None q = refl
      by_body (Some x) q =
          ev_alike none.rank (none.rank f) fs gs same x (alone args) (none.falls f fn x e q)

  -- bodies that are opened deeper than a function's rank give it one meaning
  deep_alike : (d e f : ℕ) (args : List Val) → none.rank f < d → none.rank f < e → functions_to d p.functions i f args ≡ functions_to e p.functions i f args
  deep_alike zero e f args h k = absurd (omega arith)
  deep_alike (suc d) zero f args h k = absurd (omega arith)
  deep_alike (suc d) (suc e) f args h k =
      value_alike (functions_to d p.functions i) (functions_to e p.functions i) f args (λ g vs lt. deep_alike d e g vs (omega arith) (omega arith)) (slice_get p.functions f) refl

  pub unfolds : (f : ℕ) (fn : Fun) (x : Ex) (args : List Val) → slice_get p.functions f ≡ Some fn → fn.body ≡ Some x → functions_of p i f args ≡ ev x (record { functions = functions_of p i; constants = i.constants; globals = []; before = []; frame = args })
  unfolds f fn x args e q =
      value_alike (functions_to (length p.functions) p.functions i) (functions_of p i) f args (λ g vs lt. deep_alike (length p.functions) (suc (length p.functions)) g vs (let l = none.is_place f fn e in omega arith) (let l = none.is_place f fn e in omega arith)) (slice_get p.functions f) refl
      ∙ ap (λ o. body_value (body_of o) (functions_of p i) i f args) e
      ∙ ap (λ b. body_value b (functions_of p i) i f args) q

pub looked_up : (p : Prog) (i : Interp) (f : ℕ) (fn : Fun) (args : List Val) → slice_get p.functions f ≡ Some fn → fn.body ≡ None → functions_of p i f args ≡ look_up (slice_get i.tables f) args
looked_up p i f fn args e q =
    ap (λ o. body_value (body_of o) (functions_to (length p.functions) p.functions i) i f args) e
    ∙ ap (λ b. body_value b (functions_to (length p.functions) p.functions i) i f args) q
