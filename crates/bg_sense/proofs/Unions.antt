-- The union of two inductive sets is inductive.
use Rattle.std.proofs.Common.{◌≡◌, ℕ, suc, ◌<◌, Bool, true, List, [], ◌∷◌, length, Option, Some, None, refl, sym, ap, ◌∙◌, ⊎_elim, arith}
use Rattle.std.specs.Prelude.{◌↔◌, ◌||◌, slice_get, Contains}
use Rattle.bg_ast.specs.Syntax.{Impl, Proc, Prog}
use Rattle.bg_ast.specs.Execution.{Interp, Choice, State, Spot, Place}
use Rattle.bg_sense.specs.Flow.{Ended, Failed}
use Rattle.bg_sense.specs.Context.{Cut}
use Rattle.bg_sense.specs.Clauses.{is_kept}
use Rattle.bg_sense.specs.Variables.{procedure_of}
use Rattle.bg_sense.specs.Run.{run, run_of, induction_run}
use Rattle.bg_sense.specs.Places.{places}
use Rattle.bg_sense.specs.Claims.{EachAt, Fails, Inductive, IsSetOf, Greatest, union}
use Rattle.bg_sense.specs.Resolved.{IsResolved}
use Rattle.bg_sense.proofs.Spots.{one_candidate}
use Rattle.bg_sense.proofs.Bools.{or_true_left, or_true_right, bool_cases}
use Rattle.bg_sense.proofs.Fewer.{smaller_fails}

each_of : (t : Spot) (set : ℕ → Bool) (us : List Place) → ((u : Place) → Contains us u → u.spot ≡ t → is_kept set u.candidate ≡ true) → EachAt t set us
each_of t set [] h = tt
each_of t set (u ∷ us) h =
    (h u (0, omega arith, refl), each_of t set us (λ v m. h v (suc m.0, (let lt : m.0 < length us = m.1 in omega arith), m.2)))

smaller_of : (p : Prog) (set less : ℕ → Bool) (i : Interp) (k : ℕ) (m : Impl) (s : State) (cs : List Choice) (t : Spot) → slice_get p.implementations k ≡ Some m → (q : Option Proc) → procedure_of p m.procedure ≡ q → ((b : ℕ) → less b ≡ true → set b ≡ true) → EachAt t less (places p) → induction_run p set i k s cs ≡ Failed t → induction_run p less i k s cs ≡ Failed t
smaller_of p set less i k m s cs t em None eq part each e =
    let no : Ended ≡ Failed t = sym (ap (λ x. run x Cut p set i k s cs 0) em ∙ ap (λ x. run_of x Cut p set i k m s cs 0) eq) ∙ e in
    absurd (let bad : ⊥ = cc in bad)
smaller_of p set less i k m s cs t em (Some q) eq part each e = smaller_fails p set less i k m q s cs t em eq part each e

smaller_from : (p : Prog) (set less : ℕ → Bool) (i : Interp) (k : ℕ) (s : State) (cs : List Choice) (t : Spot) → (m : Option Impl) → slice_get p.implementations k ≡ m → ((b : ℕ) → less b ≡ true → set b ≡ true) → EachAt t less (places p) → induction_run p set i k s cs ≡ Failed t → induction_run p less i k s cs ≡ Failed t
smaller_from p set less i k s cs t None em part each e =
    let no : Ended ≡ Failed t = sym (ap (λ x. run x Cut p set i k s cs 0) em) ∙ e in absurd (let bad : ⊥ = cc in bad)
smaller_from p set less i k s cs t (Some m) em part each e =
    smaller_of p set less i k m s cs t em (procedure_of p m.procedure) refl part each e

pub smaller : (p : Prog) (set less : ℕ → Bool) (i : Interp) (k : ℕ) (s : State) (cs : List Choice) (t : Spot) → ((b : ℕ) → less b ≡ true → set b ≡ true) → EachAt t less (places p) → induction_run p set i k s cs ≡ Failed t → induction_run p less i k s cs ≡ Failed t
smaller p set less i k s cs t part each e =
    smaller_from p set less i k s cs t (slice_get p.implementations k) refl part each e

-- a failure under a set is one under a part that has the place's clause
pub under_part : (p : Prog) (whole part : ℕ → Bool) (t : Place) (i : Interp) (s : State) (cs : List Choice) → IsResolved p → ((b : ℕ) → part b ≡ true → whole b ≡ true) → Contains (places p) t → is_kept part t.candidate ≡ true → Fails p whole t i s cs → Fails p part t i s cs
under_part p whole part t i s cs h inside mem has f =
    record {
      meets = f.meets;
      state = f.state;
      fails = smaller p whole part i t.implementation s cs t.spot inside (each_of t.spot part (places p) (λ u m e. ap (is_kept part) (one_candidate p h t u mem m e) ∙ has)) f.fails;
    }

pub union_inductive : (p : Prog) (set other : ℕ → Bool) → IsResolved p → Inductive p set → Inductive p other → Inductive p (union set other)
union_inductive p set other one h k t b mem cand has i s cs f =
    ⊎_elim
    (λ e. h t b mem cand e i s cs (under_part p (union set other) set t i s cs one (λ x y. or_true_left (set x) (other x) y) mem (ap (is_kept set) cand ∙ e) f))
    (λ e. let in_other : other b ≡ true = sym (ap (λ x. x || other b) e) ∙ has in
    k t b mem cand in_other i s cs (under_part p (union set other) other t i s cs one (λ x y. or_true_right (set x) (other x) y) mem (ap (is_kept other) cand ∙ in_other) f))
    (bool_cases (set b))

pub greatest_from : (p : Prog) (set : ℕ → Bool) → IsSetOf p set → Inductive p set → ((other : ℕ → Bool) → IsSetOf p other → Inductive p other → (b : ℕ) → other b ≡ true → set b ≡ true) → Greatest p set
greatest_from p set is holds above = record { is_set = is; inductive = holds; above = above }

pub greatest_unique : (p : Prog) (set other : ℕ → Bool) → Greatest p set → Greatest p other → (b : ℕ) → set b ≡ true ↔ other b ≡ true
greatest_unique p set other g h b =
    (h.above set g.is_set g.inductive b, g.above other h.is_set h.inductive b)
