-- What is told of an opened program is true of the program.
use Rattle.std.proofs.Common.{◌≡◌, ℕ, zero, suc, ◌+◌, ◌<◌, arith, Bool, true, false, cond, List, [], ◌∷◌, length, map, Option, Some, None, is_none, refl, sym, ap, ◌∙◌, subst, inl, inr}
use Rattle.std.specs.Prelude.{◌||◌, if◌then◌else◌, slice_get, filter, Contains}
use Rattle.std.specs.List.{list_any}
use Rattle.std.proofs.lemmas.List.{length-map}
use Rattle.bg_ast.specs.Syntax.{Prog}
use Rattle.bg_ast.specs.Resolved as r
use Rattle.bg_ast.specs.Meaning.{meaning_of, named_of, impl_of}
use Rattle.bg_ast.specs.Execution.{Interp, State, Choice, Place}
use Rattle.bg_sense.specs.Clauses.{is_kept}
use Rattle.bg_sense.specs.Places.{places}
use Rattle.bg_sense.specs.Claims.{Safe, Fails, Inductive}
use Rattle.bg_sense.proofs.Members.{In, member}
use Rattle.bg_sense.proofs.TypedPrograms.{typed_safe}
use Rattle.bg_places.specs.Placed.{Placed, place_in, placed_impl}
use Rattle.bg_places.proofs.Meant.{placed_meant}
use Rattle.bg_sound.specs.Told.{Axioms, Verdict, Proved, Refuted, Unknown, Judged, Outcome, Word, AllProved, SomeRefuted, SomeUnknown, retained, placed_at, is_ordinary, is_refuted, is_unknown, word_of}
use Rattle.bg_sound.specs.Sound.{AreAxioms, IsRetained, IsTrueAt, AreTrueAt, IsTrueOf, AreTrueFrom, IsSound}
use Rattle.bg_task.proofs.Numbered.{has}
use Rattle.bg_opened.specs.Programs as o
use Rattle.bg_opened.specs.Written as w
use Rattle.bg_opened.specs.Moments.{tables_of, with_constants, interp_in}
use Rattle.bg_opened.specs.Openable.{IsOpenable}
use Rattle.bg_opened.specs.Axioms.{of_axioms, axiom_program, axiom_place, no_state}
use Rattle.bg_opened.proofs.Places.{places_alike}
use Rattle.bg_opened.proofs.Whole.{opens, closes, closed_runs, inductive, greatest, met, meets}
use Rattle.bg_opened.proofs.WrittenPrograms.{program_means}
use Rattle.bg_carried.specs.Carried.{carried_verdict, carried_one, carried, axioms_by}
use Rattle.bg_carried.proofs.Placing.{impl_placed}

-- ---- one place

module _ (depth : ℕ) (p : Prog) (h : IsOpenable depth p) (set : ℕ → Bool) where
  abbrev O : Prog
  O = o.opened_program depth p

  true_at : (t : Place) (v : Verdict) → IsTrueAt O set t v → IsTrueAt p set t (carried_verdict p v)
  true_at t Proved k = λ i s choices f. k (tables_of i) (with_constants i s) choices (opens depth p h set t i s choices f)
  true_at t (Refuted i s ts choices) k = (
    closes depth p h set t i s choices k.0,
    ((λ front last e. closed_runs depth p h set t i s choices front k.0 ∙ k.1.0 front last e), k.1.1),
  )
  true_at t (Unknown why) k = tt

  pub all_true_at : (js : List Judged) → AreTrueAt O set js → AreTrueAt p set (map (carried_one p) js)
  all_true_at [] k = tt
  all_true_at (j ∷ js) k = (true_at j.placed.place j.verdict k.0, all_true_at js k.1)

  retained_too : (is_greatest : Bool) → IsRetained O set is_greatest → IsRetained p set is_greatest
  retained_too true k = greatest depth p h set k
  retained_too false k = (k.0, (inductive depth p h set).0 k.1)

  inductive_too : (is_greatest : Bool) → IsRetained p set is_greatest → Inductive p set
  inductive_too true k = k.inductive
  inductive_too false k = k.1

same_placed : (p : Prog) (js : List Judged) → map placed_at (map (carried_one p) js) ≡ map placed_at js
same_placed p [] = refl
same_placed p (j ∷ js) = ap (λ l. j.placed ∷ l) (same_placed p js)

-- ---- where all places are proved

-- each is proved
abbrev Proven : List Judged → Type 0
Proven [] = Unit {0}
Proven (j ∷ js) = (j.verdict ≡ Proved) × Proven js

abbrev word_by : Bool → Bool → Word
word_by x y = if x then SomeRefuted else if y then SomeUnknown else AllProved

neither : (x y : Bool) → word_by x y ≡ AllProved → (x ≡ false) × (y ≡ false)
neither true y e = absurd (let bad : ⊥ = cc in bad)
neither false true e = absurd (let bad : ⊥ = cc in bad)
neither false false e = (refl, refl)

or_left : (x y : Bool) → (x || y) ≡ false → x ≡ false
or_left true y e = e
or_left false y e = refl

or_right : (x y : Bool) → (x || y) ≡ false → y ≡ false
or_right true y e = absurd (let bad : ⊥ = cc in bad)
or_right false y e = e

one_proven : (v : Verdict) → is_refuted v ≡ false → is_unknown v ≡ false → v ≡ Proved
one_proven Proved e f = refl
one_proven (Refuted i s ts choices) e f = absurd (let bad : ⊥ = cc in bad)
one_proven (Unknown why) e f = absurd (let bad : ⊥ = cc in bad)

proven_by : (js : List Judged) → list_any (λ j. is_refuted j.verdict) js ≡ false → list_any (λ j. is_unknown j.verdict) js ≡ false → Proven js
proven_by [] e f = tt
proven_by (j ∷ js) e f = (
  one_proven j.verdict (or_left (is_refuted j.verdict) (list_any (λ k. is_refuted k.verdict) js) e) (or_left (is_unknown j.verdict) (list_any (λ k. is_unknown k.verdict) js) f),
  proven_by js (or_right (is_refuted j.verdict) (list_any (λ k. is_refuted k.verdict) js) e) (or_right (is_unknown j.verdict) (list_any (λ k. is_unknown k.verdict) js) f),
)

proven : (js : List Judged) → word_of js ≡ AllProved → Proven js
proven js e =
    let both = neither (list_any (λ j. is_refuted j.verdict) js) (list_any (λ j. is_unknown j.verdict) js) e in
    proven_by js both.0 both.1

no_failure : (p : Prog) (set : ℕ → Bool) (js : List Judged) (t : Place) → AreTrueAt p set js → Proven js → In (map place_in (map placed_at js)) t → (i : Interp) (s : State) (choices : List Choice) → Fails p set t i s choices → ⊥
no_failure p set [] t h e x i s choices f = absurd x
no_failure p set (j ∷ js) t h e (inl same) i s choices f =
    let proved = subst (IsTrueAt p set j.placed.place) e.0 h.0 in
    proved i s choices (subst (λ u. Fails p set u i s choices) (sym same) f)
no_failure p set (j ∷ js) t h e (inr x) i s choices f = no_failure p set js t h.1 e.1 x i s choices f

-- a place without a candidate is one of the ordinary ones
among_ordinary : (xs : List Placed) (u : Place) → u.candidate ≡ None → In (map place_in xs) u → In (map place_in (filter is_ordinary xs)) u
among_ordinary [] u e i = absurd i
among_ordinary (a ∷ xs) u e (inl s) =
    let is : is_ordinary a ≡ true = ap (λ (t : Place). is_none t.candidate) s ∙ ap is_none e in
    subst (λ (b : Bool). In (map place_in (cond b (a ∷ filter is_ordinary xs) (filter is_ordinary xs))) u) (sym is) (inl s)
among_ordinary (a ∷ xs) u e (inr i) = behind (is_ordinary a) (among_ordinary xs u e i)
  where
    behind : (b : Bool) → In (map place_in (filter is_ordinary xs)) u → In (map place_in (cond b (a ∷ filter is_ordinary xs) (filter is_ordinary xs))) u
    behind true h = inr h
    behind false h = h

-- ---- a program

module _ (depth : ℕ) (p : r.Program) (h : IsOpenable depth (meaning_of p)) (set : ℕ → Bool) (kept : Inductive (meaning_of p) set) where
  abbrev P : Prog
  P = meaning_of p

  abbrev E : r.Ex → r.Ex
  E = w.opened_in depth p

  one_safe : (k : ℕ) (m : r.Impl) (js : List Judged) → slice_get p.implementations k ≡ Some m → map placed_at js ≡ filter is_ordinary (placed_impl p.procedures k m) → AreTrueAt P set js → word_of js ≡ AllProved → Safe P set k
  one_safe k m js at there right word =
      typed_safe P set k h.typed below
      (λ u i s choices c number is fails.
      let x = has p.procedures 0 p.implementations u (subst (λ l. In l u) (sym (placed_meant p)) (member (places P) u c)) in
      let same : x.index ≡ k = index_is x.index u number x.number in
      let mine : Some x.implementation ≡ Some m = sym x.there ∙ (ap (slice_get p.implementations) same ∙ at) in
      let it : x.implementation ≡ m = cc in
      let inside = subst (λ y. In (map place_in (placed_impl p.procedures k y)) u) it (subst (λ n. In (map place_in (placed_impl p.procedures n x.implementation)) u) number x.member) in
      let ordinary : u.candidate ≡ None → ⊥ = λ bare.
      no_failure P set js u right (proven js word) (subst (λ l. In (map place_in l) u) (sym there) (among_ordinary (placed_impl p.procedures k m) u bare inside)) i s choices fails in
      by_candidate u.candidate ordinary (λ b e. kept u b c e (ap (is_kept set) (sym e) ∙ is) i s choices fails))
    where
      inside_of : (ms : List r.Impl) (j : ℕ) → slice_get ms j ≡ Some m → j < length ms
      inside_of [] j e = absurd (let bad : ⊥ = cc in bad)
      inside_of (x ∷ ms) zero e = omega arith
      inside_of (x ∷ ms) (suc j) e = let l = inside_of ms j e in omega (arith, l)

      below : k < length (meaning_of p).implementations
      below =
          let l = inside_of p.implementations k at in
          let e = length-map p.implementations (impl_of (named_of p.types)) in
          omega (arith, l, e)

      index_is : (x : ℕ) (u : Place) → u.implementation ≡ k → u.implementation ≡ 0 + x → x ≡ k
      index_is x u a b = omega (arith, a, b)

      by_candidate : (c : Option ℕ) → (c ≡ None → ⊥) → ((b : ℕ) → c ≡ Some b → ⊥) → ⊥
      by_candidate None f g = f refl
      by_candidate (Some b) f g = g b refl

  one_of : (k : ℕ) (m : r.Impl) (js : List Judged) → slice_get p.implementations k ≡ Some m → IsTrueOf (w.opened_program depth p) set k (w.opened_impl E (w.claims p) m) js → IsTrueOf p set k m (map (carried_one P) js)
  one_of k m js at t =
      let there = same_placed P js ∙ t.places ∙ ap (filter is_ordinary) (impl_placed E p.procedures (w.claims p) k m) in
      let right = all_true_at depth P h set js (subst (λ q. AreTrueAt q set js) (program_means depth p) t.right) in
      record { places = there; right = right; safe = λ word. one_safe k m (map (carried_one P) js) at there right word }

  all_of : (ms : List r.Impl) (k : ℕ) (os : List (List Judged)) → ((j : ℕ) (m : r.Impl) → slice_get ms j ≡ Some m → slice_get p.implementations (k + j) ≡ Some m) → AreTrueFrom (w.opened_program depth p) set k (map (w.opened_impl E (w.claims p)) ms) os → AreTrueFrom p set k ms (map (map (carried_one P)) os)
  all_of [] k [] at t = tt
  all_of [] k (js ∷ os) at t = absurd t
  all_of (m ∷ ms) k [] at t = absurd t
  all_of (m ∷ ms) k (js ∷ os) at t = (
    one_of k m js (ap (slice_get p.implementations) (omega arith) ∙ at 0 m refl) t.0,
    all_of ms (suc k) os (λ j q e. ap (slice_get p.implementations) (omega arith) ∙ at (suc j) q e) t.1,
  )

pub sound : (depth : ℕ) (p : r.Program) (axioms : Axioms) (a : Outcome) → IsOpenable depth (meaning_of p) → AreAxioms (meaning_of p) axioms → IsSound (w.opened_program depth p) a → IsSound p (carried (meaning_of p) axioms a)
sound depth p axioms a h x s =
    let P = meaning_of p in
    let same = program_means depth p in
    let set = retained a in
    let kept = retained_too depth P h set a.is_greatest (subst (λ q. IsRetained q set a.is_greatest) same s.retained_set) in
    record {
      candidates = s.candidates;
      axioms = x;
      retained_set = kept;
      unchecked = λ b t e c. s.unchecked b t e (subst (λ l. Contains l t) (sym (ap places same ∙ places_alike depth P)) c);
      implementations = all_of depth p h set (inductive_too depth P h set a.is_greatest kept) p.implementations 0 a.implementations (λ j m e. ap (slice_get p.implementations) (omega arith) ∙ e) s.implementations;
    }

pub told : (depth : ℕ) (p : Prog) (set : ℕ → Bool) (v : Verdict) → IsOpenable depth p → IsTrueAt (axiom_program depth p) set axiom_place v → AreAxioms p (axioms_by v)
told depth p set Proved h t = λ i m. t (tables_of i) (with_constants i no_state) [] (met depth p h set i m)
told depth p set (Refuted i s ts choices) h t = (interp_in (of_axioms p) i s, meets depth p h set i s choices t.0)
told depth p set (Unknown why) h t = tt
