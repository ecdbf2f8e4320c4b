-- What an accepted certificate shows of the program that was opened.
use Rattle.std.proofs.Common.{◌≡◌, ℕ, suc, ◌<◌, Bool, true, List, [], ◌∷◌, length, map, Some, refl, sym, ap, ◌∙◌, subst, inl, inr, arith}
use Rattle.std.specs.Prelude.{Result, Ok, Err, Contains, slice_get}
use Rattle.std.proofs.lemmas.List.{length-map}
use Rattle.bg_base.specs.declared.exact.OutOfRange.{OutOfRange}
use Rattle.bg_ast.specs.Syntax.{Prog}
use Rattle.bg_ast.specs.Resolved as r
use Rattle.bg_ast.specs.Meaning.{meaning_of, named_of, impl_of}
use Rattle.bg_ast.specs.Execution.{Interp, State, Choice, Place}
use Rattle.bg_sense.specs.Typed.{IsTyped}
use Rattle.bg_sense.specs.Places.{places}
use Rattle.bg_sense.specs.Claims.{IsSetOf, Inductive, Safe, Fails}
use Rattle.bg_sense.specs.Clauses.{is_kept}
use Rattle.bg_sense.proofs.Members.{In, member}
use Rattle.bg_fits.specs.Valued.{is_over_values}
use Rattle.bg_formula.specs.Atoms.{AtomOf}
use Rattle.bg_formula.specs.Formulas.{Formula}
use Rattle.bg_cert.specs.Certs as cert
use Rattle.bg_cert.specs.Walks.{no_instance}
use Rattle.bg_places.specs.Placed.{Placed, place_in, placed_impl}
use Rattle.bg_task.proofs.Numbered as n
use Rattle.bg_opened.specs.Programs as o
use Rattle.bg_opened.specs.Openable.{IsOpenable}
use Rattle.bg_opened.proofs.Places.{places_alike}
use Rattle.bg_opened.proofs.Whole as whole
use Rattle.bg_opened.proofs.WrittenPrograms.{program_means}
use Rattle.bg_expanded.specs.Chains.{most_bodies}
use Rattle.bg_certtext.specs.Views.{CertOf}
use Rattle.bg_accept.specs.Sections.{table_in, accepts_table, node_in}
use Rattle.bg_accept.specs.Accepted.{retained_by, places_of, places_at, IsRequired, IsShown, IsAccepted}
use Rattle.bg_accept.proofs.Tables.{table_agrees}
use Rattle.bg_accept.proofs.Safety.{FailLaw, PlaceLaw, SafeLaw, is_set, inductive}
use Rattle.bg_confirm.specs.Accepted.{judged_program}

-- the certificate of a section
record Certified (f : Formula) (set : ℕ → Bool) (nodes : List cert.NodeOf) (x : Result (List AtomOf) OutOfRange) : Type 0 where
  table : List AtomOf
  is_its : x ≡ Ok table
  accepted : cert.Accepts f set no_instance (record { table = table; nodes = nodes })

certified_by : (f : Formula) (set : ℕ → Bool) (nodes : List cert.NodeOf) (x : Result (List AtomOf) OutOfRange) → accepts_table f set nodes x ≡ true → Certified f set nodes x
certified_by f set nodes (Ok t) h = record { table = t; is_its = refl; accepted = h }
certified_by f set nodes (Err o) h = absurd (let bad : ⊥ = cc in bad)

-- a place among those of an implementation
record At (xs : List Placed) (u : Place) : Type 0 where
  number : ℕ
  placed : Placed
  there : slice_get xs number ≡ Some placed
  is : placed.place ≡ u

at_of : (xs : List Placed) (u : Place) → In (map place_in xs) u → At xs u
at_of [] u i = absurd i
at_of (x ∷ xs) u (inl e) = record { number = 0; placed = x; there = refl; is = e }
at_of (x ∷ xs) u (inr i) = let a = at_of xs u i in record { number = suc a.number; placed = a.placed; there = a.there; is = a.is }

-- no run of a program that accepts a certificate fails at a place whose clause is there
module _ (fails : FailLaw) (place : PlaceLaw) (p : r.Program) (c : CertOf) (t : IsTyped (meaning_of p)) (over : is_over_values (meaning_of p) ≡ true) (h : IsAccepted p c) where
  abbrev kept_set : ℕ → Bool
  kept_set = retained_by p c

  shown_holds : (i : ℕ) (u : Place) → IsShown (meaning_of p) kept_set p.candidates c.sections i u → (j : Interp) (s : State) (choices : List Choice) → Fails (meaning_of p) kept_set u j s choices → ⊥
  shown_holds i u x j s choices bad =
      let nodes = map (node_in p.candidates) x.section.nodes in
      let a = certified_by x.formula kept_set nodes (table_in x.section.table) x.accepted in
      fails (meaning_of p) kept_set u x.lines x.formula (record { table = a.table; nodes = nodes }) t over x.is (table_agrees x.section.table a.table a.is_its) a.accepted j s choices bad

  pub not_failing : (u : Place) → Contains (places (meaning_of p)) u → is_kept kept_set u.candidate ≡ true → (j : Interp) (s : State) (choices : List Choice) → Fails (meaning_of p) kept_set u j s choices → ⊥
  not_failing u w kept j s choices bad =
      let x = n.has p.procedures 0 p.implementations u (subst (λ l. In l u) (sym (place p)) (member (places (meaning_of p)) u w)) in
      let k = u.implementation in
      let number : k ≡ x.index = x.number ∙ omega arith in
      let impl : slice_get p.implementations k ≡ Some x.implementation = ap (slice_get p.implementations) number ∙ x.there in
      let all : places_at p k ≡ placed_impl p.procedures k x.implementation = ap (places_of p k) impl in
      let a = at_of (placed_impl p.procedures k x.implementation) u x.member in
      let q : IsRequired p kept_set k a.number a.placed = record { there = ap (λ xs. slice_get xs a.number) all ∙ a.there; kept = ap (λ y. is_kept kept_set y.candidate) a.is ∙ kept } in
      shown_holds a.number u (subst (IsShown (meaning_of p) kept_set p.candidates c.sections a.number) a.is (h.shown k a.number a.placed q)) j s choices bad

-- of the program that was opened
module _ (fails : FailLaw) (place : PlaceLaw) (safe : SafeLaw) (p : r.Program) (c : CertOf) (h : IsOpenable most_bodies (meaning_of p)) (g : IsAccepted (judged_program p) c) where
  abbrev P : Prog
  P = meaning_of p

  abbrev J : r.Program
  J = judged_program p

  abbrev set : ℕ → Bool
  set = retained_by p c

  means : meaning_of J ≡ o.opened_program most_bodies P
  means = program_means most_bodies p

  opened_typed : IsTyped (meaning_of J)
  opened_typed = subst IsTyped (sym means) (whole.typed most_bodies P h)

  opened_over : is_over_values (meaning_of J) ≡ true
  opened_over = ap is_over_values means ∙ whole.scalars most_bodies P h

  pub set_of_candidates : IsSetOf P set
  set_of_candidates = is_set fails place safe J c opened_typed opened_over g

  pub set_inductive : Inductive P set
  set_inductive =
      (whole.inductive most_bodies P h set).0
      (subst (λ x. Inductive x set) means (inductive fails place safe J c opened_typed opened_over g))

  no_run : (u : Place) (j : Interp) (s : State) (choices : List Choice) → Contains (places P) u → is_kept set u.candidate ≡ true → Fails (o.opened_program most_bodies P) set u j s choices → ⊥
  no_run u j s choices w kept bad =
      let there = subst (λ l. Contains l u) (sym (ap places means ∙ places_alike most_bodies P)) w in
      not_failing fails place J c opened_typed opened_over g u there kept j s choices
      (subst (λ x. Fails x set u j s choices) (sym means) bad)

  pub each_safe : (k : ℕ) → k < length p.implementations → Safe P set k
  each_safe k l =
      let e = length-map p.implementations (impl_of (named_of p.types)) in
      whole.safe most_bodies P h set k (omega (arith, l, e)) (λ u j s choices w number kept bad. no_run u j s choices w kept bad)
