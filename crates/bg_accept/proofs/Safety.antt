-- What an accepted certificate shows.
use Rattle.std.proofs.Common.{◌≡◌, ℕ, zero, suc, ◌<◌, Bool, true, false, List, [], ◌∷◌, length, map, Some, refl, sym, ap, ◌∙◌, subst, inl, inr, arith}
use Rattle.std.specs.Prelude.{if◌then◌else◌, Result, Ok, Err, Contains, slice_get}
use Rattle.std.specs.Str.{bytes_eq}
use Rattle.std.proofs.lemmas.List.{length-map}
use Rattle.bg_base.specs.declared.exact.OutOfRange.{OutOfRange}
use Rattle.bg_text.specs.Trees.{Id}
use Rattle.bg_ast.specs.Syntax.{Prog}
use Rattle.bg_ast.specs.Resolved as r
use Rattle.bg_ast.specs.Meaning.{meaning_of, named_of, impl_of}
use Rattle.bg_ast.specs.Execution.{Interp, State, Choice, Place}
use Rattle.bg_sense.specs.Typed.{IsTyped}
use Rattle.bg_sense.specs.Places.{places}
use Rattle.bg_sense.specs.Claims.{IsSetOf, Inductive, Safe, Fails}
use Rattle.bg_sense.specs.Clauses.{is_kept}
use Rattle.bg_sense.proofs.Members.{In, member}
use Rattle.bg_fits.specs.Valued.{is_over_values}
use Rattle.bg_formula.specs.Atoms.{AtomOf}
use Rattle.bg_formula.specs.Formulas.{Formula}
use Rattle.bg_formula.specs.Meaning.{AtomsAgree}
use Rattle.bg_cert.specs.Certs as cert
use Rattle.bg_cert.specs.Walks.{has, no_instance}
use Rattle.bg_places.specs.Placed.{Placed, place_in, placed, placed_impl}
use Rattle.bg_numbered.specs.Lines.{Line}
use Rattle.bg_task.specs.Cuts.{HasOwnClauses}
use Rattle.bg_task.proofs.Numbered as n
use Rattle.bg_certtext.specs.Views.{CertOf}
use Rattle.bg_accept.specs.Names.{marks}
use Rattle.bg_accept.specs.Sections.{table_in, accepts_table, node_in}
use Rattle.bg_accept.specs.Accepted.{retained_by, places_of, places_at, IsRequired, IsShown, IsAccepted}
use Rattle.bg_accept.proofs.Tables.{table_agrees}

-- ---- what the laws of the crates below say

abbrev pub FailLaw : Type 0
FailLaw =
    (p : Prog) (set : ℕ → Bool) (t : Place) (es : List Line) (f : Formula) (c : cert.CertOf) → IsTyped p → is_over_values p ≡ true →
    HasOwnClauses p t es f → AtomsAgree c.table → cert.Accepts f set no_instance c →
    (i : Interp) (s : State) (choices : List Choice) → Fails p set t i s choices → ⊥

abbrev pub PlaceLaw : Type 0
PlaceLaw = (p : r.Program) → map place_in (placed p) ≡ places (meaning_of p)

abbrev pub SafeLaw : Type 0
SafeLaw =
    (p : Prog) (set : ℕ → Bool) (k : ℕ) → IsTyped p → k < length p.implementations →
    ((t : Place) (i : Interp) (s : State) (choices : List Choice) → Contains (places p) t → t.implementation ≡ k →
    is_kept set t.candidate ≡ true → Fails p set t i s choices → ⊥) →
    Safe p set k

-- ---- retained candidates are the program's

has_within : (xs : List Bool) (b : ℕ) → has xs b ≡ true → b < length xs
has_within [] b h = absurd (let bad : ⊥ = cc in bad)
has_within (x ∷ xs) zero h = omega arith
has_within (x ∷ xs) (suc b) h = let l = has_within xs b h in omega (arith, l)

marks_long : (cs : List Id) (names : List (List ℕ)) → length (marks cs names) ≡ length cs
marks_long [] names = refl
marks_long (c ∷ cs) [] = ap suc (marks_long cs [])
marks_long (c ∷ cs) (m ∷ ms) = by (bytes_eq c.text m) (marks_long cs ms) (marks_long cs (m ∷ ms))
  where
    by : (b : Bool) → length (marks cs ms) ≡ length cs → length (marks cs (m ∷ ms)) ≡ length cs → length (if b then true ∷ marks cs ms else false ∷ marks cs (m ∷ ms)) ≡ suc (length cs)
    by true e g = ap suc e
    by false e g = ap suc g

-- ---- an accepted section

-- the certificate of a section
pub record Accepted (f : Formula) (set : ℕ → Bool) (nodes : List cert.NodeOf) (x : Result (List AtomOf) OutOfRange) : Type 0 where
  pub table : List AtomOf
  pub is_its : x ≡ Ok table
  pub accepted : cert.Accepts f set no_instance (record { table = table; nodes = nodes })

accepted_by : (f : Formula) (set : ℕ → Bool) (nodes : List cert.NodeOf) (x : Result (List AtomOf) OutOfRange) → accepts_table f set nodes x ≡ true → Accepted f set nodes x
accepted_by f set nodes (Ok t) h = record { table = t; is_its = refl; accepted = h }
accepted_by f set nodes (Err o) h = absurd (let bad : ⊥ = cc in bad)

-- ---- a place of the program is one of an implementation's

pub record At (xs : List Placed) (u : Place) : Type 0 where
  pub number : ℕ
  pub placed : Placed
  pub there : slice_get xs number ≡ Some placed
  pub is : placed.place ≡ u

at_of : (xs : List Placed) (u : Place) → In (map place_in xs) u → At xs u
at_of [] u i = absurd i
at_of (x ∷ xs) u (inl e) = record { number = 0; placed = x; there = refl; is = e }
at_of (x ∷ xs) u (inr i) = let a = at_of xs u i in record { number = suc a.number; placed = a.placed; there = a.there; is = a.is }

module _ (fails : FailLaw) (place : PlaceLaw) (safe : SafeLaw) (p : r.Program) (c : CertOf) (t : IsTyped (meaning_of p)) (o : is_over_values (meaning_of p) ≡ true) (h : IsAccepted p c) where
  abbrev set : ℕ → Bool
  set = retained_by p c

  shown_holds : (i : ℕ) (u : Place) → IsShown (meaning_of p) set p.candidates c.sections i u → (j : Interp) (s : State) (choices : List Choice) → Fails (meaning_of p) set u j s choices → ⊥
  shown_holds i u x j s choices bad =
      let nodes = map (node_in p.candidates) x.section.nodes in
      let a = accepted_by x.formula set nodes (table_in x.section.table) x.accepted in
      fails (meaning_of p) set u x.lines x.formula (record { table = a.table; nodes = nodes }) t o x.is (table_agrees x.section.table a.table a.is_its) a.accepted j s choices bad

  not_failing : (u : Place) → Contains (places (meaning_of p)) u → is_kept set u.candidate ≡ true → (j : Interp) (s : State) (choices : List Choice) → Fails (meaning_of p) set u j s choices → ⊥
  not_failing u w kept j s choices bad =
      let x = n.has p.procedures 0 p.implementations u (subst (λ l. In l u) (sym (place p)) (member (places (meaning_of p)) u w)) in
      let k = u.implementation in
      let number : k ≡ x.index = x.number ∙ omega arith in
      let impl : slice_get p.implementations k ≡ Some x.implementation = ap (slice_get p.implementations) number ∙ x.there in
      let all : places_at p k ≡ placed_impl p.procedures k x.implementation = ap (places_of p k) impl in
      let a = at_of (placed_impl p.procedures k x.implementation) u x.member in
      let q : IsRequired p set k a.number a.placed = record { there = ap (λ xs. slice_get xs a.number) all ∙ a.there; kept = ap (λ y. is_kept set y.candidate) a.is ∙ kept } in
      shown_holds a.number u (subst (IsShown (meaning_of p) set p.candidates c.sections a.number) a.is (h.shown k a.number a.placed q)) j s choices bad

  pub is_set : IsSetOf (meaning_of p) set
  is_set b k =
      let l = has_within (marks p.candidates c.retained) b k in
      let e = marks_long p.candidates c.retained in
      omega (arith, l, e)

  pub inductive : Inductive (meaning_of p) set
  inductive u b w e k j s choices bad = not_failing u w (ap (is_kept set) e ∙ k) j s choices bad

  pub each_safe : (k : ℕ) → k < length p.implementations → Safe (meaning_of p) set k
  each_safe k l =
      let e = length-map p.implementations (impl_of (named_of p.types)) in
      safe (meaning_of p) set k t (omega (arith, l, e)) (λ u j s choices w number kept bad. not_failing u w kept j s choices bad)
