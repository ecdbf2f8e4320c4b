-- An opened program is resolved.
use Rattle.std.proofs.Common.{◌≡◌, ◌<◌, ◌≤◌, ℕ, zero, suc, ◌+◌, arith, List, [], ◌∷◌, ◌++◌, length, map, Option, Some, None, refl, sym, ap, ◌∙◌, subst, inl, inr}
use Rattle.std.specs.Prelude.{slice_get, slice_index_or, All, Contains}
use Rattle.bg_ast.specs.Syntax.{Ex, Clause, St, Skip, Then, Label, Assert, Assume, Havoc, Assign, Invoke, If, While, Break, Goto, Return, Proc, Impl, Prog}
use Rattle.bg_sense.specs.Resolved.{AreDifferent, Rise, clauses_in, calls_in, called_in, branches_in, labels_in, specified, in_bodies, clauses_of, HasCandidate, IsResolved}
use Rattle.bg_sense.proofs.Members.{In, member, contained}
use Rattle.bg_opened.specs.Exprs.{opened}
use Rattle.bg_opened.specs.Unique.{claims}
use Rattle.bg_opened.specs.Programs.{global_for, supposing, opened_clause, opened_st, opened_decl, opened_proc, opened_impl, bodies_of, opened_program}
use Rattle.bg_opened.proofs.Runs.{Each}

pub map_append : {A B : Type 0} (f : A → B) (xs ys : List A) → map f (xs ++ ys) ≡ map f xs ++ map f ys
map_append f [] ys = refl
map_append f (x ∷ xs) ys = ap (λ l. f x ∷ l) (map_append f xs ys)

pub map_length : {A B : Type 0} (f : A → B) (xs : List A) → length (map f xs) ≡ length xs
map_length f [] = refl
map_length f (x ∷ xs) = ap suc (map_length f xs)

pub append_length : {A : Type 0} (xs ys : List A) → length (xs ++ ys) ≡ length xs + length ys
append_length [] ys = omega arith
append_length (x ∷ xs) ys = let e = append_length xs ys in omega arith

pub each_all : {A : Type 0} (P : A → Type 0) (xs : List A) → All P xs → Each P xs
each_all P [] h = tt
each_all P (x ∷ xs) h = (h 0 x (omega arith), each_all P xs (λ k d l. h (suc k) d (omega arith)))

pub all_each : {A : Type 0} (P : A → Type 0) (xs : List A) → Each P xs → (k : ℕ) (d : A) → k < length xs → P (slice_index_or xs k d)
all_each P [] h k d l = absurd (omega arith)
all_each P (x ∷ xs) h zero d l = h.0
all_each P (x ∷ xs) h (suc k) d l = all_each P xs h.1 k d (omega arith)

pub each_map : {A B : Type 0} (P : B → Type 0) (Q : A → Type 0) (f : A → B) (xs : List A) → ((x : A) → Q x → P (f x)) → Each Q xs → Each P (map f xs)
each_map P Q f [] h k = tt
each_map P Q f (x ∷ xs) h k = (h x k.0, each_map P Q f xs h k.1)

rise_more : (low high more : ℕ) (ns : List ℕ) → high ≤ more → Rise low high ns → Rise low more ns
rise_more low high more [] l h = tt
rise_more low high more (n ∷ ns) l h =
    (h.0, (let a = h.1 in omega arith), rise_more (suc n) high more ns l h.2)

module _ (g : ℕ) (bodies : ℕ → Option Ex) where
  abbrev OC : Clause → Clause
  OC = opened_clause g bodies

  abbrev OS : St → St
  OS = opened_st g bodies

  ids_alike : (ks : List Clause) → map (λ k. k.id) (map OC ks) ≡ map (λ k. k.id) ks
  ids_alike [] = refl
  ids_alike (k ∷ ks) = ap (λ l. k.id ∷ l) (ids_alike ks)

  specified_alike : (qs : List Proc) → specified (map (opened_proc g bodies) qs) ≡ map OC (specified qs)
  specified_alike [] = refl
  specified_alike (q ∷ qs) =
      ap (λ l. map OC q.requires_ ++ (map OC q.ensures_ ++ l)) (specified_alike qs)
      ∙ ap (λ l. map OC q.requires_ ++ l) (sym (map_append OC q.ensures_ (specified qs)))
      ∙ sym (map_append OC q.requires_ (q.ensures_ ++ specified qs))

  clauses_alike : (s : St) → clauses_in (OS s) ≡ map OC (clauses_in s)
  clauses_alike Skip = refl
  clauses_alike (Then a b) =
      ap (λ l. l ++ clauses_in (OS b)) (clauses_alike a)
      ∙ ap (λ l. map OC (clauses_in a) ++ l) (clauses_alike b)
      ∙ sym (map_append OC (clauses_in a) (clauses_in b))
  clauses_alike (Label l) = refl
  clauses_alike (Assert k) = refl
  clauses_alike (Assume e) = refl
  clauses_alike (Havoc xs) = refl
  clauses_alike (Assign xs es) = refl
  clauses_alike (Invoke k) = refl
  clauses_alike (If n e a b) =
      ap (λ l. l ++ clauses_in (OS b)) (clauses_alike a)
      ∙ ap (λ l. map OC (clauses_in a) ++ l) (clauses_alike b)
      ∙ sym (map_append OC (clauses_in a) (clauses_in b))
  clauses_alike (While n e is a) =
      ap (λ l. map OC is ++ l) (clauses_alike a) ∙ sym (map_append OC is (clauses_in a))
  clauses_alike (Break n) = refl
  clauses_alike (Goto ls) = refl
  clauses_alike Return = refl

  calls_alike : (s : St) → calls_in (OS s) ≡ calls_in s
  calls_alike Skip = refl
  calls_alike (Then a b) = ap (λ l. l ++ calls_in (OS b)) (calls_alike a) ∙ ap (λ l. calls_in a ++ l) (calls_alike b)
  calls_alike (Label l) = refl
  calls_alike (Assert k) = refl
  calls_alike (Assume e) = refl
  calls_alike (Havoc xs) = refl
  calls_alike (Assign xs es) = refl
  calls_alike (Invoke k) = refl
  calls_alike (If n e a b) = ap (λ l. l ++ calls_in (OS b)) (calls_alike a) ∙ ap (λ l. calls_in a ++ l) (calls_alike b)
  calls_alike (While n e is a) = calls_alike a
  calls_alike (Break n) = refl
  calls_alike (Goto ls) = refl
  calls_alike Return = refl

  called_alike : (s : St) → called_in (OS s) ≡ called_in s
  called_alike Skip = refl
  called_alike (Then a b) = ap (λ l. l ++ called_in (OS b)) (called_alike a) ∙ ap (λ l. called_in a ++ l) (called_alike b)
  called_alike (Label l) = refl
  called_alike (Assert k) = refl
  called_alike (Assume e) = refl
  called_alike (Havoc xs) = refl
  called_alike (Assign xs es) = refl
  called_alike (Invoke k) = refl
  called_alike (If n e a b) = ap (λ l. l ++ called_in (OS b)) (called_alike a) ∙ ap (λ l. called_in a ++ l) (called_alike b)
  called_alike (While n e is a) = called_alike a
  called_alike (Break n) = refl
  called_alike (Goto ls) = refl
  called_alike Return = refl

  branches_alike : (s : St) → branches_in (OS s) ≡ branches_in s
  branches_alike Skip = refl
  branches_alike (Then a b) =
      ap (λ l. l ++ branches_in (OS b)) (branches_alike a) ∙ ap (λ l. branches_in a ++ l) (branches_alike b)
  branches_alike (Label l) = refl
  branches_alike (Assert k) = refl
  branches_alike (Assume e) = refl
  branches_alike (Havoc xs) = refl
  branches_alike (Assign xs es) = refl
  branches_alike (Invoke k) = refl
  branches_alike (If n e a b) =
      ap (λ l. n ∷ (l ++ branches_in (OS b))) (branches_alike a) ∙ ap (λ l. n ∷ (branches_in a ++ l)) (branches_alike b)
  branches_alike (While n e is a) = ap (λ l. n ∷ l) (branches_alike a)
  branches_alike (Break n) = refl
  branches_alike (Goto ls) = refl
  branches_alike Return = refl

  labels_alike : (s : St) → labels_in (OS s) ≡ labels_in s
  labels_alike Skip = refl
  labels_alike (Then a b) = ap (λ l. l ++ labels_in (OS b)) (labels_alike a) ∙ ap (λ l. labels_in a ++ l) (labels_alike b)
  labels_alike (Label l) = refl
  labels_alike (Assert k) = refl
  labels_alike (Assume e) = refl
  labels_alike (Havoc xs) = refl
  labels_alike (Assign xs es) = refl
  labels_alike (Invoke k) = refl
  labels_alike (If n e a b) = ap (λ l. l ++ labels_in (OS b)) (labels_alike a) ∙ ap (λ l. labels_in a ++ l) (labels_alike b)
  labels_alike (While n e is a) = labels_alike a
  labels_alike (Break n) = refl
  labels_alike (Goto ls) = refl
  labels_alike Return = refl

  -- what a body has none of where axioms are assumed
  module _ {A : Type 0} (some : St → List A) (skips : (e : Ex) (s : St) → some (Then (Assume e) s) ≡ some s) where
    supposing_alike : (es : List Ex) (s : St) → some (supposing es s) ≡ some s
    supposing_alike [] s = refl
    supposing_alike (e ∷ es) s = skips e (supposing es s) ∙ supposing_alike es s

    in_bodies_alike : (f : List A → List A) (axioms : List Ex) → ((xs ys : List A) → f (xs ++ ys) ≡ f xs ++ f ys) → f [] ≡ [] → ((s : St) → some (OS s) ≡ f (some s)) → (ms : List Impl) → in_bodies some (map (opened_impl g bodies axioms) ms) ≡ f (in_bodies some ms)
    in_bodies_alike f axioms joins empty same [] = sym empty
    in_bodies_alike f axioms joins empty same (m ∷ ms) =
        ap (λ l. l ++ in_bodies some (map (opened_impl g bodies axioms) ms)) (supposing_alike (map (opened g bodies) axioms) (OS m.body) ∙ same m.body)
        ∙ ap (λ l. f (some m.body) ++ l) (in_bodies_alike f axioms joins empty same ms)
        ∙ sym (joins (some m.body) (in_bodies some ms))

  opened_from : (ks : List Clause) (k : Clause) → In (map OC ks) k → (x : Clause) × (In ks x × (OC x ≡ k))
  opened_from [] k h = absurd h
  opened_from (x ∷ ks) k (inl e) = (x, (inl refl, e))
  opened_from (x ∷ ks) k (inr h) = let r = opened_from ks k h in (r.0, (inr r.1.0, r.1.1))

  procedure_from : (qs : List Proc) (k : ℕ) (q : Proc) → slice_get (map (opened_proc g bodies) qs) k ≡ Some q → (x : Proc) × ((slice_get qs k ≡ Some x) × (opened_proc g bodies x ≡ q))
  procedure_from [] k q e = absurd (let bad : ⊥ = cc in bad)
  procedure_from (x ∷ qs) zero q e = (x, (refl, (let same : opened_proc g bodies x ≡ q = cc in same)))
  procedure_from (x ∷ qs) (suc k) q e = procedure_from qs k q e

guarded : (n : ℕ) (c : Option ℕ) (k x : Clause) → x.is_free ≡ k.is_free → HasCandidate n c k → HasCandidate n c x
guarded n None k x e h = tt
guarded n (Some a) k x e h = (h.0, e ∙ h.1)

module _ (depth : ℕ) (p : Prog) (h : IsResolved p) where
  abbrev o : Prog
  o = opened_program depth p

  abbrev b : ℕ → Option Ex
  b = bodies_of depth p

  all_clauses : clauses_of o ≡ map (opened_clause (length p.globals) b) (clauses_of p)
  all_clauses =
      ap (λ l. l ++ in_bodies clauses_in o.implementations) (specified_alike (length p.globals) b p.procedures)
      ∙ ap (λ l. map (opened_clause (length p.globals) b) (specified p.procedures) ++ l) (in_bodies_alike (length p.globals) b clauses_in (λ e s. refl) (map (opened_clause (length p.globals) b)) (claims p) (map_append (opened_clause (length p.globals) b)) refl (clauses_alike (length p.globals) b) p.implementations)
      ∙ sym (map_append (opened_clause (length p.globals) b) (specified p.procedures) (in_bodies clauses_in p.implementations))

  all_ids : map (λ k. k.id) (clauses_of o) ≡ map (λ k. k.id) (clauses_of p)
  all_ids = ap (map (λ k. k.id)) all_clauses ∙ ids_alike (length p.globals) b (clauses_of p)

  numbers : (some : St → List ℕ) → ((e : Ex) (s : St) → some (Then (Assume e) s) ≡ some s) → ((s : St) → some (opened_st (length p.globals) b s) ≡ some s) → in_bodies some o.implementations ≡ in_bodies some p.implementations
  numbers some skips same =
      in_bodies_alike (length p.globals) b some skips (λ l. l) (claims p) (λ xs ys. refl) refl same p.implementations

  fewer : length p.procedures ≡ length o.procedures
  fewer = sym (map_length (opened_proc (length p.globals) b) p.procedures)

  globals_more : length p.globals ≤ length o.globals
  globals_more =
      let e = append_length (map (opened_decl (length p.globals) b) p.globals) (map global_for p.constants) in
      let l = map_length (opened_decl (length p.globals) b) p.globals in
      omega arith

  modifies_rise : (k : ℕ) (q : Proc) → slice_get o.procedures k ≡ Some q → Rise 0 (length o.globals) q.modifies
  modifies_rise k q e =
      let r = procedure_from (length p.globals) b p.procedures k q e in
      let one = rise_more 0 (length p.globals) (length o.globals) r.0.modifies globals_more (h.modifies k r.0 r.1.0) in
      subst (λ x. Rise 0 (length o.globals) x.modifies) r.1.1 one

  guards : (k : Clause) → Contains (clauses_of o) k → HasCandidate p.candidates k.candidate k
  guards k c =
      let i = member (clauses_of o) k c in
      let j : In (map (opened_clause (length p.globals) b) (clauses_of p)) k = subst (λ l. In l k) all_clauses i in
      let r = opened_from (length p.globals) b (clauses_of p) k j in
      let one = h.candidates r.0 (contained (clauses_of p) r.0 r.1.0) in
      subst (λ x. HasCandidate p.candidates x.candidate x) r.1.1 (guarded p.candidates r.0.candidate r.0 (opened_clause (length p.globals) b r.0) refl one)

  pub resolved : IsResolved o
  resolved =
      record {
        implemented = all_each (λ m. m.procedure < length o.procedures) o.implementations (each_map (λ m. m.procedure < length o.procedures) (λ m. m.procedure < length p.procedures) (opened_impl (length p.globals) b (claims p)) p.implementations (λ m l. subst (λ n. m.procedure < n) fewer l) (each_all (λ m. m.procedure < length p.procedures) p.implementations h.implemented));
        called = subst (λ l. All (λ k. k < length o.procedures) l) (sym (numbers called_in (λ e s. refl) (called_alike (length p.globals) b))) (subst (λ n. All (λ k. k < n) (in_bodies called_in p.implementations)) fewer h.called);
        clauses = subst AreDifferent (sym all_ids) h.clauses;
        calls = subst AreDifferent (sym (numbers calls_in (λ e s. refl) (calls_alike (length p.globals) b))) h.calls;
        branches = subst AreDifferent (sym (numbers branches_in (λ e s. refl) (branches_alike (length p.globals) b))) h.branches;
        labels = all_each (λ m. AreDifferent (labels_in m.body)) o.implementations (each_map (λ m. AreDifferent (labels_in m.body)) (λ m. AreDifferent (labels_in m.body)) (opened_impl (length p.globals) b (claims p)) p.implementations (λ m l. subst AreDifferent (sym (supposing_alike (length p.globals) b labels_in (λ e s. refl) (map (opened (length p.globals) b) (claims p)) (opened_st (length p.globals) b m.body) ∙ labels_alike (length p.globals) b m.body)) l) (each_all (λ m. AreDifferent (labels_in m.body)) p.implementations h.labels));
        modifies = modifies_rise;
        candidates = guards;
      }
