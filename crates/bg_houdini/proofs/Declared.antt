-- The candidate of a place is one of the program's.
use Rattle.std.proofs.Common.{ℕ, zero, suc, ◌<◌, Bool, true, false, if◌then◌else◌, List, [], ◌∷◌, ◌++◌, Option, Some, None, refl, subst, inl, inr, ⊎_elim}
use Rattle.std.specs.Prelude.{slice_get}
use Rattle.bg_ast.specs.Syntax.{Clause, St, Skip, Then, Label, Assert, Assume, Havoc, Assign, Invoke, If, While, Break, Goto, Return, Proc, Impl, Prog}
use Rattle.bg_ast.specs.Execution.{Spot, AtAssert, AtEntry, AfterTurn, AtCall, AtReturn, Place}
use Rattle.bg_sense.specs.Resolved.{IsResolved, HasCandidate, clauses_in, specified, in_bodies, clauses_of}
use Rattle.bg_sense.specs.Variables.{procedure_of}
use Rattle.bg_sense.specs.Places.{checks_of, requires_in, ensures_in, places_in, places_from, places}
use Rattle.bg_sense.proofs.Members.{In, in_left, in_right, in_either, contained}

-- none, or one below n
abbrev pub IsBelow : ℕ → Option ℕ → Type 0
IsBelow n None = Unit {0}
IsBelow n (Some b) = b < n

-- so is that of each of these clauses
abbrev AreBelow : ℕ → List Clause → Type 0
AreBelow n ks = (k : Clause) → In ks k → IsBelow n k.candidate

checks_below : (n m : ℕ) (spot : ℕ → Spot) (ks : List Clause) → AreBelow n ks → (u : Place) → In (checks_of m spot ks) u → IsBelow n u.candidate
checks_below n m spot [] f u i = absurd i
checks_below n m spot (k ∷ ks) f u i = on k.is_free i (checks_below n m spot ks (λ l h. f l (inr h)) u)
  where
    on : (b : Bool) → In (if b then checks_of m spot ks else record { implementation = m; spot = spot k.id; candidate = k.candidate } ∷ checks_of m spot ks) u → (In (checks_of m spot ks) u → IsBelow n u.candidate) → IsBelow n u.candidate
    on true j rest = rest j
    on false (inl e) rest = subst (λ (v : Place). IsBelow n v.candidate) e (f k (inl refl))
    on false (inr j) rest = rest j

-- the clauses of a procedure are among those of all
requires_there : (qs : List Proc) (j : ℕ) (k : Clause) → In (requires_in (slice_get qs j)) k → In (specified qs) k
requires_there [] j k i = absurd i
requires_there (q ∷ qs) zero k i = in_left q.requires_ (q.ensures_ ++ specified qs) k i
requires_there (q ∷ qs) (suc j) k i =
    in_right q.requires_ (q.ensures_ ++ specified qs) k (in_right q.ensures_ (specified qs) k (requires_there qs j k i))

ensures_there : (qs : List Proc) (j : ℕ) (k : Clause) → In (ensures_in (slice_get qs j)) k → In (specified qs) k
ensures_there [] j k i = absurd i
ensures_there (q ∷ qs) zero k i =
    in_right q.requires_ (q.ensures_ ++ specified qs) k (in_left q.ensures_ (specified qs) k i)
ensures_there (q ∷ qs) (suc j) k i =
    in_right q.requires_ (q.ensures_ ++ specified qs) k (in_right q.ensures_ (specified qs) k (ensures_there qs j k i))

module _ (p : Prog) (n : ℕ) (all : AreBelow n (specified p.procedures)) where
  body_below : (m : ℕ) (a : St) → AreBelow n (clauses_in a) → (u : Place) → In (places_in p m a) u → IsBelow n u.candidate
  body_below m Skip f u i = absurd i
  body_below m (Then a b) f u i =
      ⊎_elim
      (body_below m a (λ k h. f k (in_left (clauses_in a) (clauses_in b) k h)) u)
      (body_below m b (λ k h. f k (in_right (clauses_in a) (clauses_in b) k h)) u)
      (in_either (places_in p m a) (places_in p m b) u i)
  body_below m (Label l) f u i = absurd i
  body_below m (Assert k) f u i = checks_below n m AtAssert (k ∷ []) f u i
  body_below m (Assume e) f u i = absurd i
  body_below m (Havoc xs) f u i = absurd i
  body_below m (Assign xs es) f u i = absurd i
  body_below m (Invoke c) f u i =
      checks_below n m (AtCall c.site) (requires_in (procedure_of p c.procedure)) (λ k h. all k (requires_there p.procedures c.procedure k h)) u i
  body_below m (If j g a b) f u i =
      ⊎_elim
      (body_below m a (λ k h. f k (in_left (clauses_in a) (clauses_in b) k h)) u)
      (body_below m b (λ k h. f k (in_right (clauses_in a) (clauses_in b) k h)) u)
      (in_either (places_in p m a) (places_in p m b) u i)
  body_below m (While j g ks a) f u i =
      ⊎_elim
      (checks_below n m AtEntry ks (λ k h. f k (in_left ks (clauses_in a) k h)) u)
      (λ rest. ⊎_elim
      (body_below m a (λ k h. f k (in_right ks (clauses_in a) k h)) u)
      (checks_below n m AfterTurn ks (λ k h. f k (in_left ks (clauses_in a) k h)) u)
      (in_either (places_in p m a) (checks_of m AfterTurn ks) u rest))
      (in_either (checks_of m AtEntry ks) (places_in p m a ++ checks_of m AfterTurn ks) u i)
  body_below m (Break l) f u i = absurd i
  body_below m (Goto ls) f u i = absurd i
  body_below m Return f u i = absurd i

  from_below : (m : ℕ) (ms : List Impl) → AreBelow n (in_bodies clauses_in ms) → (u : Place) → In (places_from p m ms) u → IsBelow n u.candidate
  from_below m [] f u i = absurd i
  from_below m (x ∷ ms) f u i =
      ⊎_elim
      (λ here. ⊎_elim
      (body_below m x.body (λ k h. f k (in_left (clauses_in x.body) (in_bodies clauses_in ms) k h)) u)
      (checks_below n m (AtReturn m) (ensures_in (procedure_of p x.procedure)) (λ k h. all k (ensures_there p.procedures x.procedure k h)) u)
      (in_either (places_in p m x.body) (checks_of m (AtReturn m) (ensures_in (procedure_of p x.procedure))) u here))
      (from_below (suc m) ms (λ k h. f k (in_right (clauses_in x.body) (in_bodies clauses_in ms) k h)) u)
      (in_either (places_in p m x.body ++ checks_of m (AtReturn m) (ensures_in (procedure_of p x.procedure))) (places_from p (suc m) ms) u i)

below_of : (n : ℕ) (o : Option ℕ) (k : Clause) → HasCandidate n o k → IsBelow n o
below_of n None k h = tt
below_of n (Some b) k h = h.0

pub declared : (p : Prog) → IsResolved p → (u : Place) → In (places p) u → IsBelow p.candidates u.candidate
declared p h u i =
    let each : AreBelow p.candidates (clauses_of p) = λ k j. below_of p.candidates k.candidate k (h.candidates k (contained (clauses_of p) k j)) in
    let bodies = in_bodies clauses_in p.implementations in
    from_below p p.candidates (λ k j. each k (in_left (specified p.procedures) bodies k j)) 0 p.implementations (λ k j. each k (in_right (specified p.procedures) bodies k j)) u i
