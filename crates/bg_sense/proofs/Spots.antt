-- Where clauses and calls have numbers of their own, places have spots of their own.
use Rattle.std.proofs.Common.{◌≡◌, ℕ, zero, suc, ◌≤◌, Bool, true, false, List, [], ◌∷◌, ◌++◌, map, Option, Some, None, refl, sym, ap, ◌∙◌, subst, arith, inl, inr, ⊎_elim}
use Rattle.std.specs.Prelude.{if◌then◌else◌, slice_get}
use Rattle.std.proofs.lemmas.List.{map-append}
use Rattle.bg_ast.specs.Syntax.{Clause, St, Skip, Then, Label, Assert, Assume, Havoc, Assign, Invoke, If, While, Break, Goto, Return, Proc, Impl, Prog}
use Rattle.bg_ast.specs.Execution.{Spot, AtAssert, AtEntry, AfterTurn, AtCall, AtReturn, Place}
use Rattle.bg_sense.specs.Variables.{procedure_of}
use Rattle.bg_sense.specs.Places.{checks_of, requires_in, ensures_in, places_in, places_from, places}
use Rattle.bg_sense.specs.Claims.{HasOneCandidate}
use Rattle.bg_sense.specs.Resolved.{clauses_in, calls_in, specified, in_bodies, clauses_of, IsResolved}
use Rattle.bg_sense.proofs.Members.{In, in_left, in_right, in_either, member, in_at, Different, different, different_left, different_right, different_apart}

-- places with spots of their own
abbrev Apart : List Place → Type 0
Apart [] = Unit {0}
Apart (u ∷ us) = ((v : Place) → In us v → v.spot ≡ u.spot → ⊥) × Apart us

apart_append : (us vs : List Place) → Apart us → Apart vs → ((u v : Place) → In us u → In vs v → v.spot ≡ u.spot → ⊥) → Apart (us ++ vs)
apart_append [] vs a b h = b
apart_append (u ∷ us) vs a b h =
    (λ v i e. ⊎_elim (λ j. a.0 v j e) (λ j. h u v (inl refl) j e) (in_either us vs v i), apart_append us vs a.1 b (λ x y i j. h x y (inr i) j))

abbrev numbers : List Clause → List ℕ
numbers ks = map (λ k. k.id) ks

-- one for each clause that is checked
checks_in : (m : ℕ) (spot : ℕ → Spot) (ks : List Clause) (u : Place) → In (checks_of m spot ks) u → (n : ℕ) × (In (numbers ks) n × (u.spot ≡ spot n))
checks_in m spot [] u i = absurd i
checks_in m spot (k ∷ ks) u i = on k.is_free i (checks_in m spot ks u)
  where
    later : (n : ℕ) × (In (numbers ks) n × (u.spot ≡ spot n)) → (n : ℕ) × (In (numbers (k ∷ ks)) n × (u.spot ≡ spot n))
    later r = (r.0, (inr r.1.0, r.1.1))

    on : (b : Bool) → In (if b then checks_of m spot ks else record { implementation = m; spot = spot k.id; candidate = k.candidate } ∷ checks_of m spot ks) u → (In (checks_of m spot ks) u → (n : ℕ) × (In (numbers ks) n × (u.spot ≡ spot n))) → (n : ℕ) × (In (numbers (k ∷ ks)) n × (u.spot ≡ spot n))
    on true j rest = later (rest j)
    on false (inl e) rest = (k.id, (inl refl, ap (λ x. x.spot) (sym e)))
    on false (inr j) rest = later (rest j)

checks_apart : (m : ℕ) (spot : ℕ → Spot) → ((x y : ℕ) → spot x ≡ spot y → x ≡ y) → (ks : List Clause) → Different (numbers ks) → Apart (checks_of m spot ks)
checks_apart m spot inj [] d = tt
checks_apart m spot inj (k ∷ ks) d = on k.is_free (checks_apart m spot inj ks d.1)
  where
    on : (b : Bool) → Apart (checks_of m spot ks) → Apart (if b then checks_of m spot ks else record { implementation = m; spot = spot k.id; candidate = k.candidate } ∷ checks_of m spot ks)
    on true h = h
    on false h = (
      λ v i e. (let r = checks_in m spot ks v i in d.0 (subst (In (numbers ks)) (inj r.0 k.id (sym r.1.1 ∙ e)) r.1.0)),
      h,
    )

-- what the number of a spot in a body is one of: of these clauses, or of these calls
abbrev Within : (cs ns : List ℕ) → Spot → Type 0
Within cs ns (AtReturn m k) = ⊥
Within cs ns (AtAssert k) = In cs k
Within cs ns (AtEntry k) = In cs k
Within cs ns (AfterTurn k) = In cs k
Within cs ns (AtCall n k) = In ns n

widen : (cs ds ns os : List ℕ) → ((n : ℕ) → In cs n → In ds n) → ((n : ℕ) → In ns n → In os n) → (t : Spot) → Within cs ns t → Within ds os t
widen cs ds ns os h g (AtAssert k) i = h k i
widen cs ds ns os h g (AtEntry k) i = h k i
widen cs ds ns os h g (AfterTurn k) i = h k i
widen cs ds ns os h g (AtCall n k) i = g n i
widen cs ds ns os h g (AtReturn m k) i = i

clash : (cs ds ns os : List ℕ) → ((n : ℕ) → In cs n → In ds n → ⊥) → ((n : ℕ) → In ns n → In os n → ⊥) → (t : Spot) → Within cs ns t → Within ds os t → ⊥
clash cs ds ns os h g (AtAssert k) i j = h k i j
clash cs ds ns os h g (AtEntry k) i j = h k i j
clash cs ds ns os h g (AfterTurn k) i j = h k i j
clash cs ds ns os h g (AtCall n k) i j = g n i j
clash cs ds ns os h g (AtReturn m k) i j = i

numbers_left : (ks ls : List Clause) (n : ℕ) → In (numbers ks) n → In (numbers (ks ++ ls)) n
numbers_left ks ls n i =
    subst (λ x. In x n) (sym (map-append (λ k. k.id) ks ls)) (in_left (numbers ks) (numbers ls) n i)

numbers_right : (ks ls : List Clause) (n : ℕ) → In (numbers ls) n → In (numbers (ks ++ ls)) n
numbers_right ks ls n i =
    subst (λ x. In x n) (sym (map-append (λ k. k.id) ks ls)) (in_right (numbers ks) (numbers ls) n i)

split : (ks ls : List Clause) → Different (numbers (ks ++ ls)) → Different (numbers ks ++ numbers ls)
split ks ls d = subst Different (map-append (λ k. k.id) ks ls) d

module _ (p : Prog) (specs : Different (numbers (specified p.procedures))) where
  of_specification : (qs : List Proc) → Different (numbers (specified qs)) → (k : ℕ) (q : Proc) → slice_get qs k ≡ Some q → Different (numbers q.requires_) × Different (numbers q.ensures_)
  of_specification [] d k q e = absurd (let bad : ⊥ = cc in bad)
  of_specification (x ∷ qs) d zero q e =
      let same : x ≡ q = cc in
      let first = split x.requires_ (x.ensures_ ++ specified qs) d in
      let second = split x.ensures_ (specified qs) (different_right (numbers x.requires_) _ first) in
      subst (λ y. Different (numbers y.requires_) × Different (numbers y.ensures_)) same (different_left (numbers x.requires_) _ first, different_left (numbers x.ensures_) _ second)
  of_specification (x ∷ qs) d (suc k) q e =
      let first = split x.requires_ (x.ensures_ ++ specified qs) d in
      let second = split x.ensures_ (specified qs) (different_right (numbers x.requires_) _ first) in
      of_specification qs (different_right (numbers x.ensures_) _ second) k q e

  required : (k : ℕ) (o : Option Proc) → procedure_of p k ≡ o → Different (numbers (requires_in o)) × Different (numbers (ensures_in o))
  required k None e = (tt, tt)
  required k (Some q) e = of_specification p.procedures specs k q e

  -- the numbers of a statement's spots are its own
  spots_within : (m : ℕ) (s : St) (u : Place) → In (places_in p m s) u → Within (numbers (clauses_in s)) (calls_in s) u.spot
  spots_within m Skip u i = absurd i
  spots_within m (Then a b) u i =
      ⊎_elim
      (λ j. widen (numbers (clauses_in a)) (numbers (clauses_in a ++ clauses_in b)) (calls_in a) (calls_in a ++ calls_in b) (numbers_left (clauses_in a) (clauses_in b)) (in_left (calls_in a) (calls_in b)) u.spot (spots_within m a u j))
      (λ j. widen (numbers (clauses_in b)) (numbers (clauses_in a ++ clauses_in b)) (calls_in b) (calls_in a ++ calls_in b) (numbers_right (clauses_in a) (clauses_in b)) (in_right (calls_in a) (calls_in b)) u.spot (spots_within m b u j))
      (in_either (places_in p m a) (places_in p m b) u i)
  spots_within m (Label l) u i = absurd i
  spots_within m (Assert k) u i =
      let r = checks_in m AtAssert (k ∷ []) u i in
      subst (Within (numbers (k ∷ [])) []) (sym r.1.1) r.1.0
  spots_within m (Assume e) u i = absurd i
  spots_within m (Havoc xs) u i = absurd i
  spots_within m (Assign xs es) u i = absurd i
  spots_within m (Invoke k) u i =
      let r = checks_in m (AtCall k.site) (requires_in (procedure_of p k.procedure)) u i in
      subst (Within [] (k.site ∷ [])) (sym r.1.1) (inl refl)
  spots_within m (If n g a b) u i =
      ⊎_elim
      (λ j. widen (numbers (clauses_in a)) (numbers (clauses_in a ++ clauses_in b)) (calls_in a) (calls_in a ++ calls_in b) (numbers_left (clauses_in a) (clauses_in b)) (in_left (calls_in a) (calls_in b)) u.spot (spots_within m a u j))
      (λ j. widen (numbers (clauses_in b)) (numbers (clauses_in a ++ clauses_in b)) (calls_in b) (calls_in a ++ calls_in b) (numbers_right (clauses_in a) (clauses_in b)) (in_right (calls_in a) (calls_in b)) u.spot (spots_within m b u j))
      (in_either (places_in p m a) (places_in p m b) u i)
  spots_within m (While n g is a) u i =
      ⊎_elim
      (λ j. let r = checks_in m AtEntry is u j in subst (Within (numbers (is ++ clauses_in a)) (calls_in a)) (sym r.1.1) (numbers_left is (clauses_in a) r.0 r.1.0))
      (λ h. ⊎_elim
      (λ j. widen (numbers (clauses_in a)) (numbers (is ++ clauses_in a)) (calls_in a) (calls_in a) (numbers_right is (clauses_in a)) (λ x y. y) u.spot (spots_within m a u j))
      (λ j. let r = checks_in m AfterTurn is u j in subst (Within (numbers (is ++ clauses_in a)) (calls_in a)) (sym r.1.1) (numbers_left is (clauses_in a) r.0 r.1.0))
      (in_either (places_in p m a) (checks_of m AfterTurn is) u h))
      (in_either (checks_of m AtEntry is) (places_in p m a ++ checks_of m AfterTurn is) u i)
  spots_within m (Break n) u i = absurd i
  spots_within m (Goto ls) u i = absurd i
  spots_within m Return u i = absurd i

  both_parts : (m : ℕ) (a b : St) → Different (numbers (clauses_in a ++ clauses_in b)) → Different (calls_in a ++ calls_in b) → Apart (places_in p m a) → Apart (places_in p m b) → Apart (places_in p m a ++ places_in p m b)
  both_parts m a b d c x y =
      apart_append (places_in p m a) (places_in p m b) x y (λ u v i j e. clash
      (numbers (clauses_in a))
      (numbers (clauses_in b))
      (calls_in a)
      (calls_in b)
      (different_apart (numbers (clauses_in a)) (numbers (clauses_in b)) (split (clauses_in a) (clauses_in b) d))
      (different_apart (calls_in a) (calls_in b) c)
      u.spot
      (spots_within m a u i)
      (subst (Within (numbers (clauses_in b)) (calls_in b)) e (spots_within m b v j)))

  left_of : (ks ls : List Clause) → Different (numbers (ks ++ ls)) → Different (numbers ks)
  left_of ks ls d = different_left (numbers ks) (numbers ls) (split ks ls d)

  right_of : (ks ls : List Clause) → Different (numbers (ks ++ ls)) → Different (numbers ls)
  right_of ks ls d = different_right (numbers ks) (numbers ls) (split ks ls d)

  places_apart : (m : ℕ) (s : St) → Different (numbers (clauses_in s)) → Different (calls_in s) → Apart (places_in p m s)
  places_apart m Skip d c = tt
  places_apart m (Then a b) d c =
      both_parts m a b d c (places_apart m a (left_of (clauses_in a) (clauses_in b) d) (different_left (calls_in a) (calls_in b) c)) (places_apart m b (right_of (clauses_in a) (clauses_in b) d) (different_right (calls_in a) (calls_in b) c))
  places_apart m (Label l) d c = tt
  places_apart m (Assert k) d c = checks_apart m AtAssert (λ x y e. cc) (k ∷ []) d
  places_apart m (Assume e) d c = tt
  places_apart m (Havoc xs) d c = tt
  places_apart m (Assign xs es) d c = tt
  places_apart m (Invoke k) d c =
      checks_apart m (AtCall k.site) (λ x y e. cc) (requires_in (procedure_of p k.procedure)) (required k.procedure (procedure_of p k.procedure) refl).0
  places_apart m (If n g a b) d c =
      both_parts m a b d c (places_apart m a (left_of (clauses_in a) (clauses_in b) d) (different_left (calls_in a) (calls_in b) c)) (places_apart m b (right_of (clauses_in a) (clauses_in b) d) (different_right (calls_in a) (calls_in b) c))
  places_apart m (While n g is a) d c =
      looped m is a d (places_apart m a (right_of is (clauses_in a) d) c)
    where
      looped : (m : ℕ) (is : List Clause) (a : St) → Different (numbers (is ++ clauses_in a)) → Apart (places_in p m a) → Apart (checks_of m AtEntry is ++ (places_in p m a ++ checks_of m AfterTurn is))
      looped m is a d x =
          let own = left_of is (clauses_in a) d in
          let off = different_apart (numbers is) (numbers (clauses_in a)) (split is (clauses_in a) d) in
          apart_append
          (checks_of m AtEntry is)
          (places_in p m a ++ checks_of m AfterTurn is)
          (checks_apart m AtEntry (λ x y e. cc) is own)
          (apart_append (places_in p m a) (checks_of m AfterTurn is) x (checks_apart m AfterTurn (λ x y e. cc) is own) (λ u v i j e. let r = checks_in m AfterTurn is v j in off r.0 r.1.0 (subst (Within (numbers (clauses_in a)) (calls_in a)) (sym e ∙ r.1.1) (spots_within m a u i))))
          (λ u v i j e. let r = checks_in m AtEntry is u i in
          ⊎_elim
          (λ h. off r.0 r.1.0 (subst (Within (numbers (clauses_in a)) (calls_in a)) (e ∙ r.1.1) (spots_within m a v h)))
          (λ h. let q = checks_in m AfterTurn is v h in
          let no : AfterTurn q.0 ≡ AtEntry r.0 = sym q.1.1 ∙ e ∙ r.1.1 in
          let bad : ⊥ = cc in bad)
          (in_either (places_in p m a) (checks_of m AfterTurn is) v j))
  places_apart m (Break n) d c = tt
  places_apart m (Goto ls) d c = tt
  places_apart m Return d c = tt

  -- the places of an implementation of this number
  abbrev its : ℕ → Impl → List Place
  its n m = places_in p n m.body ++ checks_of n (AtReturn n) (ensures_in (procedure_of p m.procedure))

  its_apart : (n : ℕ) (m : Impl) → Different (numbers (clauses_in m.body)) → Different (calls_in m.body) → Apart (its n m)
  its_apart n m d c =
      apart_append
      (places_in p n m.body)
      (checks_of n (AtReturn n) (ensures_in (procedure_of p m.procedure)))
      (places_apart n m.body d c)
      (checks_apart n (AtReturn n) (λ x y e. cc) (ensures_in (procedure_of p m.procedure)) (required m.procedure (procedure_of p m.procedure) refl).1)
      (λ u v i j e. let r = checks_in n (AtReturn n) (ensures_in (procedure_of p m.procedure)) v j in
      subst (Within (numbers (clauses_in m.body)) (calls_in m.body)) (sym e ∙ r.1.1) (spots_within n m.body u i))

  -- the same with returns of the implementations that pass this test
  abbrev From : (ℕ → Type 0) → (cs ns : List ℕ) → Spot → Type 0
  From R cs ns (AtReturn m k) = R m
  From R cs ns (AtAssert k) = In cs k
  From R cs ns (AtEntry k) = In cs k
  From R cs ns (AfterTurn k) = In cs k
  From R cs ns (AtCall n k) = In ns n

  from_within : (R : ℕ → Type 0) (cs ns : List ℕ) (t : Spot) → Within cs ns t → From R cs ns t
  from_within R cs ns (AtAssert k) i = i
  from_within R cs ns (AtEntry k) i = i
  from_within R cs ns (AfterTurn k) i = i
  from_within R cs ns (AtCall n k) i = i
  from_within R cs ns (AtReturn m k) i = absurd i

  from_wider : (R Q : ℕ → Type 0) (cs ds ns os : List ℕ) → ((n : ℕ) → R n → Q n) → ((n : ℕ) → In cs n → In ds n) → ((n : ℕ) → In ns n → In os n) → (t : Spot) → From R cs ns t → From Q ds os t
  from_wider R Q cs ds ns os r h g (AtAssert k) i = h k i
  from_wider R Q cs ds ns os r h g (AtEntry k) i = h k i
  from_wider R Q cs ds ns os r h g (AfterTurn k) i = h k i
  from_wider R Q cs ds ns os r h g (AtCall n k) i = g n i
  from_wider R Q cs ds ns os r h g (AtReturn m k) i = r m i

  from_clash : (R Q : ℕ → Type 0) (cs ds ns os : List ℕ) → ((n : ℕ) → R n → Q n → ⊥) → ((n : ℕ) → In cs n → In ds n → ⊥) → ((n : ℕ) → In ns n → In os n → ⊥) → (t : Spot) → From R cs ns t → From Q ds os t → ⊥
  from_clash R Q cs ds ns os r h g (AtAssert k) i j = h k i j
  from_clash R Q cs ds ns os r h g (AtEntry k) i j = h k i j
  from_clash R Q cs ds ns os r h g (AfterTurn k) i j = h k i j
  from_clash R Q cs ds ns os r h g (AtCall n k) i j = g n i j
  from_clash R Q cs ds ns os r h g (AtReturn m k) i j = r m i j

  its_from : (n : ℕ) (m : Impl) (u : Place) → In (its n m) u → From (λ j. j ≡ n) (numbers (clauses_in m.body)) (calls_in m.body) u.spot
  its_from n m u i =
      ⊎_elim
      (λ j. from_within (λ k. k ≡ n) (numbers (clauses_in m.body)) (calls_in m.body) u.spot (spots_within n m.body u j))
      (λ j. let r = checks_in n (AtReturn n) (ensures_in (procedure_of p m.procedure)) u j in
      subst (From (λ k. k ≡ n) (numbers (clauses_in m.body)) (calls_in m.body)) (sym r.1.1) refl)
      (in_either (places_in p n m.body) (checks_of n (AtReturn n) (ensures_in (procedure_of p m.procedure))) u i)

  all_from : (n : ℕ) (ms : List Impl) (u : Place) → In (places_from p n ms) u → From (λ j. n ≤ j) (numbers (in_bodies clauses_in ms)) (in_bodies calls_in ms) u.spot
  all_from n [] u i = absurd i
  all_from n (m ∷ ms) u i =
      ⊎_elim
      (λ j. from_wider
      (λ k. k ≡ n)
      (λ k. n ≤ k)
      (numbers (clauses_in m.body))
      (numbers (clauses_in m.body ++ in_bodies clauses_in ms))
      (calls_in m.body)
      (calls_in m.body ++ in_bodies calls_in ms)
      (λ k e. omega arith)
      (numbers_left (clauses_in m.body) (in_bodies clauses_in ms))
      (in_left (calls_in m.body) (in_bodies calls_in ms))
      u.spot
      (its_from n m u j))
      (λ j. from_wider
      (λ k. suc n ≤ k)
      (λ k. n ≤ k)
      (numbers (in_bodies clauses_in ms))
      (numbers (clauses_in m.body ++ in_bodies clauses_in ms))
      (in_bodies calls_in ms)
      (calls_in m.body ++ in_bodies calls_in ms)
      (λ k e. omega arith)
      (numbers_right (clauses_in m.body) (in_bodies clauses_in ms))
      (in_right (calls_in m.body) (in_bodies calls_in ms))
      u.spot
      (all_from (suc n) ms u j))
      (in_either (its n m) (places_from p (suc n) ms) u i)

  all_apart : (n : ℕ) (ms : List Impl) → Different (numbers (in_bodies clauses_in ms)) → Different (in_bodies calls_in ms) → Apart (places_from p n ms)
  all_apart n [] d c = tt
  all_apart n (m ∷ ms) d c =
      apart_append
      (its n m)
      (places_from p (suc n) ms)
      (its_apart n m (left_of (clauses_in m.body) (in_bodies clauses_in ms) d) (different_left (calls_in m.body) (in_bodies calls_in ms) c))
      (all_apart (suc n) ms (right_of (clauses_in m.body) (in_bodies clauses_in ms) d) (different_right (calls_in m.body) (in_bodies calls_in ms) c))
      (λ u v i j e. from_clash
      (λ k. k ≡ n)
      (λ k. suc n ≤ k)
      (numbers (clauses_in m.body))
      (numbers (in_bodies clauses_in ms))
      (calls_in m.body)
      (in_bodies calls_in ms)
      (λ k x y. omega arith)
      (different_apart (numbers (clauses_in m.body)) (numbers (in_bodies clauses_in ms)) (split (clauses_in m.body) (in_bodies clauses_in ms) d))
      (different_apart (calls_in m.body) (in_bodies calls_in ms) c)
      u.spot
      (its_from n m u i)
      (subst (From (λ k. suc n ≤ k) (numbers (in_bodies clauses_in ms)) (in_bodies calls_in ms)) e (all_from (suc n) ms v j)))

apart_at : (us : List Place) → Apart us → (i j : ℕ) (t u : Place) → slice_get us i ≡ Some t → slice_get us j ≡ Some u → t.spot ≡ u.spot → i ≡ j
apart_at [] a i j t u e f s = absurd (let bad : ⊥ = cc in bad)
apart_at (v ∷ us) a zero zero t u e f s = refl
apart_at (v ∷ us) a zero (suc j) t u e f s =
    let same : v ≡ t = cc in absurd (a.0 u (in_at us j u f) (sym s ∙ ap (λ x. x.spot) (sym same)))
apart_at (v ∷ us) a (suc i) zero t u e f s =
    let same : v ≡ u = cc in absurd (a.0 t (in_at us i t e) (s ∙ ap (λ x. x.spot) (sym same)))
apart_at (v ∷ us) a (suc i) (suc j) t u e f s = let r = apart_at us a.1 i j t u e f s in omega arith

apart_same : (us : List Place) → Apart us → (t u : Place) → In us t → In us u → u.spot ≡ t.spot → u ≡ t
apart_same [] a t u i j e = absurd i
apart_same (v ∷ us) a t u (inl x) (inl y) e = sym y ∙ x
apart_same (v ∷ us) a t u (inl x) (inr j) e =
    absurd (a.0 u j (e ∙ ap (λ z. z.spot) (sym x)))
apart_same (v ∷ us) a t u (inr i) (inl y) e =
    absurd (a.0 t i (sym e ∙ ap (λ z. z.spot) (sym y)))
apart_same (v ∷ us) a t u (inr i) (inr j) e = apart_same us a.1 t u i j e

resolved_apart : (p : Prog) → IsResolved p → Apart (places p)
resolved_apart p h =
    let d = split (specified p.procedures) (in_bodies clauses_in p.implementations) (different (numbers (clauses_of p)) h.clauses) in
    all_apart p (different_left (numbers (specified p.procedures)) (numbers (in_bodies clauses_in p.implementations)) d) 0 p.implementations (different_right (numbers (specified p.procedures)) (numbers (in_bodies clauses_in p.implementations)) d) (different (in_bodies calls_in p.implementations) h.calls)

pub spots_differ : (p : Prog) (i j : ℕ) (t u : Place) → IsResolved p → slice_get (places p) i ≡ Some t → slice_get (places p) j ≡ Some u → t.spot ≡ u.spot → i ≡ j
spots_differ p i j t u h e f s = apart_at (places p) (resolved_apart p h) i j t u e f s

pub one_candidate : (p : Prog) → IsResolved p → HasOneCandidate p
one_candidate p h t u i j e =
    ap (λ x. x.candidate) (apart_same (places p) (resolved_apart p h) t u (member (places p) t i) (member (places p) u j) e)
