-- The places of an implementation have its number, and are all that do.
use Rattle.std.proofs.Common.{◌≡◌, ℕ, suc, ◌+◌, Bool, true, false, cond, if◌then◌else◌, List, [], ◌∷◌, ◌++◌, map, Option, Some, None, refl, sym, ap, ◌∙◌, subst, inl, inr, ⊎_elim, arith}
use Rattle.std.specs.Prelude.{slice_get, filter}
use Rattle.std.proofs.lemmas.List.{map-append}
use Rattle.bg_base.specs.declared.pos.Pos.{Pos}
use Rattle.bg_ast.specs.Resolved as r
use Rattle.bg_ast.specs.Execution.{Spot, AtAssert, AtEntry, AfterTurn, AtCall, AtReturn, Place}
use Rattle.bg_sense.proofs.Members.{In, in_either}
use Rattle.bg_sound.specs.Told.{is_ordinary}
use Rattle.bg_places.specs.Placed.{Placed, place_in, placed_clause, placed_clauses, requires_of, ensures_of, placed_st, placed_sts, placed_arms, placed_impl, placed_from}

-- each is one of the implementation with this number
abbrev pub OfNumber : ℕ → List Placed → Type 0
OfNumber m [] = Unit {0}
OfNumber m (a ∷ xs) = (a.place.implementation ≡ m) × OfNumber m xs

number_append : (m : ℕ) (xs ys : List Placed) → OfNumber m xs → OfNumber m ys → OfNumber m (xs ++ ys)
number_append m [] ys h k = k
number_append m (x ∷ xs) ys h k = (h.0, number_append m xs ys h.1 k)

number_if : (m : ℕ) (free : Bool) (a : Placed) (rest : List Placed) → a.place.implementation ≡ m → OfNumber m rest → OfNumber m (if free then rest else a ∷ rest)
number_if m true a rest e h = h
number_if m false a rest e h = (e, h)

number_clauses : (m : ℕ) (spot : ℕ → Spot) (call : Option Pos) (ks : List r.Clause) → OfNumber m (placed_clauses m spot call ks)
number_clauses m spot call [] = tt
number_clauses m spot call (k ∷ ks) =
    number_if m k.is_free (placed_clause m spot call k) _ refl (number_clauses m spot call ks)

mutual
  number_st : (qs : List r.Proc) (m : ℕ) (a : r.St) → OfNumber m (placed_st qs m a)
  number_st qs m (r.Label l) = tt
  number_st qs m (r.Assert k) = number_clauses m AtAssert None (k ∷ [])
  number_st qs m (r.Assume e) = tt
  number_st qs m (r.Havoc xs) = tt
  number_st qs m (r.Assign q ts es) = tt
  number_st qs m (r.Invoke k) = number_clauses m (AtCall k.site) (Some k.pos) (requires_of (slice_get qs k.procedure))
  number_st qs m (r.If n arms otherwise) =
      number_append m (placed_arms qs m arms) (placed_sts qs m otherwise) (number_arms qs m arms) (number_sts qs m otherwise)
  number_st qs m (r.While n q g is body) =
      number_append m (placed_clauses m AtEntry None is) _ (number_clauses m AtEntry None is) (number_append m (placed_sts qs m body) _ (number_sts qs m body) (number_clauses m AfterTurn None is))
  number_st qs m (r.Break n) = tt
  number_st qs m (r.Goto ls) = tt
  number_st qs m r.Return = tt

  number_sts : (qs : List r.Proc) (m : ℕ) (ss : r.Sts) → OfNumber m (placed_sts qs m ss)
  number_sts qs m r.NoSt = tt
  number_sts qs m (r.Then a b) =
      number_append m (placed_st qs m a) (placed_sts qs m b) (number_st qs m a) (number_sts qs m b)

  number_arms : (qs : List r.Proc) (m : ℕ) (arms : r.Arms) → OfNumber m (placed_arms qs m arms)
  number_arms qs m r.NoArm = tt
  number_arms qs m (r.Arm g body arms) =
      number_append m (placed_sts qs m body) (placed_arms qs m arms) (number_sts qs m body) (number_arms qs m arms)

pub number_impl : (qs : List r.Proc) (m : ℕ) (i : r.Impl) → OfNumber m (placed_impl qs m i)
number_impl qs m i =
    number_append m (placed_sts qs m i.body) _ (number_sts qs m i.body) (number_clauses m (AtReturn m) None (ensures_of (slice_get qs i.procedure)))

-- so have the ordinary ones
pub number_ordinary : (m : ℕ) (xs : List Placed) → OfNumber m xs → OfNumber m (filter is_ordinary xs)
number_ordinary m [] h = tt
number_ordinary m (x ∷ xs) h = by (is_ordinary x) (number_ordinary m xs h.1)
  where
    by : (b : Bool) → OfNumber m (filter is_ordinary xs) → OfNumber m (cond b (x ∷ filter is_ordinary xs) (filter is_ordinary xs))
    by true k = (h.0, k)
    by false k = k

has_number : (m : ℕ) (xs : List Placed) (t : Place) → OfNumber m xs → In (map place_in xs) t → t.implementation ≡ m
has_number m [] t h i = absurd i
has_number m (x ∷ xs) t h (inl e) = ap (λ u. u.implementation) (sym e) ∙ h.0
has_number m (x ∷ xs) t h (inr i) = has_number m xs t h.1 i

-- an implementation with this number that has the place
pub record Has (qs : List r.Proc) (j : ℕ) (is : List r.Impl) (t : Place) : Type 0 where
  pub index : ℕ
  pub implementation : r.Impl
  pub there : slice_get is index ≡ Some implementation
  pub number : t.implementation ≡ j + index
  pub member : In (map place_in (placed_impl qs t.implementation implementation)) t

pub has : (qs : List r.Proc) (j : ℕ) (is : List r.Impl) (t : Place) → In (map place_in (placed_from qs j is)) t → Has qs j is t
has qs j [] t h = absurd h
has qs j (i ∷ is) t h =
    ⊎_elim
    (λ a. let e = has_number j (placed_impl qs j i) t (number_impl qs j i) a in
    record { index = 0; implementation = i; there = refl; number = e ∙ plus_zero; member = subst (λ k. In (map place_in (placed_impl qs k i)) t) (sym e) a })
    (λ b. let x = has qs (suc j) is t b in
    record { index = suc x.index; implementation = x.implementation; there = x.there; number = x.number ∙ plus_suc x.index; member = x.member })
    (in_either (map place_in (placed_impl qs j i)) _ t (subst (λ l. In l t) (map-append place_in (placed_impl qs j i) (placed_from qs (suc j) is)) h))
  where
    plus_zero : j ≡ j + 0
    plus_zero = omega arith

    plus_suc : (n : ℕ) → suc j + n ≡ j + suc n
    plus_suc n = omega arith
