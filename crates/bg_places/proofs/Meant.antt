-- Places with positions are, positions apart, those of the program that is meant.
use Rattle.std.proofs.Common.{◌≡◌, ℕ, zero, suc, Bool, true, false, if◌then◌else◌, List, [], ◌∷◌, ◌++◌, map, Option, Some, None, slice_get, refl, ap, ◌∙◌, append_assoc}
use Rattle.std.proofs.lemmas.List.{map-append}
use Rattle.bg_base.specs.declared.pos.Pos.{Pos}
use Rattle.bg_ast.specs.Execution.{Spot, AtAssert, AtEntry, AfterTurn, AtCall, AtReturn, Place}
use Rattle.bg_ast.specs.Syntax as s
use Rattle.bg_ast.specs.Resolved as r
use Rattle.bg_ast.specs.Values as v
use Rattle.bg_ast.specs.Meaning.{meaning_of, clause_of, proc_of, impl_of, named_of, st_of, sts_of, arms_of}
use Rattle.bg_sense.specs.Places.{checks_of, requires_in, ensures_in, places_in, places_from, places}
use Rattle.bg_places.specs.Placed.{Placed, place_in, placed_clause, placed_clauses, requires_of, ensures_of, placed_st, placed_sts, placed_arms, placed_impl, placed_from, placed}

-- whether the first clause has a place or not
one_more : (free : Bool) (a : Placed) (rest : List Placed) (others : List Place) → map place_in rest ≡ others → map place_in (if free then rest else a ∷ rest) ≡ (if free then others else a.place ∷ others)
one_more true a rest others h = h
one_more false a rest others h = ap (λ l. a.place ∷ l) h

clauses : (m : ℕ) (spot : ℕ → Spot) (call : Option Pos) (ks : List r.Clause) → map place_in (placed_clauses m spot call ks) ≡ checks_of m spot (map clause_of ks)
clauses m spot call [] = refl
clauses m spot call (k ∷ ks) = one_more k.is_free (placed_clause m spot call k) _ _ (clauses m spot call ks)

requires_there : (named : ℕ → v.Ty) (qs : List r.Proc) (k : ℕ) → map clause_of (requires_of (slice_get qs k)) ≡ requires_in (slice_get (map (proc_of named) qs) k)
requires_there named [] k = refl
requires_there named (q ∷ qs) zero = refl
requires_there named (q ∷ qs) (suc k) = requires_there named qs k

ensures_there : (named : ℕ → v.Ty) (qs : List r.Proc) (k : ℕ) → map clause_of (ensures_of (slice_get qs k)) ≡ ensures_in (slice_get (map (proc_of named) qs) k)
ensures_there named [] k = refl
ensures_there named (q ∷ qs) zero = refl
ensures_there named (q ∷ qs) (suc k) = ensures_there named qs k

-- two lists after each other
both : (xs ys : List Placed) (us vs : List Place) → map place_in xs ≡ us → map place_in ys ≡ vs → map place_in (xs ++ ys) ≡ us ++ vs
both xs ys us vs h k = map-append place_in xs ys ∙ (rw (h, k) refl)

mutual
  st : (p : r.Program) (m : ℕ) (a : r.St) → map place_in (placed_st p.procedures m a) ≡ places_in (meaning_of p) m (st_of a)
  st p m (r.Label l) = refl
  st p m (r.Assert k) = clauses m AtAssert None (k ∷ [])
  st p m (r.Assume e) = refl
  st p m (r.Havoc xs) = refl
  st p m (r.Assign q ts es) = refl
  st p m (r.Invoke k) =
      clauses m (AtCall k.site) (Some k.pos) (requires_of (slice_get p.procedures k.procedure))
      ∙ ap (checks_of m (AtCall k.site)) (requires_there (named_of p.types) p.procedures k.procedure)
  st p m (r.If n arms otherwise) =
      map-append place_in (placed_arms p.procedures m arms) (placed_sts p.procedures m otherwise)
      ∙ (ap (λ l. map place_in (placed_arms p.procedures m arms) ++ l) (sts p m otherwise) ∙ arms_in p m n arms (sts_of otherwise))
  st p m (r.While n q g is body) =
      both (placed_clauses m AtEntry None is) (placed_sts p.procedures m body ++ placed_clauses m AfterTurn None is) _ _
      (clauses m AtEntry None is)
      (both (placed_sts p.procedures m body) (placed_clauses m AfterTurn None is) _ _ (sts p m body) (clauses m AfterTurn None is))
  st p m (r.Break n) = refl
  st p m (r.Goto ls) = refl
  st p m r.Return = refl

  sts : (p : r.Program) (m : ℕ) (ss : r.Sts) → map place_in (placed_sts p.procedures m ss) ≡ places_in (meaning_of p) m (sts_of ss)
  sts p m r.NoSt = refl
  sts p m (r.Then a b) = both (placed_st p.procedures m a) (placed_sts p.procedures m b) _ _ (st p m a) (sts p m b)

  arms_in : (p : r.Program) (m n : ℕ) (arms : r.Arms) (otherwise : s.St) → map place_in (placed_arms p.procedures m arms) ++ places_in (meaning_of p) m otherwise ≡ places_in (meaning_of p) m (arms_of n arms otherwise)
  arms_in p m n r.NoArm otherwise = refl
  arms_in p m n (r.Arm g body arms) otherwise =
      ap (λ l. l ++ places_in (meaning_of p) m otherwise) (both (placed_sts p.procedures m body) (placed_arms p.procedures m arms) _ _ (sts p m body) refl)
      ∙ (append_assoc (places_in (meaning_of p) m (sts_of body)) (map place_in (placed_arms p.procedures m arms)) (places_in (meaning_of p) m otherwise)
      ∙ ap (λ l. places_in (meaning_of p) m (sts_of body) ++ l) (arms_in p m (suc n) arms otherwise))

impl : (p : r.Program) (m : ℕ) (i : r.Impl) → map place_in (placed_impl p.procedures m i) ≡ places_in (meaning_of p) m (sts_of i.body) ++ checks_of m (AtReturn m) (ensures_in (slice_get (meaning_of p).procedures i.procedure))
impl p m i =
    both (placed_sts p.procedures m i.body) (placed_clauses m (AtReturn m) None (ensures_of (slice_get p.procedures i.procedure))) _ _
    (sts p m i.body)
    (clauses m (AtReturn m) None (ensures_of (slice_get p.procedures i.procedure)) ∙ ap (checks_of m (AtReturn m)) (ensures_there (named_of p.types) p.procedures i.procedure))

from : (p : r.Program) (m : ℕ) (is : List r.Impl) → map place_in (placed_from p.procedures m is) ≡ places_from (meaning_of p) m (map (impl_of (named_of p.types)) is)
from p m [] = refl
from p m (i ∷ is) = both (placed_impl p.procedures m i) (placed_from p.procedures (suc m) is) _ _ (impl p m i) (from p (suc m) is)

pub placed_meant : (p : r.Program) → map place_in (placed p) ≡ places (meaning_of p)
placed_meant p = from p 0 p.implementations
