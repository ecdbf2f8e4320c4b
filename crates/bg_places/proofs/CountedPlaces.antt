-- The checks that are counted are the places.
use Rattle.std.proofs.Common.{◌≡◌, ℕ, zero, suc, ◌+◌, ◌-◌, ◌^◌, Bool, true, false, if◌then◌else◌, List, [], ◌∷◌, ◌++◌, length, map, get_or, Option, Some, None, slice_get, refl, ap, sym, ◌∙◌, length-append}
use Rattle.std.specs.Prelude.{min}
use Rattle.bg_base.specs.declared.pos.Pos.{Pos}
use Rattle.bg_ast.specs.Execution.{Spot, AtAssert, AtEntry, AfterTurn, AtCall, AtReturn}
use Rattle.bg_ast.specs.Resolved as r
use Rattle.bg_places.specs.Placed.{Placed, placed_clause, placed_clauses, requires_of, ensures_of, placed_st, placed_sts, placed_arms}
use Rattle.bg_places.specs.Checks.{checked, required, ensured, st_checks, sts_checks, arms_checks, impl_checks}
use Rattle.bg_places.specs.Counts.{place_count}

one_more : (free : Bool) (a : Placed) (rest : List Placed) (n : ℕ) → length rest ≡ n → length (if free then rest else a ∷ rest) ≡ (if free then n else suc n)
one_more true a rest n h = h
one_more false a rest n h = ap suc h

clauses : (m : ℕ) (spot : ℕ → Spot) (call : Option Pos) (ks : List r.Clause) → length (placed_clauses m spot call ks) ≡ checked ks
clauses m spot call [] = refl
clauses m spot call (k ∷ ks) = one_more k.is_free (placed_clause m spot call k) _ _ (clauses m spot call ks)

required_at : (qs : List r.Proc) (k : ℕ) → checked (requires_of (slice_get qs k)) ≡ get_or (map required qs) k 0
required_at [] k = refl
required_at (q ∷ qs) zero = refl
required_at (q ∷ qs) (suc k) = required_at qs k

ensured_at : (qs : List r.Proc) (k : ℕ) → checked (ensures_of (slice_get qs k)) ≡ get_or (map ensured qs) k 0
ensured_at [] k = refl
ensured_at (q ∷ qs) zero = refl
ensured_at (q ∷ qs) (suc k) = ensured_at qs k

both : (xs ys : List Placed) (a b : ℕ) → length xs ≡ a → length ys ≡ b → length (xs ++ ys) ≡ a + b
both xs ys a b h k = rw (length-append xs ys, h, k) refl

mutual
  st : (qs : List r.Proc) (m : ℕ) (a : r.St) → length (placed_st qs m a) ≡ st_checks (map required qs) a
  st qs m (r.Label l) = refl
  st qs m (r.Assert k) = clauses m AtAssert None (k ∷ [])
  st qs m (r.Assume e) = refl
  st qs m (r.Havoc xs) = refl
  st qs m (r.Assign q ts es) = refl
  st qs m (r.Invoke k) =
      clauses m (AtCall k.site) (Some k.pos) (requires_of (slice_get qs k.procedure)) ∙ required_at qs k.procedure
  st qs m (r.If n arms otherwise) = both (placed_arms qs m arms) (placed_sts qs m otherwise) _ _ (arms_in qs m arms) (sts qs m otherwise)
  st qs m (r.While n q g is body) =
      both (placed_clauses m AtEntry None is) (placed_sts qs m body ++ placed_clauses m AfterTurn None is) _ _
      (clauses m AtEntry None is)
      (both (placed_sts qs m body) (placed_clauses m AfterTurn None is) _ _ (sts qs m body) (clauses m AfterTurn None is))
  st qs m (r.Break n) = refl
  st qs m (r.Goto ls) = refl
  st qs m r.Return = refl

  sts : (qs : List r.Proc) (m : ℕ) (ss : r.Sts) → length (placed_sts qs m ss) ≡ sts_checks (map required qs) ss
  sts qs m r.NoSt = refl
  sts qs m (r.Then a b) = both (placed_st qs m a) (placed_sts qs m b) _ _ (st qs m a) (sts qs m b)

  arms_in : (qs : List r.Proc) (m : ℕ) (arms : r.Arms) → length (placed_arms qs m arms) ≡ arms_checks (map required qs) arms
  arms_in qs m r.NoArm = refl
  arms_in qs m (r.Arm g body arms) = both (placed_sts qs m body) (placed_arms qs m arms) _ _ (sts qs m body) (arms_in qs m arms)

impl : (qs : List r.Proc) (i : r.Impl) → impl_checks (map required qs) (map ensured qs) i ≡ place_count qs i
impl qs i =
    ap (min (2 ^ 64 - 1))
    (sym (both (placed_sts qs 0 i.body) (placed_clauses 0 (AtReturn 0) None (ensures_of (slice_get qs i.procedure))) _ _ (sts qs 0 i.body)
    (clauses 0 (AtReturn 0) None (ensures_of (slice_get qs i.procedure)) ∙ ensured_at qs i.procedure)))

-- the numbers of all
pub checks_are_places : (qs : List r.Proc) (is : List r.Impl) → map (impl_checks (map required qs) (map ensured qs)) is ≡ map (place_count qs) is
checks_are_places qs [] = refl
checks_are_places qs (i ∷ is) = rw (impl qs i, checks_are_places qs is) refl
