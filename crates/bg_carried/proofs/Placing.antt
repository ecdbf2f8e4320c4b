-- The places of an opened program with their positions are those of the program.
use Rattle.std.proofs.Common.{◌≡◌, ℕ, Bool, true, false, List, [], ◌∷◌, ◌++◌, map, Option, Some, None, refl, ap, ◌∙◌}
use Rattle.std.specs.Prelude.{if◌then◌else◌, slice_get, option_map}
use Rattle.bg_base.specs.declared.pos.Pos.{Pos}
use Rattle.bg_ast.specs.Resolved as r
use Rattle.bg_ast.specs.Execution.{Spot, AtAssert, AtCall, AtEntry, AfterTurn, AtReturn}
use Rattle.bg_places.specs.Placed.{Placed, placed_clause, placed_clauses, requires_of, ensures_of, placed_st, placed_sts, placed_arms, placed_impl}
use Rattle.bg_opened.specs.Written.{supposing, opened_clause, opened_st, opened_sts, opened_arms, opened_proc, opened_impl}
use Rattle.bg_opened.proofs.Places.{at_mapped}

module _ (o : r.Ex → r.Ex) (qs : List r.Proc) where
  abbrev Q : List r.Proc
  Q = map (opened_proc o) qs

  clause_if : (b : Bool) (a : Placed) (xs ys : List Placed) → xs ≡ ys → (if b then xs else a ∷ xs) ≡ (if b then ys else a ∷ ys)
  clause_if true a xs ys e = e
  clause_if false a xs ys e = ap (λ l. a ∷ l) e

  clauses_placed : (m : ℕ) (spot : ℕ → Spot) (call : Option Pos) (ks : List r.Clause) → placed_clauses m spot call (map (opened_clause o) ks) ≡ placed_clauses m spot call ks
  clauses_placed m spot call [] = refl
  clauses_placed m spot call (k ∷ ks) =
      clause_if k.is_free (placed_clause m spot call k) _ _ (clauses_placed m spot call ks)

  requires_placed : (m : ℕ) (spot : ℕ → Spot) (call : Option Pos) (q : Option r.Proc) → placed_clauses m spot call (requires_of (option_map (opened_proc o) q)) ≡ placed_clauses m spot call (requires_of q)
  requires_placed m spot call None = refl
  requires_placed m spot call (Some q) = clauses_placed m spot call q.requires_

  ensures_placed : (m : ℕ) (spot : ℕ → Spot) (call : Option Pos) (q : Option r.Proc) → placed_clauses m spot call (ensures_of (option_map (opened_proc o) q)) ≡ placed_clauses m spot call (ensures_of q)
  ensures_placed m spot call None = refl
  ensures_placed m spot call (Some q) = clauses_placed m spot call q.ensures_

  both : (xs ys zs ts : List Placed) → xs ≡ ys → zs ≡ ts → xs ++ zs ≡ ys ++ ts
  both xs ys zs ts h k = rw (h, k) refl

  mutual
    st_placed : (m : ℕ) (x : r.St) → placed_st Q m (opened_st o x) ≡ placed_st qs m x
    st_placed m (r.Label l) = refl
    st_placed m (r.Assert k) = clauses_placed m AtAssert None (k ∷ [])
    st_placed m (r.Assume e) = refl
    st_placed m (r.Havoc xs) = refl
    st_placed m (r.Assign p ts es) = refl
    st_placed m (r.Invoke k) =
        ap (λ q. placed_clauses m (AtCall k.site) (Some k.pos) (requires_of q)) (at_mapped (opened_proc o) qs k.procedure)
        ∙ requires_placed m (AtCall k.site) (Some k.pos) (slice_get qs k.procedure)
    st_placed m (r.If n arms otherwise) = both _ _ _ _ (arms_placed m arms) (sts_placed m otherwise)
    st_placed m (r.While n p g is body) =
        both _ _ _ _ (clauses_placed m AtEntry None is) (both _ _ _ _ (sts_placed m body) (clauses_placed m AfterTurn None is))
    st_placed m (r.Break n) = refl
    st_placed m (r.Goto ls) = refl
    st_placed m r.Return = refl

    sts_placed : (m : ℕ) (xs : r.Sts) → placed_sts Q m (opened_sts o xs) ≡ placed_sts qs m xs
    sts_placed m r.NoSt = refl
    sts_placed m (r.Then x xs) = both _ _ _ _ (st_placed m x) (sts_placed m xs)

    arms_placed : (m : ℕ) (arms : r.Arms) → placed_arms Q m (opened_arms o arms) ≡ placed_arms qs m arms
    arms_placed m r.NoArm = refl
    arms_placed m (r.Arm g body arms) = both _ _ _ _ (sts_placed m body) (arms_placed m arms)

  supposing_placed : (m : ℕ) (es : List r.Ex) (xs : r.Sts) → placed_sts Q m (supposing es xs) ≡ placed_sts Q m xs
  supposing_placed m [] xs = refl
  supposing_placed m (e ∷ es) xs = supposing_placed m es xs

  pub impl_placed : (axioms : List r.Ex) (m : ℕ) (i : r.Impl) → placed_impl Q m (opened_impl o axioms i) ≡ placed_impl qs m i
  impl_placed axioms m i =
      both _ _ _ _ (supposing_placed m (map o axioms) (opened_sts o i.body) ∙ sts_placed m i.body) (ap (λ q. placed_clauses m (AtReturn m) None (ensures_of q)) (at_mapped (opened_proc o) qs i.procedure) ∙ ensures_placed m (AtReturn m) None (slice_get qs i.procedure))
