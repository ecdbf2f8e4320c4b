use Rattle.std.proofs.Common.{◌≡◌, ℕ, zero, suc, List, [], ◌∷◌, ◌++◌, Option, Some, None, length, length-append, slice_get, sym, ap, subst, arith}
use Rattle.bg_rounds.specs.declared.checker.Kept.{Kept}
use Rattle.bg_rounds.proofs.opening.empty_shelf.Goals as goal

-- no value is added by one more empty place
none_more : {A : Type 0} (xs : List (Option A)) → ((t : ℕ) (k : A) → slice_get xs t ≡ Some (Some k) → ⊥) → (t : ℕ) (k : A) → slice_get (xs ++ None ∷ []) t ≡ Some (Some k) → ⊥
none_more [] h zero k e = let bad : Some None ≡ Some (Some k) = e in cc
none_more [] h (suc t) k e = let bad : None ≡ Some (Some k) = e in cc
none_more (x ∷ xs) h zero k e = h zero k e
none_more (x ∷ xs) h (suc t) k e = none_more xs (λ u l at. h (suc u) l at) t k e

pub loop-preserved : goal.loop-preserved
loop-preserved g c =
    let is = c.in_ok-push.ensures.items in
    let known = c.loop.invariant.count in
    record {
      count = omega (arith, known, simp length-append at (ap length is));
      empty = subst (λ (xs : List (Option (Kept g.row.P.Denot))). (t : ℕ) (k : Kept g.row.P.Denot) → slice_get xs t ≡ Some (Some k) → ⊥) (sym is) (none_more c.loop.kept.items c.loop.invariant.empty);
    }

pub returns-clause-empty : goal.returns-clause-empty
returns-clause-empty g c = c.loop.invariant.empty
