-- Bounds without a reason.
use Rattle.std.proofs.Common.{◌≡◌, ℕ, zero, suc, Bool, true, false, List, [], ◌∷◌, ◌++◌, ℤ, pos, map, refl, subst}
use Rattle.std.specs.Prelude.{Some, None}
use Rattle.bg_base.specs.declared.exact.Op.TheVariants.{Plus}
use Rattle.bg_base.specs.Exact.{gcd_of}
use Rattle.bg_rows.specs.Rows.{RowOf, row_of}
use Rattle.bg_rows.specs.Steps.{row_at}
use Rattle.bg_elim.specs.declared.order.Order.{Order}
use Rattle.bg_elim.specs.declared.order.Further.{Further}
use Rattle.bg_elim.specs.declared.order.Reason.{Reason}
use Rattle.bg_elim.specs.declared.order.Reason.TheVariants.{Given, Tightened, Eliminated}
use Rattle.bg_elim.specs.Kept.{made_rows, FillBudget, LeavesRange}
use Rattle.bg_point.specs.Points.{value_of, keeps_above}
use Rattle.bg_formula.specs.Atoms.{AtomOf, IsTruth, IsRow, at}
use Rattle.bg_formula.specs.Formulas.{Formula}
use Rattle.bg_cert.specs.declared.cert.Decision.{Decision}
use Rattle.bg_cert.specs.declared.cert.Decision.TheVariants.{Atom, AtMost}
use Rattle.bg_cert.specs.Certs.{root}
use Rattle.bg_cert.specs.Paths.{row_of_atom, rows_on}
use Rattle.bg_cert.specs.Causes.{has_bound}
use Rattle.bg_cert.specs.Walks.{path_of}
use Rattle.bg_pick.specs.Picks.{IsComplete}
use Rattle.bg_tree.specs.declared.part.Kept.{Kept}
use Rattle.bg_tree.specs.declared.outcome.Beyond.TheVariants.{Elimination}
use Rattle.bg_tree.specs.Gaps.{KeepsGap}
use Rattle.bg_tree.specs.Ways.{IsWay}
use Rattle.bg_tree.specs.Ends.{IsBeyond}
use Rattle.bg_tree.specs.Wide.{AreTruths, refutable, all, least, wide_path, IsWide, long_path, IsLong}

-- ---- without rows there is no gap

made_none : (order : List ℕ) (reasons : List Reason) (rows : List RowOf) → made_rows [] order [] reasons ≡ Some rows → rows ≡ []
made_none order [] rows e = cc
made_none order (Given j ∷ rs) rows e = absurd (let bad : ⊥ = cc in bad)
made_none order (Tightened i ∷ rs) rows e = absurd (let bad : ⊥ = cc in bad)
made_none order (Eliminated i j x ∷ rs) rows e = absurd (let bad : ⊥ = cc in bad)

keeps_none : (order : List ℕ) (v : ℕ → ℤ) (x low : ℕ) (k : ℤ) (rows : List RowOf) → rows ≡ [] → keeps_above order v x k (row_at rows low) ≡ true → ⊥
keeps_none order v x low k rows e h = let g = rw e at h in cc

no_gap : (targets : ℕ → ℤ) (k : Kept) → KeepsGap targets [] k → ⊥
no_gap targets k g =
    keeps_none
    k.order.variables.items
    (value_of k.spots.items)
    k.gap.variable
    k.gap.low
    k.gap.below
    (map row_of k.order.rows.items)
    (made_none k.order.variables.items k.order.reasons.items (map row_of k.order.rows.items) g.solved.made)
    g.gap.above

-- ---- paths over truth variables

no_row : (xs : List AtomOf) (a : ℕ) (s : Bool) → AreTruths xs → row_of_atom (at xs a) s ≡ None
no_row [] a s h = refl
no_row (IsTruth x ∷ xs) zero s h = refl
no_row (IsTruth x ∷ xs) (suc a) s h = no_row xs a s h
no_row (IsRow r d ∷ xs) a s h = absurd h

no_more : (xs : List AtomOf) (ds : List Decision) (a : ℕ) (s : Bool) → AreTruths xs → rows_on xs ds ≡ [] → rows_on xs (ds ++ (Atom a s ∷ [])) ≡ []
no_more xs [] a s h e = rw (no_row xs a s h) refl
no_more xs (Atom b t ∷ ds) a s h e =
    let n = no_row xs b t h in
    let f = rw n at e in
    rw n (no_more xs ds a s h f)
no_more xs (AtMost x k true ∷ ds) a s h e = absurd (let bad : ⊥ = cc in bad)
no_more xs (AtMost x k false ∷ ds) a s h e = absurd (let bad : ⊥ = cc in bad)

no_bounds : (targets : ℕ → ℤ) (f : Formula) (set : ℕ → Bool) (bs ds : List Decision) → AreTruths f.atoms → rows_on f.atoms bs ≡ [] → IsWay targets f set (path_of f bs) ds → (x : ℕ) (k : ℤ) → has_bound x k ds ≡ false
no_bounds targets f set bs [] h e w x k = refl
no_bounds targets f set bs (Atom a s ∷ ds) h e w x k =
    no_bounds targets f set (bs ++ (Atom a s ∷ [])) ds h (no_more f.atoms bs a s h e) w.1 x k
no_bounds targets f set bs (AtMost y j s ∷ ds) h e w x k =
    absurd (no_gap targets w.0.kept (subst (λ (given : List RowOf). KeepsGap targets given w.0.kept) e w.0.bound.gap))

pub ways_plain : (targets : ℕ → ℤ) (f : Formula) (set : ℕ → Bool) (ds : List Decision) → AreTruths f.atoms → IsWay targets f set (root f) ds → (x : ℕ) (k : ℤ) → has_bound x k ds ≡ false
ways_plain targets f set ds h w x k = no_bounds targets f set [] ds h refl w x k

-- ---- what once would do

wide_complete : IsComplete refutable all wide_path
wide_complete = record { fine = refl; decided = refl }

wide_leaves : LeavesRange (rows_on refutable.atoms wide_path) (0 ∷ []) (Given 0 ∷ Given 1 ∷ []) 0 1 0 (record { op = Plus; a = least; b = least })
unfolding gcd_of
wide_leaves = (refl, (refl, refl))

wide_beyond : (targets : ℕ → ℤ) (o : Order) (f : Further) → IsWide o f → IsBeyond targets (rows_on refutable.atoms wide_path) (Elimination o f)
wide_beyond targets o f w = rw (w.variables, w.reasons, w.first, w.second, w.variable, w.operation) wide_leaves

wide_no_way : (targets : ℕ → ℤ) → IsWay targets refutable all (root refutable) wide_path → ⊥
wide_no_way targets w = let n = ways_plain targets refutable all wide_path tt w 0 least in cc

pub wide_range : (targets : ℕ → ℤ) (o : Order) (f : Further) → IsWide o f → IsComplete refutable all wide_path × IsBeyond targets (rows_on refutable.atoms wide_path) (Elimination o f) × (IsWay targets refutable all (root refutable) wide_path → ⊥)
wide_range targets o f w = (wide_complete, wide_beyond targets o f w, wide_no_way targets)

long_complete : IsComplete refutable all long_path
long_complete = record { fine = refl; decided = refl }

long_no_way : (targets : ℕ → ℤ) → IsWay targets refutable all (root refutable) long_path → ⊥
long_no_way targets w = let n = ways_plain targets refutable all long_path tt w 0 (pos 0) in cc

pub long_rows : (targets : ℕ → ℤ) (o : Order) → IsLong o → IsComplete refutable all long_path × FillBudget (rows_on refutable.atoms long_path) 3 o.variables.items o.reasons.items × (IsWay targets refutable all (root refutable) long_path → ⊥)
long_rows targets o w = (long_complete, rw w refl, long_no_way targets)
