-- The clauses of a place that is asked.
use Rattle.std.proofs.Common.{◌≡◌, ℕ, ◌+◌, ℤ, pos, Bool, true, false, List, length, map, replicate, Result, Ok, Err, ap, ◌∙◌, arith}
use Rattle.std.specs.Prelude.{IfOk, slice_get, unwrap_or}
use Rattle.std.specs.declared.alloc.AllocError.{AllocError}
use Rattle.bg_ast.specs.Resolved as r
use Rattle.bg_ast.specs.Meaning.{meaning_of}
use Rattle.bg_ast.specs.Syntax as s
use Rattle.bg_ast.specs.Execution.{Place}
use Rattle.bg_sense.specs.Typed.{IsTyped}
use Rattle.bg_formula.specs.Formulas.{Formula}
use Rattle.bg_cert.specs.declared.cert.Decision.{Decision}
use Rattle.bg_point.specs.declared.spot.Spot as spots
use Rattle.bg_point.specs.Points.{target_of}
use Rattle.bg_tree.specs.declared.outcome.Budget.{Budget}
use Rattle.bg_tree.specs.declared.outcome.Leaf.{Leaf}
use Rattle.bg_fits.specs.Valued.{is_over_values}
use Rattle.bg_block_types.specs.Typed.{incarnations_in}
use Rattle.bg_forms.specs.Worth.{bools_at}
use Rattle.bg_linear.specs.declared.scalar.Sort.{Sort}
use Rattle.bg_atoms.specs.Ranks.{rank}
use Rattle.bg_numbered.specs.Lines.{Line}
use Rattle.bg_term_table.specs.Views as table
use Rattle.bg_term_table.specs.Views.{GiveThese, incs_of}
use Rattle.bg_term_table.specs.declared.around.Around.{Around}
use Rattle.bg_term_table.specs.declared.table.Term as code
use Rattle.bg_scalar.specs.Values.{val_of}
use Rattle.bg_scalar.specs.declared.scalar.Scalar.{Scalar}
use Rattle.bg_finish.specs.Finished.{IsScalarLeaf, IsFinish}
use Rattle.bg_finish.specs.declared.kind.Finish.{Finish}
use Rattle.bg_termed.specs.Lined.{lined_terms, lined_sorts}
use Rattle.bg_task.specs.Lined.{HasLined}
use Rattle.bg_task.specs.Prepared.{IsPrepared}
use Rattle.bg_task.specs.declared.lining.Lined.{Lined}
use Rattle.bg_task.specs.declared.prepared.Prepared.{Prepared}
use Rattle.bg_task.proofs.LawTypes.{TabledLaw}
use Rattle.bg_task.proofs.Prepares.{impl, proc}
use Rattle.bg_check.specs.Leaves.{marked, leaf_number, numbered, unnamed, scalars_from}
use Rattle.bg_check.specs.LeafRuns.{leaf_bools, targets_for, numbers_in}
use Rattle.bg_check.specs.declared.found.Found.{Found}
use Rattle.bg_check.specs.Found.{IsFound}
use Rattle.bg_check.proofs.LawTypes.{ResultLaw, IncarnationLaw, TermLaw, LinedLaw, StandInLaw}
use Rattle.bg_check.proofs.Leaves.{number_at, scalars_are}
use Rattle.bg_check.proofs.Finishing.{finish_at}

-- what holds for each budget holds for this one
pub at_left : (left : Budget) (p : s.Prog) (set : ℕ → Bool) (t : Place) (es : List Line) (o : Result Found AllocError) → IfOk o (λ v. (n : Budget) → IsFound n p set t es v) → IfOk o (λ v. IsFound left p set t es v)
at_left left p set t es (Ok v) h = h left
at_left left p set t es (Err e) h = h

-- ---- what a leaf comes to

module _ (p : r.Program) (n : ℕ) (w : Prepared) (h : IsPrepared p n w) (ls : List Line) (f : Formula) (leaf : Leaf) where
  abbrev P : s.Prog
  P = meaning_of p

  abbrev M : s.Impl
  M = impl p n w h

  abbrev Q : s.Proc
  Q = proc p n w h

  abbrev T : ℕ → Bool
  T = bools_at (leaf_bools f leaf)

  abbrev S : List Sort
  S = lined_sorts P n M Q ls

  abbrev G : ℕ → ℤ
  G = targets_for P n M Q

  abbrev X : List ℤ
  X = unnamed G f.atoms 0 (length S)

  scalars_there : map val_of (scalars_from (leaf_bools f leaf) (numbered leaf.spots.items X) 0 0 S) ≡ numbers_in P n M Q ls f leaf
  scalars_there =
      scalars_are (leaf_bools f leaf) (numbered leaf.spots.items X) (leaf_number G f.atoms leaf.spots.items) (λ j. T (rank S j)) 0 0 S
      (λ i l. ap (λ k. unwrap_or (slice_get (numbered leaf.spots.items X) k) (pos 0)) (zero_plus i) ∙ number_at G f.atoms leaf.spots.items (length S) i l)
      (λ i l. ap T (zero_plus (rank S i)))
    where
      zero_plus : (i : ℕ) → 0 + i ≡ i
      zero_plus i = omega arith

  -- the scalars that are made
  pub scalars_made : (ss : List Sort) (ts : List Bool) (sp : List spots.Spot) (gs : List ℤ) → ss ≡ S → ts ≡ leaf_bools f leaf → sp ≡ leaf.spots.items → gs ≡ w.targets.items → map val_of (scalars_from ts (numbered sp (unnamed (target_of gs) f.atoms 0 (length ss))) 0 0 ss) ≡ numbers_in P n M Q ls f leaf
  scalars_made ss ts sp gs a b c d =
      ap (λ x. map val_of (scalars_from ts (numbered sp (unnamed (target_of gs) f.atoms 0 (length x))) 0 0 x)) a
      ∙ (ap (λ x. map val_of (scalars_from x (numbered sp (unnamed (target_of gs) f.atoms 0 (length S))) 0 0 S)) b
      ∙ (ap (λ x. map val_of (scalars_from (leaf_bools f leaf) (numbered x (unnamed (target_of gs) f.atoms 0 (length S))) 0 0 S)) c
      ∙ (ap (λ x. map val_of (scalars_from (leaf_bools f leaf) (numbered leaf.spots.items (unnamed (target_of x) f.atoms 0 (length S))) 0 0 S)) (d ∙ h.targets) ∙ scalars_there)))

  -- what the leaf comes to
  pub finish_here : TabledLaw → ResultLaw → IncarnationLaw → TermLaw → LinedLaw → StandInLaw → IsTyped P → is_over_values P ≡ true → (x : Lined) → HasLined p n h.implementation h.procedure ls x → (a : Around) → a.incarnations.now ≡ x.incarnations.now → a.results.now ≡ x.results.items → (ts : List code.Term) → ts ≡ x.terms.items → (vs : List Scalar) → map val_of vs ≡ numbers_in P n M Q ls f leaf → (made : Finish) → ((fs : List s.Fun) → GiveThese fs a → IsScalarLeaf fs (incs_of a) (table.terms_in fs ts) (map val_of vs) → IsFinish fs (incs_of a) (table.terms_in fs ts) (map val_of vs) made) → IsFinish P.functions (incarnations_in P n M Q) (lined_terms P n M Q ls) (numbers_in P n M Q ls f leaf) made
  finish_here tabled results incarnations terms lined stand_ins t o x has a ea er ts et vs ev made told =
      finish_at p n w h ls (leaf_number G f.atoms leaf.spots.items) (λ j. T (rank S j)) tabled results incarnations terms lined stand_ins t o x has a ea er ts et vs ev made told

-- the truth values that are made
pub truths_from : (f : Formula) (leaf : Leaf) (ds : List Decision) (k : ℕ) → ds ≡ leaf.path.items → k ≡ length f.atoms → marked ds (replicate k false) ≡ leaf_bools f leaf
truths_from f leaf ds k a b = ap (λ x. marked x (replicate k false)) a ∙ ap (λ x. marked leaf.path.items (replicate x false)) b
