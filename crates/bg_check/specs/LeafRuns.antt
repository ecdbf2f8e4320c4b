-- The run that a complete leaf gives.
use Rattle.std.specs.Prelude.{◌≡◌, ℕ, ℤ, Bool, false, List, length, map, take, replicate}
use Rattle.bg_ast.specs.Values.{Val, Table}
use Rattle.bg_ast.specs.Syntax.{Proc, Impl, Prog}
use Rattle.bg_ast.specs.Execution.{Place}
use Rattle.bg_flow.specs.Core.{frame_decls}
use Rattle.bg_passive.specs.Incarnations.{first_state}
use Rattle.bg_block_types.specs.Typed.{blocks_in, arrivals_in}
use Rattle.bg_incarnate.specs.Walked.{next_in}
use Rattle.bg_formula.specs.Formulas.{Formula}
use Rattle.bg_point.specs.Points.{target_of}
use Rattle.bg_tree.specs.declared.outcome.Leaf.{Leaf}
use Rattle.bg_tree.specs.Ends.{IsLeaf}
use Rattle.bg_forms.specs.Worth.{bools_at}
use Rattle.bg_formed.specs.Formed.{FormBlock}
use Rattle.bg_linear.specs.declared.scalar.Sort.{Sort}
use Rattle.bg_linear.specs.Sorts.{scalar_values}
use Rattle.bg_atoms.specs.Ranks.{rank}
use Rattle.bg_scalar.specs.Choices.{choice_of, state_of}
use Rattle.bg_scalar.specs.Views as view
use Rattle.bg_terms.specs.Closed.{IsFinished}
use Rattle.bg_numbered.specs.Lines.{Line, instances_in}
use Rattle.bg_finish.specs.Finished.{AreReadOff}
use Rattle.bg_termed.specs.Lined.{lined_terms, lined_types, lined_sorts, lined_built}
use Rattle.bg_termed.specs.Termed.{count_in}
use Rattle.bg_model.specs.Behind.{behind_front}
use Rattle.bg_model.specs.Over.{walk_over}
use Rattle.bg_model.specs.Turns.{turns, taken}
use Rattle.bg_model.specs.Interps.{interp_of}
use Rattle.bg_model.specs.declared.failure.Counterexample.{Counterexample}
use Rattle.bg_check.specs.Leaves.{marked, leaf_number}
use Rattle.bg_task.specs.Cuts.{HasOwnClauses}
use Rattle.bg_task.specs.Targets.{targets_in}

-- the truth values that a leaf's path gives the atoms
abbrev pub leaf_bools : Formula → Leaf → List Bool
leaf_bools f leaf = marked leaf.path.items (replicate (length f.atoms) false)

-- the targets of the incarnations and terms of an implementation, by their numbers
abbrev pub targets_for : Prog → ℕ → Impl → Proc → ℕ → ℤ
targets_for p k m q = target_of (targets_in p k m q)

-- what stands for the values of incarnations and terms, of these sorts: a truth value is worth what its atom is, a number what the near
-- point says, or, where no row names it, its target
abbrev pub leaf_vals : (ℕ → ℤ) → Formula → Leaf → List Sort → List Val
leaf_vals targets f leaf sorts =
    scalar_values (leaf_number targets f.atoms leaf.spots.items) (λ j. bools_at (leaf_bools f leaf) (rank sorts j)) sorts

-- that of the incarnations and terms of an implementation, and of the terms that lines bring
abbrev pub numbers_in : Prog → ℕ → Impl → Proc → List Line → Formula → Leaf → List Val
numbers_in p k m q ls f leaf = leaf_vals (targets_for p k m q) f leaf (lined_sorts p k m q ls)

-- the values that are built for it, and those of the incarnations alone
abbrev pub vals_in : Prog → ℕ → Impl → Proc → List Line → Formula → Leaf → List Val
vals_in p k m q ls f leaf = lined_built p k m q ls (numbers_in p k m q ls f leaf)

abbrev pub incarnation_vals : Prog → ℕ → Impl → Proc → List Line → Formula → Leaf → List Val
incarnation_vals p k m q ls f leaf = take (count_in p k m q) (vals_in p k m q ls f leaf)

-- the leaf is finished, these values are built for it, and these tables are read off them
pub record IsBuilt (p : Prog) (k : ℕ) (m : Impl) (q : Proc) (ls : List Line) (f : Formula) (leaf : Leaf) (values : List Val) (tables : List Table) : Type 0 where
  pub finished : IsFinished (numbers_in p k m q ls f leaf) (count_in p k m q) (lined_terms p k m q ls) (lined_types p k m q ls)
  pub built : values ≡ vals_in p k m q ls f leaf
  pub read_off : AreReadOff p.functions (count_in p k m q) (lined_terms p k m q ls) values tables

-- the run begins with the leaf's values, goes along the lowest edges from which some walk fails under the leaf's truth values, and chooses
-- the leaf's values there
pub record IsRunOf (p : Prog) (set : ℕ → Bool) (t : Place) (m : Impl) (q : Proc) (ls : List Line) (f : Formula) (forms : List FormBlock) (leaf : Leaf) (cex : Counterexample) : Type 0 where
  pub state : state_of (view.vals_in cex.globals.items) (view.vals_in cex.frame.items) ≡ first_state p (frame_decls m q) (incarnation_vals p t.implementation m q ls f leaf)
  pub choices : map choice_of cex.choices.items ≡ taken (walk_over set t.spot (bools_at (leaf_bools f leaf))) (incarnation_vals p t.implementation m q ls f leaf) (blocks_in p t.implementation m q) forms (map next_in (arrivals_in p t.implementation m q).arrivals) (turns (walk_over set t.spot (bools_at (leaf_bools f leaf))) forms) 0

-- the counterexample is the run of a complete leaf of the place's clauses behind these lines, which is finished, and its tables are read
-- off the values that are built for the leaf
pub record HasLeaf (p : Prog) (set : ℕ → Bool) (t : Place) (ls : List Line) (cex : Counterexample) : Type 0 where
  pub formula : Formula
  pub is : HasOwnClauses p t ls formula
  pub leaf : Leaf
  pub is_leaf : IsLeaf (targets_for p t.implementation is.clauses.implementation is.clauses.procedure) formula set leaf
  pub finished : IsFinished (numbers_in p t.implementation is.clauses.implementation is.clauses.procedure ls formula leaf) (count_in p t.implementation is.clauses.implementation is.clauses.procedure) (lined_terms p t.implementation is.clauses.implementation is.clauses.procedure ls) (lined_types p t.implementation is.clauses.implementation is.clauses.procedure ls)
  pub read_off : AreReadOff p.functions (count_in p t.implementation is.clauses.implementation is.clauses.procedure) (lined_terms p t.implementation is.clauses.implementation is.clauses.procedure ls) (vals_in p t.implementation is.clauses.implementation is.clauses.procedure ls formula leaf) (interp_of cex).tables
  pub run : IsRunOf p set t is.clauses.implementation is.clauses.procedure ls formula (behind_front (length (instances_in ls)) is.clauses.encoding.blocks) leaf cex
