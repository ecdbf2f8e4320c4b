-- Rounds of lines: at each complete leaf of a place's clauses that isn't finished lines come in that are wanted there.
use Rattle.std.specs.Prelude.{ℕ, Bool, List, [], ◌∷◌, ◌++◌}
use Rattle.bg_ast.specs.Syntax.{Prog}
use Rattle.bg_ast.specs.Execution.{Place}
use Rattle.bg_block_types.specs.Typed.{incarnations_in}
use Rattle.bg_formula.specs.Formulas.{Formula}
use Rattle.bg_tree.specs.Ends.{IsLeaf}
use Rattle.bg_numbered.specs.Lines.{Line}
use Rattle.bg_term_table.specs.Lines.{lines_of}
use Rattle.bg_wanted.specs.Wanting.{IsWanting}
use Rattle.bg_termed.specs.Lined.{lined_terms}
use Rattle.bg_task.specs.Cuts.{HasOwnClauses}
use Rattle.bg_check.specs.declared.verdict.Round.{Round}
use Rattle.bg_check.specs.LeafRuns.{targets_for, numbers_in}

-- a complete leaf of the place's clauses behind these lines, under a set of candidates, which isn't finished, and what comes in there: lines
-- that are wanted at the leaf
pub record IsRound (p : Prog) (set : ℕ → Bool) (t : Place) (ls : List Line) (r : Round) : Type 0 where
  pub formula : Formula
  pub is : HasOwnClauses p t ls formula
  pub is_leaf : IsLeaf (targets_for p t.implementation is.clauses.implementation is.clauses.procedure) formula set r.leaf
  pub wanting : IsWanting (incarnations_in p t.implementation is.clauses.implementation is.clauses.procedure) (lined_terms p t.implementation is.clauses.implementation is.clauses.procedure ls) (numbers_in p t.implementation is.clauses.implementation is.clauses.procedure ls formula r.leaf) (lines_of r.lines.items)

-- the lines of rounds, in the order in which they came in
abbrev pub brought : List Round → List Line
brought [] = []
brought (r ∷ rs) = lines_of r.lines.items ++ brought rs

-- rounds, one after the other, where these lines stand there before: each over the clauses behind all that came in before it
abbrev pub AreRounds : Prog → (ℕ → Bool) → Place → List Line → List Round → Type 0
AreRounds p set t before [] = Unit {0}
AreRounds p set t before (r ∷ rs) =
    IsRound p set t before r × AreRounds p set t (before ++ lines_of r.lines.items) rs
