-- Where the search for a place stands after some rounds.
use Rattle.std.specs.Prelude.{◌≡◌, ℕ, ◌+◌, Bool, [], ◌∷◌, ◌++◌, length}
use Rattle.bg_ast.specs.Resolved as r
use Rattle.bg_ast.specs.Meaning.{meaning_of}
use Rattle.bg_ast.specs.Execution.{Place}
use Rattle.bg_tree.specs.declared.outcome.Budget.{Budget}
use Rattle.bg_term_table.specs.Lines.{lines_of}
use Rattle.bg_task.specs.Lines.{AreThere}
use Rattle.bg_task.specs.declared.prepared.Prepared.{Prepared}
use Rattle.bg_check.specs.declared.verdict.Round.{Round}
use Rattle.bg_check.specs.declared.rounds.Stand.{Stand}
use Rattle.bg_check.specs.Rounds.{brought, AreRounds}

-- these are rounds, and their lines, which name what is there; each round took one of the budget's nodes
pub record StandsAt (p : r.Program) (set : ℕ → Bool) (t : Place) (w : Prepared) (budget : Budget) (s : Stand) : Type 0 where
  pub rounds : AreRounds (meaning_of p) set t [] s.rounds.items
  pub lines : lines_of s.lines.items ≡ brought s.rounds.items
  pub there : AreThere p t.implementation w (lines_of s.lines.items)
  pub left : s.left + length s.rounds.items ≡ budget.nodes

-- one more round, and its lines; it took a node
pub record IsMore (old : Stand) (r : Round) (new : Stand) : Type 0 where
  pub rounds : new.rounds.items ≡ old.rounds.items ++ (r ∷ [])
  pub lines : new.lines.items ≡ old.lines.items ++ r.lines.items
  pub left : new.left + 1 ≡ old.left
