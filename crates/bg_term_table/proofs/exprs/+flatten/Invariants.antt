use Rattle.std.proofs.Common.{List, ◌≡◌, ◌+◌, ◌-◌, ◌≤◌, length, take, drop}
use Rattle.std.specs.Prelude.{reverse}
use Rattle.bg_ast.specs.Syntax.{Ex, Fun}
use Rattle.bg_terms.specs.Terms.{Term}
use Rattle.bg_term_table.specs.Views.{meaning, meanings, operands, signs, terms_in, incs_of, GiveThese}
use Rattle.bg_term_table.specs.Brackets.{all_bracketed}
use Rattle.bg_term_table.specs.Until.{until_implies}
use Rattle.bg_term_table.specs.Made.{IsMade, AreMade, AreTurned}
use Rattle.bg_term_table.proofs.Steps.{Linking}
use Rattle.bg_term_table.proofs.exprs.+flatten.Given as goal

abbrev pub invariant-exprs-loop-e : goal.invariant-exprs-loop-e
invariant-exprs-loop-e l =
    (fs : List Fun) → GiveThese fs l.around → AreMade fs (incs_of l.around) (meanings (take l.e-index l.es)) (terms_in fs l.fn.terms.terms.items) (meanings l.made.items) (terms_in fs l.terms.terms.items)

abbrev pub invariant-links_behind-loop-i : goal.invariant-links_behind-loop-i
invariant-links_behind-loop-i l =
    ((fs : List Fun) → GiveThese fs l.around → Linking fs (incs_of l.around) l.links (drop l.i l.links) (reverse (meanings l.fn.before.items)) (terms_in fs l.fn.terms.terms.items) (operands l.made.items) (reverse (meanings l.before.items)) (terms_in fs l.terms.terms.items))
    × (signs l.made.items ≡ signs (take l.i l.links))

abbrev pub invariant-turned-loop-i : goal.invariant-turned-loop-i
invariant-turned-loop-i l =
    (l.from ≤ l.i)
    × (l.i ≤ l.from + until_implies (drop l.from l.links))
    × (l.i ≤ length l.links)
    × ((fs : List Fun) → GiveThese fs l.around → AreTurned fs (incs_of l.around) (drop l.i l.links) (terms_in fs l.fn.terms.terms.items) (reverse (meanings l.made.items)) (terms_in fs l.terms.terms.items))

abbrev pub invariant-brackets-loop-b : goal.invariant-brackets-loop-b
invariant-brackets-loop-b l =
    (fs : List Fun) → GiveThese fs l.around → (e : Ex) (before : List Term) → IsMade fs (incs_of l.around) e before (meaning l.fn.first) (terms_in fs l.fn.terms.terms.items) → IsMade fs (incs_of l.around) (all_bracketed e (take l.b-index l.bs)) before (meaning l.made) (terms_in fs l.terms.terms.items)

abbrev pub decreases-turned-loop-i : goal.decreases-turned-loop-i
decreases-turned-loop-i l = l.i

abbrev pub decreases-links_behind-loop-i : goal.decreases-links_behind-loop-i
decreases-links_behind-loop-i l = length l.links - l.i
