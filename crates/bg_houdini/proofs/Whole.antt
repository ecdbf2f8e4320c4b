-- An outcome is true of the program of its checker.
use Rattle.std.proofs.Common.{◌≡◌, length, subst}
use Rattle.bg_ast.specs.declared.resolved.Resolved.{Resolved}
use Rattle.bg_ast.specs.Views.{program_of}
use Rattle.bg_ast.specs.Execution.{Interp}
use Rattle.bg_sense.specs.Interps.{Meets}
use Rattle.bg_words.specs.Sets.{has}
use Rattle.bg_check.specs.declared.effort.Effort.{Effort}
use Rattle.bg_rounds.specs.Outcomes.{TrueOutcome}
use Rattle.bg_check.specs.Verdicts.{judged}
use Rattle.bg_houdini.specs.declared.judging.Judging.{Judging}
use Rattle.bg_houdini.specs.declared.outcome.Outcome.{Outcome}
use Rattle.bg_houdini.specs.Tasks.{tasks_of, candidate_of}
use Rattle.bg_houdini.specs.Checks.{TaskPasses, TaskFinds}
use Rattle.bg_houdini.specs.Checkers.{program_in, meaning_in}
use Rattle.bg_houdini.specs.Known.{AreKnownUnder}
use Rattle.bg_houdini.specs.Outcomes.{IsTrueOutcome}

pub true_outcome : (effort : Effort) (p : Resolved) (j : Judging) (o : Outcome) → j.program.now ≡ p → j.effort ≡ effort → (i : Interp) → Meets (meaning_in j) i
    → TrueOutcome (meaning_in j).candidates (length (tasks_of (meaning_in j))) (candidate_of (meaning_in j)) (TaskPasses j.effort.keeps (meaning_in j)) (TaskFinds j.effort.budget (meaning_in j)) o.inferred
    → AreKnownUnder (has o.inferred.retained) j.effort (program_in j) (judged o.verdicts.items) → IsTrueOutcome effort.keeps effort.budget (program_of p) o
true_outcome effort p j o program same i meets inferred ordinary =
    subst (λ (e : Effort). IsTrueOutcome e.keeps e.budget (program_of p) o) same
    (subst (λ (q : Resolved). IsTrueOutcome j.effort.keeps j.effort.budget (program_of q) o) program
    (record { interp = i; axioms = meets; inferred = inferred; ordinary = ordinary.right; shown = ordinary.whole }))
