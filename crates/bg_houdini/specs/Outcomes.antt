-- When the outcome of an inference is true of a program.
use Rattle.std.specs.Prelude.{◌≡◌, ℕ, Bool, true, Option, Some, length, slice_get}
use Rattle.std.specs.List.{list_all}
use Rattle.bg_ast.specs.Resolved as r
use Rattle.bg_ast.specs.Meaning.{meaning_of}
use Rattle.bg_ast.specs.Execution.{Interp}
use Rattle.bg_sense.specs.Interps.{Meets}
use Rattle.bg_words.specs.Sets.{has}
use Rattle.bg_tree.specs.declared.outcome.Budget.{Budget}
use Rattle.bg_rounds.specs.Outcomes.{TrueOutcome}
use Rattle.bg_check.specs.Verdicts.{AreRightUnder, have_all, judged}
use Rattle.bg_check.specs.declared.proof.Proof.{Proof}
use Rattle.bg_rounds.specs.declared.checker.Kept.{Kept}
use Rattle.bg_houdini.specs.declared.outcome.Outcome.{Outcome}
use Rattle.bg_houdini.specs.Tasks.{tasks_of, candidate_of}
use Rattle.bg_houdini.specs.Checks.{TaskPasses, TaskFinds}

-- the outcome keeps this certificate behind lines for some task
abbrev pub IsKept : Outcome → Proof → Type 0
IsKept o proof = (k : ℕ) × (kept : Kept (Option Proof)) × (slice_get o.inferred.kept.items k ≡ Some (Some kept)) × (kept.proof ≡ Some proof)

-- The axioms are consistent. The history is ordered, and each of its entries has a failure or a cause for its snapshot; retained are the
-- candidates without an entry, and each place of one of them has a certificate that uses retained candidates alone. Each ordinary place
-- has one verdict, right under what is retained. Where certificates and causes are kept they are there
pub record IsTrueOutcome (keeps : Bool) (budget : Budget) (p : r.Program) (o : Outcome) : Type 0 where
  pub interp : Interp
  pub axioms : Meets (meaning_of p) interp
  pub inferred : TrueOutcome (meaning_of p).candidates (length (tasks_of (meaning_of p))) (candidate_of (meaning_of p)) (TaskPasses keeps (meaning_of p)) (TaskFinds budget (meaning_of p)) o.inferred
  pub ordinary : AreRightUnder (has o.inferred.retained) budget p (judged o.verdicts.items)
  pub shown : keeps ≡ true → list_all have_all (judged o.verdicts.items) ≡ true
