-- An outcome as what a report tells.
use Rattle.std.specs.Prelude.{ℕ}
use Rattle.bg_ast.specs.Syntax.{Prog}
use Rattle.bg_sound.specs.Told as t
use Rattle.bg_check.specs.declared.verdict.Cause.{Cause}
use Rattle.bg_check.specs.Outcomes.{verdict_of}
use Rattle.bg_houdini.specs.Told as houdini
use Rattle.bg_carried.specs.Carried.{carried, axioms_by}
use Rattle.bg_inference.specs.declared.outcome.Outcome.{Outcome}

-- the word on the axioms by the verdict on their own program; the constants' values and the tables in a counterexample are an
-- interpretation
abbrev pub outcome_of : (ℕ → Cause → t.Why) → Prog → Outcome → t.Outcome
outcome_of words p o = carried p (axioms_by (verdict_of words o.axioms)) (houdini.outcome_of words p o.judged)
