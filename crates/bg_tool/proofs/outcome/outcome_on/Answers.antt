use Rattle.std.proofs.Common.{Bool, subst}
use Rattle.bg_ast.specs.Views.{program_of}
use Rattle.bg_check.specs.Kept.{why_of}
use Rattle.bg_inference.specs.Outcomes.{IsTrueOutcome}
use Rattle.bg_tool.specs.Answers.{keeps_for}
use Rattle.bg_tool.proofs.outcome.outcome_on.Goals as goal

pub infer-requires-clause-openable : goal.infer-requires-clause-openable
infer-requires-clause-openable g c κs within =
    c.judged_programs_are_openable.ensures c.args.how.now.asked.guess c.args.bytes.now (program_of c.in_ok-typed.typed.program) c.in_ok-typed.ensures.program

pub returns-in-Ok-clause-outcome : goal.returns-in-Ok-clause-outcome
returns-in-Ok-clause-outcome g c =
    let p = program_of c.in_ok-typed.typed.program in
    let asked = c.args.how.now.asked in
    let right : IsTrueOutcome (keeps_for asked.job) asked.budget p c.in-Ok.outcome =
    subst (λ (b : Bool). IsTrueOutcome b asked.budget p c.in-Ok.outcome) c.keeps_for.ensures c.in-Ok.ensures in
    record {
      program = p;
      spelled = c.in_ok-typed.ensures.program;
      right = right;
      sound = c.true_outcomes_are_sound.ensures (keeps_for asked.job) asked.budget p c.in-Ok.outcome why_of (c.judged_programs_are_openable.ensures asked.guess c.args.bytes.now p c.in_ok-typed.ensures.program) right;
    }
