use Rattle.std.proofs.Common.{sym, subst}
use Rattle.std.proofs.lemmas.Result.{IfOk-weaker}
use Rattle.bg_cli.specs.declared.job.Job.{Job}
use Rattle.bg_tool.specs.Answers.{IsAnswerFor}
use Rattle.bg_tool.proofs.judge.answer_on.Goals as goal

pub returns-in-Annotate-clause-answer : goal.returns-in-Annotate-clause-answer
returns-in-Annotate-clause-answer g c =
    IfOk-weaker c.annotation_on.result _ _ (λ r h. subst (λ (b : Job). IsAnswerFor b c.args.how.now.asked c.args.bytes.now r.0 r.1.items) (sym c.in-Annotate.is) h) c.annotation_on.ensures.annotation

pub returns-in-Certify-clause-answer : goal.returns-in-Certify-clause-answer
returns-in-Certify-clause-answer g c =
    IfOk-weaker c.certificate_on.result _ _ (λ r h. subst (λ (b : Job). IsAnswerFor b c.args.how.now.asked c.args.bytes.now r.0 r.1.items) (sym c.in-Certify.is) h) c.certificate_on.ensures.certificate

pub returns-in-Verify-clause-answer : goal.returns-in-Verify-clause-answer
returns-in-Verify-clause-answer g c =
    IfOk-weaker c.report_on.result _ _ (λ r h. subst (λ (b : Job). IsAnswerFor b c.args.how.now.asked c.args.bytes.now r.0 r.1.items) (sym c.in-Verify.is) h) c.report_on.ensures.report

pub returns-in-Check-clause-answer : goal.returns-in-Check-clause-answer
returns-in-Check-clause-answer g c =
    IfOk-weaker c.report_on-in-Check.result _ _ (λ r h. subst (λ (b : Job). IsAnswerFor b c.args.how.now.asked c.args.bytes.now r.0 r.1.items) (sym c.in-Check.is) h) c.report_on-in-Check.ensures.report

pub returns-in-Bench-clause-answer : goal.returns-in-Bench-clause-answer
returns-in-Bench-clause-answer g c =
    IfOk-weaker c.bench_on.result _ _ (λ r h. subst (λ (b : Job). IsAnswerFor b c.args.how.now.asked c.args.bytes.now r.0 r.1.items) (sym c.in-Bench.is) h) c.bench_on.ensures.lines

pub returns-in-Generate-clause-answer : goal.returns-in-Generate-clause-answer
returns-in-Generate-clause-answer g c =
    IfOk-weaker c.report_on-in-Generate.result _ _ (λ r h. subst (λ (b : Job). IsAnswerFor b c.args.how.now.asked c.args.bytes.now r.0 r.1.items) (sym c.in-Generate.is) h) c.report_on-in-Generate.ensures.report
