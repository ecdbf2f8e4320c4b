use Rattle.std.proofs.Common.{sym, ap, ◌∙◌, subst}
use Rattle.bg_ast.specs.Meaning.{meaning_of}
use Rattle.bg_ast.specs.Views.{program_of}
use Rattle.bg_sense.specs.Typed.{IsTyped}
use Rattle.bg_fits.specs.Valued.{is_over_values}
use Rattle.bg_expanded.specs.Chains.{most_bodies}
use Rattle.bg_certtext.specs.Views.{cert_of}
use Rattle.bg_accept.specs.Answers as answers
use Rattle.bg_accept.specs.Views.{answer_of}
use Rattle.bg_confirm.proofs.Answering.{answered}
use Rattle.bg_confirm.proofs.program.check.Goals as goal

pub check-requires-clause-typed : goal.check-requires-clause-typed
check-requires-clause-typed c =
    let p = program_of c.args.program in
    let means = ap meaning_of c.in_ok-opened.ensures ∙ c.written_programs_are_opened.ensures most_bodies p in
    subst IsTyped (sym means) (c.opened_programs_are_over_values.ensures.typed most_bodies (meaning_of p) c.requires.openable)

pub check-requires-clause-scalars : goal.check-requires-clause-scalars
check-requires-clause-scalars c =
    let p = program_of c.args.program in
    let means = ap meaning_of c.in_ok-opened.ensures ∙ c.written_programs_are_opened.ensures most_bodies p in
    ap is_over_values means ∙ c.opened_programs_are_over_values.ensures.scalars most_bodies (meaning_of p) c.requires.openable

pub returns-clause-answer : goal.returns-clause-answer
returns-clause-answer c =
    let p = program_of c.args.program in
    let d = cert_of c.args.cert.now in
    let a = answer_of c.in_ok-answer.answer in
    answered p d a (c.in_ok-met.ensures.0 c.if-not-met.false) (subst (λ q. answers.IsAnswer q d a) c.in_ok-opened.ensures c.in_ok-answer.ensures)
