use Rattle.std.proofs.Common.{true, ◌∙◌, sym, ap, subst}
use Rattle.bg_ast.specs.Meaning.{meaning_of}
use Rattle.bg_front.specs.Programs.{IsProgramOf}
use Rattle.bg_cli.specs.declared.job.Job.{Job}
use Rattle.bg_check.specs.Kept.{why_of}
use Rattle.bg_inference.specs.Outcomes.{IsTrueOutcome}
use Rattle.bg_ends.specs.Statuses.{number_of}
use Rattle.bg_tool.specs.Answers.{keeps_for}
use Rattle.bg_tool.proofs.certificates.certificate_on.Goals as goal

pub certificate_text-requires : goal.certificate_text-requires
certificate_text-requires g c =
    let asked = c.args.how.now.asked in
    let on = c.in_ok-outcome.ensures.outcome in (
      on.program,
      (asked.budget, subst (λ (j : Job). IsTrueOutcome (keeps_for j) asked.budget on.program c.in_ok-outcome.outcome) c.requires.certifies on.right),
    )

pub returns-in-Ok-clause-certificate : goal.returns-in-Ok-clause-certificate
returns-in-Ok-clause-certificate g c =
    let on = c.in_ok-outcome.ensures.outcome in
    let p = on.program in
    let found = c.in_ok-outcome.outcome in
    let asked = c.args.how.now.asked in
    let right : IsTrueOutcome true asked.budget p found =
    subst (λ (j : Job). IsTrueOutcome (keeps_for j) asked.budget p found) c.requires.certifies on.right in
    let told = c.in-Ok.ensures p (asked.budget, right) (c.candidates_have_names_of_their_own.ensures c.args.bytes.now p (subst (λ b. IsProgramOf b c.args.bytes.now p) c.requires.plain on.spelled)) in
    let gives = c.status_of.ensures.gives ∙ c.word_of.ensures (meaning_of p) in
    record {
      program = p;
      spelled = on.spelled;
      inferred = found;
      right = right;
      sound = on.sound;
      told = told;
      gives = gives;
      accepted = λ is. c.verified_programs_are_accepted.ensures true asked.budget p found why_of told.cert right (sym gives ∙ ap number_of is) told.written;
    }
