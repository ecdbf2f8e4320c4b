use Rattle.std.proofs.Common.{sym, ◌∙◌}
use Rattle.bg_houdini.specs.Tasks.{tasks_of}
use Rattle.bg_houdini.specs.Checkers.{meaning_in}
use Rattle.bg_houdini.proofs.Once.{if_ok}
use Rattle.bg_houdini.proofs.Tasks.{get_there}
use Rattle.bg_houdini.proofs.judging.JudgingCheckerOptionProofReasonDesk.check.Goals as goal

pub returns : goal.returns
returns c =
    let j = c.args.self.now in
    let p = meaning_in j in
    let t = get_there (tasks_of p) c.args.t.0 c.requires.target in
    if_ok c.answer.result
    (λ made h. h j.effort.budget p c.args.t.0 t.0 c.args.set.now t.1 (c.requires.set ∙ sym c.requires.stands.candidates_are) (c.in_ok-verdict.ensures.right t.0 t.1))
    c.answer.ensures
