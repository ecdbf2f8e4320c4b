use Rattle.std.proofs.Common.{Bool, List, ◌∙◌, subst}
use Rattle.bg_words.specs.Sets.{has}
use Rattle.bg_check.specs.Verdicts.{judged}
use Rattle.bg_houdini.specs.Known.{AreKnownUnder}
use Rattle.bg_houdini.specs.Checkers.{program_in}
use Rattle.bg_houdini.proofs.Once.{if_ok}
use Rattle.bg_houdini.proofs.ordinary.judge_all.Goals as goal

pub returns-then-len-workers : goal.returns-then-len-workers
returns-then-len-workers g c =
    let j = c.args.judging.now in
    if_ok c.judge_each.result
    (λ made right. subst (λ (s : List Bool). AreKnownUnder (has s) j.effort (program_in j) (judged made.items)) (c.as_slice-known.ensures.value ∙ c.in_ok-truths.ensures) right)
    c.judge_each.ensures

pub returns : goal.returns
returns g c =
    let j = c.args.judging.now in
    if_ok c.judge_runs.result
    (λ made right. subst (λ (s : List Bool). AreKnownUnder (has s) j.effort (program_in j) (judged made.items)) (c.as_slice-known.ensures.value ∙ c.in_ok-truths.ensures) right)
    c.judge_runs.ensures
