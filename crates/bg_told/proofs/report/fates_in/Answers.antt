use Rattle.std.proofs.Common.{ap, ◌∙◌}
use Rattle.bg_ast.specs.Meaning.{meaning_of}
use Rattle.bg_ast.specs.Resolved as r
use Rattle.bg_houdini.specs.Told as houdini
use Rattle.bg_inference.proofs.Same.{same_told}
use Rattle.std.proofs.lemmas.Result.{IfOk-weaker}
use Rattle.bg_check.specs.Kept.{why_of}
use Rattle.bg_told.proofs.report.fates_in.Goals as goal

pub returns : goal.returns
returns c =
    let o = c.args.outcome.now in
    IfOk-weaker c.fates_of.result _ _
    (λ made is p h. is ∙ ap (λ (q : r.Program). (houdini.outcome_of why_of (meaning_of q) o.judged).fates) h.0 ∙ ap (λ t. t.fates) (same_told why_of o.judged p))
    c.fates_of.ensures
