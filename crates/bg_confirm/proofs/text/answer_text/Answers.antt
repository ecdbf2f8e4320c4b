use Rattle.std.proofs.Common.{ap, ◌∙◌}
use Rattle.std.proofs.lemmas.Result.{IfOk-weaker}
use Rattle.bg_accept.specs.Texts.{answer_text}
use Rattle.bg_accept.specs.Views.{answer_of}
use Rattle.bg_expanded.specs.Chains.{most_bodies}
use Rattle.bg_confirm.proofs.Telling.{text_alike}
use Rattle.bg_confirm.proofs.text.answer_text.Goals as goal

pub returns : goal.returns
returns c =
    let a = answer_of c.args.answer in
    IfOk-weaker c.answer_text.result _ _
    (λ text e p same. e ∙ (ap (λ q. answer_text q a) same ∙ text_alike most_bodies p a)) c.answer_text.ensures
