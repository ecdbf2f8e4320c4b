use Rattle.std.proofs.Common.{sym, ◌∙◌}
use Rattle.std.proofs.lemmas.Result.{IfOk-weaker}
use Rattle.bg_forms.specs.Views.{form_in}
use Rattle.bg_forms.proofs.ChainForms.{waits, joins_on}
use Rattle.bg_forms.proofs.formed.one_more.Goals as goal

pub returns-then-is_implies : goal.returns-then-is_implies
returns-then-is_implies c =
    λ ls. waits c.args.waiting.now.items c.push.new.self.items c.in_ok-not_f.not_f c.args.sign (form_in c.args.f) (form_in c.args.g) c.in_ok-push.ensures.items c.in_ok-not_f.ensures (sym c.is_implies.ensures ∙ c.if-is_implies.true) ls

pub returns : goal.returns
returns c =
    IfOk-weaker c.joined.result _ _ (λ x is. joins_on c.args.waiting.now.items c.args.sign (form_in c.args.f) (form_in c.args.g) (form_in x) is (sym c.is_implies.ensures ∙ c.if-is_implies.false)) c.joined.ensures
