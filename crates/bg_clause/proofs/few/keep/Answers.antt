use Rattle.std.proofs.Common.{sym, ap, ◌∙◌}
use Rattle.bg_clause.specs.Signs.{sign_among}
use Rattle.bg_clause.proofs.Once.{keep_new, keep_old, sign_behind}
use Rattle.bg_clause.proofs.few.keep.Goals as goal

pub returns-in_ok-push-in-None : goal.returns-in_ok-push-in-None
returns-in_ok-push-in-None c =
    let free = ap (λ x. sign_among x c.args.l.atom) (sym c.deref.ensures.value) ∙ (sym c.sign_among.ensures ∙ c.in-None.is) in
    λ ls h. keep_new (sign_among c.args.kept.now.items) (sign_among c.push.new.self.items) c.args.kept.now.items c.push.new.self.items c.args.l ls h free c.in_ok-push-in-None.ensures.items (sign_behind c.args.kept.now.items c.args.l c.push.new.self.items free c.in_ok-push-in-None.ensures.items)

pub returns-in-Some : goal.returns-in-Some
returns-in-Some c =
    λ ls h. keep_old (sign_among c.args.kept.now.items) c.args.kept.now.items c.args.l ls c.in-Some.sign h (ap (λ x. sign_among x c.args.l.atom) (sym c.deref.ensures.value) ∙ (sym c.sign_among.ensures ∙ c.in-Some.is))
