use Rattle.std.proofs.Common.{sym, ◌∙◌}
use Rattle.bg_clause.specs.Signs.{sign_in}
use Rattle.bg_clause.proofs.Once.{keep_new, keep_old}
use Rattle.bg_clause.proofs.clause.keep.Goals as goal

pub returns-in_ok-push-in-None : goal.returns-in_ok-push-in-None
returns-in_ok-push-in-None c =
    λ ls h. keep_new (sign_in c.args.once.now.signs) (sign_in c.note.new.signs) c.args.once.now.kept.items c.push.new.self.items c.args.l ls h (sym c.sign_of.ensures ∙ c.in-None.is) c.in_ok-push-in-None.ensures.items c.in_ok-note-in-None.ensures

pub returns-in-Some : goal.returns-in-Some
returns-in-Some c =
    λ ls h. keep_old (sign_in c.args.once.now.signs) c.args.once.now.kept.items c.args.l ls c.in-Some.sign h (sym c.sign_of.ensures ∙ c.in-Some.is)
