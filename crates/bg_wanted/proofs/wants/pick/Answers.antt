use Rattle.std.proofs.Common.{refl}
use Rattle.bg_term_table.specs.declared.line.Line.TheVariants as line
use Rattle.bg_wanted.proofs.Tells.{told_pick, picks_by}
use Rattle.bg_wanted.proofs.wants.pick.Goals as goal

pub returns-clause-told : goal.returns-clause-told
returns-clause-told c =
    λ incs ts loose fits told.
    told_pick incs ts c.args.wants.now _ c.args.map c.args.a (line.Pick c.args.map c.args.a) refl loose fits told c.in_ok-push.ensures.items c.in_ok-next.ensures
    (λ k p e. picks_by _ _ _ (c.in_ok-insert.ensures.updates.0 k) p e)
