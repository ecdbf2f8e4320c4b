use Rattle.std.proofs.Common.{refl}
use Rattle.bg_term_table.specs.declared.line.Line.TheVariants as line
use Rattle.bg_terms.specs.Instances.{Elsewhere}
use Rattle.bg_wanted.proofs.Tells.{told_instance, elsewhere_within, elsewhere_fresh, elsewhere_names, below_next, not_empty}
use Rattle.bg_wanted.proofs.wants.tell_elsewhere.Goals as goal

pub returns-clause-some : goal.returns-clause-some
returns-clause-some c = not_empty c.args.wants.now.made.items _ c.in_ok-push.ensures.items

pub returns-clause-told : goal.returns-clause-told
returns-clause-told c =
    λ incs ts lt first second new told.
    told_instance incs ts c.args.wants.now _ (Elsewhere c.args.u c.args.s c.args.r) (line.Elsewhere c.args.u c.args.s c.args.r) refl _ told c.in_ok-push.ensures.items refl refl (elsewhere_within c.args.wants.now.next c.args.u c.args.s c.args.r (below_next incs ts c.args.wants.now _ c.args.u told lt) first second) (elsewhere_fresh _ c.args.u c.args.s c.args.r new) (λ a h. elsewhere_names _ _ c.args.u c.args.s c.args.r a h)
