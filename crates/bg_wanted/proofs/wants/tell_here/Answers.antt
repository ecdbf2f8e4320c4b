use Rattle.std.proofs.Common.{refl}
use Rattle.bg_term_table.specs.declared.line.Line.TheVariants as line
use Rattle.bg_terms.specs.Instances.{AtIndex}
use Rattle.bg_wanted.proofs.Tells.{told_instance, here_within, here_fresh, here_names, below_next, not_empty}
use Rattle.bg_wanted.proofs.wants.tell_here.Goals as goal

pub returns-clause-some : goal.returns-clause-some
returns-clause-some c = not_empty c.args.wants.now.made.items _ c.in_ok-push.ensures.items

pub returns-clause-told : goal.returns-clause-told
returns-clause-told c =
    λ incs ts lt low high told.
    told_instance incs ts c.args.wants.now _ (AtIndex c.args.u c.args.s) (line.AtIndex c.args.u c.args.s) refl _ told c.in_ok-push.ensures.items refl refl (here_within c.args.wants.now.next c.args.u c.args.s (below_next incs ts c.args.wants.now _ c.args.u told lt) high) (here_fresh _ c.args.u c.args.s low) (λ a h. here_names _ _ c.args.u c.args.s a h)
