use Rattle.std.proofs.Common.{[]}
use Rattle.bg_term_table.specs.Views.{terms_in}
use Rattle.bg_wanted.proofs.Tells.{told_loose}
use Rattle.bg_wanted.proofs.Leading.{new_more}
use Rattle.bg_wanted.proofs.way.at_index.Goals as goal

pub returns-then-not-is_there-clause-told : goal.returns-then-not-is_there-clause-told
returns-then-not-is_there-clause-told c =
    λ fs incs si lt high way.
    let ts = terms_in fs c.args.sight.terms.now in
    (way.0, c.in_ok-tell_here.ensures.told incs ts lt (c.is_there.ensures.not fs c.if-not-is_there.true) high (told_loose incs ts c.args.way.now.wants [] c.args.s way.1))

pub returns-then-is_new_lost-clause-told : goal.returns-then-is_new_lost-clause-told
returns-then-is_new_lost-clause-told c =
    λ fs incs si lt high way.
    (new_more fs incs c.args.sight si c.args.u c.args.s c.args.way.now.lost.items _ (c.is_new_lost.ensures c.if-is_new_lost.true) c.in_ok-push.ensures.items way.0, way.1)

pub returns-in-None-clause-told : goal.returns-in-None-clause-told
returns-in-None-clause-told c = λ fs incs si lt high way. way

pub returns-in_ok-put_two-in-Some-clause-told : goal.returns-in_ok-put_two-in-Some-clause-told
returns-in_ok-put_two-in-Some-clause-told c = λ fs incs si lt high way. way
