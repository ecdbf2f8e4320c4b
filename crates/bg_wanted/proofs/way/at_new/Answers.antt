use Rattle.std.proofs.Common.{[]}
use Rattle.bg_term_table.specs.Views.{terms_in}
use Rattle.bg_wanted.proofs.Tells.{told_loose}
use Rattle.bg_wanted.proofs.way.at_new.Goals as goal

pub returns-then-is_asked_too-clause-told : goal.returns-then-is_asked_too-clause-told
returns-then-is_asked_too-clause-told c =
    λ fs incs si lt high way.
    let ts = terms_in fs c.args.sight.terms.now in
    (way.0, c.in_ok-tell_here.ensures.told incs ts lt (c.is_asked_too.ensures fs c.if-is_asked_too.true) high (told_loose incs ts c.args.way.now.wants [] c.args.s way.1))

pub returns-clause-told : goal.returns-clause-told
returns-clause-told c = λ fs incs si lt high way. way
