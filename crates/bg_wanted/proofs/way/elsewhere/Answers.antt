use Rattle.bg_term_table.specs.Views.{terms_in}
use Rattle.bg_wanted.proofs.Leading.{both_told, known_way}
use Rattle.bg_wanted.proofs.way.elsewhere.Goals as goal

pub returns-then-are_there : goal.returns-then-are_there
returns-then-are_there c =
    λ fs incs si lt high comes.
    c.in_ok-both_there.ensures fs incs si (known_way fs incs c.args.sight c.args.way.now c.args.r comes (c.are_there.ensures.so fs c.if-are_there.true).1)

pub returns : goal.returns
returns c =
    λ fs incs si lt high comes.
    let b = both_told fs incs c.args.sight c.args.way.now c.args.s c.args.r comes in
    (b.0, c.in_ok-tell_elsewhere.ensures.told incs (terms_in fs c.args.sight.terms.now) lt high b.1.0 (c.are_there.ensures.not fs c.if-are_there.false) b.1.1)
