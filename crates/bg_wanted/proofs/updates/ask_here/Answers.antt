use Rattle.std.proofs.Common.{[]}
use Rattle.bg_term_table.specs.Views.{terms_in}
use Rattle.bg_wanted.specs.Asked.{looked_rows, IsHereOf}
use Rattle.bg_wanted.proofs.Going.{goes_same, goes_told, here_fits, update_below}
use Rattle.bg_wanted.proofs.updates.ask_here.Goals as goal

pub returns-then-is_told : goal.returns-then-is_told
returns-then-is_told c =
    λ is.
    goes_same c.args.looked c.args.wants.now (IsHereOf (looked_rows c.args.looked) c.args.update)
    (λ fs incs values looked. c.in_ok-is_told.ensures.so looked.firsts c.if-is_told.true)

pub returns : goal.returns
returns c =
    λ is.
    goes_told c.args.looked c.args.wants.now c.tell_here.new.wants (IsHereOf (looked_rows c.args.looked) c.args.update) c.in_ok-tell_here.ensures.some
    (λ fs incs values looked told.
    let own = c.in_ok-own.ensures.told incs (terms_in fs c.args.looked.terms.now) [] (here_fits fs incs values c.args.looked looked c.args.update is c.in_ok-map.map c.in_ok-map.ensures) told in
    c.in_ok-tell_here.ensures.told incs (terms_in fs c.args.looked.terms.now) (update_below fs incs values c.args.looked looked c.args.update is) own.1.0 own.1.1 own.0)
    (λ fs incs values looked. c.in_ok-is_told.ensures.not looked.firsts c.if-is_told.false is)
