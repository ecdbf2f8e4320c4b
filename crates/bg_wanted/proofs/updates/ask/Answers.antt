use Rattle.bg_wanted.specs.Asked.{looked_rows, IsHereOf, AreAgreed, IsRight}
use Rattle.bg_wanted.proofs.Asking.{right_of}
use Rattle.bg_wanted.proofs.Going.{goes_then}
use Rattle.bg_wanted.proofs.updates.ask.Goals as goal

pub returns : goal.returns
returns c =
    let l = c.args.looked in
    let u = c.args.update in
    let rs = looked_rows l in
    λ is has.
    goes_then l c.args.wants.now c.at_all_new.new.wants c.at_all_old.new.wants (IsHereOf rs u × AreAgreed l u u.value) (AreAgreed l u u.value → AreAgreed l u u.before) (IsRight rs u) (λ both olds. right_of rs u both.0 both.1 (olds both.1))
    (goes_then l c.args.wants.now c.ask_here.new.wants c.at_all_new.new.wants (IsHereOf rs u) (AreAgreed l u u.value) (IsHereOf rs u × AreAgreed l u u.value) (λ x y. (x, y)) (c.in_ok-ask_here.ensures is) (c.in_ok-at_all_new.ensures is has)) (c.in_ok-at_all_old.ensures is has)
