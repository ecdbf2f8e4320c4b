use Rattle.bg_wanted.proofs.Asking.{no_index, at_index}
use Rattle.bg_wanted.proofs.Going.{goes_same, goes_told, asked, OldAt}
use Rattle.bg_wanted.proofs.updates.at_old.Goals as goal

pub returns-in-None : goal.returns-in-None
returns-in-None c =
    let l = c.args.looked in
    let u = c.args.update in
    λ is at.
    goes_same l c.args.wants.now (OldAt l u c.args.a) (λ fs incs values looked. absurd (no_index l u u.before c.args.a at c.in-None.ensures))

pub returns-then-not-is_open : goal.returns-then-not-is_open
returns-then-not-is_open c =
    let l = c.args.looked in
    let u = c.args.update in
    λ is at.
    goes_same l c.args.wants.now (OldAt l u c.args.a)
    (λ fs incs values looked. c.in_ok-is_open-in-Some.ensures.not looked.firsts c.if-not-is_open.true (at_index l u u.before c.args.a c.in-Some.index.now at c.in-Some.ensures))

pub returns-in_ok-ask_elsewhere-in-Some : goal.returns-in_ok-ask_elsewhere-in-Some
returns-in_ok-ask_elsewhere-in-Some c =
    let l = c.args.looked in
    let u = c.args.update in
    λ is at.
    goes_told l c.args.wants.now c.ask_elsewhere.new.wants (OldAt l u c.args.a) c.in_ok-ask_elsewhere-in-Some.ensures.some
    (λ fs incs values looked told. c.in_ok-ask_elsewhere-in-Some.ensures.told fs incs (asked fs incs values l looked u is u.before c.args.a at) told)
    (λ fs incs values looked. c.in_ok-is_open-in-Some.ensures.so looked.firsts c.if-not-is_open.false looked.agree (at_index l u u.before c.args.a c.in-Some.index.now at c.in-Some.ensures) is)
