use Rattle.bg_wanted.specs.Rows.{row_of}
use Rattle.bg_wanted.specs.Asked.{looked_rows, IsRight, IsRightRow}
use Rattle.bg_wanted.proofs.Asking.{right_none, right_some, of_row}
use Rattle.bg_wanted.proofs.Going.{goes_same, goes_on}
use Rattle.bg_wanted.proofs.updates.ask_row.Goals as goal

pub returns-in-None : goal.returns-in-None
returns-in-None c =
    let rs = looked_rows c.args.looked in
    λ there has.
    goes_same c.args.looked c.args.wants.now (IsRightRow rs (row_of c.args.row.now)) (λ fs incs values looked. right_none rs (row_of c.args.row.now) c.in-None.ensures)

pub returns-in_ok-ask-in-Some : goal.returns-in_ok-ask-in-Some
returns-in_ok-ask-in-Some c =
    let l = c.args.looked in
    let rs = looked_rows l in
    let r = row_of c.args.row.now in
    let u = c.in-Some.update in
    λ there has.
    goes_on l c.args.wants.now c.ask.new.wants (IsRight rs u) (IsRightRow rs r) (right_some rs r u c.args.u c.in-Some.ensures) (c.in_ok-ask-in-Some.ensures (of_row rs r u c.args.u there c.in-Some.ensures) has)
