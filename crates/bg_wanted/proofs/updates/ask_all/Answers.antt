use Rattle.std.proofs.Common.{◌≡◌, ◌+◌, get_or, Some, ap, ◌∙◌}
use Rattle.std.specs.Prelude.{slice_get}
use Rattle.bg_wanted.specs.Rows.{row_of}
use Rattle.bg_wanted.specs.Asked.{looked_rows, IsRightRow, AreRight}
use Rattle.bg_wanted.proofs.Rowed.{map_there, rows_length}
use Rattle.bg_wanted.proofs.Going.{goes_same, goes_then, goes_on, RightSoFar, right_none_yet, right_further, right_all}
use Rattle.bg_wanted.proofs.updates.ask_all.Goals as goal

pub loop-u-init : goal.loop-u-init
loop-u-init c =
    λ has.
    goes_same c.args.looked c.args.wants.now (RightSoFar c.args.looked 0) (λ fs incs values looked. right_none_yet c.args.looked)

pub loop-u-preserved : goal.loop-u-preserved
loop-u-preserved c =
    let l = c.args.looked in
    let i = c.loop-u.u in
    let r = row_of (get_or l.rows.now i c.index-looked-u.result) in
    let there : slice_get (looked_rows l) i ≡ Some r = map_there row_of l.rows.now i c.index-looked-u.result c.loop-u-test.true c.index-looked-u.is ∙ ap (λ x. Some (row_of x)) c.index-looked-u.is in
    λ has.
    goes_then l c.args.wants.now c.loop-u.wants c.ask_row.new.wants (RightSoFar l i) (IsRightRow (looked_rows l) r) (RightSoFar l (i + 1)) (λ so right. right_further l i r there so right) (c.loop-u.invariant has) (c.in_ok-ask_row.ensures (ap (slice_get (looked_rows l)) c.in_ok-place.ensures ∙ there) has)

pub returns : goal.returns
returns c =
    let l = c.args.looked in
    λ has.
    goes_on l c.args.wants.now c.loop-u.wants (RightSoFar l c.loop-u.u) (AreRight (looked_rows l)) (right_all l c.loop-u.u (rows_length l.rows.now c.loop-u.u c.loop-u-test.false)) (c.loop-u.invariant has)
