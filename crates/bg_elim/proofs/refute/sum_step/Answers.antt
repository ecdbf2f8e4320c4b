use Rattle.std.proofs.Common.{◌≡◌, ◌<◌, ◌≤◌, length, map, Some, false, ap, sym, ◌∙◌, arith, rules}
use Rattle.bg_rows.specs.Entries.{coefficient}
use Rattle.bg_rows.specs.Rows.{row_of, opposite}
use Rattle.bg_rows.specs.Steps.{row_at}
use Rattle.bg_rows.specs.declared.step.Step.TheVariants.{Path}
use Rattle.bg_elim.specs.Work.{work_of}
use Rattle.bg_elim.proofs.Places.{at_map, at_below, at_is}
use Rattle.bg_elim.proofs.Derive.{step_sum, step_none, signs_clash, refusal_clash}
use Rattle.bg_elim.proofs.refute.sum_step.Goals as goal

pub returns-then-i-len : goal.returns-then-i-len
returns-then-i-len c =
    step_none (work_of c.args.work.now) c.args.i c.args.j c.args.x (Path 0)
    (λ u l r a b s e.
    let lt = at_below row_of c.args.work.now.rows.items c.args.i u a in
    let le : length c.args.work.now.rows.items ≤ c.args.i = search rules in
    omega arith)

pub returns-then-j-len : goal.returns-then-j-len
returns-then-j-len c =
    step_none (work_of c.args.work.now) c.args.i c.args.j c.args.x (Path 0)
    (λ u l r a b s e.
    let lt = at_below row_of c.args.work.now.rows.items c.args.j l b in
    let le : length c.args.work.now.rows.items ≤ c.args.j = search rules in
    omega arith)

pub returns-then-not-are_opposite : goal.returns-then-not-are_opposite
returns-then-not-are_opposite c =
    step_none (work_of c.args.work.now) c.args.i c.args.j c.args.x (Path 0)
    (λ u l r a b s e.
    let eu = at_is row_of c.args.work.now.rows.items c.args.i c.index-up.result.now u a c.index-up.ensures in
    let el = at_is row_of c.args.work.now.rows.items c.args.j c.index-low.result.now l b c.index-low.ensures in
    let o : opposite (coefficient c.args.x (row_of c.index-up.result.now).entries) (coefficient c.args.x (row_of c.index-low.result.now).entries) ≡ false = search rules in
    signs_clash (row_of c.index-up.result.now) u (row_of c.index-low.result.now) l c.args.x eu el o s)

pub returns-in-Ok : goal.returns-in-Ok
returns-in-Ok c =
    let rows = c.args.work.now.rows.items in
    let li : c.args.i < length rows = search rules in
    let lj : c.args.j < length rows = search rules in
    let a : row_at (map row_of rows) c.args.i ≡ Some (row_of c.index-up.result.now) =
    at_map row_of rows c.args.i c.index-up.result.now li ∙ ap (λ r. Some (row_of r)) (sym c.index-up.ensures) in
    let b : row_at (map row_of rows) c.args.j ≡ Some (row_of c.index-low.result.now) =
    at_map row_of rows c.args.j c.index-low.result.now lj ∙ ap (λ r. Some (row_of r)) (sym c.index-low.ensures) in
    let e = c.in-Ok.ensures in
    rw c.sum_of.ensures
    (step_sum (work_of c.args.work.now) c.args.i c.args.j c.args.x (row_of c.index-up.result.now) (row_of c.index-low.result.now) (row_of c.in-Ok.made.row) c.in-Ok.made.first c.in-Ok.made.second
    a b e.first e.second e.sum e.told)

pub returns-in-Err-Range : goal.returns-in-Err-Range
returns-in-Err-Range c =
    step_none (work_of c.args.work.now) c.args.i c.args.j c.args.x (Path 0)
    (λ u l r a b s e.
    let eu = at_is row_of c.args.work.now.rows.items c.args.i c.index-up.result.now u a c.index-up.ensures in
    let el = at_is row_of c.args.work.now.rows.items c.args.j c.index-low.result.now l b c.index-low.ensures in
    let t = rw c.in-Err-Range.field-0-is at c.in-Err-Range.ensures.told in
    refusal_clash (row_of c.index-up.result.now) u (row_of c.index-low.result.now) l r c.args.x c.in-Err-Range.field-0-0 eu el t e)
