use Rattle.std.proofs.Common.{◌≡◌, ◌<◌, map, length, Some, ap, sym, ◌∙◌, rules}
use Rattle.bg_rows.specs.Rows.{row_of}
use Rattle.bg_rows.specs.Steps.{row_at}
use Rattle.bg_elim.specs.Work.{work_of}
use Rattle.bg_elim.proofs.Places.{at_map}
use Rattle.bg_elim.proofs.stand.stand.Goals as goal

pub returns-then-n-len : goal.returns-then-n-len
returns-then-n-len c =
    let rows = c.args.work.now.rows.items in
    let n = c.in-Some.n.now in
    let lt : n < length rows = search rules in
    let at : row_at (map row_of rows) n ≡ Some (row_of c.index.result.now) =
    at_map row_of rows n c.index.result.now lt ∙ ap (λ r. Some (row_of r)) (sym c.index.ensures) in
    c.against.ensures (work_of c.args.work.now) at
