use Rattle.std.proofs.Common.{◌<◌, length, map, take, ◌++◌, arith}
use Rattle.bg_rows.specs.Rows.{row_of}
use Rattle.bg_formula.specs.Atoms.{atom_of, view_linear}
use Rattle.bg_cert.specs.Paths.{rows_on}
use Rattle.bg_cert.proofs.Wanted.{decision_more}
use Rattle.bg_cert.proofs.table.rows_marked.Goals as goal

pub loop-d-preserved : goal.loop-d-preserved
loop-d-preserved c =
    let all = map atom_of c.args.atoms.now ++ map view_linear c.args.table.now in
    let ds = c.args.decisions.now in
    let k = c.loop-d.d-index in
    let lt : k < length ds = omega arith in
    decision_more c.args.marks.now all ds k _ (map row_of c.push_row.new.made.items) lt (c.in_ok-push_row.ensures (rows_on all (take k ds)) c.loop-d.invariant)
