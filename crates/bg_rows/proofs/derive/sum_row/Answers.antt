use Rattle.std.proofs.Common.{arith}
use Rattle.std.proofs.lemmas.Int.{to_z-of_z}
use Rattle.bg_rows.specs.Rows.{row_of}
use Rattle.bg_rows.proofs.Places.{at_map_there}
use Rattle.bg_rows.proofs.derive.sum_row.Goals as goal

pub returns : goal.returns
returns c =
    let f = c.ranges.p in
    let g = c.ranges.q in
    let h = simp (to_z-of_z, f, g) at c.sum_if.ensures in
    let a = at_map_there row_of c.args.made.now c.args.r c.index-made-r.result (omega arith) in
    let b = at_map_there row_of c.args.made.now c.args.s c.index-made-s.result (omega arith) in
    let i = c.index-made-r.is in
    let j = c.index-made-s.is in
    rw (a, b, ← i, ← j) h
