use Rattle.std.proofs.Common.{map, arith}
use Rattle.bg_rows.specs.Rows.{row_of}
use Rattle.bg_elim.proofs.Places.{at_below, at_is}
use Rattle.bg_elim.proofs.Names.{entries_more, row_entries, rows_below}
use Rattle.bg_elim.proofs.variables.variables.Goals as goal

pub loop-row-preserved : goal.loop-row-preserved
loop-row-preserved c =
    let e = c.in_ok-add_row.ensures in
    let i = c.loop-row.invariant in
    let rows = c.args.rows.now in
    let rows_now = map row_of rows in
    let all = c.add_row.new.all.items in
    record {
      tied = e.tied;
      once = e.once;
      there = rows_below rows_now all c.loop-row.row-index
          (λ n r lt h. entries_more c.loop-row.all.items all r.entries e.more (i.there n r lt h))
          (λ r h.
          let is = at_is row_of rows c.loop-row.row-index c.row-item.result r h c.row-item.is in
          row_entries all (row_of c.row-item.result) r is c.deref.result.now c.deref.ensures.value e.there);
    }

pub returns-clause-inside : goal.returns-clause-inside
returns-clause-inside c = λ n r h.
    let lt = at_below row_of c.args.rows.now n r h in
    c.loop-row.invariant.there n r (omega arith) h
