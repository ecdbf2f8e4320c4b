use Rattle.std.proofs.Common.{◌<◌, length, arith}
use Rattle.std.specs.Prelude.{pos}
use Rattle.std.proofs.lemmas.List.{take_more}
use Rattle.bg_rows.specs.declared.entry.Entry.{Entry}
use Rattle.bg_elim.proofs.Names.{entries_more, entries_last}
use Rattle.bg_elim.proofs.variables.add_row.Goals as goal

pub loop-t-preserved : goal.loop-t-preserved
loop-t-preserved c =
    let e = c.in_ok-add_one.ensures in
    let i = c.loop-t.invariant in
    record {
      tied = e.tied;
      once = e.once;
      more = λ q h. e.more q (i.more q h);
      there =
          let nothing : Entry = record { variable = 0; by = pos 0 } in
          let lt : c.loop-t.t-index < length c.args.entries.now = omega arith in
          rw (take_more c.args.entries.now c.loop-t.t-index nothing lt)
          (entries_last c.add_one.new.all.items _ _ (entries_more c.loop-t.all.items c.add_one.new.all.items _ e.more i.there) e.there);
    }
