use Rattle.std.proofs.Common.{map, sym, ap, ◌∙◌}
use Rattle.bg_finish.specs.Filled.{entry_in, held_in}
use Rattle.bg_finish.proofs.Held.{inserted, put_told, put_new}
use Rattle.bg_finish.proofs.tables.put.Goals as goal

pub returns-then-is_same : goal.returns-then-is_same
returns-then-is_same c =
    put_told (held_in c.args.table.now) c.args.args.items c.args.value (sym c.is_same.ensures ∙ c.if-is_same.true)

pub returns : goal.returns
returns c =
    put_new (held_in c.args.table.now) c.args.args.items c.args.value _ (sym c.is_same.ensures ∙ c.if-is_same.false) (ap (map entry_in) c.in_ok-insert.ensures.entries ∙ inserted c.args.args c.args.value c.args.table.now.entries.entries)
