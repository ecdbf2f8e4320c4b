use Rattle.std.proofs.Common.{map}
use Rattle.std.proofs.lemmas.Result.{on_ok_weaker}
use Rattle.bg_certtext.specs.Views.{value_of, entry_of}
use Rattle.bg_certtext.proofs.Items.{table_written}
use Rattle.bg_certtext.proofs.functions.put_table.Goals as goal

pub returns : goal.returns
returns c =
    on_ok_weaker c.put_default.result
    (table_written (map entry_of c.args.entries.now) (value_of c.args.default.now) c.args.out.now.items c.put_entries.new.out.items c.put_default.new.out.items c.in_ok-put_entries.ensures)
    c.put_default.ensures
