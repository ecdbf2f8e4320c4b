use Rattle.bg_wanted.specs.Rows.{row_of}
use Rattle.bg_wanted.proofs.Asking.{of_with}
use Rattle.bg_wanted.proofs.updates.update_of.Goals as goal

pub returns-in-Update : goal.returns-in-Update
returns-in-Update c =
    of_with (row_of c.args.row.now) c.in-Update.maps c.args.number _ c.update_with.result c.in-Update.is c.deref.ensures.value c.update_with.ensures
