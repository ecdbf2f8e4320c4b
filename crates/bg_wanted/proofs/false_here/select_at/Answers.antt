use Rattle.std.proofs.Common.{◌≡◌, Some}
use Rattle.std.specs.Prelude.{slice_get}
use Rattle.bg_wanted.specs.Rows.{row_of, rows_of}
use Rattle.bg_wanted.proofs.Rowed.{map_there}
use Rattle.bg_wanted.proofs.Chasing.{select_there}
use Rattle.bg_wanted.proofs.false_here.select_at.Goals as goal

pub returns-in-Some : goal.returns-in-Some
returns-in-Some c =
    let r = c.in-Some.row.now in
    let there : slice_get (rows_of c.args.rows.now) c.args.a ≡ Some (row_of r) = map_there row_of c.args.rows.now c.args.a r c.in-Some.ensures.lookup.3.0 (c.in-Some.ensures.lookup.3.1 r) in
    select_there (rows_of c.args.rows.now) c.args.a (row_of r) there c.select_of.result c.select_of.ensures
