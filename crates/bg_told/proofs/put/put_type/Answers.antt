use Rattle.std.proofs.Common.{sym}
use Rattle.bg_told.proofs.Sheet.{at_types}
use Rattle.bg_told.proofs.put.put_type.Goals as goal

pub returns-in-Some : goal.returns-in-Some
returns-in-Some c =
    let there = at_types c.args.types.now c.args.t c.in-Some.d.now c.in-Some.ensures.lookup.3.0 c.in-Some.ensures.lookup.1 in
    rw (there, sym c.deref.ensures.value) c.put_printed.ensures
