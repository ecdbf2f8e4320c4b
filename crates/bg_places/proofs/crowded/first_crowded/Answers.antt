use Rattle.std.proofs.Common.{map}
use Rattle.bg_ast.specs.Views.{proc_of, impl_of}
use Rattle.bg_places.proofs.CountedPlaces.{checks_are_places}
use Rattle.bg_places.proofs.crowded.first_crowded.Goals as goal

pub returns : goal.returns
returns c =
    let qs = map proc_of c.args.program.now.procedures.items in
    let is = map impl_of c.args.program.now.implementations.items in
    rw (
      c.deref-3.ensures.value,
      c.deref-4.ensures.value,
      c.deref-5.ensures.value,
      c.in_ok-required.ensures,
      c.in_ok-ensured.ensures,
      c.deref.ensures.value,
      c.deref-2.ensures.value,
      checks_are_places qs is,
    )
    at c.first_of.ensures
