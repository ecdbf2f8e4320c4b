use Rattle.std.proofs.Common.{map}
use Rattle.bg_ast.specs.Views.{proc_of, impl_of}
use Rattle.bg_places.specs.Counts.{spec_nodes}
use Rattle.bg_places.proofs.Capped.{capped_are_above}
use Rattle.bg_places.proofs.expanded.is_any_too_large.Goals as goal

pub returns : goal.returns
returns c =
    let ns = map spec_nodes (map proc_of c.args.program.now.procedures.items) in
    let is = map impl_of c.args.program.now.implementations.items in
    rw (c.deref-2.ensures.value, c.deref-3.ensures.value, c.in_ok-sizes.ensures, c.deref.ensures.value, capped_are_above ns is) at c.is_any_of.ensures
