use Rattle.std.proofs.Common.{refl, ap}
use Rattle.bg_ast.specs.Views.{program_of}
use Rattle.bg_kinds.specs.Faults.{CyclicSynonym}
use Rattle.bg_types.proofs.Judgement.{cyclic_of, get_there}
use Rattle.bg_types.proofs.verdict.cyclic.Goals as goal

pub returns-in_ok-copy_name-in-Some : goal.returns-in_ok-copy_name-in-Some
returns-in_ok-copy_name-in-Some c =
    cyclic_of (program_of c.args.p.now) c.args.p.now.types.items c.deref.result.now c.args.k c.in-Some.d.now _ refl c.deref.ensures.value (get_there c.deref.result.now c.args.k c.in-Some.d.now c.in-Some.ensures.lookup.3.0 c.in-Some.ensures.lookup.1) c.requires (ap CyclicSynonym c.in_ok-copy_name-in-Some.ensures)
