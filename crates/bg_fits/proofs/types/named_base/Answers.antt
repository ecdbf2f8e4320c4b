use Rattle.std.proofs.Common.{map, arith}
use Rattle.bg_ast.specs.Views.{type_name_of}
use Rattle.bg_fits.proofs.Synonyms.{next_synonym, no_synonym}
use Rattle.bg_fits.proofs.types.named_base.Goals as goal

pub loop-preserved : goal.loop-preserved
loop-preserved c =
    next_synonym c.args.left c.loop.counter c.loop.at c.in-Named.next (map type_name_of c.args.types.now) _ (omega arith) c.in-Named.ensures c.loop.invariant

pub returns : goal.returns
returns c = no_synonym c.args.left c.loop.counter c.loop.at (map type_name_of c.args.types.now) _ (omega arith) c.loop.invariant
