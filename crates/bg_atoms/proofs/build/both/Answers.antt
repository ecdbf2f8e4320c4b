use Rattle.std.proofs.Common.{ap, refl}
use Rattle.bg_ast.specs.Meaning as m
use Rattle.bg_ast.specs.Views.{ex_of}
use Rattle.bg_atoms.proofs.Chained.{and-is}
use Rattle.bg_atoms.proofs.build.both.Goals as goal

pub returns : goal.returns
returns c = and-is c.in_ok-first.first c.push.new.self _ _ _ (ap m.ex_of (ap ex_of c.in_ok-first.ensures.ok)) c.in_ok-push.ensures.items c.new-links.ensures.items refl
