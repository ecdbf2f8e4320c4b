use Rattle.std.proofs.Common.{ap, refl}
use Rattle.bg_ast.specs.Views.{ex_of}
use Rattle.bg_renamed.proofs.Forms.{equal-is}
use Rattle.bg_renamed.proofs.build.equal.Goals as goal

pub returns : goal.returns
returns c = equal-is c.in_ok-first.first c.push.new.self _ _ _ c.args.incarnation (ap ex_of c.in_ok-first.ensures.ok) c.in_ok-push.ensures.items c.new-links.ensures.items refl
