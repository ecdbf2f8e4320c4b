use Rattle.std.proofs.Common.{map}
use Rattle.bg_ast.specs.Views.{ex_of}
use Rattle.bg_opening.specs.Desks.{opened_at}
use Rattle.bg_opening.proofs.Bodies.{body-is}
use Rattle.bg_opening.proofs.whole.body.Goals as goal

pub returns : goal.returns
returns c =
    let o = opened_at c.args.desk in
    body-is o c.append.new.self.items c.in_ok-made.made.items c.in_ok-rest.rest.items c.args.ss.now (map o (map ex_of c.args.axioms.now)) c.in_ok-append.ensures.items c.in_ok-made.ensures c.in_ok-rest.ensures
