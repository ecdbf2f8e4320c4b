use Rattle.std.proofs.Common.{map, ap, ◌∙◌}
use Rattle.std.proofs.lemmas.Result.{IfOk-weaker}
use Rattle.bg_ast.specs.Meaning as m
use Rattle.bg_ast.specs.Views.{program_of, call_of}
use Rattle.bg_blocks.specs.Views.{cmd_of}
use Rattle.bg_blocks.proofs.Called.{one_called_at}
use Rattle.bg_blocks.proofs.jumps.performing.Goals as goal

pub returns : goal.returns
returns c =
    let p = program_of c.args.program.now in
    let k = m.call_of (call_of c.args.k.now) in
    IfOk-weaker c.one.result _ _
    (λ made h. ap (map (cmd_of p)) h ∙ one_called_at c.args.program.now c.args.callees.now k c.deref.result.now c.in-Some.q.now c.in-Some-get.xs.now c.deref-2.result.now c.requires c.deref.ensures.value c.deref-2.ensures.value c.in-Some.ensures.lookup.3.0 c.in-Some.ensures.lookup.1 c.in-Some-get.ensures.lookup.3.0 c.in-Some-get.ensures.lookup.1)
    c.one.ensures
