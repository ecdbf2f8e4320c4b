use Rattle.std.proofs.Common.{map, arith}
use Rattle.bg_text.specs.Views.{decl_of}
use Rattle.bg_ast.specs.Views.{declared_of, proc_of, impl_of}
use Rattle.bg_keep.proofs.Rows.{at_place}
use Rattle.bg_keep.proofs.Turns.{decls_turn}
use Rattle.bg_keep.proofs.program.kept_decls.Goals as goal

pub loop-i-preserved : goal.loop-i-preserved
loop-i-preserved c =
    let long = c.loop-i.auto.decls in
    let lt = c.loop-i-test.true in
    let at = c.loop-i.at in
    decls_turn
    c.args.set.now
    (map declared_of c.args.program.now.globals.items)
    (map proc_of c.args.program.now.procedures.items)
    (map impl_of c.args.program.now.implementations.items)
    (map decl_of c.loop-i.made.items)
    (map decl_of c.push_decl.new.out.items)
    c.loop-i.decls
    c.loop-i.i
    at.procedures
    at.implementations
    c.passed-after.result.procedures
    c.passed-after.result.implementations
    c.replace-d.result
    c.replace-d.new.dest
    _
    (omega (arith, lt, long))
    (at_place c.loop-i.decls c.loop-i.i c.replace-d.result c.index-decls-i.result c.replace-d.ensures.value c.index-decls-i.is)
    c.passed-after.ensures.procedures
    c.passed-after.ensures.implementations
    c.loop-i.invariant
    c.in_ok-push_decl.ensures
