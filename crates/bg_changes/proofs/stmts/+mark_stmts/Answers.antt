use Rattle.std.proofs.Common.{map, sym}
use Rattle.bg_ast.specs.Views.{proc_of}
use Rattle.bg_changes.specs.Marks.{marks_of}
use Rattle.bg_changes.proofs.Forms.{mark-If, mark-While}
use Rattle.bg_changes.proofs.stmts.+mark_stmts.Goals as goal

pub mark_stmt-returns-in-If : goal.mark_stmt-returns-in-If
mark_stmt-returns-in-If t c =
    rw (
      c.in-If.is,
      mark-If (map proc_of c.args.procedures.now) (marks_of c.args.marks.now) c.in-If.field-0 c.in-If.arms c.in-If.otherwise,
      sym c.deref-in-If.ensures.value,
      sym c.deref-in-If-2.ensures.value,
      sym c.mark_arms.ensures,
    )
    c.mark_stmts.ensures

pub mark_stmt-returns-in-While : goal.mark_stmt-returns-in-While
mark_stmt-returns-in-While t c =
    rw (
      c.in-While.is,
      mark-While (map proc_of c.args.procedures.now) (marks_of c.args.marks.now) c.in-While.field-0 c.in-While.field-1 c.in-While.field-2 c.in-While.field-3 c.in-While.body,
      sym c.deref-in-While.ensures.value,
    )
    c.mark_stmts-in-While.ensures
