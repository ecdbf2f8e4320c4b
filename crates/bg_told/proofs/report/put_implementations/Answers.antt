use Rattle.std.proofs.Common.{length, arith}
use Rattle.std.specs.Prelude.{Vec}
use Rattle.std.specs.declared.alloc.Global.{Global}
use Rattle.bg_ast.specs.Views.{impl_of}
use Rattle.bg_check.specs.declared.verdict.Judged.{Judged}
use Rattle.bg_told.specs.Report.{implementation_text}
use Rattle.bg_told.specs.Sheets.{head_of}
use Rattle.bg_told.specs.Entries.{outer_in, split_all}
use Rattle.bg_told.proofs.Texts.{texts_step}
use Rattle.bg_told.proofs.report.put_implementations.Goals as goal

pub loop-i-preserved : goal.loop-i-preserved
loop-i-preserved c =
    rw (c.in_ok-put_implementation.ensures, c.deref.ensures.value)
    (texts_step (implementation_text (outer_in c.args.declared)) head_of impl_of (split_all (length c.args.declared.globals.now)) (λ (v : Vec Judged Global). v.items) c.args.implementations.now c.args.outcome.now c.loop-i.i c.index-implementations-i.result c.index-outcome-i.result c.loop-i.out.items _ c.loop-i-test.true c.index-implementations-i.is (omega (arith, c.if-i-outcome.false)) c.index-outcome-i.is c.loop-i.invariant)
