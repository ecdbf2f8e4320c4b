use Rattle.std.proofs.Common.{◌++◌, refl, ap}
use Rattle.bg_term_table.specs.Views.{meanings}
use Rattle.bg_scalar.specs.Views.{vals_in}
use Rattle.bg_wanted.specs.Scalars.{scalars_in}
use Rattle.bg_finish.specs.Filled.{args_in}
use Rattle.bg_finish.proofs.Held.{args_more, args_short, args_end}
use Rattle.bg_finish.proofs.tables.arguments.Goals as goal

pub loop-i-init : goal.loop-i-init
loop-i-init c =
    ap (λ l. vals_in l ++ args_in (vals_in c.args.values.now) (meanings c.args.es.now) (scalars_in c.args.scalars.now)) c.new-made.ensures.items

pub returns-then-i-scalars : goal.returns-then-i-scalars
returns-then-i-scalars c =
    args_short (vals_in c.args.values.now) c.args.es.now c.args.scalars.now c.loop-i.i c.loop-i.made.items _ c.if-i-scalars.true c.loop-i.invariant

pub loop-i-preserved : goal.loop-i-preserved
loop-i-preserved c =
    args_more (vals_in c.args.values.now) c.args.es.now c.args.scalars.now c.loop-i.i c.index-es-i.result c.index-es-i.result _ _ c.loop-i.made.items c.push.new.self.items c.in_ok-value.value _ c.loop-i-test.true c.if-i-scalars.false c.index-es-i.is refl c.in_ok-push.ensures.items c.in_ok-value.ensures c.loop-i.invariant

pub returns : goal.returns
returns c =
    args_end (vals_in c.args.values.now) c.args.es.now c.args.scalars.now c.loop-i.i c.loop-i.made.items _ c.loop-i-test.false c.loop-i.invariant
