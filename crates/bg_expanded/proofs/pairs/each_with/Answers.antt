use Rattle.std.proofs.Common.{◌+◌, ap, ◌∙◌}
use Rattle.bg_ast.specs.Values.{Ty}
use Rattle.bg_kinds.specs.Views.{ref_of}
use Rattle.bg_expanded.specs.Pairs.{one_with}
use Rattle.bg_expanded.proofs.Tallies.{one_compared, all_compared}
use Rattle.bg_expanded.proofs.pairs.each_with.Goals as goal

pub loop-u-preserved : goal.loop-u-preserved
loop-u-preserved c =
    one_compared (ref_of c.args.t) c.args.told.now c.loop-u.u-index c.u-item.result c.loop-u.count _ _ _ c.loop-u-test.true c.u-item.is (c.one_with.ensures ∙ ap (one_with (ref_of c.args.t)) c.as_ref.ensures) c.saturating_add-count.ensures c.loop-u.invariant

pub returns : goal.returns
returns c = all_compared (ref_of c.args.t) c.args.told.now c.loop-u.u-index c.loop-u.count _ c.loop-u-test.false c.loop-u.invariant
