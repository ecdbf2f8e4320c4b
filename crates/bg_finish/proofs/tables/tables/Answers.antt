use Rattle.std.proofs.Common.{length, map}
use Rattle.bg_kinds.specs.Views.{ref_in}
use Rattle.bg_scalar.specs.Views.{vals_in}
use Rattle.bg_finish.specs.Filled.{blanks}
use Rattle.bg_finish.proofs.Held.{none_so_far, more_so_far, all_so_far}
use Rattle.bg_finish.proofs.tables.tables.Goals as goal

pub loop-i-init : goal.loop-i-init
loop-i-init c =
    none_so_far (vals_in c.args.values.now) c.args.terms.now c.args.rows.now (length c.args.around.incarnations.now) (blanks (map ref_in c.args.around.results.now)) c.in_ok-made.made.items c.in_ok-made.ensures

pub loop-i-preserved : goal.loop-i-preserved
loop-i-preserved c =
    more_so_far (vals_in c.args.values.now) c.args.terms.now c.args.rows.now (length c.args.around.incarnations.now) (blanks (map ref_in c.args.around.results.now)) c.loop-i.i c.in_ok-number.number c.index-terms-i.result c.scalars_at-scalars.result.now c.loop-i.made.items c.put_term.new.tables.items c.loop-i-test.true c.index-terms-i.is c.in_ok-number.ensures c.scalars_at-scalars.ensures c.in_ok-put_term.ensures c.loop-i.invariant

pub returns : goal.returns
returns c =
    all_so_far (vals_in c.args.values.now) c.args.terms.now c.args.rows.now (length c.args.around.incarnations.now) c.args.around.results.now c.loop-i.i c.loop-i.made.items c.loop-i-test.false c.loop-i.invariant
