use Rattle.std.proofs.Common.{map, ap, ◌∙◌}
use Rattle.std.proofs.lemmas.List.{take_all}
use Rattle.bg_sense.specs.Eval.{default_for}
use Rattle.bg_finish.specs.Filled.{blank}
use Rattle.bg_finish.proofs.Held.{blank_of, blanks_are, blank_more}
use Rattle.bg_finish.proofs.tables.blank_tables.Goals as goal

pub loop-t-preserved : goal.loop-t-preserved
loop-t-preserved c =
    blank_more c.args.results.now c.loop-t.t-index c.t-item.result c.loop-t.made.items c.push.new.self.items c.blank_table-table.result c.loop-t-test.true c.t-item.is c.in_ok-push.ensures.items
    (c.blank_table-table.ensures ∙ ap blank (c.in_ok-default.ensures ∙ ap default_for c.as_ref.ensures)) c.loop-t.invariant

pub returns : goal.returns
returns c =
    c.loop-t.invariant
    ∙ (ap (map blank_of) (take_all c.loop-t.t-index c.args.results.now c.loop-t-test.false) ∙ blanks_are c.args.results.now)
