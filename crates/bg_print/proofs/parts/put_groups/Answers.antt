use Rattle.std.proofs.Common.{refl, map, true}
use Rattle.bg_text.specs.Views.{group_of}
use Rattle.bg_print.specs.Parts.{group_doc}
use Rattle.bg_print.specs.Docs.{text, gap, commas_from}
use Rattle.bg_print.proofs.Loops.{two_more, none_left}
use Rattle.bg_print.proofs.parts.put_groups.Goals as goal

pub loop-group-preserved : goal.loop-group-preserved
loop-group-preserved c = two_more (λ l. text (commas_from c.loop-group.behind group_doc (map group_of l))) (λ l. text (commas_from true group_doc (map group_of l))) c.args.groups.now c.loop-group.group-index c.group-item.result (text (gap c.loop-group.behind)) (text (group_doc (group_of c.group-item.result))) _ _ _ _ (λ ys. refl) c.loop-group-test.true c.group-item.is c.in_ok-put_gap.ensures c.in_ok-put_group.ensures c.loop-group.invariant

pub returns : goal.returns
returns c = none_left (λ l. text (commas_from c.loop-group.behind group_doc (map group_of l))) c.args.groups.now c.loop-group.group-index _ _ refl c.loop-group-test.false c.loop-group.invariant
