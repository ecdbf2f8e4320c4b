use Rattle.std.proofs.Common.{refl, map, true}
use Rattle.bg_text.specs.Views.{target_of}
use Rattle.bg_print.specs.Parts.{target_doc}
use Rattle.bg_print.specs.Docs.{text, gap, commas_from}
use Rattle.bg_print.proofs.Loops.{two_more, none_left}
use Rattle.bg_print.proofs.parts.put_targets.Goals as goal

pub loop-target-preserved : goal.loop-target-preserved
loop-target-preserved c = two_more (λ l. text (commas_from c.loop-target.behind target_doc (map target_of l))) (λ l. text (commas_from true target_doc (map target_of l))) c.args.targets.now c.loop-target.target-index c.target-item.result (text (gap c.loop-target.behind)) (text (target_doc (target_of c.target-item.result))) _ _ _ _ (λ ys. refl) c.loop-target-test.true c.target-item.is c.in_ok-put_gap.ensures c.in_ok-put_target.ensures c.loop-target.invariant

pub returns : goal.returns
returns c = none_left (λ l. text (commas_from c.loop-target.behind target_doc (map target_of l))) c.args.targets.now c.loop-target.target-index _ _ refl c.loop-target-test.false c.loop-target.invariant
