use Rattle.std.proofs.Common.{ap, ◌∙◌}
use Rattle.std.proofs.lemmas.List.{take_all}
use Rattle.bg_flat.specs.Blocks.{supposed}
use Rattle.bg_flat.specs.Fronts.{stated}
use Rattle.bg_numbered.specs.Lines.{instances_in}
use Rattle.bg_term_table.specs.Lines.{lines_of}
use Rattle.bg_term_table.specs.Views.{terms_in}
use Rattle.bg_fronts.proofs.Saying.{saying_step}
use Rattle.bg_fronts.proofs.lines.supposing_lines.Goals as goal

pub loop-line-preserved : goal.loop-line-preserved
loop-line-preserved c =
    λ fs.
    saying_step c.args.count (terms_in fs c.args.terms.now) c.args.lines.now c.loop-line.line-index _ c.loop-line.made.items c.put.new.made.items _ c.loop-line-test.true c.in_ok-put.ensures (c.in_ok-one.ensures fs) (c.loop-line.invariant fs)

pub returns : goal.returns
returns c =
    λ fs.
    c.loop-line.invariant fs
    ∙ ap (λ l. supposed (stated c.args.count (terms_in fs c.args.terms.now) (instances_in (lines_of l)))) (take_all c.loop-line.line-index c.args.lines.now c.loop-line-test.false)
