use Rattle.std.proofs.Common.{◌+◌, drop, sym, ap, ◌∙◌}
use Rattle.std.proofs.lemmas.List.{drop_more, at_drop_all}
use Rattle.bg_numbered.specs.Lines.{after_lines}
use Rattle.bg_term_table.specs.Views.{terms_in, incs_of}
use Rattle.bg_term_table.specs.Lines.{lines_of}
use Rattle.bg_term_table.proofs.behind_lines.terms_behind.Goals as goal

pub loop-i-init : goal.loop-i-init
loop-i-init c =
    λ fs g.
    ap (λ ts. after_lines (incs_of c.args.around) ts (lines_of c.args.lines.now)) (c.in_ok-made.ensures fs)

pub loop-i-preserved : goal.loop-i-preserved
loop-i-preserved c =
    let incs = incs_of c.args.around in
    let lines = c.args.lines.now in
    let i = c.loop-i.i in
    λ fs g.
    let old = terms_in fs c.loop-i.made.items in
    ap (λ ts. after_lines incs ts (lines_of (drop (i + 1) lines))) (c.in_ok-bring_in.ensures.terms fs g)
    ∙ sym (ap (λ l. after_lines incs old (lines_of l)) (drop_more lines i _ c.loop-i-test.true))
    ∙ c.loop-i.invariant fs g

pub returns : goal.returns
returns c =
    let incs = incs_of c.args.around in
    λ fs g.
    sym (at_drop_all (λ l. after_lines incs (terms_in fs c.loop-i.made.items) (lines_of l)) c.args.lines.now c.loop-i.i c.loop-i-test.false)
    ∙ c.loop-i.invariant fs g
