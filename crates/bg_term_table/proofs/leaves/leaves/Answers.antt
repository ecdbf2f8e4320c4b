use Rattle.std.proofs.Common.{◌+◌, Some, take, drop, sym, ap, ◌∙◌}
use Rattle.std.proofs.lemmas.List.{take_all}
use Rattle.bg_term_table.specs.Views.{meaning, meanings}
use Rattle.bg_term_table.specs.Keys.{leaves_in}
use Rattle.bg_term_table.proofs.Loops.{read_more, split}
use Rattle.bg_term_table.proofs.Bare.{stop, go_on}
use Rattle.bg_term_table.proofs.leaves.leaves.Goals as goal

pub returns-in-None : goal.returns-in-None
returns-in-None c =
    let es = c.args.es.now in
    let i = c.loop-e.e-index in
    let e = c.e-item.result in
    sym (ap leaves_in (split meaning es i e c.loop-e-test.true c.e-item.is) ∙ stop (meanings (take i es)) (meaning e) (meanings (drop (i + 1) es)) (sym c.in-None.ensures))

pub loop-e-preserved : goal.loop-e-preserved
loop-e-preserved c =
    let es = c.args.es.now in
    let i = c.loop-e.e-index in
    let e = c.e-item.result in
    ap leaves_in (read_more meaning es i e c.loop-e-test.true c.e-item.is)
    ∙ go_on (meanings (take i es)) c.loop-e.made.items (meaning e) c.in-Some.l c.loop-e.invariant (sym c.in-Some.ensures)
    ∙ ap Some (sym c.in_ok-push-in-Some.ensures.items)

pub returns : goal.returns
returns c =
    sym c.loop-e.invariant ∙ ap (λ l. leaves_in (meanings l)) (take_all c.loop-e.e-index c.args.es.now c.loop-e-test.false)
