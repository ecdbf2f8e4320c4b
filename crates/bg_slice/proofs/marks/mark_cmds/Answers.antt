use Rattle.std.proofs.Common.{rules, ◌+◌, drop, sym, ap, ◌∙◌}
use Rattle.bg_formed.specs.Views.{form_cmd_of, form_cmds_of}
use Rattle.bg_slice.specs.Slices.{names_cmd, names_cmds}
use Rattle.bg_slice.specs.Marks.{marked}
use Rattle.bg_slice.proofs.Marking.{marked_none, marked_both, drop_item, drop_all}
use Rattle.bg_slice.proofs.marks.mark_cmds.Goals as goal

pub loop-k-preserved : goal.loop-k-preserved
loop-k-preserved c =
    let base = c.args.base in
    let ks = c.args.cmds.now in
    let k = c.k-item.result in
    let more = form_cmds_of (drop (c.loop-k.k-index + 1) ks) in
    ap (marked (λ n. names_cmds n more) base) c.mark_cmd.ensures
    ∙ (marked_both (λ n. names_cmd n (form_cmd_of k)) (λ n. names_cmds n more) base c.loop-k.marks
    ∙ (ap (λ l. marked (λ n. names_cmds n (form_cmds_of l)) base c.loop-k.marks) (sym (drop_item ks c.loop-k.k-index k c.loop-k-test.true c.k-item.is))
    ∙ c.loop-k.invariant))

pub returns : goal.returns
returns c =
    let base = c.args.base in
    sym (marked_none base c.loop-k.marks)
    ∙ (ap (λ l. marked (λ n. names_cmds n (form_cmds_of l)) base c.loop-k.marks) (sym (drop_all c.args.cmds.now c.loop-k.k-index (search rules)))
    ∙ c.loop-k.invariant)
