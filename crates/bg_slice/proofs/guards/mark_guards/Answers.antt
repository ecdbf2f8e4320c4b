use Rattle.std.proofs.Common.{rules, ◌+◌, drop, sym, ap, ◌∙◌}
use Rattle.bg_formed.specs.Views.{form_cmd_of, form_cmds_of}
use Rattle.bg_slice.specs.Slices.{guards_cmd, guards_cmds}
use Rattle.bg_slice.specs.Marks.{marked}
use Rattle.bg_slice.proofs.Marking.{marked_none, marked_both, drop_item, drop_all}
use Rattle.bg_slice.proofs.guards.mark_guards.Goals as goal

pub loop-k-preserved : goal.loop-k-preserved
loop-k-preserved c =
    let ks = c.args.cmds.now in
    let k = c.k-item.result in
    let more = form_cmds_of (drop (c.loop-k.k-index + 1) ks) in
    ap (marked (λ j. guards_cmds j more) 0) c.mark_cmd.ensures
    ∙ (marked_both (λ j. guards_cmd j (form_cmd_of k)) (λ j. guards_cmds j more) 0 c.loop-k.marks
    ∙ (ap (λ l. marked (λ j. guards_cmds j (form_cmds_of l)) 0 c.loop-k.marks) (sym (drop_item ks c.loop-k.k-index k c.loop-k-test.true c.k-item.is))
    ∙ c.loop-k.invariant))

pub returns : goal.returns
returns c =
    sym (marked_none 0 c.loop-k.marks)
    ∙ (ap (λ l. marked (λ j. guards_cmds j (form_cmds_of l)) 0 c.loop-k.marks) (sym (drop_all c.args.cmds.now c.loop-k.k-index (search rules)))
    ∙ c.loop-k.invariant)
