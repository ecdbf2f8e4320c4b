use Rattle.std.proofs.Common.{map, ap, ◌∙◌}
use Rattle.std.proofs.lemmas.Result.{IfOk-weaker}
use Rattle.bg_places.specs.Views.{spot_of}
use Rattle.bg_formed.specs.Used.{use_edges}
use Rattle.bg_formed.specs.Seen.{use_of}
use Rattle.bg_formed.specs.Views.{form_cmds_of, form_edge_of, form_block_of}
use Rattle.bg_slice.specs.Slices.{slice_edges}
use Rattle.bg_clause.specs.Failing.{fail_edges}
use Rattle.bg_clause.specs.Cutting.{cut_cmds}
use Rattle.bg_clause.specs.Lends.{lent_in}
use Rattle.bg_clause.specs.Views.{short_in}
use Rattle.bg_clause.proofs.ways.cut_block.Goals as goal

pub returns : goal.returns
returns c =
    let cs = c.args.units.now in
    let t = spot_of c.args.target in
    let b = form_block_of c.args.b.now in
    let fails = map short_in c.args.later.now.fails.items in
    let us = map use_of c.args.later.now.uses.items in
    let form = c.in_ok-cut_edges.ensures ∙ ap (λ l. fail_edges cs t fails (slice_edges t us (map form_edge_of l))) c.deref.ensures.value in
    let on = c.use_edges.ensures ∙ ap (λ l. use_edges t us (map form_edge_of l)) c.deref-2.ensures.value in
    let ks = ap form_cmds_of c.deref-3.ensures.value in
    IfOk-weaker c.cut_cmds.result _ _ (λ x is. is ∙ (ap (λ l. cut_cmds cs t l (record { form = lent_in c.in_ok-cut_edges.field-0; on = use_of c.use_edges.result })) ks ∙ (ap (λ f. cut_cmds cs t b.cmds (record { form = f; on = use_of c.use_edges.result })) form ∙ ap (λ u. cut_cmds cs t b.cmds (record { form = fail_edges cs t fails (slice_edges t us b.next); on = u })) on))) c.cut_cmds.ensures
