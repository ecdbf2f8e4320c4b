use Rattle.std.proofs.Common.{◌≡◌, map, ap, ◌∙◌}
use Rattle.bg_places.specs.Views.{spot_of}
use Rattle.bg_formed.specs.Used.{use_edges}
use Rattle.bg_formed.specs.Seen.{use_of}
use Rattle.bg_formed.specs.Views.{form_cmds_of, form_edge_of, form_block_of}
use Rattle.bg_slice.specs.Noted.{kept_in}
use Rattle.bg_slice.proofs.Noting.{one_block}
use Rattle.bg_slice.proofs.noted.note_block.Goals as goal

pub returns : goal.returns
returns c =
    let t = spot_of c.args.target in
    let us = map use_of c.args.later.now.items in
    one_block c.args.base t us (form_block_of c.args.b.now) (form_cmds_of c.deref-2.result.now) (form_cmds_of c.counting.result.now) (map form_edge_of c.deref-3.result.now) (use_of c.use_edges-on.result) (kept_in c.args.marks.now) (kept_in c.note_cmds.new.marks) (kept_in c.note_edges.new.marks) (ap form_cmds_of c.deref-2.ensures.value) (ap (map form_edge_of) c.deref-3.ensures.value) (c.use_edges-on.ensures ∙ ap (λ l. use_edges t us (map form_edge_of l)) c.deref.ensures.value) c.counting.ensures c.note_cmds.ensures c.note_edges.ensures
