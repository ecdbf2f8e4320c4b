use Rattle.std.proofs.Common.{rules, ◌≡◌, ◌+◌, map, drop, sym, ap, ◌∙◌}
use Rattle.bg_places.specs.Views.{spot_of}
use Rattle.bg_formed.specs.Seen.{use_of}
use Rattle.bg_formed.specs.Views.{form_cmds_of, form_edge_of}
use Rattle.bg_slice.specs.Slices.{slice_edges}
use Rattle.bg_slice.specs.Noted.{kept_in, noted_edges}
use Rattle.bg_slice.proofs.Marking.{drop_item, drop_all}
use Rattle.bg_slice.proofs.Noting.{noted_none, one_edge}
use Rattle.bg_slice.proofs.noted.note_edges.Goals as goal

pub loop-e-preserved : goal.loop-e-preserved
loop-e-preserved c =
    let base = c.args.base in
    let t = spot_of c.args.target in
    let us = map use_of c.args.later.now.items in
    let es = c.args.edges.now in
    let e = c.e-item.result in
    let more = map form_edge_of (drop (c.loop-e.e-index + 1) es) in
    one_edge base t us (form_edge_of e) more (form_cmds_of c.deref.result.now) (form_cmds_of c.counting.result.now) (use_of c.use_later-on.result) (kept_in c.loop-e.marks) (kept_in c.note_cmds.new.marks) (ap form_cmds_of c.deref.ensures.value) c.use_later-on.ensures c.counting.ensures c.note_cmds.ensures
    ∙ (ap (λ l. noted_edges base (slice_edges t us (map form_edge_of l)) (kept_in c.loop-e.marks)) (sym (drop_item es c.loop-e.e-index e c.loop-e-test.true c.e-item.is))
    ∙ c.loop-e.invariant)

pub returns : goal.returns
returns c =
    let base = c.args.base in
    let t = spot_of c.args.target in
    let us = map use_of c.args.later.now.items in
    sym (noted_none base (kept_in c.loop-e.marks))
    ∙ (ap (λ l. noted_edges base (slice_edges t us (map form_edge_of l)) (kept_in c.loop-e.marks)) (sym (drop_all c.args.edges.now c.loop-e.e-index (search rules)))
    ∙ c.loop-e.invariant)
