use Rattle.std.proofs.Common.{◌++◌, [], map, flat_map, sym, ap, ◌∙◌}
use Rattle.bg_text.specs.Views as v
use Rattle.bg_ast.specs.Resolved as r
use Rattle.bg_ast.specs.Views.{exs_of}
use Rattle.bg_names.specs.Faults.{better}
use Rattle.bg_names.specs.Spaces.{repeats}
use Rattle.bg_names.specs.Exprs.{exs_faults}
use Rattle.bg_names.specs.Inside.{named_target, target_faults}
use Rattle.bg_bodies.specs.Bodies.{target_name}
use Rattle.bg_names.specs.Views.{inside_of, first_of}
use Rattle.bg_names.proofs.Firsts.{after, fuse_map, fuse_flat}
use Rattle.bg_names.proofs.Forms.{both, named_exs-of, exs_faults-of}
use Rattle.bg_bodies.proofs.simple.assign.Goals as goal

pub returns-clause-made : goal.returns-clause-made
returns-clause-made c =
    let s = inside_of c.args.inside.now in
    both (r.Assign c.args.pos) (c.in_ok-targets.ensures.made ∙ sym (fuse_map (named_target s) v.target_of c.args.xs.now)) (ap exs_of c.in_ok-values.ensures.made ∙ sym (named_exs-of s.scope c.args.es.now))

pub returns-clause-first : goal.returns-clause-first
returns-clause-first c =
    let s = inside_of c.args.inside.now in
    let ts = map v.target_of c.args.xs.now in
    let rs = repeats [] (map target_name ts) in
    let fs = flat_map (target_faults s) ts in
    after (first_of c.args.notes.now) _ _ (rs ++ fs) (exs_faults s.scope (v.exs_in c.args.es.now))
    (after (first_of c.args.notes.now) _ _ rs fs
    (c.in_ok-note_targets.ensures.first ∙ ap (λ l. better (first_of c.args.notes.now) (repeats [] l)) (sym (fuse_map target_name v.target_of c.args.xs.now)))
    (c.in_ok-targets.ensures.first ∙ ap (better (first_of c.note_targets.new.notes)) (sym (fuse_flat (target_faults s) v.target_of c.args.xs.now))))
    (c.in_ok-values.ensures.first ∙ ap (better (first_of c.targets.new.notes)) (sym (exs_faults-of s.scope c.args.es.now)))
