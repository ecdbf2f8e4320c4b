use Rattle.std.proofs.Common.{List, map, flat_map, sym, ap, ◌∙◌}
use Rattle.bg_base.specs.declared.pos.Pos.{Pos}
use Rattle.bg_text.specs.Views as v
use Rattle.bg_ast.specs.Resolved as r
use Rattle.bg_names.specs.Faults.{better}
use Rattle.bg_names.specs.Inside.{named_index, index_faults, id_faults}
use Rattle.bg_names.specs.Views.{inside_of, first_of}
use Rattle.bg_names.proofs.Firsts.{better_append, fuse_map, fuse_flat}
use Rattle.bg_names.proofs.Forms.{both}
use Rattle.bg_names.proofs.changes.target.Goals as goal

target_from : (p : r.Placed) (bs : List (Pos × r.Exs)) → r.Target
target_from p bs = record { placed = p; brackets = bs }

pub returns-clause-made : goal.returns-clause-made
unfolding target_from
returns-clause-made c =
    let s = inside_of c.args.inside.now in
    let bs = c.args.x.now.brackets.items in
    both target_from c.in_ok-placed.ensures.made (c.in_ok-brackets.ensures.made ∙ ap (map (λ x. named_index s (v.bracket_of x))) c.deref.ensures.value ∙ sym (fuse_map (named_index s) v.bracket_of bs))

pub returns-clause-first : goal.returns-clause-first
returns-clause-first c =
    let s = inside_of c.args.inside.now in
    let bs = c.args.x.now.brackets.items in
    c.in_ok-brackets.ensures.first
    ∙ both better c.in_ok-placed.ensures.first (ap (flat_map (λ x. index_faults s (v.bracket_of x))) c.deref.ensures.value ∙ sym (fuse_flat (index_faults s) v.bracket_of bs))
    ∙ sym (better_append (first_of c.args.notes.now) (id_faults s (v.id_of c.args.x.now.name)) (flat_map (index_faults s) (map v.bracket_of bs)))
