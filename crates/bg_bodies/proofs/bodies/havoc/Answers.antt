use Rattle.std.proofs.Common.{sym, ap, ◌∙◌}
use Rattle.bg_text.specs.Views as v
use Rattle.bg_ast.specs.Resolved as r
use Rattle.bg_names.specs.Faults.{better}
use Rattle.bg_names.specs.Inside.{placed, id_faults}
use Rattle.bg_names.specs.Views.{inside_of, first_of}
use Rattle.bg_names.proofs.Firsts.{fuse_map, fuse_flat}
use Rattle.bg_bodies.proofs.bodies.havoc.Goals as goal

pub returns-clause-made : goal.returns-clause-made
returns-clause-made c = ap r.Havoc (c.in_ok-changes.ensures.made ∙ sym (fuse_map (placed (inside_of c.args.inside.now)) v.id_of c.args.names.now))

pub returns-clause-first : goal.returns-clause-first
returns-clause-first c = c.in_ok-changes.ensures.first ∙ ap (better (first_of c.args.notes.now)) (sym (fuse_flat (id_faults (inside_of c.args.inside.now)) v.id_of c.args.names.now))
