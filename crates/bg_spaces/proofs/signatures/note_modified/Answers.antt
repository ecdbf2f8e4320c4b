use Rattle.std.proofs.Common.{sym, ◌∙◌, map, flat_map}
use Rattle.std.proofs.lemmas.List.{at_drop_all}
use Rattle.bg_names.specs.Views.{first_of}
use Rattle.bg_names.specs.Faults.{better}
use Rattle.bg_text.specs.Views as v
use Rattle.bg_spaces.specs.Declarations.{modified_faults}
use Rattle.bg_spaces.specs.SpaceViews.{spaces_in}
use Rattle.bg_spaces.proofs.Noted.{noted_step}
use Rattle.bg_spaces.proofs.signatures.note_modified.Goals as goal

pub loop-name-preserved : goal.loop-name-preserved
loop-name-preserved c = noted_step (modified_faults (spaces_in c.args.g.now)) v.id_of _ _ c.args.names.now c.loop-name.name-index c.name-item.result _ c.loop-name-test.true c.name-item.is c.loop-name.invariant c.note_global.ensures

pub returns : goal.returns
returns c =
    sym (at_drop_all (λ l. better (first_of c.loop-name.notes) (flat_map (modified_faults (spaces_in c.args.g.now)) (map v.id_of l))) c.args.names.now c.loop-name.name-index c.loop-name-test.false) ∙ c.loop-name.invariant
