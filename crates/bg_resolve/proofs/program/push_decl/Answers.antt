use Rattle.std.proofs.lemmas.Result.{on_ok_weaker}
use Rattle.bg_text.specs.Views as v
use Rattle.bg_names.specs.Views.{first_of}
use Rattle.bg_spaces.specs.SpaceViews.{spaces_in}
use Rattle.bg_resolve.proofs.Programs.{all_kinds}
use Rattle.bg_resolve.proofs.program.push_decl.Goals as goal

pub returns-clause-first : goal.returns-clause-first
returns-clause-first c =
    on_ok_weaker c.push_bodies.result (all_kinds (spaces_in c.args.g.now) (v.decl_of c.args.d.now) (first_of c.args.notes.now) _ _ _ _ _ _ (first_of c.push_bodies.new.notes) c.in_ok-push_types.ensures.first c.in_ok-push_constants.ensures.first c.in_ok-push_globals.ensures.first c.in_ok-push_functions.ensures.first c.in_ok-push_axioms.ensures.first c.in_ok-push_procedures.ensures.first) c.push_bodies.ensures.first
