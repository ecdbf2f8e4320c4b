use Rattle.std.proofs.Common.{flat_map}
use Rattle.std.proofs.lemmas.Result.{on_ok_weaker}
use Rattle.bg_text.specs.Views as v
use Rattle.bg_spaces.specs.SpaceViews.{spaces_in}
use Rattle.bg_spaces.specs.Declarations.{group_faults}
use Rattle.bg_resolve.specs.Program.{candidate_faults}
use Rattle.bg_names.proofs.Firsts.{after}
use Rattle.bg_resolve.proofs.kinds.constants.Goals as goal

pub returns-then-are_candidates-clause-first : goal.returns-then-are_candidates-clause-first
returns-then-are_candidates-clause-first c =
    let k = v.consts_of c.args.c.now in
    after _ _ _ (group_faults (spaces_in c.args.g.now) k.group) (flat_map (candidate_faults k) k.group.names) c.in_ok-note_ty.ensures.first c.note_candidates.ensures

pub returns-else-are_candidates-clause-first : goal.returns-else-are_candidates-clause-first
returns-else-are_candidates-clause-first c =
    let k = v.consts_of c.args.c.now in
    on_ok_weaker c.push_named.result (λ m. after _ _ _ (group_faults (spaces_in c.args.g.now) k.group) (flat_map (candidate_faults k) k.group.names) c.in_ok-note_ty.ensures.first c.note_candidates.ensures) c.push_named.ensures.made
