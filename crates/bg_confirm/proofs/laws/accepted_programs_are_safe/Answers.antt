use Rattle.bg_confirm.proofs.Meeting.{met_by}
use Rattle.bg_confirm.proofs.Safety.{set_of_candidates, set_inductive, each_safe}
use Rattle.bg_confirm.proofs.laws.accepted_programs_are_safe.Goals as goal

pub returns : goal.returns
returns c p d o h =
    let fails = c.accepted_places_do_not_fail.ensures in
    let place = c.placed_are_places.ensures in
    let safe = c.what_fails_at_no_place_is_safe.ensures in
    (met_by p d.interp h.0 o, set_of_candidates fails place safe p d o h.1, set_inductive fails place safe p d o h.1, each_safe fails place safe p d o h.1)
