use Rattle.bg_accept.proofs.Safety.{is_set, inductive, each_safe}
use Rattle.bg_accept.proofs.laws.accepted_programs_are_safe.Goals as goal

pub returns : goal.returns
returns c p d typed over h =
    let fails = c.accepted_places_do_not_fail.ensures in
    let place = c.placed_are_places.ensures in
    let safe = c.what_fails_at_no_place_is_safe.ensures in
    (is_set fails place safe p d typed over h, inductive fails place safe p d typed over h, each_safe fails place safe p d typed over h)
