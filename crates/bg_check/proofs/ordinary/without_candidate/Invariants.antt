use Rattle.std.proofs.Common.{◌≡◌, take}
use Rattle.std.specs.Prelude.{filter}
use Rattle.bg_places.specs.Views.{placed_in}
use Rattle.bg_sound.specs.Told.{is_ordinary}
use Rattle.bg_check.proofs.ordinary.without_candidate.Given as goal

abbrev pub invariant-loop-place : goal.invariant-loop-place
invariant-loop-place l = placed_in l.made.items ≡ filter is_ordinary (placed_in (take l.place-index l.places))
