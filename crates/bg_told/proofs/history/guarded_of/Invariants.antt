use Rattle.std.proofs.Common.{◌≡◌, ◌++◌, filter, drop}
use Rattle.bg_places.specs.Views.{placed_in}
use Rattle.bg_told.specs.History.{has_candidate}
use Rattle.bg_told.proofs.history.guarded_of.Given as goal

abbrev pub invariant-loop-place : goal.invariant-loop-place
invariant-loop-place l = placed_in l.made.items ++ filter has_candidate (placed_in (drop l.place-index l.places)) ≡ filter has_candidate (placed_in l.places)
