use Rattle.std.proofs.Common.{◌≡◌, drop}
use Rattle.bg_cert.specs.Walks.{has}
use Rattle.bg_places.specs.Views.{placed_in}
use Rattle.bg_accept.specs.Tables.{any_needed}
use Rattle.bg_accept.proofs.kept.any_needed.Given as goal

abbrev pub invariant-loop-place : goal.invariant-loop-place
invariant-loop-place l = any_needed (has l.set) (placed_in (drop l.place-index l.places)) ≡ any_needed (has l.set) (placed_in l.places)
