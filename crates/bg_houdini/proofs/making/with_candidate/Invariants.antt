use Rattle.std.proofs.Common.{◌≡◌, take}
use Rattle.std.specs.Prelude.{filter}
use Rattle.bg_houdini.specs.Tasks.{has_candidate}
use Rattle.bg_houdini.proofs.Once.{places_in}
use Rattle.bg_houdini.proofs.making.with_candidate.Given as goal

abbrev pub invariant-loop-place : goal.invariant-loop-place
invariant-loop-place l = places_in l.made.items ≡ filter has_candidate (places_in (take l.place-index l.places))
