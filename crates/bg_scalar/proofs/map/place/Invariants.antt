use Rattle.std.proofs.Common.{◌≡◌, ◌+◌, ◌-◌, length, map, drop}
use Rattle.bg_scalar.specs.Maps.{key_in, place_in}
use Rattle.bg_scalar.proofs.map.place.Given as goal

abbrev pub invariant-loop-i : goal.invariant-loop-i
invariant-loop-i l =
    l.i + place_in (map key_in (drop l.i l.entries)) l.key ≡ place_in (map key_in l.entries) l.key

abbrev pub decreases-loop-i : goal.decreases-loop-i
decreases-loop-i l = length l.entries - l.i
