-- Typed clauses say something.
use Rattle.std.proofs.Common.{◌≡◌, ℕ, Bool, true, false, List, [], ◌∷◌}
use Rattle.std.specs.Prelude.{if◌then◌else◌}
use Rattle.bg_ast.specs.Values.{Num, Truth, Element, Default, Entry, BoolTy}
use Rattle.bg_sense.specs.Flow.{Answer, Blocked, Failed}
use Rattle.bg_sense.specs.Clauses.{is_kept}
use Rattle.bg_sense.specs.Typing.{Sig}
use Rattle.bg_flow.specs.Core.{Demand, Saying}
use Rattle.bg_block_types.specs.TypedFlow.{DemandsAreTyped, SayingsAreTyped}
use Rattle.bg_scalar.specs.Worths.{Seen, WorthOf, Is, Leaves, NoValue, worth}
use Rattle.bg_scalar.specs.Typed.{is_valued, Sees, HasWorth}
use Rattle.bg_scalar.proofs.Typing.{has_worth}
use Rattle.bg_replay.specs.Said as said
use Rattle.bg_replay.specs.Said.{Said, Fine, Stops, Unsaid, then_said, or_stops, check_one, checks, suppose_one, supposes}
use Rattle.bg_replay.specs.Over.{over_demands, over_sayings}
use Rattle.bg_replay.specs.Endings.{Tells}
use Rattle.bg_replay.proofs.Calling.{both_true}

tells_then : (s t : Said) → Tells s → Tells t → Tells (then_said s t)
tells_then Fine t h k = k
tells_then (Stops x) t h k = tt
tells_then (said.Leaves o) t h k = tt
tells_then Unsaid t h k = absurd h

tells_or : (x : Answer) (o : WorthOf) → HasWorth BoolTy o → Tells (or_stops x o)
tells_or x (Is (Truth true)) h = tt
tells_or x (Is (Truth false)) h = tt
tells_or x (Is (Num z)) h = absurd (let bad : ⊥ = cc in bad)
tells_or x (Is (Element u z)) h = absurd (let bad : ⊥ = cc in bad)
tells_or x (Is (Default d)) h = absurd (let bad : ⊥ = cc in bad)
tells_or x (Is (Entry q u n)) h = absurd (let bad : ⊥ = cc in bad)
tells_or x (Leaves o) h = tt
tells_or x NoValue h = absurd h

tells_if : (b : Bool) (s : Said) → Tells s → Tells (if b then s else Fine)
tells_if true s h = h
tells_if false s h = tt

pub checks_tell : (set : ℕ → Bool) (g : Sig) (s : Seen) (ds : List Demand) → Sees g s → DemandsAreTyped g ds → over_demands ds ≡ true → Tells (checks set s ds)
checks_tell set g s [] w t h = tt
checks_tell set g s (d ∷ ds) w t h =
    let k = both_true (is_valued d.says) (over_demands ds) h in
    tells_then (check_one set s d) (checks set s ds)
    (tells_if (is_kept set d.candidate) (or_stops (Failed d.spot) (worth d.says s)) (tells_or (Failed d.spot) (worth d.says s) (has_worth d.says s g BoolTy k.0 t.0.0 w)))
    (checks_tell set g s ds w t.1 k.1)

pub supposes_tell : (set : ℕ → Bool) (g : Sig) (s : Seen) (ds : List Saying) → Sees g s → SayingsAreTyped g ds → over_sayings ds ≡ true → Tells (supposes set s ds)
supposes_tell set g s [] w t h = tt
supposes_tell set g s (d ∷ ds) w t h =
    let k = both_true (is_valued d.says) (over_sayings ds) h in
    tells_then (suppose_one set s d) (supposes set s ds)
    (tells_if (is_kept set d.candidate) (or_stops Blocked (worth d.says s)) (tells_or Blocked (worth d.says s) (has_worth d.says s g BoolTy k.0 t.0.0 w)))
    (supposes_tell set g s ds w t.1 k.1)
