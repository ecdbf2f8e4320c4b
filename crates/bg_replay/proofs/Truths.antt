-- Truth values, and what is none.
use Rattle.std.proofs.Common.{◌≡◌, ℕ, Bool, true, false, Option, Some, None, refl}
use Rattle.bg_ast.specs.Values.{Val, Num, Truth, Element, Default, Entry}
use Rattle.bg_sense.specs.Flow.{Answer}
use Rattle.bg_scalar.specs.Views.{truth_in}
use Rattle.bg_replay.specs.Moments.{Moment}
use Rattle.bg_replay.specs.Said.{Fine, Stops, Unsaid, true_or}
use Rattle.bg_replay.specs.Ways.{On, Nowhere, side_by}

pub fine_if : (a : Answer) (x : Val) → truth_in x ≡ Some true → true_or a x ≡ Fine
fine_if a (Truth true) h = refl
fine_if a (Truth false) h = absurd (let bad : ⊥ = cc in bad)
fine_if a (Num z) h = absurd (let bad : ⊥ = cc in bad)
fine_if a (Element t z) h = absurd (let bad : ⊥ = cc in bad)
fine_if a (Default d) h = absurd (let bad : ⊥ = cc in bad)
fine_if a (Entry k v n) h = absurd (let bad : ⊥ = cc in bad)

pub stops_if : (a : Answer) (x : Val) → truth_in x ≡ Some false → true_or a x ≡ Stops a
stops_if a (Truth true) h = absurd (let bad : ⊥ = cc in bad)
stops_if a (Truth false) h = refl
stops_if a (Num z) h = absurd (let bad : ⊥ = cc in bad)
stops_if a (Element t z) h = absurd (let bad : ⊥ = cc in bad)
stops_if a (Default d) h = absurd (let bad : ⊥ = cc in bad)
stops_if a (Entry k v n) h = absurd (let bad : ⊥ = cc in bad)

pub unsaid_if : (a : Answer) (x : Val) → truth_in x ≡ None → true_or a x ≡ Unsaid
unsaid_if a (Truth true) h = absurd (let bad : ⊥ = cc in bad)
unsaid_if a (Truth false) h = absurd (let bad : ⊥ = cc in bad)
unsaid_if a (Num z) h = refl
unsaid_if a (Element t z) h = refl
unsaid_if a (Default d) h = refl
unsaid_if a (Entry k v n) h = refl

pub ruleset said_forms = (fine_if, stops_if, unsaid_if)

pub on_if : (on off : ℕ) (m : Moment) (x : Val) → truth_in x ≡ Some true → side_by x on off m ≡ On on m
on_if on off m (Truth true) h = refl
on_if on off m (Truth false) h = absurd (let bad : ⊥ = cc in bad)
on_if on off m (Num z) h = absurd (let bad : ⊥ = cc in bad)
on_if on off m (Element t z) h = absurd (let bad : ⊥ = cc in bad)
on_if on off m (Default d) h = absurd (let bad : ⊥ = cc in bad)
on_if on off m (Entry k v n) h = absurd (let bad : ⊥ = cc in bad)

pub off_if : (on off : ℕ) (m : Moment) (x : Val) → truth_in x ≡ Some false → side_by x on off m ≡ On off m
off_if on off m (Truth true) h = absurd (let bad : ⊥ = cc in bad)
off_if on off m (Truth false) h = refl
off_if on off m (Num z) h = absurd (let bad : ⊥ = cc in bad)
off_if on off m (Element t z) h = absurd (let bad : ⊥ = cc in bad)
off_if on off m (Default d) h = absurd (let bad : ⊥ = cc in bad)
off_if on off m (Entry k v n) h = absurd (let bad : ⊥ = cc in bad)

pub nowhere_if : (on off : ℕ) (m : Moment) (x : Val) → truth_in x ≡ None → side_by x on off m ≡ Nowhere
nowhere_if on off m (Truth true) h = absurd (let bad : ⊥ = cc in bad)
nowhere_if on off m (Truth false) h = absurd (let bad : ⊥ = cc in bad)
nowhere_if on off m (Num z) h = refl
nowhere_if on off m (Element t z) h = refl
nowhere_if on off m (Default d) h = refl
nowhere_if on off m (Entry k v n) h = refl

pub ruleset way_forms = (on_if, off_if, nowhere_if)
