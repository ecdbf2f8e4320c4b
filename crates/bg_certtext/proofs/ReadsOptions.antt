-- What a read that succeeds says of its parts.
use Rattle.std.proofs.Common.{◌≡◌, ◌⊎◌, inl, inr, Bool, true, false, ◌&&◌, if◌then◌else◌, Option, Some, None, refl}
use Rattle.bg_certtext.specs.Machine.{then_, when, or_else}

pub same_some : {A : Type 0} (x y : A) → Some x ≡ Some y → x ≡ y
same_some x y h = cc

pub then_made : {A B : Type 0} (o : Option A) (f : A → Option B) (y : B) → then_ o f ≡ Some y → (x : A) × (o ≡ Some x) × (f x ≡ Some y)
then_made None f y h = absurd (cc)
then_made (Some x) f y h = (x, refl, h)

pub when_made : {A : Type 0} (t : Bool) (x y : A) → when t x ≡ Some y → (t ≡ true) × (x ≡ y)
when_made true x y h = (refl, same_some x y h)
when_made false x y h = absurd (cc)

pub or_made : {A : Type 0} (o p : Option A) (y : A) → or_else o p ≡ Some y → (o ≡ Some y) ⊎ (p ≡ Some y)
or_made None p y h = inr h
or_made (Some x) p y h = inl h

pub if_made : {A : Type 0} (t : Bool) (o p : Option A) (y : A) → (if t then o else p) ≡ Some y → ((t ≡ true) × (o ≡ Some y)) ⊎ ((t ≡ false) × (p ≡ Some y))
if_made true o p y h = inl (refl, h)
if_made false o p y h = inr (refl, h)

-- both parts of a test that holds
pub both : (a b : Bool) → (a && b) ≡ true → (a ≡ true) × (b ≡ true)
both true b h = (refl, h)
both false b h = absurd (cc)

pub all_of : (a b : Bool) → a ≡ true → b ≡ true → (a && b) ≡ true
all_of a b h k = rw (h, k) refl
