-- Types by the brackets that the code has.
use Rattle.std.proofs.Common.{◌≡◌, ◌<◌, List, [], ◌∷◌, length, Some, None, refl, arith}
use Rattle.bg_kinds.specs.declared.kinds.Base.{Base}
use Rattle.bg_kinds.specs.declared.kinds.Base.TheVariants as base
use Rattle.bg_kinds.specs.declared.kinds.Keys.{Keys}
use Rattle.bg_kinds.specs.Views.{keys_of, base_of, tower}
use Rattle.bg_fits.specs.Bases.{base_in, IsBase}

its_base : (b : Base) → Some b ≡ base_in (base_of b)
its_base base.Int = refl
its_base base.Bool = refl
its_base (base.User u) = refl

pub bare_in : (ks : List Keys) (b : Base) → length ks ≡ 0 → Some b ≡ base_in (tower ks (base_of b))
bare_in [] b h = its_base b
bare_in (k ∷ ks) b h = absurd (omega (arith, h))

pub bare_is : (ks : List Keys) (b : Base) → length ks ≡ 0 → IsBase (Some b) (tower ks (base_of b))
bare_is [] b h = refl
bare_is (k ∷ ks) b h = absurd (omega (arith, h))

pub map_in : (ks : List Keys) (b : Base) → 0 < length ks → None ≡ base_in (tower ks (base_of b))
map_in [] b h = absurd (omega (arith, h))
map_in (k ∷ ks) b h = refl

pub map_is : (ks : List Keys) (b : Base) → 0 < length ks → IsBase None (tower ks (base_of b))
map_is [] b h = absurd (omega (arith, h))
map_is (k ∷ ks) b h = (keys_of k, (tower ks (base_of b), refl))
