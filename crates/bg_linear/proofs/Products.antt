-- Which side of a product is the number.
use Rattle.std.proofs.Common.{◌≡◌, ◌<◌, true, false, List, [], ◌∷◌, length, refl, subst, arith}
use Rattle.std.specs.Prelude.{Result}
use Rattle.bg_base.specs.declared.exact.OutOfRange.{OutOfRange}
use Rattle.bg_rows.specs.declared.entry.Entry.{Entry}
use Rattle.bg_rows.specs.declared.refused.Refused.{Refused}
use Rattle.bg_rows.specs.Rows.{Told, is_empty}
use Rattle.bg_linear.specs.declared.scaled.Change.{Change}
use Rattle.bg_linear.specs.declared.scaled.Change.TheVariants.{TimesLeft, TimesRight}
use Rattle.bg_linear.specs.Lins.{LinOf, throughout, product}
use Rattle.bg_linear.specs.Views.{changing}

empty_is : (ts : List Entry) → length ts ≡ 0 → is_empty ts ≡ true
empty_is [] h = refl
empty_is (t ∷ ts) h = absurd (omega (arith, h))

some_is : (ts : List Entry) → 0 < length ts → is_empty ts ≡ false
some_is [] h = absurd (omega (arith, h))
some_is (t ∷ ts) h = refl

pub told_same : {A B : Type 0} (view : A → B) (r : Result A Refused) (x y : Result B OutOfRange) → x ≡ y → Told view r x → Told view r y
told_same view r x y e t = subst (Told view r) e t

pub number_right : (how : Change) (f g : LinOf) → how ≡ TimesRight g.constant → length g.entries ≡ 0 → throughout (changing how) f ≡ product f g
number_right how f g e h = rw (e, empty_is g.entries h) refl

pub number_left : (how : Change) (f g : LinOf) → how ≡ TimesLeft f.constant → 0 < length g.entries → throughout (changing how) g ≡ product f g
number_left how f g e h = rw (e, some_is g.entries h) refl
