-- Rows of updates, and of selects that say what they make.
use Rattle.std.specs.Prelude.{◌≡◌, ◌⊎◌, ℕ, List, ◌∷◌, Some, slice_get}
use Rattle.bg_scalar.specs.declared.scalar.Scalar.{Scalar}
use Rattle.bg_wanted.specs.declared.class.Class.{Class}
use Rattle.bg_wanted.specs.declared.class.Class.TheVariants as class
use Rattle.bg_wanted.specs.Rows.{RowOf}
use Rattle.bg_wanted.specs.Firsts.{Agreeing}

module _ (rs : List RowOf) where
  -- a row of this class, with these arguments and this scalar
  pub record HasRow (c : Class) (args : List Scalar) (value : Scalar) : Type 0 where
    pub number : ℕ
    pub row : RowOf
    pub is_there : slice_get rs number ≡ Some row
    pub its_class : row.class ≡ c
    pub its_args : row.args ≡ args
    pub its_value : row.value ≡ value

  -- selects of maps of this type from both maps at an index have one scalar
  pub record AgreeAt (maps : ℕ) (updated before : Scalar) (index : List Scalar) : Type 0 where
    pub value : Scalar
    pub new : HasRow (class.Select maps) (updated ∷ index) value
    pub old : HasRow (class.Select maps) (before ∷ index) value

  -- a select at the index of an update with this scalar and these arguments has the new value
  abbrev pub HereBy : ℕ → Scalar → List Scalar → Type 0
  HereBy m z (b ∷ v ∷ q) = HasRow (class.Select m) (z ∷ q) v
  HereBy m z _ = Unit {0}

  -- at another index at which one of both maps is selected from, they agree
  abbrev pub AtOther : (maps : ℕ) (updated before : Scalar) (own : List Scalar) → RowOf → Type 0
  AtOther m z b q s =
      (x : Scalar) (k : List Scalar) → s.class ≡ class.Select m → s.args ≡ x ∷ k → (x ≡ z) ⊎ (x ≡ b) → (k ≡ q → ⊥) →
      AgreeAt m z b k

  abbrev pub ElsewhereBy : ℕ → Scalar → List Scalar → Type 0
  ElsewhereBy m z (b ∷ v ∷ q) = (a : ℕ) (s : RowOf) → slice_get rs a ≡ Some s → AtOther m z b q s
  ElsewhereBy m z _ = Unit {0}

  -- rows of one key have one scalar, and selects say of each update what it makes
  pub record AreSettled : Type 0 where
    pub agree : Agreeing rs
    pub here : (u m : ℕ) (r : RowOf) → slice_get rs u ≡ Some r → r.class ≡ class.Update m → HereBy m r.value r.args
    pub elsewhere : (u m : ℕ) (r : RowOf) → slice_get rs u ≡ Some r → r.class ≡ class.Update m → ElsewhereBy m r.value r.args
