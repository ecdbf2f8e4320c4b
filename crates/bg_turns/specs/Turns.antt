-- What calls with numbers gave.
use Rattle.std.specs.Prelude.{◌≡◌, ℕ, ◌<◌, List, Option, Some, length, get_or, slice_get, All, Vec, Result, IfOk}
use Rattle.std.specs.declared.alloc.Global.{Global}
use Rattle.std.specs.declared.alloc.AllocError.{AllocError}
use denote.Ref.{MutBor}
use denote.Param.Members.{Shared}
use Rattle.std.specs.Fn.{FnReturns}
use Rattle.std.specs.Fork.{ChangesAt}

module _ {F R : Type 0} (g : Shared F (ℕ × Unit {0}) R) (f : F) where
  -- a number below n, and a result that a call of f with it may give
  abbrev pub IsOf : ℕ → ℕ × R → Type 0
  IsOf n x = (x.0 < n) × FnReturns g f (x.0, tt) x.1

  -- what a thread has is such numbers and results, unless memory ran out
  abbrev pub AreOf : ℕ → Result (Vec (ℕ × R) Global) AllocError → Type 0
  AreOf n part = IfOk part (λ made. All (IsOf n) made.items)

  -- each slot that isn't empty has a result that a call of f with the slot's number may give
  abbrev pub Fits : List (Option R) → Type 0
  Fits slots = (k : ℕ) (x : R) → slice_get slots k ≡ Some (Some x) → FnReturns g f (k, tt) x

  -- there are n results, each of which a call of f with its place may give
  pub record Gives (n : ℕ) (rs : List R) : Type 0 where
    pub len : length rs ≡ n
    pub each : (k : ℕ) (d : R) → k < n → FnReturns g f (k, tt) (get_or rs k d)

module _ {F T : Type 0} (g : Shared F (ℕ × (MutBor T × Unit {0})) ((Unit {0}) × (MutBor T × Unit {0}))) (f : F) where
  -- y is what a call of f with i and x may leave
  pub record LeavesOne (i : ℕ) (x y : T) : Type 0 where
    pub at : ChangesAt g f i x y

  -- ys has as many items as xs, each of which a call of f with its place and the item of xs there may leave
  pub record Leaves (xs ys : List T) : Type 0 where
    pub len : length ys ≡ length xs
    pub each : (i : ℕ) (d : T) → i < length xs → ChangesAt g f i (get_or xs i d) (get_or ys i d)
