-- Functions whose bodies do not reach themselves.
use Rattle.std.specs.Prelude.{◌≡◌, ◌<◌, ℕ, length, Some, slice_get}
use Rattle.bg_ast.specs.Syntax.{Ex, Exs, Not, Negative, Binary, Apply, Select, Update, Old, NoMore, More, Fun, Prog}

abbrev mutual
  -- each function that an expression applies has a rank below r
  pub AppliesBelow : (ℕ → ℕ) → ℕ → Ex → Type 0
  AppliesBelow rank r (Not e) = AppliesBelow rank r e
  AppliesBelow rank r (Negative e) = AppliesBelow rank r e
  AppliesBelow rank r (Binary op a b) = AppliesBelow rank r a × AppliesBelow rank r b
  AppliesBelow rank r (Apply f es) = (rank f < r) × EachAppliesBelow rank r es
  AppliesBelow rank r (Select m es) = AppliesBelow rank r m × EachAppliesBelow rank r es
  AppliesBelow rank r (Update m es e) =
      AppliesBelow rank r m × EachAppliesBelow rank r es × AppliesBelow rank r e
  AppliesBelow rank r (Old e) = AppliesBelow rank r e
  AppliesBelow rank r _ = Unit {0}

  pub EachAppliesBelow : (ℕ → ℕ) → ℕ → Exs → Type 0
  EachAppliesBelow rank r NoMore = Unit {0}
  EachAppliesBelow rank r (More e es) = AppliesBelow rank r e × EachAppliesBelow rank r es

-- no body reaches its own function: functions can be put in an order in which each body applies earlier ones alone
pub record HasNoRecursion (p : Prog) : Type 0 where
  pub rank : ℕ → ℕ
  pub is_place : (f : ℕ) (fn : Fun) → slice_get p.functions f ≡ Some fn → rank f < length p.functions
  pub falls : (f : ℕ) (fn : Fun) (e : Ex) → slice_get p.functions f ≡ Some fn → fn.body ≡ Some e → AppliesBelow rank (rank f) e
