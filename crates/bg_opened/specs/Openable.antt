-- Programs that can be opened.
use Rattle.std.specs.Prelude.{◌≡◌, ◌<◌, ◌≤◌, ℕ, true, Some, slice_get}
use Rattle.bg_ast.specs.Syntax.{Ex, Fun, Prog}
use Rattle.bg_sense.specs.Typed.{IsTyped}
use Rattle.bg_sense.specs.Resolved.{IsResolved}
use Rattle.bg_sense.specs.Recursion.{AppliesBelow, HasNoRecursion}
use Rattle.bg_opened.specs.Judged.{is_judged}

-- no chain of functions' bodies is longer than the depth: each function has a length of chains that end with it, and its body, if any,
-- applies functions of shorter ones
pub record HasShortChains (depth : ℕ) (p : Prog) : Type 0 where
  pub chain : ℕ → ℕ
  pub deep : (f : ℕ) (fn : Fun) → slice_get p.functions f ≡ Some fn → chain f ≤ depth
  pub falls : (f : ℕ) (fn : Fun) (e : Ex) → slice_get p.functions f ≡ Some fn → fn.body ≡ Some e → (0 < chain f) × AppliesBelow chain (chain f) e

-- a typed program whose names are resolved, of judged parts, without recursion, in which no chain of functions' bodies is longer than the
-- depth
pub record IsOpenable (depth : ℕ) (p : Prog) : Type 0 where
  pub typed : IsTyped p
  pub resolved : IsResolved p
  pub recursion : HasNoRecursion p
  pub judged : is_judged p ≡ true
  pub chains : HasShortChains depth p
