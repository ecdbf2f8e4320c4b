-- Expressions that are made flat, and tables of their terms.
use Rattle.std.specs.Prelude.{◌≡◌, ℕ, true, List, ◌++◌, length, Some, slice_get}
use Rattle.bg_ast.specs.Values.{Ty}
use Rattle.bg_ast.specs.Syntax.{Ex, Exs, Constant, Not, Negative, Binary, Apply, Select, Update, Old, NoMore, More, Fun}
use Rattle.bg_sense.specs.Typing.{HasType}
use Rattle.bg_sense.specs.Typed.{IsLinear, AreLinear}
use Rattle.bg_terms.specs.Terms.{Term, are_in_order}
use Rattle.bg_terms.specs.Typed.{TermsTyped, sig_with}

abbrev mutual
  -- what is made flat: no constant is read
  pub IsHandled : Ex → Type 0
  IsHandled (Constant k) = ⊥
  IsHandled (Not e) = IsHandled e
  IsHandled (Negative e) = IsHandled e
  IsHandled (Binary op a b) = IsHandled a × IsHandled b
  IsHandled (Apply f es) = AreHandled es
  IsHandled (Select m es) = IsHandled m × AreHandled es
  IsHandled (Update m es e) = IsHandled m × AreHandled es × IsHandled e
  IsHandled (Old e) = IsHandled e
  IsHandled _ = Unit {0}

  pub AreHandled : Exs → Type 0
  AreHandled NoMore = Unit {0}
  AreHandled (More e es) = IsHandled e × AreHandled es

-- an expression over incarnations of these types that is typed and linear, where functions are these
pub record Fair (fs : List Fun) (incs : List Ty) (e : Ex) : Type 0 where
  pub constants : List Ty
  pub ty : Ty
  pub typed : HasType e (sig_with constants fs incs) ty
  pub linear : IsLinear e
  pub handled : IsHandled e

abbrev pub AllFair : List Fun → List Ty → Exs → Type 0
AllFair fs incs NoMore = Unit {0}
AllFair fs incs (More e es) = Fair fs incs e × AllFair fs incs es

-- terms behind incarnations of these types: arguments are over what stands before, linear, and typed
pub record FairTerms (fs : List Fun) (incs : List Ty) (ts : List Term) : Type 0 where
  pub order : are_in_order (length incs) ts ≡ true
  pub linear : (a : ℕ) (t : Term) → slice_get ts a ≡ Some t → AreLinear t.args
  pub typed : TermsTyped fs incs ts

abbrev pub Grows : List Term → List Term → Type 0
Grows old new = (us : List Term) × (new ≡ old ++ us)
