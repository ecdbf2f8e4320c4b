-- Flat expressions say what expressions say, over incarnations and terms.
use Rattle.std.specs.Prelude.{◌≡◌, ℕ, ◌+◌, ◌<◌, List, Some, None, slice_get}
use Rattle.bg_ast.specs.Values.{KeyType, Ty}
use Rattle.bg_ast.specs.Syntax.{Ex, Exs, Number, Fact, Constant, Read, Local, Global, Not, Negative, Binary, Apply, Select, Update, Old, NoMore, More, Fun}
use Rattle.bg_sense.specs.Eval.{body_of}
use Rattle.bg_terms.specs.Terms.{Head, Applies, Selects, Updates, Term}

-- no function has a body
abbrev pub HaveNoBodies : List Fun → Type 0
HaveNoBodies fs = (f : ℕ) → body_of (slice_get fs f) ≡ None

-- the expression reads the term of this head and these arguments, where the terms stand behind n incarnations
pub record IsTerm (n : ℕ) (ts : List Term) (h : Head) (xs : Exs) (x : Ex) : Type 0 where
  pub number : ℕ
  pub term : Term
  pub is_there : slice_get ts number ≡ Some term
  pub head : term.head ≡ h
  pub args : term.args ≡ xs
  pub reads : x ≡ Read (Local (n + number))

module _ (n : ℕ) (ts : List Term) where
  abbrev mutual
    -- the second expression is the first one, over n incarnations, made flat: what makes a value of others is the read of a term
    pub IsFlat : Ex → Ex → Type 0
    IsFlat (Number z) x = x ≡ Number z
    IsFlat (Fact b) x = x ≡ Fact b
    IsFlat (Constant k) x = ⊥
    IsFlat (Read (Local j)) x = (x ≡ Read (Local j)) × (j < n)
    IsFlat (Read (Global j)) x = ⊥
    IsFlat (Not e) x = (y : Ex) × ((x ≡ Not y) × IsFlat e y)
    IsFlat (Negative e) x = (y : Ex) × ((x ≡ Negative y) × IsFlat e y)
    IsFlat (Binary op a b) x = (y : Ex) × ((z : Ex) × ((x ≡ Binary op y z) × (IsFlat a y × IsFlat b z)))
    IsFlat (Apply f es) x = (ys : Exs) × (AreFlat es ys × IsTerm n ts (Applies f) ys x)
    IsFlat (Select m es) x =
        (ks : List KeyType) × ((u : Ty) × ((y : Ex) × ((ys : Exs) × (IsFlat m y × (AreFlat es ys × IsTerm n ts (Selects ks u) (More y ys) x)))))
    IsFlat (Update m es e) x =
        (ks : List KeyType) × ((u : Ty) × ((y : Ex) × ((ys : Exs) × ((z : Ex) × (IsFlat m y × (AreFlat es ys × (IsFlat e z × IsTerm n ts (Updates ks u) (More y (More z ys)) x)))))))
    IsFlat (Old e) x = IsFlat e x

    pub AreFlat : Exs → Exs → Type 0
    AreFlat NoMore xs = xs ≡ NoMore
    AreFlat (More e es) xs = (y : Ex) × ((ys : Exs) × ((xs ≡ More y ys) × (IsFlat e y × AreFlat es ys)))
