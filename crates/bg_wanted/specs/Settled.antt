-- Leaves at which selects say of each update what it makes.
use Rattle.std.specs.Prelude.{◌≡◌, ◌⊎◌, ℕ, ◌+◌, false, List, ◌∷◌, Some, slice_get}
use Rattle.bg_ast.specs.Values.{Val, Ty, MapTy, KeyType, val_eq}
use Rattle.bg_ast.specs.Syntax.{Ex, Exs, More}
use Rattle.bg_sense.specs.Eval.{value_at, ev, evs}
use Rattle.bg_terms.specs.Terms.{Selects, Updates, Term, over}
use Rattle.bg_terms.specs.Built.{built}

module _ (s : List Val) (n : ℕ) (ts : List Term) where
  -- a select of maps of this type whose arguments have these values is worth this
  pub record HasSelect (ks : List KeyType) (t : Ty) (args : List Val) (value : Val) : Type 0 where
    pub number : ℕ
    pub term : Term
    pub is_there : slice_get ts number ≡ Some term
    pub selects : term.head ≡ Selects ks t
    pub arguments : evs term.args (over s) ≡ args
    pub worth : value_at s (n + number) ≡ value

  -- the map of an update and its own map give one value at this index
  pub record Agree (ks : List KeyType) (t : Ty) (updated before : Val) (index : List Val) : Type 0 where
    pub value : Val
    pub new : HasSelect ks t (updated ∷ index) value
    pub old : HasSelect ks t (before ∷ index) value

  -- terms of one head and with arguments of the same values are worth the same
  abbrev pub AreFunctions : Type 0
  AreFunctions =
      (a b : ℕ) (t u : Term) → slice_get ts a ≡ Some t → slice_get ts b ≡ Some u → t.head ≡ u.head →
      evs t.args (over s) ≡ evs u.args (over s) → value_at s (n + a) ≡ value_at s (n + b)

  -- an update of maps of this type with these arguments has this number
  pub record IsUpdate (u : ℕ) (ks : List KeyType) (t : Ty) (m v : Ex) (qs : Exs) : Type 0 where
    pub term : Term
    pub is_there : slice_get ts u ≡ Some term
    pub head : term.head ≡ Updates ks t
    pub args : term.args ≡ More m (More v qs)

  -- at its index an update gives its new value
  abbrev pub IsHere : ℕ → List KeyType → Ty → Ex → Exs → Type 0
  IsHere u ks t v qs = HasSelect ks t (value_at s (n + u) ∷ evs qs (over s)) (ev v (over s))

  -- an update and its map agree at each other index at which one of them is selected from
  abbrev pub IsElsewhere : ℕ → List KeyType → Ty → Ex → Exs → Type 0
  IsElsewhere u ks t m qs =
      (a : ℕ) (b : Term) (x : Val) (k : List Val) → slice_get ts a ≡ Some b → b.head ≡ Selects ks t → evs b.args (over s) ≡ x ∷ k →
      (x ≡ value_at s (n + u)) ⊎ (x ≡ ev m (over s)) → (k ≡ evs qs (over s) → ⊥) →
      Agree ks t (value_at s (n + u)) (ev m (over s)) k

  -- terms are functions, selects say of each update what it makes, and maps with different numbers are built different
  pub record IsSettled (tys : List Ty) : Type 0 where
    pub functions : AreFunctions
    pub here : (u : ℕ) (ks : List KeyType) (t : Ty) (m v : Ex) (qs : Exs) → IsUpdate u ks t m v qs → IsHere u ks t v qs
    pub elsewhere : (u : ℕ) (ks : List KeyType) (t : Ty) (m v : Ex) (qs : Exs) → IsUpdate u ks t m v qs → IsElsewhere u ks t m qs
    pub apart :
        (j k : ℕ) (ks : List KeyType) (t : Ty) → slice_get tys j ≡ Some (MapTy ks t) → slice_get tys k ≡ Some (MapTy ks t) →
        val_eq (value_at s j) (value_at s k) ≡ false → val_eq (built s n ts (MapTy ks t) (value_at s j)) (built s n ts (MapTy ks t) (value_at s k)) ≡ false
