-- A typed expression over truth values and whole numbers has the kind of its type.
use Rattle.std.proofs.Common.{◌≡◌, ℕ, zero, suc, true, List, [], ◌∷◌, map, Option, Some, None, refl, sym, ap, ◌∙◌, subst, inl, inr}
use Rattle.std.specs.Prelude.{◌⊎◌, slice_get}
use Rattle.bg_ast.specs.Values.{Ty, IntTy, BoolTy, UserTy, MapTy}
use Rattle.bg_ast.specs.Syntax.{Global, Local, Op, And, Or, Implies, Iff, Equal, Unequal, Less, AtMost, Greater, AtLeast, Plus, Minus, Times, Ex, Number, Fact, Constant, Read, Not, Negative, Binary, Apply, Select, Update, Old}
use Rattle.bg_sense.specs.Typing.{Sig, OpHasType, HasType}
use Rattle.bg_sense.specs.Typed.{IsConstant, HasConstantSide, IsLinear, HasNoOld}
use Rattle.bg_linear.specs.declared.scalar.Sort.{Sort}
use Rattle.bg_linear.specs.declared.scalar.Kind.{Kind}
use Rattle.bg_linear.specs.declared.scalar.Kind.TheVariants as kind
use Rattle.bg_linear.specs.Sorts.{kind_at, is_truth, is_number, number_only, truth_if, both_truths, related_kind, equal_kind, sum_kind, product_kind, kind_by, kind_ex}
use Rattle.bg_sorts.specs.Sorts.{sort_of_type}
use Rattle.bg_faithful.proofs.ValueTypes.{AreBasic}

-- the kind of what has this type, which is `int` or `bool`
abbrev pub HasKind : Ty → Option Kind → Type 0
HasKind BoolTy k = k ≡ Some kind.Truth
HasKind IntTy k = is_number k ≡ true
HasKind _ k = ⊥

-- there are no constants, no functions and no globals
abbrev pub sig_bare : List Ty → Sig
sig_bare incs = record { constants = []; functions = []; globals = []; frame = incs }

-- ---- kinds under signs

both_kinds : (a b : Option Kind) → a ≡ Some kind.Truth → b ≡ Some kind.Truth → both_truths a b ≡ Some kind.Truth
both_kinds a b h k = ap (λ x. both_truths x b) h ∙ ap (λ y. both_truths (Some kind.Truth) y) k

related_kinds : (a b : Option Kind) → is_number a ≡ true → is_number b ≡ true → related_kind a b ≡ Some kind.Truth
related_kinds (Some kind.Constant) (Some kind.Constant) h k = refl
related_kinds (Some kind.Constant) (Some kind.Number) h k = refl
related_kinds (Some kind.Number) (Some kind.Constant) h k = refl
related_kinds (Some kind.Number) (Some kind.Number) h k = refl
related_kinds (Some kind.Truth) b h k = absurd (let bad : ⊥ = cc in bad)
related_kinds None b h k = absurd (let bad : ⊥ = cc in bad)
related_kinds a (Some kind.Truth) h k = absurd (let bad : ⊥ = cc in bad)
related_kinds a None h k = absurd (let bad : ⊥ = cc in bad)

equal_numbers : (a b : Option Kind) → is_number a ≡ true → is_number b ≡ true → equal_kind a b ≡ Some kind.Truth
equal_numbers (Some kind.Constant) b h k = related_kinds (Some kind.Constant) b h k
equal_numbers (Some kind.Number) b h k = related_kinds (Some kind.Number) b h k
equal_numbers (Some kind.Truth) b h k = absurd (let bad : ⊥ = cc in bad)
equal_numbers None b h k = absurd (let bad : ⊥ = cc in bad)

equal_kinds : (u : Ty) (a b : Option Kind) → HasKind u a → HasKind u b → equal_kind a b ≡ Some kind.Truth
equal_kinds BoolTy a b h k = ap (λ x. equal_kind x b) h ∙ ap (λ y. equal_kind (Some kind.Truth) y) k
equal_kinds IntTy a b h k = equal_numbers a b h k
equal_kinds (UserTy t) a b h k = absurd h
equal_kinds (MapTy ks t) a b h k = absurd h

only_number : (a : Option Kind) → is_number a ≡ true → is_number (number_only a) ≡ true
only_number (Some kind.Constant) h = refl
only_number (Some kind.Number) h = refl
only_number (Some kind.Truth) h = absurd (let bad : ⊥ = cc in bad)
only_number None h = absurd (let bad : ⊥ = cc in bad)

sum_number : (a b : Option Kind) → is_number a ≡ true → is_number b ≡ true → is_number (sum_kind a b) ≡ true
sum_number (Some kind.Constant) b h k = only_number b k
sum_number (Some kind.Number) (Some kind.Constant) h k = refl
sum_number (Some kind.Number) (Some kind.Number) h k = refl
sum_number (Some kind.Number) (Some kind.Truth) h k = absurd (let bad : ⊥ = cc in bad)
sum_number (Some kind.Number) None h k = absurd (let bad : ⊥ = cc in bad)
sum_number (Some kind.Truth) b h k = absurd (let bad : ⊥ = cc in bad)
sum_number None b h k = absurd (let bad : ⊥ = cc in bad)

-- a number times a constant
times_constant : (a b : Option Kind) → is_number a ≡ true → b ≡ Some kind.Constant → is_number (product_kind a b) ≡ true
times_constant (Some kind.Constant) b h k = ap (λ y. is_number (number_only y)) k
times_constant (Some kind.Number) b h k = ap (λ y. is_number (product_kind (Some kind.Number) y)) k
times_constant (Some kind.Truth) b h k = absurd (let bad : ⊥ = cc in bad)
times_constant None b h k = absurd (let bad : ⊥ = cc in bad)

-- a constant times a number
constant_times : (a b : Option Kind) → a ≡ Some kind.Constant → is_number b ≡ true → is_number (product_kind a b) ≡ true
constant_times a b h k = ap (λ x. is_number (product_kind x b)) h ∙ only_number b k

-- ---- expressions

constant_kind : (sorts : List Sort) (e : Ex) → IsConstant e → kind_ex sorts e ≡ Some kind.Constant
constant_kind sorts (Number z) h = refl
constant_kind sorts (Negative e) h = ap number_only (constant_kind sorts e h)
constant_kind sorts (Binary Plus a b) h =
    ap (λ x. sum_kind x (kind_ex sorts b)) (constant_kind sorts a h.0) ∙ ap number_only (constant_kind sorts b h.1)
constant_kind sorts (Binary Minus a b) h =
    ap (λ x. sum_kind x (kind_ex sorts b)) (constant_kind sorts a h.0) ∙ ap number_only (constant_kind sorts b h.1)
constant_kind sorts (Binary Times a b) h =
    ap (λ x. product_kind x (kind_ex sorts b)) (constant_kind sorts a h.0) ∙ ap number_only (constant_kind sorts b h.1)
constant_kind sorts (Binary op a b) h = absurd h
constant_kind sorts (Fact x) h = absurd h
constant_kind sorts (Constant k) h = absurd h
constant_kind sorts (Read x) h = absurd h
constant_kind sorts (Not e) h = absurd h
constant_kind sorts (Apply f es) h = absurd h
constant_kind sorts (Select m es) h = absurd h
constant_kind sorts (Update m es e) h = absurd h
constant_kind sorts (Old e) h = absurd h

typed_kind : (t u : Ty) (k : Option Kind) → t ≡ u → HasKind u k → HasKind t k
typed_kind t u k e h = subst (λ x. HasKind x k) (sym e) h

kind_read : (incs : List Ty) (j : ℕ) (t : Ty) → AreBasic incs → slice_get incs j ≡ Some t → HasKind t (kind_at (slice_get (map sort_of_type incs) j))
kind_read [] j t h e = absurd (let bad : ⊥ = cc in bad)
kind_read (BoolTy ∷ incs) zero t h e =
    let same : t ≡ BoolTy = cc in typed_kind t BoolTy (Some kind.Truth) same refl
kind_read (IntTy ∷ incs) zero t h e =
    let same : t ≡ IntTy = cc in typed_kind t IntTy (Some kind.Number) same refl
kind_read (UserTy u ∷ incs) zero t h e = absurd h.0
kind_read (MapTy ks u ∷ incs) zero t h e = absurd h.0
kind_read (x ∷ incs) (suc j) t h e = kind_read incs j t h.1 e

-- a sign between expressions, of which these are the kinds
op_kind : (op : Op) (a b : Ty → Type 0) (t : Ty) (x y : Option Kind) → ((u : Ty) → a u → HasKind u x) → ((u : Ty) → b u → HasKind u y) → ((op ≡ Times) → (x ≡ Some kind.Constant) ⊎ (y ≡ Some kind.Constant)) → OpHasType op a b t → HasKind t (kind_by op x y)
op_kind And a b t x y f g s h = typed_kind t BoolTy (both_truths x y) h.0 (both_kinds x y (f BoolTy h.1) (g BoolTy h.2))
op_kind Or a b t x y f g s h = typed_kind t BoolTy (both_truths x y) h.0 (both_kinds x y (f BoolTy h.1) (g BoolTy h.2))
op_kind Implies a b t x y f g s h = typed_kind t BoolTy (both_truths x y) h.0 (both_kinds x y (f BoolTy h.1) (g BoolTy h.2))
op_kind Iff a b t x y f g s h = typed_kind t BoolTy (both_truths x y) h.0 (both_kinds x y (f BoolTy h.1) (g BoolTy h.2))
op_kind Equal a b t x y f g s h = typed_kind t BoolTy (equal_kind x y) h.0 (equal_kinds h.1.0 x y (f h.1.0 h.1.1) (g h.1.0 h.1.2))
op_kind Unequal a b t x y f g s h = typed_kind t BoolTy (equal_kind x y) h.0 (equal_kinds h.1.0 x y (f h.1.0 h.1.1) (g h.1.0 h.1.2))
op_kind Less a b t x y f g s h = typed_kind t BoolTy (related_kind x y) h.0 (related_kinds x y (f IntTy h.1) (g IntTy h.2))
op_kind AtMost a b t x y f g s h = typed_kind t BoolTy (related_kind x y) h.0 (related_kinds x y (f IntTy h.1) (g IntTy h.2))
op_kind Greater a b t x y f g s h = typed_kind t BoolTy (related_kind x y) h.0 (related_kinds x y (f IntTy h.1) (g IntTy h.2))
op_kind AtLeast a b t x y f g s h = typed_kind t BoolTy (related_kind x y) h.0 (related_kinds x y (f IntTy h.1) (g IntTy h.2))
op_kind Plus a b t x y f g s h = typed_kind t IntTy (sum_kind x y) h.0 (sum_number x y (f IntTy h.1) (g IntTy h.2))
op_kind Minus a b t x y f g s h = typed_kind t IntTy (sum_kind x y) h.0 (sum_number x y (f IntTy h.1) (g IntTy h.2))
op_kind Times a b t x y f g s h = typed_kind t IntTy (product_kind x y) h.0 (product (s refl))
  where
    product : (x ≡ Some kind.Constant) ⊎ (y ≡ Some kind.Constant) → is_number (product_kind x y) ≡ true
    product (inl c) = constant_times x y c (g IntTy h.2)
    product (inr c) = times_constant x y (f IntTy h.1) c

-- the constant side of a product
constant_side : (sorts : List Sort) (op : Op) (a b : Ex) → HasConstantSide op a b → op ≡ Times → (kind_ex sorts a ≡ Some kind.Constant) ⊎ (kind_ex sorts b ≡ Some kind.Constant)
constant_side sorts op a b h e = on (subst (λ o. HasConstantSide o a b) e h)
  where
    on : IsConstant a ⊎ IsConstant b → (kind_ex sorts a ≡ Some kind.Constant) ⊎ (kind_ex sorts b ≡ Some kind.Constant)
    on (inl c) = inl (constant_kind sorts a c)
    on (inr c) = inr (constant_kind sorts b c)

module _ (incs : List Ty) (scalar : AreBasic incs) where
  abbrev sorts : List Sort
  sorts = map sort_of_type incs

  pub kinds : (e : Ex) (t : Ty) → HasType e (sig_bare incs) t → IsLinear e → HasNoOld e → HasKind t (kind_ex sorts e)
  kinds (Number z) t h l n = typed_kind t IntTy (Some kind.Constant) h refl
  kinds (Fact b) t h l n = typed_kind t BoolTy (Some kind.Truth) h refl
  kinds (Constant k) t h l n = absurd (let bad : ⊥ = cc in bad)
  kinds (Read (Global x)) t h l n = absurd (let bad : ⊥ = cc in bad)
  kinds (Read (Local x)) t h l n = kind_read incs x t scalar h
  kinds (Not e) t h l n = typed_kind t BoolTy (truth_if (is_truth (kind_ex sorts e))) h.0 (ap (λ k. truth_if (is_truth k)) (kinds e BoolTy h.1 l n))
  kinds (Negative e) t h l n = typed_kind t IntTy (number_only (kind_ex sorts e)) h.0 (only_number (kind_ex sorts e) (kinds e IntTy h.1 l n))
  kinds (Binary op a b) t h l n =
      op_kind op (HasType a (sig_bare incs)) (HasType b (sig_bare incs)) t (kind_ex sorts a) (kind_ex sorts b) (λ u x. kinds a u x l.1 n.0) (λ u x. kinds b u x l.2 n.1) (constant_side sorts op a b l.0) h
  kinds (Apply f es) t h l n = absurd (let gone : None ≡ Some h.0 = h.1 in let bad : ⊥ = cc in bad)
  kinds (Select m es) t h l n = absurd (kinds m (MapTy h.0 t) h.1 l.0 n.0)
  kinds (Update m es e) t h l n = absurd (kinds m (MapTy h.0 h.1.0) h.1.2 l.0 n.0)
  kinds (Old e) t h l n = absurd n

  -- a typed truth is one by its kind
  pub truths_sorted : (e : Ex) → HasType e (sig_bare incs) BoolTy → IsLinear e → HasNoOld e → is_truth (kind_ex sorts e) ≡ true
  truths_sorted e h l n = ap is_truth (kinds e BoolTy h l n)
