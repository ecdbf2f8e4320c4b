-- A flat expression is typed over the scalars that stand for values, and each product in it has a constant side.
use Rattle.std.proofs.Common.{◌≡◌, ℕ, zero, suc, ◌+◌, List, [], ◌∷◌, map, Some, sym, ap, subst, inl, inr, ⊎_elim}
use Rattle.std.specs.Prelude.{slice_get}
use Rattle.bg_ast.specs.Values.{Ty, IntTy, BoolTy}
use Rattle.bg_ast.specs.Syntax.{Ex, Op, And, Or, Implies, Iff, Equal, Unequal, Less, AtMost, Greater, AtLeast, Plus, Minus, Times, Number, Fact, Constant, Read, Local, Global, Not, Negative, Binary, Apply, Select, Update, Old}
use Rattle.bg_sense.specs.Typing.{OpHasType, HasType}
use Rattle.bg_sense.specs.Typed.{IsConstant, HasConstantSide, IsLinear, HasNoOld}
use Rattle.bg_terms.specs.Terms.{Term}
use Rattle.bg_terms.specs.Flat.{IsFlat}
use Rattle.bg_terms.specs.Alike.{HasFlatType, scalar_ty}
use Rattle.bg_terms.specs.Typed.{sig_with}

-- ---- over scalars

op_over : (op : Op) (A B C D : Ty → Type 0) (t : Ty) → ((u : Ty) → A u → C (scalar_ty u)) → ((u : Ty) → B u → D (scalar_ty u)) → OpHasType op A B t → OpHasType op C D (scalar_ty t)
op_over And A B C D t f g h = (ap scalar_ty h.0, f BoolTy h.1, g BoolTy h.2)
op_over Or A B C D t f g h = (ap scalar_ty h.0, f BoolTy h.1, g BoolTy h.2)
op_over Implies A B C D t f g h = (ap scalar_ty h.0, f BoolTy h.1, g BoolTy h.2)
op_over Iff A B C D t f g h = (ap scalar_ty h.0, f BoolTy h.1, g BoolTy h.2)
op_over Equal A B C D t f g h = (ap scalar_ty h.0, (scalar_ty h.1.0, f h.1.0 h.1.1, g h.1.0 h.1.2))
op_over Unequal A B C D t f g h = (ap scalar_ty h.0, (scalar_ty h.1.0, f h.1.0 h.1.1, g h.1.0 h.1.2))
op_over Less A B C D t f g h = (ap scalar_ty h.0, f IntTy h.1, g IntTy h.2)
op_over AtMost A B C D t f g h = (ap scalar_ty h.0, f IntTy h.1, g IntTy h.2)
op_over Greater A B C D t f g h = (ap scalar_ty h.0, f IntTy h.1, g IntTy h.2)
op_over AtLeast A B C D t f g h = (ap scalar_ty h.0, f IntTy h.1, g IntTy h.2)
op_over Plus A B C D t f g h = (ap scalar_ty h.0, f IntTy h.1, g IntTy h.2)
op_over Minus A B C D t f g h = (ap scalar_ty h.0, f IntTy h.1, g IntTy h.2)
op_over Times A B C D t f g h = (ap scalar_ty h.0, f IntTy h.1, g IntTy h.2)

mapped : (tys : List Ty) (j : ℕ) (t : Ty) → slice_get tys j ≡ Some t → slice_get (map scalar_ty tys) j ≡ Some (scalar_ty t)
mapped [] j t e = absurd (let bad : ⊥ = cc in bad)
mapped (u ∷ tys) zero t e = let same : u ≡ t = cc in ap (λ x. Some (scalar_ty x)) same
mapped (u ∷ tys) (suc j) t e = mapped tys j t e

pub over_scalars : (tys : List Ty) (x : Ex) (t : Ty) → HasFlatType tys x t → HasType x (sig_with [] [] (map scalar_ty tys)) (scalar_ty t)
over_scalars tys (Number z) t h = ap scalar_ty h
over_scalars tys (Fact b) t h = ap scalar_ty h
over_scalars tys (Constant k) t h = absurd h
over_scalars tys (Read (Local j)) t h = mapped tys j t h
over_scalars tys (Read (Global j)) t h = absurd h
over_scalars tys (Not x) t h = (ap scalar_ty h.0, over_scalars tys x BoolTy h.1)
over_scalars tys (Negative x) t h = (ap scalar_ty h.0, over_scalars tys x IntTy h.1)
over_scalars tys (Binary op x y) t h =
    op_over op (HasFlatType tys x) (HasFlatType tys y) (HasType x (sig_with [] [] (map scalar_ty tys))) (HasType y (sig_with [] [] (map scalar_ty tys))) t (over_scalars tys x) (over_scalars tys y) h
over_scalars tys (Apply f es) t h = absurd h
over_scalars tys (Select m es) t h = absurd h
over_scalars tys (Update m es x) t h = absurd h
over_scalars tys (Old x) t h = absurd h

no_old_op : (tys : List Ty) (op : Op) (x y : Ex) (t : Ty) → OpHasType op (HasFlatType tys x) (HasFlatType tys y) t → ((u : Ty) → HasFlatType tys x u → HasNoOld x) → ((u : Ty) → HasFlatType tys y u → HasNoOld y) → HasNoOld x × HasNoOld y
no_old_op tys And x y t h f g = (f BoolTy h.1, g BoolTy h.2)
no_old_op tys Or x y t h f g = (f BoolTy h.1, g BoolTy h.2)
no_old_op tys Implies x y t h f g = (f BoolTy h.1, g BoolTy h.2)
no_old_op tys Iff x y t h f g = (f BoolTy h.1, g BoolTy h.2)
no_old_op tys Equal x y t h f g = (f h.1.0 h.1.1, g h.1.0 h.1.2)
no_old_op tys Unequal x y t h f g = (f h.1.0 h.1.1, g h.1.0 h.1.2)
no_old_op tys Less x y t h f g = (f IntTy h.1, g IntTy h.2)
no_old_op tys AtMost x y t h f g = (f IntTy h.1, g IntTy h.2)
no_old_op tys Greater x y t h f g = (f IntTy h.1, g IntTy h.2)
no_old_op tys AtLeast x y t h f g = (f IntTy h.1, g IntTy h.2)
no_old_op tys Plus x y t h f g = (f IntTy h.1, g IntTy h.2)
no_old_op tys Minus x y t h f g = (f IntTy h.1, g IntTy h.2)
no_old_op tys Times x y t h f g = (f IntTy h.1, g IntTy h.2)

pub no_old : (tys : List Ty) (x : Ex) (t : Ty) → HasFlatType tys x t → HasNoOld x
no_old tys (Number z) t h = tt
no_old tys (Fact b) t h = tt
no_old tys (Constant k) t h = tt
no_old tys (Read x) t h = tt
no_old tys (Not x) t h = no_old tys x BoolTy h.1
no_old tys (Negative x) t h = no_old tys x IntTy h.1
no_old tys (Binary op x y) t h = no_old_op tys op x y t h (no_old tys x) (no_old tys y)
no_old tys (Apply f es) t h = absurd h
no_old tys (Select m es) t h = absurd h
no_old tys (Update m es x) t h = absurd h
no_old tys (Old x) t h = absurd h

-- ---- linear

module _ (n : ℕ) (ts : List Term) where
  constant_flat : (e x : Ex) → IsConstant e → IsFlat n ts e x → IsConstant x
  constant_flat (Number z) x c h = subst (λ y. IsConstant y) (sym h) tt
  constant_flat (Negative e) x c h =
      subst (λ y. IsConstant y) (sym h.1.0) (constant_flat e h.0 c h.1.1)
  constant_flat (Binary Plus a b) x c h =
      subst (λ y. IsConstant y) (sym h.1.1.0) (constant_flat a h.0 c.0 h.1.1.1.0, constant_flat b h.1.0 c.1 h.1.1.1.1)
  constant_flat (Binary Minus a b) x c h =
      subst (λ y. IsConstant y) (sym h.1.1.0) (constant_flat a h.0 c.0 h.1.1.1.0, constant_flat b h.1.0 c.1 h.1.1.1.1)
  constant_flat (Binary Times a b) x c h =
      subst (λ y. IsConstant y) (sym h.1.1.0) (constant_flat a h.0 c.0 h.1.1.1.0, constant_flat b h.1.0 c.1 h.1.1.1.1)
  constant_flat (Binary And a b) x c h = absurd c
  constant_flat (Binary Or a b) x c h = absurd c
  constant_flat (Binary Implies a b) x c h = absurd c
  constant_flat (Binary Iff a b) x c h = absurd c
  constant_flat (Binary Equal a b) x c h = absurd c
  constant_flat (Binary Unequal a b) x c h = absurd c
  constant_flat (Binary Less a b) x c h = absurd c
  constant_flat (Binary AtMost a b) x c h = absurd c
  constant_flat (Binary Greater a b) x c h = absurd c
  constant_flat (Binary AtLeast a b) x c h = absurd c
  constant_flat (Fact b) x c h = absurd c
  constant_flat (Constant k) x c h = absurd c
  constant_flat (Read v) x c h = absurd c
  constant_flat (Not e) x c h = absurd c
  constant_flat (Apply f es) x c h = absurd c
  constant_flat (Select m es) x c h = absurd c
  constant_flat (Update m es e) x c h = absurd c
  constant_flat (Old e) x c h = absurd c

  side_flat : (op : Op) (a b y z : Ex) → (IsConstant a → IsConstant y) → (IsConstant b → IsConstant z) → HasConstantSide op a b → HasConstantSide op y z
  side_flat Times a b y z f g h = ⊎_elim (λ c. inl (f c)) (λ c. inr (g c)) h
  side_flat Plus a b y z f g h = tt
  side_flat Minus a b y z f g h = tt
  side_flat And a b y z f g h = tt
  side_flat Or a b y z f g h = tt
  side_flat Implies a b y z f g h = tt
  side_flat Iff a b y z f g h = tt
  side_flat Equal a b y z f g h = tt
  side_flat Unequal a b y z f g h = tt
  side_flat Less a b y z f g h = tt
  side_flat AtMost a b y z f g h = tt
  side_flat Greater a b y z f g h = tt
  side_flat AtLeast a b y z f g h = tt

  term_linear : (x : Ex) (k : ℕ) → x ≡ Read (Local k) → IsLinear x
  term_linear x k e = subst (λ y. IsLinear y) (sym e) tt

  pub flat_linear : (e x : Ex) → IsLinear e → IsFlat n ts e x → IsLinear x
  flat_linear (Number z) x l h = subst (λ y. IsLinear y) (sym h) tt
  flat_linear (Fact b) x l h = subst (λ y. IsLinear y) (sym h) tt
  flat_linear (Constant k) x l h = absurd h
  flat_linear (Read (Local j)) x l h = term_linear x j h.0
  flat_linear (Read (Global j)) x l h = absurd h
  flat_linear (Not e) x l h = subst (λ y. IsLinear y) (sym h.1.0) (flat_linear e h.0 l h.1.1)
  flat_linear (Negative e) x l h = subst (λ y. IsLinear y) (sym h.1.0) (flat_linear e h.0 l h.1.1)
  flat_linear (Binary op a b) x l h =
      subst (λ y. IsLinear y) (sym h.1.1.0) (side_flat op a b h.0 h.1.0 (λ c. constant_flat a h.0 c h.1.1.1.0) (λ c. constant_flat b h.1.0 c h.1.1.1.1) l.0, flat_linear a h.0 l.1 h.1.1.1.0, flat_linear b h.1.0 l.2 h.1.1.1.1)
  flat_linear (Apply f es) x l h = term_linear x (n + h.1.1.number) h.1.1.reads
  flat_linear (Select m es) x l (ks, (u, (y, (ys, (hm, (hs, ht)))))) = term_linear x (n + ht.number) ht.reads
  flat_linear (Update m es e) x l (ks, (u, (y, (ys, (z, (hm, (hs, (he, ht)))))))) =
      term_linear x (n + ht.number) ht.reads
  flat_linear (Old e) x l h = flat_linear e x l h
