-- An expression over incarnations has the type that it had over variables.
use Rattle.std.proofs.Common.{◌≡◌, ℕ, zero, suc, List, [], ◌∷◌, ◌++◌, Option, Some, None, ◌∙◌, inl, inr}
use Rattle.std.specs.Prelude.{slice_get}
use Rattle.bg_ast.specs.Values.{Ty, BoolTy, IntTy}
use Rattle.bg_ast.specs.Syntax.{Global, Local, Op, And, Or, Implies, Iff, Equal, Unequal, Less, AtMost, Greater, AtLeast, Plus, Minus, Times, Ex, Exs, Number, Fact, Constant, Read, Not, Negative, Binary, Apply, Select, Update, Old, NoMore, More, Prog}
use Rattle.bg_sense.specs.Typing.{Sig, OpHasType, HasType, HaveTypes}
use Rattle.bg_sense.specs.Typed.{IsConstant, HasConstantSide, IsLinear, AreLinear, HasNoOld, HaveNoOld, IsFormula}
use Rattle.bg_passive.specs.Incarnations.{Env, rename_at, rename, renames, TypedNums}
use Rattle.bg_block_types.specs.Typed.{sig_over, IsTruth}
use Rattle.bg_block_types.specs.TypedFlow.{sig_with}

-- the sides of an operator may be others that have the same types
op_on : (op : Op) (a b x y : Ty → Type 0) (t : Ty) → ((u : Ty) → a u → x u) → ((u : Ty) → b u → y u) → OpHasType op a b t → OpHasType op x y t
op_on And a b x y t f g h = (h.0, f BoolTy h.1, g BoolTy h.2)
op_on Or a b x y t f g h = (h.0, f BoolTy h.1, g BoolTy h.2)
op_on Implies a b x y t f g h = (h.0, f BoolTy h.1, g BoolTy h.2)
op_on Iff a b x y t f g h = (h.0, f BoolTy h.1, g BoolTy h.2)
op_on Equal a b x y t f g h = (h.0, (h.1.0, f h.1.0 h.1.1, g h.1.0 h.1.2))
op_on Unequal a b x y t f g h = (h.0, (h.1.0, f h.1.0 h.1.1, g h.1.0 h.1.2))
op_on Less a b x y t f g h = (h.0, f IntTy h.1, g IntTy h.2)
op_on AtMost a b x y t f g h = (h.0, f IntTy h.1, g IntTy h.2)
op_on Greater a b x y t f g h = (h.0, f IntTy h.1, g IntTy h.2)
op_on AtLeast a b x y t f g h = (h.0, f IntTy h.1, g IntTy h.2)
op_on Plus a b x y t f g h = (h.0, f IntTy h.1, g IntTy h.2)
op_on Minus a b x y t f g h = (h.0, f IntTy h.1, g IntTy h.2)
op_on Times a b x y t f g h = (h.0, f IntTy h.1, g IntTy h.2)

-- ---- constants, products and `old`

constant_on : (e : Ex) (v : Env) → IsConstant e → IsConstant (rename e v)
constant_on (Number z) v h = h
constant_on (Negative e) v h = constant_on e v h
constant_on (Binary Plus a b) v h = (constant_on a v h.0, constant_on b v h.1)
constant_on (Binary Minus a b) v h = (constant_on a v h.0, constant_on b v h.1)
constant_on (Binary Times a b) v h = (constant_on a v h.0, constant_on b v h.1)
constant_on (Binary op a b) v h = absurd h
constant_on (Fact x) v h = absurd h
constant_on (Constant k) v h = absurd h
constant_on (Read x) v h = absurd h
constant_on (Not e) v h = absurd h
constant_on (Apply f es) v h = absurd h
constant_on (Select m es) v h = absurd h
constant_on (Update m es e) v h = absurd h
constant_on (Old e) v h = absurd h

side_on : (op : Op) (a b : Ex) (v : Env) → HasConstantSide op a b → HasConstantSide op (rename a v) (rename b v)
side_on Times a b v (inl h) = inl (constant_on a v h)
side_on Times a b v (inr h) = inr (constant_on b v h)
side_on op a b v h = tt

linear_at : (o : Option ℕ) → IsLinear (rename_at o)
linear_at None = tt
linear_at (Some j) = tt

no_old_at : (o : Option ℕ) → HasNoOld (rename_at o)
no_old_at None = tt
no_old_at (Some j) = tt

mutual
  pub linear_on : (e : Ex) (v : Env) → IsLinear e → IsLinear (rename e v)
  linear_on (Number z) v h = tt
  linear_on (Fact b) v h = tt
  linear_on (Constant k) v h = tt
  linear_on (Read (Global x)) v h = linear_at (slice_get v.globals x)
  linear_on (Read (Local x)) v h = linear_at (slice_get v.frame x)
  linear_on (Not e) v h = linear_on e v h
  linear_on (Negative e) v h = linear_on e v h
  linear_on (Binary op a b) v h = (side_on op a b v h.0, linear_on a v h.1, linear_on b v h.2)
  linear_on (Apply f es) v h = linears_on es v h
  linear_on (Select m es) v h = (linear_on m v h.0, linears_on es v h.1)
  linear_on (Update m es e) v h = (linear_on m v h.0, linears_on es v h.1, linear_on e v h.2)
  linear_on (Old e) v h = linear_on e (record v { globals = v.before }) h

  linears_on : (es : Exs) (v : Env) → AreLinear es → AreLinear (renames es v)
  linears_on NoMore v h = tt
  linears_on (More e es) v h = (linear_on e v h.0, linears_on es v h.1)

mutual
  pub no_old : (e : Ex) (v : Env) → HasNoOld (rename e v)
  no_old (Number z) v = tt
  no_old (Fact b) v = tt
  no_old (Constant k) v = tt
  no_old (Read (Global x)) v = no_old_at (slice_get v.globals x)
  no_old (Read (Local x)) v = no_old_at (slice_get v.frame x)
  no_old (Not e) v = no_old e v
  no_old (Negative e) v = no_old e v
  no_old (Binary op a b) v = (no_old a v, no_old b v)
  no_old (Apply f es) v = no_olds es v
  no_old (Select m es) v = (no_old m v, no_olds es v)
  no_old (Update m es e) v = (no_old m v, no_olds es v, no_old e v)
  no_old (Old e) v = no_old e (record v { globals = v.before })

  no_olds : (es : Exs) (v : Env) → HaveNoOld (renames es v)
  no_olds NoMore v = tt
  no_olds (More e es) v = (no_old e v, no_olds es v)

-- ---- types

module _ (p : Prog) (incs : List Ty) where
  abbrev sig : Sig
  sig = sig_over p incs

  -- each variable has an incarnation of its type
  abbrev pub Holds : List Ty → List Ty → Env → Type 0
  Holds gts fts v = TypedNums incs v.globals gts × (TypedNums incs v.before gts × TypedNums incs v.frame fts)

  read_on : (js : List ℕ) (ts : List Ty) (x : ℕ) (t : Ty) → TypedNums incs js ts → slice_get ts x ≡ Some t → HasType (rename_at (slice_get js x)) sig t
  read_on [] [] x t h e = absurd (let bad : ⊥ = cc in bad)
  read_on [] (u ∷ ts) x t h e = absurd h
  read_on (j ∷ js) [] x t h e = absurd h
  read_on (j ∷ js) (u ∷ ts) zero t h e = h.0 ∙ e
  read_on (j ∷ js) (u ∷ ts) (suc x) t h e = read_on js ts x t h.1 e

  mutual
    pub typed_on : (e : Ex) (gts fts : List Ty) (v : Env) (t : Ty) → Holds gts fts v → HasType e (sig_with p gts fts) t → HasType (rename e v) sig t
    typed_on (Number z) gts fts v t h e = e
    typed_on (Fact b) gts fts v t h e = e
    typed_on (Constant k) gts fts v t h e = e
    typed_on (Read (Global x)) gts fts v t h e = read_on v.globals gts x t h.0 e
    typed_on (Read (Local x)) gts fts v t h e = read_on v.frame fts x t h.1.1 e
    typed_on (Not a) gts fts v t h e = (e.0, typed_on a gts fts v BoolTy h e.1)
    typed_on (Negative a) gts fts v t h e = (e.0, typed_on a gts fts v IntTy h e.1)
    typed_on (Binary op a b) gts fts v t h e =
        op_on op (HasType a (sig_with p gts fts)) (HasType b (sig_with p gts fts)) (HasType (rename a v) sig) (HasType (rename b v) sig) t (λ u x. typed_on a gts fts v u h x) (λ u x. typed_on b gts fts v u h x) e
    typed_on (Apply f es) gts fts v t h e = (e.0, e.1, e.2, types_on es gts fts v e.0.params h e.3)
    typed_on (Select m es) gts fts v t h e = (e.0, typed_on m gts fts v _ h e.1, types_on es gts fts v _ h e.2)
    typed_on (Update m es a) gts fts v t h e =
        (e.0, (e.1.0, e.1.1, typed_on m gts fts v _ h e.1.2, types_on es gts fts v _ h e.1.3, typed_on a gts fts v e.1.0 h e.1.4))
    typed_on (Old a) gts fts v t h e =
        typed_on a gts fts (record v { globals = v.before }) t (h.1.0, (h.1.0, h.1.1)) e

    pub types_on : (es : Exs) (gts fts : List Ty) (v : Env) (ts : List Ty) → Holds gts fts v → HaveTypes es (sig_with p gts fts) ts → HaveTypes (renames es v) sig ts
    types_on NoMore gts fts v ts h e = e
    types_on (More a es) gts fts v [] h e = absurd e
    types_on (More a es) gts fts v (t ∷ ts) h e = (typed_on a gts fts v t h e.0, types_on es gts fts v ts h e.1)

  pub truth_on : (e : Ex) (gts fts : List Ty) (v : Env) → Holds gts fts v → IsFormula (sig_with p gts fts) e → IsTruth sig (rename e v)
  truth_on e gts fts v h f = ((typed_on e gts fts v BoolTy h f.0, linear_on e v f.1), no_old e v)

-- ---- a larger frame

there_on : (fts more : List Ty) (x : ℕ) (t : Ty) → slice_get fts x ≡ Some t → slice_get (fts ++ more) x ≡ Some t
there_on [] more x t e = absurd (let bad : ⊥ = cc in bad)
there_on (u ∷ fts) more zero t e = e
there_on (u ∷ fts) more (suc x) t e = there_on fts more x t e

module _ (p : Prog) (gts fts more : List Ty) where
  mutual
    wider : (e : Ex) (t : Ty) → HasType e (sig_with p gts fts) t → HasType e (sig_with p gts (fts ++ more)) t
    wider (Number z) t e = e
    wider (Fact b) t e = e
    wider (Constant k) t e = e
    wider (Read (Global x)) t e = e
    wider (Read (Local x)) t e = there_on fts more x t e
    wider (Not a) t e = (e.0, wider a BoolTy e.1)
    wider (Negative a) t e = (e.0, wider a IntTy e.1)
    wider (Binary op a b) t e =
        op_on op (HasType a (sig_with p gts fts)) (HasType b (sig_with p gts fts)) (HasType a (sig_with p gts (fts ++ more))) (HasType b (sig_with p gts (fts ++ more))) t (λ u x. wider a u x) (λ u x. wider b u x) e
    wider (Apply f es) t e = (e.0, e.1, e.2, widers es e.0.params e.3)
    wider (Select m es) t e = (e.0, wider m _ e.1, widers es _ e.2)
    wider (Update m es a) t e = (e.0, (e.1.0, e.1.1, wider m _ e.1.2, widers es _ e.1.3, wider a e.1.0 e.1.4))
    wider (Old a) t e = wider a t e

    widers : (es : Exs) (ts : List Ty) → HaveTypes es (sig_with p gts fts) ts → HaveTypes es (sig_with p gts (fts ++ more)) ts
    widers NoMore ts e = e
    widers (More a es) [] e = absurd e
    widers (More a es) (t ∷ ts) e = (wider a t e.0, widers es ts e.1)

  pub formula_wider : (e : Ex) → IsFormula (sig_with p gts fts) e → IsFormula (sig_with p gts (fts ++ more)) e
  formula_wider e h = (wider e BoolTy h.0, h.1)
