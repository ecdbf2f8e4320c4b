-- What is typed over no constants is handled; and where no functions and no maps are there, it is plain.
use Rattle.std.proofs.Common.{◌≡◌, ℕ, zero, suc, Bool, true, false, List, [], ◌∷◌, Some, refl, ap, subst}
use Rattle.std.specs.Prelude.{slice_get, not, map}
use Rattle.bg_ast.specs.Values.{Ty, IntTy, BoolTy, MapTy, is_map}
use Rattle.bg_ast.specs.Syntax.{Ex, Exs, Op, And, Or, Implies, Iff, Equal, Unequal, Less, AtMost, Greater, AtLeast, Plus, Minus, Times, Number, Fact, Constant, Read, Local, Global, Not, Negative, Binary, Apply, Select, Update, Old, NoMore, More, Fun}
use Rattle.bg_sense.specs.Typing.{key_ty, Sig, OpHasType, HasType, HaveTypes}
use Rattle.bg_sense.specs.Typed.{HasNoOld}
use Rattle.bg_sense.proofs.Bools.{and_left, and_right}
use Rattle.bg_passive.specs.Passive.{PassiveCmd, Claims, Supposes, Edge, PassiveBlock}
use Rattle.bg_block_types.specs.Typed.{TypedCmds, TypedEdges, TypedBlocks}
use Rattle.bg_terms.specs.Typed.{sig_with}
use Rattle.bg_numbered.specs.Fair.{IsHandled, AreHandled}
use Rattle.bg_numbered.proofs.Numbered.{side_types}
use Rattle.bg_flatten.specs.Makes.{Each, FineCmds, FineEdges, FineBlocks}
use Rattle.bg_flatten.specs.Plain.{are_mapless, IsPlain, PlainCmd, PlainEdge, PlainBlocks}

nothing : (j : ℕ) (t : Ty) → slice_get [] j ≡ Some t → ⊥
nothing j t e = cc

not_false : (b : Bool) → not b ≡ true → b ≡ false
not_false true e = absurd (let bad : ⊥ = cc in bad)
not_false false e = refl

mapless_at : (incs : List Ty) (j : ℕ) (t : Ty) → are_mapless incs ≡ true → slice_get incs j ≡ Some t → is_map t ≡ false
mapless_at [] j t h e = absurd (nothing j t e)
mapless_at (u ∷ incs) zero t h e =
    let same : u ≡ t = cc in
    subst (λ x. is_map x ≡ false) same (not_false (is_map u) (and_left (not (is_map u)) (are_mapless incs) h))
mapless_at (u ∷ incs) (suc j) t h e = mapless_at incs j t (and_right (not (is_map u)) (are_mapless incs) h) e

op_mapless : (op : Op) (A B : Ty → Type 0) (t : Ty) → OpHasType op A B t → is_map t ≡ false
op_mapless And A B t h = ap is_map h.0
op_mapless Or A B t h = ap is_map h.0
op_mapless Implies A B t h = ap is_map h.0
op_mapless Iff A B t h = ap is_map h.0
op_mapless Equal A B t h = ap is_map h.0
op_mapless Unequal A B t h = ap is_map h.0
op_mapless Less A B t h = ap is_map h.0
op_mapless AtMost A B t h = ap is_map h.0
op_mapless Greater A B t h = ap is_map h.0
op_mapless AtLeast A B t h = ap is_map h.0
op_mapless Plus A B t h = ap is_map h.0
op_mapless Minus A B t h = ap is_map h.0
op_mapless Times A B t h = ap is_map h.0

module _ (fs : List Fun) (incs : List Ty) where
  abbrev g : Sig
  g = sig_with [] fs incs

  mutual
    handled : (e : Ex) (t : Ty) → HasType e g t → IsHandled e
    handled (Number z) t h = tt
    handled (Fact b) t h = tt
    handled (Constant k) t h = absurd (nothing k t h)
    handled (Read x) t h = tt
    handled (Not e) t h = handled e BoolTy h.1
    handled (Negative e) t h = handled e IntTy h.1
    handled (Binary op a b) t h =
        let s = side_types op (HasType a g) (HasType b g) t h in
        (handled a s.0.0 s.0.1, handled b s.1.0 s.1.1)
    handled (Apply f es) t h = all_handled es h.0.params h.3
    handled (Select m es) t h = (handled m (MapTy h.0 t) h.1, all_handled es (map key_ty h.0) h.2)
    handled (Update m es e) t h = (
      handled m (MapTy h.0 h.1.0) h.1.2,
      all_handled es (map key_ty h.0) h.1.3,
      handled e h.1.0 h.1.4,
    )
    handled (Old e) t h = handled e t h

    all_handled : (es : Exs) (ts : List Ty) → HaveTypes es g ts → AreHandled es
    all_handled NoMore ts h = tt
    all_handled (More e es) [] h = absurd h
    all_handled (More e es) (t ∷ ts) h = (handled e t h.0, all_handled es ts h.1)

  cmds_fine : (ks : List PassiveCmd) → TypedCmds g ks → FineCmds fs incs ks
  cmds_fine [] h = tt
  cmds_fine (Claims s b e ∷ ks) h =
      (record { constants = []; typed = h.0.0.0; linear = h.0.0.1; handled = handled e BoolTy h.0.0.0 }, cmds_fine ks h.1)
  cmds_fine (Supposes b e ∷ ks) h =
      (record { constants = []; typed = h.0.0.0; linear = h.0.0.1; handled = handled e BoolTy h.0.0.0 }, cmds_fine ks h.1)

  edges_fine : (es : List Edge) → TypedEdges g es → FineEdges fs incs es
  edges_fine [] h = tt
  edges_fine (e ∷ es) h = (cmds_fine e.cmds h.0, edges_fine es h.1)

  pub blocks_fine : (bs : List PassiveBlock) → TypedBlocks g bs → FineBlocks fs incs bs
  blocks_fine [] h = tt
  blocks_fine (b ∷ bs) h = ((cmds_fine b.cmds h.0.0, edges_fine b.next h.0.1), blocks_fine bs h.1)

-- ---- without functions and maps

module _ (incs : List Ty) (mapless : are_mapless incs ≡ true) where
  abbrev sig : Sig
  sig = sig_with [] [] incs

  plain : (e : Ex) (t : Ty) → HasType e sig t → HasNoOld e → (is_map t ≡ false) × IsPlain e
  plain (Number z) t h o = (ap is_map h, tt)
  plain (Fact b) t h o = (ap is_map h, tt)
  plain (Constant k) t h o = absurd (nothing k t h)
  plain (Read (Local j)) t h o = (mapless_at incs j t mapless h, tt)
  plain (Read (Global j)) t h o = absurd (nothing j t h)
  plain (Not e) t h o = (ap is_map h.0, (plain e BoolTy h.1 o).1)
  plain (Negative e) t h o = (ap is_map h.0, (plain e IntTy h.1 o).1)
  plain (Binary op a b) t h o =
      let s = side_types op (HasType a sig) (HasType b sig) t h in
      (op_mapless op (HasType a sig) (HasType b sig) t h, ((plain a s.0.0 s.0.1 o.0).1, (plain b s.1.0 s.1.1 o.1).1))
  plain (Apply f es) t h o = absurd (let gone : slice_get [] f ≡ Some h.0 = h.1 in let bad : ⊥ = cc in bad)
  plain (Select m es) t h o =
      absurd (let not_one = (plain m (MapTy h.0 t) h.1 o.0).0 in let bad : ⊥ = cc in bad)
  plain (Update m es e) t h o =
      absurd (let not_one = (plain m (MapTy h.0 h.1.0) h.1.2 o.0).0 in let bad : ⊥ = cc in bad)
  plain (Old e) t h o = absurd o

  cmds_plain : (ks : List PassiveCmd) → TypedCmds sig ks → Each PlainCmd ks
  cmds_plain [] h = tt
  cmds_plain (Claims s b e ∷ ks) h = ((plain e BoolTy h.0.0.0 h.0.1).1, cmds_plain ks h.1)
  cmds_plain (Supposes b e ∷ ks) h = ((plain e BoolTy h.0.0.0 h.0.1).1, cmds_plain ks h.1)

  edges_plain : (es : List Edge) → TypedEdges sig es → Each PlainEdge es
  edges_plain [] h = tt
  edges_plain (e ∷ es) h = (cmds_plain e.cmds h.0, edges_plain es h.1)

  pub blocks_plain : (bs : List PassiveBlock) → TypedBlocks sig bs → PlainBlocks bs
  blocks_plain [] h = tt
  blocks_plain (b ∷ bs) h = ((cmds_plain b.cmds h.0.0, edges_plain b.next h.0.1), blocks_plain bs h.1)
