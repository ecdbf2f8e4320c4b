-- Each map that is selected from or updated in what is made flat has an index, where that is so of incarnations and of what functions give.
use Rattle.std.proofs.Common.{◌≡◌, ℕ, zero, suc, Bool, true, false, List, [], ◌∷◌, length, Option, Some, None, map, refl, sym, ap, ◌∙◌, subst, ⊎_elim}
use Rattle.std.specs.Prelude.{slice_get, ◌&&◌}
use Rattle.bg_ast.specs.Values.{KeyType, Ty, IntTy, BoolTy, UserTy, MapTy}
use Rattle.bg_ast.specs.Syntax.{Ex, Exs, Op, And, Or, Implies, Iff, Equal, Unequal, Less, AtMost, Greater, AtLeast, Plus, Minus, Times, Number, Fact, Constant, Read, Local, Global, Not, Negative, Binary, Apply, Select, Update, Old, NoMore, More, Fun}
use Rattle.bg_sense.specs.Typing.{OpHasType, HasType}
use Rattle.bg_sense.proofs.Bools.{and_left, and_right}
use Rattle.bg_terms.specs.Terms.{Head, Applies, Selects, Updates, Term}
use Rattle.bg_terms.specs.Typed.{types_with, sig_with}
use Rattle.bg_terms.proofs.Typed.{flat_typed}
use Rattle.bg_numbered.specs.Fair.{IsHandled, Fair, AllFair, FairTerms}
use Rattle.bg_numbered.specs.Put.{found_from, made, with_by, with_term, select_head, update_head, map_ty}
use Rattle.bg_numbered.specs.Numbered.{behind, numbered, all_behind, all_numbered}
use Rattle.bg_numbered.specs.Lines.{has_index, HaveIndices}
use Rattle.bg_numbered.specs.Indexed.{is_indexed, are_indexed, GiveIndexed}
use Rattle.bg_numbered.proofs.Growing.{grows_on, lifted, last_or}
use Rattle.bg_numbered.proofs.Numbered.{all_grow, grows, fair_not, fair_negative, fair_old, fair_binary, fair_apply, fair_select, fair_update, flat, fair, all_fair, type_found}

indexed_at : (incs : List Ty) (j : ℕ) (t : Ty) → are_indexed incs ≡ true → slice_get incs j ≡ Some t → is_indexed t ≡ true
indexed_at [] j t h e = absurd (let bad : ⊥ = cc in bad)
indexed_at (u ∷ incs) zero t h e =
    let same : u ≡ t = cc in
    subst (λ x. is_indexed x ≡ true) same (and_left (is_indexed u) (are_indexed incs) h)
indexed_at (u ∷ incs) (suc j) t h e = indexed_at incs j t (and_right (is_indexed u) (are_indexed incs) h) e

-- what a map of such a type gives is of such a type
result_indexed : (ks : List KeyType) (t : Ty) → is_indexed (MapTy ks t) ≡ true → is_indexed t ≡ true
result_indexed [] t h = absurd (let bad : ⊥ = cc in bad)
result_indexed (k ∷ ks) t h = h

op_indexed : (op : Op) (A B : Ty → Type 0) (t : Ty) → OpHasType op A B t → is_indexed t ≡ true
op_indexed And A B t h = ap is_indexed h.0
op_indexed Or A B t h = ap is_indexed h.0
op_indexed Implies A B t h = ap is_indexed h.0
op_indexed Iff A B t h = ap is_indexed h.0
op_indexed Equal A B t h = ap is_indexed h.0
op_indexed Unequal A B t h = ap is_indexed h.0
op_indexed Less A B t h = ap is_indexed h.0
op_indexed AtMost A B t h = ap is_indexed h.0
op_indexed Greater A B t h = ap is_indexed h.0
op_indexed AtLeast A B t h = ap is_indexed h.0
op_indexed Plus A B t h = ap is_indexed h.0
op_indexed Minus A B t h = ap is_indexed h.0
op_indexed Times A B t h = ap is_indexed h.0

nothing : (j : ℕ) (t : Ty) → slice_get [] j ≡ Some t → ⊥
nothing j t e = cc

select_has : (ks : List KeyType) (t : Ty) → is_indexed (MapTy ks t) ≡ true → has_index (Selects ks t) ≡ true
select_has [] t h = absurd (let bad : ⊥ = cc in bad)
select_has (k ∷ ks) t h = refl

update_has : (ks : List KeyType) (t : Ty) → is_indexed (MapTy ks t) ≡ true → has_index (Updates ks t) ≡ true
update_has [] t h = absurd (let bad : ⊥ = cc in bad)
update_has (k ∷ ks) t h = refl

-- one term more
put_indices : (fs : List Fun) (h : Head) (xs : Exs) (ts : List Term) → has_index h ≡ true → HaveIndices ts → HaveIndices (with_term fs h xs ts)
put_indices fs h xs ts has k = on (found_from 0 h xs ts)
  where
    on : (o : Option ℕ) → HaveIndices (with_by o (made fs h xs) ts)
    on (Some a) = k
    on None =
        λ a u e. ⊎_elim (λ i. k a u i) (λ i. ap (λ v. has_index v.head) i ∙ has) (last_or ts (made fs h xs) a u e)

module _ (fs : List Fun) (gives : GiveIndexed fs) (incs : List Ty) (all : are_indexed incs ≡ true) where
  typed_indexed : (cs : List Ty) (e : Ex) (t : Ty) → HasType e (sig_with cs fs incs) t → IsHandled e → is_indexed t ≡ true
  typed_indexed cs (Number z) t h k = ap is_indexed h
  typed_indexed cs (Fact b) t h k = ap is_indexed h
  typed_indexed cs (Constant c) t h k = absurd k
  typed_indexed cs (Read (Local j)) t h k = indexed_at incs j t all h
  typed_indexed cs (Read (Global j)) t h k = absurd (nothing j t h)
  typed_indexed cs (Not e) t h k = ap is_indexed h.0
  typed_indexed cs (Negative e) t h k = ap is_indexed h.0
  typed_indexed cs (Binary op a b) t h k =
      op_indexed op (HasType a (sig_with cs fs incs)) (HasType b (sig_with cs fs incs)) t h
  typed_indexed cs (Apply f es) t h k = ap is_indexed h.2 ∙ gives f h.0 h.1
  typed_indexed cs (Select m es) t h k = result_indexed h.0 t (typed_indexed cs m (MapTy h.0 t) h.1 k.0)
  typed_indexed cs (Update m es e) t h k =
      ap is_indexed h.1.1 ∙ typed_indexed cs m (MapTy h.0 h.1.0) h.1.2 k.0
  typed_indexed cs (Old e) t h k = typed_indexed cs e t h k

  -- the heads of a select and an update of what has this type
  at_select : (x : Ex) (ts : List Term) (ks : List KeyType) (t : Ty) → map_ty incs x ts ≡ MapTy ks t → is_indexed (MapTy ks t) ≡ true → has_index (select_head (map_ty incs x ts)) ≡ true
  at_select x ts ks t e h = ap (λ u. has_index (select_head u)) e ∙ select_has ks t h

  at_update : (x : Ex) (ts : List Term) (ks : List KeyType) (t : Ty) → map_ty incs x ts ≡ MapTy ks t → is_indexed (MapTy ks t) ≡ true → has_index (update_head (map_ty incs x ts)) ≡ true
  at_update x ts ks t e h = ap (λ u. has_index (update_head u)) e ∙ update_has ks t h

  mutual
    pub indices : (e : Ex) (ts : List Term) → Fair fs incs e → FairTerms fs incs ts → HaveIndices ts → HaveIndices (behind fs incs e ts)
    indices (Number z) ts f g h = h
    indices (Fact b) ts f g h = h
    indices (Constant k) ts f g h = h
    indices (Read x) ts f g h = h
    indices (Not e) ts f g h = indices e ts (fair_not fs incs e f) g h
    indices (Negative e) ts f g h = indices e ts (fair_negative fs incs e f) g h
    indices (Binary op a b) ts f g h =
        let w = fair_binary fs incs op a b f in
        indices b (behind fs incs a ts) w.1 (fair fs incs a ts w.0 g) (indices a ts w.0 g h)
    indices (Apply k es) ts f g h =
        put_indices fs (Applies k) (all_numbered fs incs es ts) (all_behind fs incs es ts) refl (all_indices es ts (fair_apply fs incs k es f) g h)
    indices (Select m es) ts f g h =
        let w = fair_select fs incs m es f in
        let mid = behind fs incs m ts in
        let last = all_behind fs incs es mid in
        let x = numbered fs incs m ts in
        let middle = fair fs incs m ts w.0 g in
        let after = all_fair fs incs es mid w.1 middle in
        let typed = flat_typed fs incs (length incs) last refl after.typed f.constants m x (MapTy f.typed.0 f.ty) f.typed.1 (lifted (length incs) mid last m x (all_grow fs incs es mid) (flat fs incs m ts w.0)) in
        put_indices fs (select_head (map_ty incs x last)) (More x (all_numbered fs incs es mid)) last (at_select x last f.typed.0 f.ty (type_found (types_with incs last) x f.typed.0 f.ty typed) (typed_indexed f.constants m (MapTy f.typed.0 f.ty) f.typed.1 f.handled.0)) (all_indices es mid w.1 middle (indices m ts w.0 g h))
    indices (Update m es e) ts f g h =
        let w = fair_update fs incs m es e f in
        let mid = behind fs incs m ts in
        let far = all_behind fs incs es mid in
        let last = behind fs incs e far in
        let x = numbered fs incs m ts in
        let middle = fair fs incs m ts w.0 g in
        let before = all_fair fs incs es mid w.1 middle in
        let after = fair fs incs e far w.2 before in
        let ks = f.typed.0 in
        let u = f.typed.1.0 in
        let typed = flat_typed fs incs (length incs) last refl after.typed f.constants m x (MapTy ks u) f.typed.1.2 (lifted (length incs) mid last m x (grows_on mid far last (all_grow fs incs es mid) (grows fs incs e far)) (flat fs incs m ts w.0)) in
        put_indices fs (update_head (map_ty incs x last)) (More x (More (numbered fs incs e far) (all_numbered fs incs es mid))) last (at_update x last ks u (type_found (types_with incs last) x ks u typed) (typed_indexed f.constants m (MapTy ks u) f.typed.1.2 f.handled.0)) (indices e far w.2 before (all_indices es mid w.1 middle (indices m ts w.0 g h)))
    indices (Old e) ts f g h = indices e ts (fair_old fs incs e f) g h

    pub all_indices : (es : Exs) (ts : List Term) → AllFair fs incs es → FairTerms fs incs ts → HaveIndices ts → HaveIndices (all_behind fs incs es ts)
    all_indices NoMore ts f g h = h
    all_indices (More e es) ts f g h =
        all_indices es (behind fs incs e ts) f.1 (fair fs incs e ts f.0 g) (indices e ts f.0 g h)
