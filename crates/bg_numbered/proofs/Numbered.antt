-- What is made flat says what the expression says, and its terms are fair.
use Rattle.std.proofs.Common.{◌≡◌, ℕ, ◌+◌, true, List, [], ◌∷◌, length, Some, map, refl, sym, ap, subst}
use Rattle.std.specs.Prelude.{slice_get}
use Rattle.bg_ast.specs.Values.{KeyType, Ty, IntTy, BoolTy, MapTy, result_of}
use Rattle.bg_ast.specs.Syntax.{Ex, Exs, Op, And, Or, Implies, Iff, Equal, Unequal, Less, AtMost, Greater, AtLeast, Plus, Minus, Times, Number, Fact, Constant, Read, Local, Global, Not, Negative, Binary, Apply, Select, Update, Old, NoMore, More, Fun}
use Rattle.bg_sense.specs.Typing.{key_ty, OpHasType, HasType, HaveTypes}
use Rattle.bg_sense.specs.Typed.{AreLinear}
use Rattle.bg_terms.specs.Terms.{Head, Applies, Term}
use Rattle.bg_terms.specs.Alike.{HasFlatType}
use Rattle.bg_terms.specs.Flat.{IsFlat, AreFlat}
use Rattle.bg_terms.specs.Typed.{HaveFlatTypes, HeadHasType, types_with, sig_with}
use Rattle.bg_terms.proofs.Typed.{flat_typed}
use Rattle.bg_terms.proofs.Linear.{flat_linear}
use Rattle.bg_numbered.specs.Fair.{AreHandled, Fair, AllFair, FairTerms, Grows}
use Rattle.bg_numbered.specs.Put.{result_or, head_ty, with_term, type_at, ty_or, keys_in, select_head, update_head, map_ty}
use Rattle.bg_numbered.specs.Numbered.{behind, numbered, all_behind, all_numbered}
use Rattle.bg_numbered.proofs.Below.{inside, flats_below}
use Rattle.bg_numbered.proofs.Growing.{stays, grows_on, lifted, all_lifted, put_grows, put_term, put_fair}

-- ---- the table grows

module _ (fs : List Fun) (incs : List Ty) where
  mutual
    pub grows : (e : Ex) (ts : List Term) → Grows ts (behind fs incs e ts)
    grows (Number z) ts = stays ts
    grows (Fact b) ts = stays ts
    grows (Constant k) ts = stays ts
    grows (Read x) ts = stays ts
    grows (Not e) ts = grows e ts
    grows (Negative e) ts = grows e ts
    grows (Binary op a b) ts =
        grows_on ts (behind fs incs a ts) (behind fs incs b (behind fs incs a ts)) (grows a ts) (grows b (behind fs incs a ts))
    grows (Apply f es) ts =
        let mid = all_behind fs incs es ts in
        let xs = all_numbered fs incs es ts in
        grows_on ts mid (with_term fs (Applies f) xs mid) (all_grow es ts) (put_grows fs (Applies f) xs mid)
    grows (Select m es) ts =
        let mid = behind fs incs m ts in
        let last = all_behind fs incs es mid in
        let x = numbered fs incs m ts in
        let xs = More x (all_numbered fs incs es mid) in
        let h = select_head (map_ty incs x last) in
        grows_on ts mid (with_term fs h xs last) (grows m ts) (grows_on mid last (with_term fs h xs last) (all_grow es mid) (put_grows fs h xs last))
    grows (Update m es e) ts =
        let mid = behind fs incs m ts in
        let far = all_behind fs incs es mid in
        let last = behind fs incs e far in
        let x = numbered fs incs m ts in
        let xs = More x (More (numbered fs incs e far) (all_numbered fs incs es mid)) in
        let h = update_head (map_ty incs x last) in
        grows_on ts mid (with_term fs h xs last) (grows m ts) (grows_on mid far (with_term fs h xs last) (all_grow es mid) (grows_on far last (with_term fs h xs last) (grows e far) (put_grows fs h xs last)))
    grows (Old e) ts = grows e ts

    pub all_grow : (es : Exs) (ts : List Term) → Grows ts (all_behind fs incs es ts)
    all_grow NoMore ts = stays ts
    all_grow (More e es) ts =
        grows_on ts (behind fs incs e ts) (all_behind fs incs es (behind fs incs e ts)) (grows e ts) (all_grow es (behind fs incs e ts))

-- ---- parts of what is fair are fair

pub side_types : (op : Op) (A B : Ty → Type 0) (t : Ty) → OpHasType op A B t → ((u : Ty) × A u) × ((u : Ty) × B u)
side_types And A B t h = ((BoolTy, h.1), (BoolTy, h.2))
side_types Or A B t h = ((BoolTy, h.1), (BoolTy, h.2))
side_types Implies A B t h = ((BoolTy, h.1), (BoolTy, h.2))
side_types Iff A B t h = ((BoolTy, h.1), (BoolTy, h.2))
side_types Equal A B t h = ((h.1.0, h.1.1), (h.1.0, h.1.2))
side_types Unequal A B t h = ((h.1.0, h.1.1), (h.1.0, h.1.2))
side_types Less A B t h = ((IntTy, h.1), (IntTy, h.2))
side_types AtMost A B t h = ((IntTy, h.1), (IntTy, h.2))
side_types Greater A B t h = ((IntTy, h.1), (IntTy, h.2))
side_types AtLeast A B t h = ((IntTy, h.1), (IntTy, h.2))
side_types Plus A B t h = ((IntTy, h.1), (IntTy, h.2))
side_types Minus A B t h = ((IntTy, h.1), (IntTy, h.2))
side_types Times A B t h = ((IntTy, h.1), (IntTy, h.2))

-- ---- only what reads an incarnation or a term is a map

no_number : (ks : List KeyType) (t : Ty) → MapTy ks t ≡ IntTy → ⊥
no_number ks t e = cc

no_truth : (ks : List KeyType) (t : Ty) → MapTy ks t ≡ BoolTy → ⊥
no_truth ks t e = cc

no_operator : (op : Op) (A B : Ty → Type 0) (ks : List KeyType) (t : Ty) → OpHasType op A B (MapTy ks t) → ⊥
no_operator And A B ks t h = no_truth ks t h.0
no_operator Or A B ks t h = no_truth ks t h.0
no_operator Implies A B ks t h = no_truth ks t h.0
no_operator Iff A B ks t h = no_truth ks t h.0
no_operator Equal A B ks t h = no_truth ks t h.0
no_operator Unequal A B ks t h = no_truth ks t h.0
no_operator Less A B ks t h = no_truth ks t h.0
no_operator AtMost A B ks t h = no_truth ks t h.0
no_operator Greater A B ks t h = no_truth ks t h.0
no_operator AtLeast A B ks t h = no_truth ks t h.0
no_operator Plus A B ks t h = no_number ks t h.0
no_operator Minus A B ks t h = no_number ks t h.0
no_operator Times A B ks t h = no_number ks t h.0

pub type_found : (tys : List Ty) (x : Ex) (ks : List KeyType) (t : Ty) → HasFlatType tys x (MapTy ks t) → type_at tys x ≡ MapTy ks t
type_found tys (Number z) ks t h = absurd (no_number ks t h)
type_found tys (Fact b) ks t h = absurd (no_truth ks t h)
type_found tys (Constant k) ks t h = absurd h
type_found tys (Read (Local j)) ks t h = ap ty_or h
type_found tys (Read (Global j)) ks t h = absurd h
type_found tys (Not x) ks t h = absurd (no_truth ks t h.0)
type_found tys (Negative x) ks t h = absurd (no_number ks t h.0)
type_found tys (Binary op x y) ks t h = absurd (no_operator op (HasFlatType tys x) (HasFlatType tys y) ks t h)
type_found tys (Apply f es) ks t h = absurd h
type_found tys (Select m es) ks t h = absurd h
type_found tys (Update m es x) ks t h = absurd h
type_found tys (Old x) ks t h = absurd h

module _ (fs : List Fun) (incs : List Ty) where
  pub fair_not : (e : Ex) → Fair fs incs (Not e) → Fair fs incs e
  fair_not e f = record { constants = f.constants; ty = BoolTy; typed = f.typed.1; linear = f.linear; handled = f.handled }

  pub fair_negative : (e : Ex) → Fair fs incs (Negative e) → Fair fs incs e
  fair_negative e f = record { constants = f.constants; ty = IntTy; typed = f.typed.1; linear = f.linear; handled = f.handled }

  pub fair_old : (e : Ex) → Fair fs incs (Old e) → Fair fs incs e
  fair_old e f = record { constants = f.constants; ty = f.ty; typed = f.typed; linear = f.linear; handled = f.handled }

  pub fair_binary : (o : Op) (a b : Ex) → Fair fs incs (Binary o a b) → Fair fs incs a × Fair fs incs b
  fair_binary o a b f =
      let g = sig_with f.constants fs incs in
      let t = side_types o (HasType a g) (HasType b g) f.ty f.typed in (
        record { constants = f.constants; ty = t.0.0; typed = t.0.1; linear = f.linear.1; handled = f.handled.0 },
        record { constants = f.constants; ty = t.1.0; typed = t.1.1; linear = f.linear.2; handled = f.handled.1 },
      )

  fair_args : (cs : List Ty) (es : Exs) (ts : List Ty) → HaveTypes es (sig_with cs fs incs) ts → AreLinear es → AreHandled es → AllFair fs incs es
  fair_args cs NoMore ts h l k = tt
  fair_args cs (More e es) [] h l k = absurd h
  fair_args cs (More e es) (t ∷ ts) h l k =
      (record { constants = cs; ty = t; typed = h.0; linear = l.0; handled = k.0 }, fair_args cs es ts h.1 l.1 k.1)

  pub fair_apply : (f : ℕ) (es : Exs) → Fair fs incs (Apply f es) → AllFair fs incs es
  fair_apply f es w = fair_args w.constants es w.typed.0.params w.typed.3 w.linear w.handled

  pub fair_select : (m : Ex) (es : Exs) → Fair fs incs (Select m es) → Fair fs incs m × AllFair fs incs es
  fair_select m es w = (
    record { constants = w.constants; ty = MapTy w.typed.0 w.ty; typed = w.typed.1; linear = w.linear.0; handled = w.handled.0 },
    fair_args w.constants es (map key_ty w.typed.0) w.typed.2 w.linear.1 w.handled.1,
  )

  pub fair_update : (m : Ex) (es : Exs) (e : Ex) → Fair fs incs (Update m es e) → Fair fs incs m × AllFair fs incs es × Fair fs incs e
  fair_update m es e w = (
    record { constants = w.constants; ty = MapTy w.typed.0 w.typed.1.0; typed = w.typed.1.2; linear = w.linear.0; handled = w.handled.0 },
    fair_args w.constants es (map key_ty w.typed.0) w.typed.1.3 w.linear.1 w.handled.1,
    record { constants = w.constants; ty = w.typed.1.0; typed = w.typed.1.4; linear = w.linear.2; handled = w.handled.2 },
  )

  -- ---- what is made is flat

  abbrev n : ℕ
  n = length incs

  read_flat : (ts : List Term) (j : ℕ) → Fair fs incs (Read (Local j)) → IsFlat n ts (Read (Local j)) (Read (Local j))
  read_flat ts j f = (refl, inside incs j f.ty f.typed)

  no_global : (j : ℕ) (t : Ty) → slice_get [] j ≡ Some t → ⊥
  no_global j t e = cc

  mutual
    pub flat : (e : Ex) (ts : List Term) → Fair fs incs e → IsFlat n (behind fs incs e ts) e (numbered fs incs e ts)
    flat (Number z) ts f = refl
    flat (Fact b) ts f = refl
    flat (Constant k) ts f = absurd f.handled
    flat (Read (Local j)) ts f = read_flat ts j f
    flat (Read (Global j)) ts f = absurd (no_global j f.ty f.typed)
    flat (Not e) ts f = (numbered fs incs e ts, (refl, flat e ts (fair_not e f)))
    flat (Negative e) ts f = (numbered fs incs e ts, (refl, flat e ts (fair_negative e f)))
    flat (Binary op a b) ts f =
        let w = fair_binary op a b f in
        let mid = behind fs incs a ts in
        let x = numbered fs incs a ts in
        let y = numbered fs incs b mid in
        (x, (y, (refl, (lifted n mid (behind fs incs b mid) a x (grows fs incs b mid) (flat a ts w.0), flat b mid w.1))))
    flat (Apply f es) ts w =
        let mid = all_behind fs incs es ts in
        let xs = all_numbered fs incs es ts in
        (xs, (all_lifted n mid (with_term fs (Applies f) xs mid) es xs (put_grows fs (Applies f) xs mid) (all_flat es ts (fair_apply f es w)), put_term fs (Applies f) xs mid n))
    flat (Select m es) ts f =
        let w = fair_select m es f in
        let mid = behind fs incs m ts in
        let last = all_behind fs incs es mid in
        let x = numbered fs incs m ts in
        let xs = all_numbered fs incs es mid in
        let t = map_ty incs x last in
        let h = select_head t in
        let new = with_term fs h (More x xs) last in
        let on = put_grows fs h (More x xs) last in
        (keys_in t, (result_of t, (x, (xs, (lifted n mid new m x (grows_on mid last new (all_grow fs incs es mid) on) (flat m ts w.0), (all_lifted n last new es xs on (all_flat es mid w.1), put_term fs h (More x xs) last n))))))
    flat (Update m es e) ts f =
        let w = fair_update m es e f in
        let mid = behind fs incs m ts in
        let far = all_behind fs incs es mid in
        let last = behind fs incs e far in
        let x = numbered fs incs m ts in
        let xs = all_numbered fs incs es mid in
        let y = numbered fs incs e far in
        let t = map_ty incs x last in
        let h = update_head t in
        let new = with_term fs h (More x (More y xs)) last in
        let on = put_grows fs h (More x (More y xs)) last in
        let later = grows_on far last new (grows fs incs e far) on in
        (keys_in t, (result_of t, (x, (xs, (y, (lifted n mid new m x (grows_on mid far new (all_grow fs incs es mid) later) (flat m ts w.0), (all_lifted n far new es xs later (all_flat es mid w.1), (lifted n last new e y on (flat e far w.2), put_term fs h (More x (More y xs)) last n))))))))
    flat (Old e) ts f = flat e ts (fair_old e f)

    pub all_flat : (es : Exs) (ts : List Term) → AllFair fs incs es → AreFlat n (all_behind fs incs es ts) es (all_numbered fs incs es ts)
    all_flat NoMore ts f = refl
    all_flat (More e es) ts f =
        let mid = behind fs incs e ts in
        let x = numbered fs incs e ts in
        (x, (all_numbered fs incs es mid, (refl, (lifted n mid (all_behind fs incs es mid) e x (all_grow fs incs es mid) (flat e ts f.0), all_flat es mid f.1))))

  -- ---- terms stay fair

  args_typed : (cs : List Ty) (ts : List Term) → FairTerms fs incs ts → (es xs : Exs) (tys : List Ty) → HaveTypes es (sig_with cs fs incs) tys → AreFlat n ts es xs → HaveFlatTypes (types_with incs ts) xs tys
  args_typed cs ts f NoMore xs tys h k = subst (λ ys. HaveFlatTypes (types_with incs ts) ys tys) (sym k) h
  args_typed cs ts f (More e es) xs [] h k = absurd h
  args_typed cs ts f (More e es) xs (t ∷ tys) h k =
      subst (λ ys. HaveFlatTypes (types_with incs ts) ys (t ∷ tys)) (sym k.1.1.0) (flat_typed fs incs n ts refl f.typed cs e k.0 t h.0 k.1.1.1.0, args_typed cs ts f es k.1.0 tys h.1 k.1.1.1.1)

  args_linear : (ts : List Term) (es xs : Exs) → AreLinear es → AreFlat n ts es xs → AreLinear xs
  args_linear ts NoMore xs l k = subst (λ ys. AreLinear ys) (sym k) tt
  args_linear ts (More e es) xs l k =
      subst (λ ys. AreLinear ys) (sym k.1.1.0) (flat_linear n ts e k.0 l.0 k.1.1.1.0, args_linear ts es k.1.0 l.1 k.1.1.1.1)

  -- a select and an update of what is typed are typed
  select_typed : (tys : List Ty) (x : Ex) (xs : Exs) (ks : List KeyType) (u : Ty) → HaveFlatTypes tys (More x xs) (MapTy ks u ∷ map key_ty ks) → HeadHasType fs tys (select_head (type_at tys x)) (More x xs) (head_ty fs (select_head (type_at tys x)))
  select_typed tys x xs ks u h =
      subst (λ t. HeadHasType fs tys (select_head t) (More x xs) (head_ty fs (select_head t))) (sym (type_found tys x ks u h.0)) (refl, h)

  update_typed : (tys : List Ty) (x : Ex) (xs : Exs) (ks : List KeyType) (u : Ty) → HaveFlatTypes tys (More x xs) (MapTy ks u ∷ u ∷ map key_ty ks) → HeadHasType fs tys (update_head (type_at tys x)) (More x xs) (head_ty fs (update_head (type_at tys x)))
  update_typed tys x xs ks u h =
      subst (λ t. HeadHasType fs tys (update_head t) (More x xs) (head_ty fs (update_head t))) (sym (type_found tys x ks u h.0)) (refl, h)

  mutual
    pub fair : (e : Ex) (ts : List Term) → Fair fs incs e → FairTerms fs incs ts → FairTerms fs incs (behind fs incs e ts)
    fair (Number z) ts f h = h
    fair (Fact b) ts f h = h
    fair (Constant k) ts f h = h
    fair (Read x) ts f h = h
    fair (Not e) ts f h = fair e ts (fair_not e f) h
    fair (Negative e) ts f h = fair e ts (fair_negative e f) h
    fair (Binary op a b) ts f h =
        let w = fair_binary op a b f in
        fair b (behind fs incs a ts) w.1 (fair a ts w.0 h)
    fair (Apply f es) ts w h =
        let mid = all_behind fs incs es ts in
        let xs = all_numbered fs incs es ts in
        let each = fair_apply f es w in
        let after = all_fair es ts each h in
        let k = all_flat es ts each in
        put_fair fs (Applies f) xs mid incs after (flats_below n mid es xs k) (args_linear mid es xs w.linear k) (w.typed.0, (w.typed.1, (ap result_or w.typed.1, args_typed w.constants mid after es xs w.typed.0.params w.typed.3 k)))
    fair (Select m es) ts f h =
        let w = fair_select m es f in
        let mid = behind fs incs m ts in
        let last = all_behind fs incs es mid in
        let x = numbered fs incs m ts in
        let xs = all_numbered fs incs es mid in
        let after = all_fair es mid w.1 (fair m ts w.0 h) in
        let k : AreFlat n last (More m es) (More x xs) = (x, (xs, (refl, (lifted n mid last m x (all_grow fs incs es mid) (flat m ts w.0), all_flat es mid w.1)))) in
        put_fair fs (select_head (map_ty incs x last)) (More x xs) last incs after (flats_below n last (More m es) (More x xs) k) (args_linear last (More m es) (More x xs) (f.linear.0, f.linear.1) k) (select_typed (types_with incs last) x xs f.typed.0 f.ty (args_typed f.constants last after (More m es) (More x xs) (MapTy f.typed.0 f.ty ∷ map key_ty f.typed.0) (f.typed.1, f.typed.2) k))
    fair (Update m es e) ts f h =
        let w = fair_update m es e f in
        let mid = behind fs incs m ts in
        let far = all_behind fs incs es mid in
        let last = behind fs incs e far in
        let x = numbered fs incs m ts in
        let xs = all_numbered fs incs es mid in
        let y = numbered fs incs e far in
        let after = fair e far w.2 (all_fair es mid w.1 (fair m ts w.0 h)) in
        let later = grows fs incs e far in
        let k : AreFlat n last (More m (More e es)) (More x (More y xs)) = (x, (More y xs, (refl, (lifted n mid last m x (grows_on mid far last (all_grow fs incs es mid) later) (flat m ts w.0), (y, (xs, (refl, (flat e far w.2, all_lifted n far last es xs later (all_flat es mid w.1))))))))) in
        put_fair fs (update_head (map_ty incs x last)) (More x (More y xs)) last incs after (flats_below n last (More m (More e es)) (More x (More y xs)) k) (args_linear last (More m (More e es)) (More x (More y xs)) (f.linear.0, (f.linear.2, f.linear.1)) k) (update_typed (types_with incs last) x (More y xs) f.typed.0 f.typed.1.0 (args_typed f.constants last after (More m (More e es)) (More x (More y xs)) (MapTy f.typed.0 f.typed.1.0 ∷ f.typed.1.0 ∷ map key_ty f.typed.0) (f.typed.1.2, (f.typed.1.4, f.typed.1.3)) k))
    fair (Old e) ts f h = fair e ts (fair_old e f) h

    pub all_fair : (es : Exs) (ts : List Term) → AllFair fs incs es → FairTerms fs incs ts → FairTerms fs incs (all_behind fs incs es ts)
    all_fair NoMore ts f h = h
    all_fair (More e es) ts f h = all_fair es (behind fs incs e ts) f.1 (fair e ts f.0 h)
