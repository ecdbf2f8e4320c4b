-- Each instance of maps is true in each model.
use Rattle.std.proofs.Common.{◌≡◌, ℕ, zero, suc, ◌+◌, Bool, true, false, List, [], ◌∷◌, length, map, Option, Some, None, refl, sym, ap, ◌∙◌, arith}
use Rattle.std.specs.Prelude.{slice_get, not, ◌&&◌, if◌then◌else◌, ℤ}
use Rattle.bg_ast.specs.Values.{Val, truth_of, number_of, val_eq, select, update, keys_eq, Ty, MapTy, KeyType, IntKey, UserKey, is_of}
use Rattle.bg_ast.specs.Syntax.{Ex, Exs, Number, Fact, Constant, Read, Local, Global, Not, Negative, Binary, Apply, Select, Update, Old, NoMore, More}
use Rattle.bg_ast.specs.Execution.{Interp}
use Rattle.bg_sense.specs.Eval.{value_at, ev, evs}
use Rattle.bg_sense.specs.Types.{are_of}
use Rattle.bg_sense.specs.Typing.{key_ty}
use Rattle.bg_sense.proofs.Keys.{keys_same}
use Rattle.bg_sense.proofs.Bools.{and_left, and_right}
use Rattle.bg_sense.proofs.MapLaws.{val_same, select_updated, select_elsewhere}
use Rattle.bg_terms.specs.Differing.{differ_at}
use Rattle.bg_terms.specs.Terms.{Head, Applies, Selects, Updates, Differs, Term, over, mean, part, key_value, term_value, IsModel, head_eq, args_fit, Fit}
use Rattle.bg_terms.specs.Instances.{all_equal, at_index_of, at_index, elsewhere_of, elsewhere, accesses, term_at, is_part, read_at, are_parts, apart_of, apart_by, apart}
use Rattle.bg_terms.proofs.Models.{model_at}
use Rattle.bg_terms.proofs.Heads.{Accesses, accessing, head_same}
use Rattle.bg_terms.proofs.Differing.{same_where_apart, differ_length}
use Rattle.bg_terms.proofs.True.{equal_alike, equal_back, if_then, same_eq, keys_known, not_true, false_unless}

term_there : (n : ℕ) (ts : List Term) (k : ℕ) (d : Term) → term_at n ts k ≡ Some d → (a : ℕ) × ((k ≡ n + a) × (slice_get ts a ≡ Some d))
term_there zero ts k d e = (k, (omega arith, e))
term_there (suc n) ts zero d e = absurd (let bad : ⊥ = cc in bad)
term_there (suc n) ts (suc k) d e =
    let r = term_there n ts k d e in let q = r.1.0 in (r.0, (omega (arith, q), r.1.1))

module _ (i : Interp) (n : ℕ) (ts : List Term) (w : List Val) (model : IsModel i w n ts) (fit : Fit w ts) where
  -- what a term is worth, by its head and its arguments
  worth : (a : ℕ) (t : Term) (h : Head) (xs : Exs) → slice_get ts a ≡ Some t → t.head ≡ h → t.args ≡ xs → value_at w (n + a) ≡ mean i h (evs xs (over w))
  worth a t h xs e q r =
      model_at i w n ts a (n + a) t model e refl
      ∙ ap (λ k. mean i k (evs t.args (over w))) q
      ∙ ap (λ ys. mean i h (evs ys (over w))) r

  fits : (a : ℕ) (t : Term) (h : Head) (xs : Exs) → slice_get ts a ≡ Some t → t.head ≡ h → t.args ≡ xs → args_fit h (evs xs (over w)) ≡ true
  fits a t h xs e q r =
      ap (λ ys. args_fit h (evs ys (over w))) (sym r) ∙ ap (λ k. args_fit k (evs t.args (over w))) (sym q) ∙ fit a t e

  module _ (ks : List KeyType) (t : Ty) where
    updated_map : (m v : Val) (qs : List Val) → args_fit (Updates ks t) (m ∷ v ∷ qs) ≡ true → is_of (MapTy ks t) m ≡ true
    updated_map m v qs h = and_left (is_of (MapTy ks t) m) (is_of t v && are_of (map key_ty ks) qs) h

    updated_index : (m v : Val) (qs : List Val) → args_fit (Updates ks t) (m ∷ v ∷ qs) ≡ true → are_of (map key_ty ks) qs ≡ true
    updated_index m v qs h =
        and_right (is_of t v) (are_of (map key_ty ks) qs) (and_right (is_of (MapTy ks t) m) (is_of t v && are_of (map key_ty ks) qs) h)

    selected_map : (m : Val) (qs : List Val) → args_fit (Selects ks t) (m ∷ qs) ≡ true → is_of (MapTy ks t) m ≡ true
    selected_map m qs h = and_left (is_of (MapTy ks t) m) (are_of (map key_ty ks) qs) h

    selected_index : (m : Val) (qs : List Val) → args_fit (Selects ks t) (m ∷ qs) ≡ true → are_of (map key_ty ks) qs ≡ true
    selected_index m qs h = and_right (is_of (MapTy ks t) m) (are_of (map key_ty ks) qs) h

  at_index_here : (u s : ℕ) (t a : Term) (us ss : Exs) → slice_get ts u ≡ Some t → slice_get ts s ≡ Some a → Accesses t.head a.head → t.args ≡ us → a.args ≡ ss → truth_of (ev (at_index_of n u s us ss) (over w)) ≡ true
  at_index_here u s t a NoMore ss e f h q r = refl
  at_index_here u s t a (More m NoMore) ss e f h q r = refl
  at_index_here u s t a (More m (More v ks)) NoMore e f h q r = refl
  at_index_here u s t a (More m (More v ks)) (More x qs) e f h q r =
      if_then
      (val_eq (ev x (over w)) (value_at w (n + u)) && truth_of (ev (all_equal ks qs) (over w)))
      (val_eq (value_at w (n + s)) (ev v (over w)))
      (λ c. let same_map = val_same (ev x (over w)) (value_at w (n + u)) (and_left (val_eq (ev x (over w)) (value_at w (n + u))) (truth_of (ev (all_equal ks qs) (over w))) c) in
      let same_key = equal_alike w ks qs (and_right (val_eq (ev x (over w)) (value_at w (n + u))) (truth_of (ev (all_equal ks qs) (over w))) c) in
      let p = updated_map h.keys h.result (ev m (over w)) (ev v (over w)) (evs ks (over w)) (fits u t (Updates h.keys h.result) (More m (More v ks)) e h.update q) in
      same_eq (value_at w (n + s)) (ev v (over w)) (worth s a (Selects h.keys h.result) (More x qs) f h.select r
      ∙ ap (λ y. select y (map number_of (evs qs (over w)))) (same_map ∙ worth u t (Updates h.keys h.result) (More m (More v ks)) e h.update q)
      ∙ ap (λ ys. select (update (ev m (over w)) (map number_of (evs ks (over w))) (ev v (over w))) (map number_of ys)) (sym same_key)
      ∙ select_updated h.keys h.result (ev m (over w)) (map number_of (evs ks (over w))) (ev v (over w)) p))

  pub at_index_true : (u s : ℕ) (o r : Option Term) → slice_get ts u ≡ o → slice_get ts s ≡ r → truth_of (ev (at_index n u s o r) (over w)) ≡ true
  at_index_true u s None r e f = refl
  at_index_true u s (Some t) None e f = refl
  at_index_true u s (Some t) (Some a) e f = on (accesses t.head a.head) refl
    where
      on : (b : Bool) → accesses t.head a.head ≡ b → truth_of (ev (if b then at_index_of n u s t.args a.args else Fact true) (over w)) ≡ true
      on false g = refl
      on true g = at_index_here u s t a t.args a.args e f (accessing t.head a.head g) refl refl

  elsewhere_here : (u s r : ℕ) (t a b : Term) (us ss rs : Exs) → slice_get ts u ≡ Some t → slice_get ts s ≡ Some a → slice_get ts r ≡ Some b → Accesses t.head a.head → Accesses t.head b.head → t.args ≡ us → a.args ≡ ss → b.args ≡ rs → truth_of (ev (elsewhere_of n u s r us ss rs) (over w)) ≡ true
  elsewhere_here u s r t a b NoMore ss rs e f g h k q p o = refl
  elsewhere_here u s r t a b (More m NoMore) ss rs e f g h k q p o = refl
  elsewhere_here u s r t a b (More m (More v ks)) NoMore rs e f g h k q p o = refl
  elsewhere_here u s r t a b (More m (More v ks)) (More x qs) NoMore e f g h k q p o = refl
  elsewhere_here u s r t a b (More m (More v ks)) (More x qs) (More y rs) e f g h k q p o =
      if_then
      ((val_eq (ev x (over w)) (value_at w (n + u)) && val_eq (ev y (over w)) (ev m (over w))) && (truth_of (ev (all_equal qs rs) (over w)) && not (truth_of (ev (all_equal ks qs) (over w)))))
      (val_eq (value_at w (n + s)) (value_at w (n + r)))
      (λ c. let first = and_left (val_eq (ev x (over w)) (value_at w (n + u)) && val_eq (ev y (over w)) (ev m (over w))) (truth_of (ev (all_equal qs rs) (over w)) && not (truth_of (ev (all_equal ks qs) (over w)))) c in
      let last = and_right (val_eq (ev x (over w)) (value_at w (n + u)) && val_eq (ev y (over w)) (ev m (over w))) (truth_of (ev (all_equal qs rs) (over w)) && not (truth_of (ev (all_equal ks qs) (over w)))) c in
      let same_map = val_same (ev x (over w)) (value_at w (n + u)) (and_left (val_eq (ev x (over w)) (value_at w (n + u))) (val_eq (ev y (over w)) (ev m (over w))) first) in
      let same_old = val_same (ev y (over w)) (ev m (over w)) (and_right (val_eq (ev x (over w)) (value_at w (n + u))) (val_eq (ev y (over w)) (ev m (over w))) first) in
      let same_key = equal_alike w qs rs (and_left (truth_of (ev (all_equal qs rs) (over w))) (not (truth_of (ev (all_equal ks qs) (over w)))) last) in
      let other = not_true (truth_of (ev (all_equal ks qs) (over w))) (and_right (truth_of (ev (all_equal qs rs) (over w))) (not (truth_of (ev (all_equal ks qs) (over w)))) last) in
      let fu = fits u t (Updates h.keys h.result) (More m (More v ks)) e h.update q in
      let fs = fits s a (Selects h.keys h.result) (More x qs) f h.select p in
      let off = false_unless (keys_eq (map number_of (evs ks (over w))) (map number_of (evs qs (over w)))) (λ j. let z = equal_back w ks qs (keys_known h.keys (evs ks (over w)) (evs qs (over w)) (updated_index h.keys h.result (ev m (over w)) (ev v (over w)) (evs ks (over w)) fu) (selected_index h.keys h.result (ev x (over w)) (evs qs (over w)) fs) (keys_same (map number_of (evs ks (over w))) (map number_of (evs qs (over w))) j)) in let bad : ⊥ = cc in bad) in
      same_eq (value_at w (n + s)) (value_at w (n + r)) (worth s a (Selects h.keys h.result) (More x qs) f h.select p
      ∙ ap (λ z. select z (map number_of (evs qs (over w)))) (same_map ∙ worth u t (Updates h.keys h.result) (More m (More v ks)) e h.update q)
      ∙ select_elsewhere h.keys h.result (ev m (over w)) (map number_of (evs ks (over w))) (map number_of (evs qs (over w))) (ev v (over w)) (updated_map h.keys h.result (ev m (over w)) (ev v (over w)) (evs ks (over w)) fu) off
      ∙ ap (λ z. select z (map number_of (evs qs (over w)))) (sym same_old)
      ∙ ap (λ zs. select (ev y (over w)) (map number_of zs)) same_key
      ∙ sym (worth r b (Selects k.keys k.result) (More y rs) g k.select o)))

  pub elsewhere_true : (u s r : ℕ) (o1 o2 o3 : Option Term) → slice_get ts u ≡ o1 → slice_get ts s ≡ o2 → slice_get ts r ≡ o3 → truth_of (ev (elsewhere n u s r o1 o2 o3) (over w)) ≡ true
  elsewhere_true u s r None o2 o3 e f g = refl
  elsewhere_true u s r (Some t) None o3 e f g = refl
  elsewhere_true u s r (Some t) (Some a) None e f g = refl
  elsewhere_true u s r (Some t) (Some a) (Some b) e f g =
      on (accesses t.head a.head) (accesses t.head b.head) refl refl
    where
      on : (x y : Bool) → accesses t.head a.head ≡ x → accesses t.head b.head ≡ y → truth_of (ev (if x && y then elsewhere_of n u s r t.args a.args b.args else Fact true) (over w)) ≡ true
      on false y p q = refl
      on true false p q = refl
      on true true p q =
          elsewhere_here u s r t a b t.args a.args b.args e f g (accessing t.head a.head p) (accessing t.head b.head q) refl refl refl

  -- ---- the index at which two maps differ

  read_worth : (q : Ex) (d : Term) → read_at n ts q ≡ Some d → ev q (over w) ≡ term_value i w d
  read_worth (Number z) d e = absurd (let bad : ⊥ = cc in bad)
  read_worth (Fact b) d e = absurd (let bad : ⊥ = cc in bad)
  read_worth (Constant k) d e = absurd (let bad : ⊥ = cc in bad)
  read_worth (Read (Local k)) d e =
      let r = term_there n ts k d e in
      ap (value_at w) r.1.0 ∙ model_at i w n ts r.0 (n + r.0) d model r.1.1 refl
  read_worth (Read (Global k)) d e = absurd (let bad : ⊥ = cc in bad)
  read_worth (Not x) d e = absurd (let bad : ⊥ = cc in bad)
  read_worth (Negative x) d e = absurd (let bad : ⊥ = cc in bad)
  read_worth (Binary op x y) d e = absurd (let bad : ⊥ = cc in bad)
  read_worth (Apply f es) d e = absurd (let bad : ⊥ = cc in bad)
  read_worth (Select x es) d e = absurd (let bad : ⊥ = cc in bad)
  read_worth (Update x es y) d e = absurd (let bad : ⊥ = cc in bad)
  read_worth (Old x) d e = absurd (let bad : ⊥ = cc in bad)

  module _ (ks : List KeyType) (t : Ty) (m o : Ex) where
    abbrev index : List ℤ
    index = differ_at ks (ev m (over w)) (ev o (over w))

    part_worth : (j : ℕ) (q : Ex) (d : Option Term) → read_at n ts q ≡ d → truth_of (ev (is_part ks t j m o d) (over w)) ≡ true → ev q (over w) ≡ part ks index j
    part_worth j q None e h = absurd (let bad : ⊥ = cc in bad)
    part_worth j q (Some d) e h = on (head_eq d.head (Differs ks t j)) refl h
      where
        on : (b : Bool) → head_eq d.head (Differs ks t j) ≡ b → truth_of (ev (if b then all_equal d.args (More m (More o NoMore)) else Fact false) (over w)) ≡ true → ev q (over w) ≡ part ks index j
        on false f g = absurd (let bad : ⊥ = cc in bad)
        on true f g =
            read_worth q d e
            ∙ ap (λ k. mean i k (evs d.args (over w))) (head_same d.head (Differs ks t j) f)
            ∙ ap (mean i (Differs ks t j)) (equal_alike w d.args (More m (More o NoMore)) g)

    number_kept : (k : KeyType) (z : ℤ) → number_of (key_value k z) ≡ z
    number_kept IntKey z = refl
    number_kept (UserKey u) z = refl

    parts_worth : (ls : List KeyType) (zs : List ℤ) (j : ℕ) (qs : Exs) → length zs ≡ length ls → ((a : ℕ) → part ks index (j + a) ≡ part ls zs a) → truth_of (ev (are_parts n ts ks t j m o ls qs) (over w)) ≡ true → map number_of (evs qs (over w)) ≡ zs
    parts_worth [] [] j NoMore l p h = refl
    parts_worth [] [] j (More q qs) l p h = absurd (let bad : ⊥ = cc in bad)
    parts_worth [] (z ∷ zs) j qs l p h = absurd (let bad : ⊥ = cc in bad)
    parts_worth (k ∷ ls) [] j qs l p h = absurd (omega arith)
    parts_worth (k ∷ ls) (z ∷ zs) j NoMore l p h = absurd (let bad : ⊥ = cc in bad)
    parts_worth (k ∷ ls) (z ∷ zs) j (More q qs) l p h =
        let here = part_worth j q (read_at n ts q) refl (and_left (truth_of (ev (is_part ks t j m o (read_at n ts q)) (over w))) (truth_of (ev (are_parts n ts ks t (suc j) m o ls qs) (over w))) h) in
        let at : part ks index j ≡ key_value k z = ap (part ks index) (let e : j ≡ j + 0 = omega arith in e) ∙ p 0 in
        let rest = parts_worth ls zs (suc j) qs (omega (arith, l)) (λ a. ap (part ks index) (let e : suc j + a ≡ j + suc a = omega arith in e) ∙ p (suc a)) (and_right (truth_of (ev (is_part ks t j m o (read_at n ts q)) (over w))) (truth_of (ev (are_parts n ts ks t (suc j) m o ls qs) (over w))) h) in
        ap (λ x. number_of x ∷ map number_of (evs qs (over w))) (here ∙ at)
        ∙ ap (λ x. x ∷ map number_of (evs qs (over w))) (number_kept k z)
        ∙ ap (λ xs. z ∷ xs) rest

  apart_here : (s r : ℕ) (a b : Term) (k : KeyType) (ks : List KeyType) (t : Ty) (ss rs : Exs) → slice_get ts s ≡ Some a → slice_get ts r ≡ Some b → a.head ≡ Selects (k ∷ ks) t → b.head ≡ Selects (k ∷ ks) t → a.args ≡ ss → b.args ≡ rs → truth_of (ev (apart_of n ts s r (k ∷ ks) t ss rs) (over w)) ≡ true
  apart_here s r a b k ks t NoMore rs e f h g p o = refl
  apart_here s r a b k ks t (More m qs) NoMore e f h g p o = refl
  apart_here s r a b k ks t (More m qs) (More l rs) e f h g p o =
      let x = truth_of (ev (are_parts n ts (k ∷ ks) t 0 m l (k ∷ ks) qs) (over w)) in
      let y = truth_of (ev (all_equal qs rs) (over w)) in
      let z = val_eq (value_at w (n + s)) (value_at w (n + r)) in
      if_then
      ((x && y) && z)
      (val_eq (ev m (over w)) (ev l (over w)))
      (λ c. let xy = and_left (x && y) z c in
      let fs = fits s a (Selects (k ∷ ks) t) (More m qs) e h p in
      let fr = fits r b (Selects (k ∷ ks) t) (More l rs) f g o in
      let hm = selected_map (k ∷ ks) t (ev m (over w)) (evs qs (over w)) fs in
      let hl = selected_map (k ∷ ks) t (ev l (over w)) (evs rs (over w)) fr in
      let at = parts_worth (k ∷ ks) t m l (k ∷ ks) (differ_at (k ∷ ks) (ev m (over w)) (ev l (over w))) 0 qs (differ_length (k ∷ ks) t (ev m (over w)) (ev l (over w)) hm hl) (λ j. ap (part (k ∷ ks) (differ_at (k ∷ ks) (ev m (over w)) (ev l (over w)))) (let q : 0 + j ≡ j = omega arith in q)) (and_left x y xy) in
      let same_key = equal_alike w qs rs (and_right x y xy) in
      let sel = sym (worth s a (Selects (k ∷ ks) t) (More m qs) e h p) ∙ val_same (value_at w (n + s)) (value_at w (n + r)) (and_right (x && y) z c) ∙ worth r b (Selects (k ∷ ks) t) (More l rs) f g o in
      same_eq (ev m (over w)) (ev l (over w)) (same_where_apart k ks t (ev m (over w)) (ev l (over w)) hm hl (ap (select (ev m (over w))) (sym at)
      ∙ sel
      ∙ ap (λ vs. select (ev l (over w)) (map number_of vs)) (sym same_key)
      ∙ ap (select (ev l (over w))) at)))

  -- each map has an index
  module _ (indexed : (a : ℕ) (u : Term) (t : Ty) → slice_get ts a ≡ Some u → u.head ≡ Selects [] t → ⊥) where
    by_select : (s r : ℕ) (a b : Term) (h : Head) → slice_get ts s ≡ Some a → slice_get ts r ≡ Some b → a.head ≡ h → b.head ≡ h → truth_of (ev (apart_by n ts s r h a.args b.args) (over w)) ≡ true
    by_select s r a b (Applies k) e f p q = refl
    by_select s r a b (Selects [] t) e f p q = absurd (indexed s a t e p)
    by_select s r a b (Selects (k ∷ ks) t) e f p q = apart_here s r a b k ks t a.args b.args e f p q refl refl
    by_select s r a b (Updates ks t) e f p q = refl
    by_select s r a b (Differs ks t j) e f p q = refl

    pub apart_true : (s r : ℕ) (o l : Option Term) → slice_get ts s ≡ o → slice_get ts r ≡ l → truth_of (ev (apart n ts s r o l) (over w)) ≡ true
    apart_true s r None l e f = refl
    apart_true s r (Some a) None e f = refl
    apart_true s r (Some a) (Some b) e f = on (head_eq a.head b.head) refl
      where
        on : (c : Bool) → head_eq a.head b.head ≡ c → truth_of (ev (if c then apart_by n ts s r a.head a.args b.args else Fact true) (over w)) ≡ true
        on false g = refl
        on true g = by_select s r a b a.head e f refl (sym (head_same a.head b.head g))
