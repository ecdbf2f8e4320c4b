-- A leaf is finished exactly where it is settled.
use Rattle.std.proofs.Common.{◌≡◌, ℕ, ◌+◌, Bool, true, false, List, ◌∷◌, length, map, Option, Some, None, refl, sym, ap, ◌∙◌, subst, inl, inr}
use Rattle.std.specs.Prelude.{slice_get, not, ◌&&◌, ◌||◌, ◌⊎◌, if◌then◌else◌}
use Rattle.bg_ast.specs.Values.{Val, Ty, IntTy, MapTy, KeyType, is_of, number_of, truth_of, keys_eq, val_eq}
use Rattle.bg_ast.specs.Syntax.{Ex, Exs, Fact, Binary, Implies, NoMore, More, Fun}
use Rattle.bg_sense.specs.Eval.{value_at, ev, evs}
use Rattle.bg_sense.specs.Types.{are_of}
use Rattle.bg_sense.specs.Typing.{key_ty}
use Rattle.bg_sense.proofs.Bools.{and_left, and_right, both}
use Rattle.bg_sense.proofs.Keys.{keys_same, keys_eq_refl}
use Rattle.bg_sense.proofs.MapLaws.{val_same}
use Rattle.bg_terms.specs.Terms.{Selects, Updates, Term, over, head_eq}
use Rattle.bg_terms.specs.Instances.{term, equal, all_equal, congruent, at_index_of, at_index, elsewhere_of, elsewhere, accesses}
use Rattle.bg_terms.specs.Alike.{scalar_ty}
use Rattle.bg_terms.specs.Typed.{HaveFlatTypes, types_with, TermsTyped}
use Rattle.bg_terms.specs.Built.{index_of, selects_from}
use Rattle.bg_terms.specs.Closed.{IsSelected, IsClosed, IsFinished}
use Rattle.bg_terms.proofs.Closed.{ints_same}
use Rattle.bg_terms.proofs.Heads.{Accesses, accessing, head_same, head_refl, kinds_refl}
use Rattle.bg_terms.proofs.True.{equal_alike, equal_back, if_then, same_eq, not_true, false_unless}
use Rattle.bg_wanted.specs.Settled.{HasSelect, Agree, AreFunctions, IsUpdate, IsHere, IsElsewhere, IsSettled}
use Rattle.bg_wanted.proofs.Numbers.{ArgsAre, args_read}
use Rattle.bg_wanted.proofs.Numbers as numbers

implied : (a b : Bool) → a ≡ true → (not a || b) ≡ true → b ≡ true
implied true b e h = h
implied false b e h = absurd (let bad : ⊥ = cc in bad)

not_so : (b : Bool) → b ≡ false → not b ≡ true
not_so b e = ap not e

module _ (fs : List Fun) (incs : List Ty) (ts : List Term) (terms : TermsTyped fs incs ts) (s : List Val) (typed : (j : ℕ) (t : Ty) → slice_get (types_with incs ts) j ≡ Some t → is_of (scalar_ty t) (value_at s j) ≡ true) where
  abbrev tys : List Ty
  tys = types_with incs ts

  abbrev n : ℕ
  n = length incs

  update_of : (u : ℕ) (t : Term) (ks : List KeyType) (ty : Ty) (m v : Ex) (qs : Exs) → slice_get ts u ≡ Some t → t.head ≡ Updates ks ty → t.args ≡ More m (More v qs) → IsUpdate s n ts u ks ty m v qs
  update_of u t ks ty m v qs e h a = record { term = t; is_there = e; head = h; args = a }

  -- ---- settled leaves are finished

  module _ (done : IsSettled s n ts tys) where
    congruent_true : (a b : ℕ) (o p : Option Term) → slice_get ts a ≡ o → slice_get ts b ≡ p → truth_of (ev (congruent n a b o p) (over s)) ≡ true
    congruent_true a b None p e f = refl
    congruent_true a b (Some x) None e f = refl
    congruent_true a b (Some x) (Some y) e f = on (head_eq x.head y.head) refl
      where
        on : (c : Bool) → head_eq x.head y.head ≡ c → truth_of (ev (if c then Binary Implies (all_equal x.args y.args) (equal (term n a) (term n b)) else Fact true) (over s)) ≡ true
        on false h = refl
        on true h =
            if_then (truth_of (ev (all_equal x.args y.args) (over s))) (val_eq (value_at s (n + a)) (value_at s (n + b)))
            (λ alike. same_eq (value_at s (n + a)) (value_at s (n + b)) (done.functions a b x y e f (head_same x.head y.head h) (equal_alike s x.args y.args alike)))

    at_index_here : (u a : ℕ) (t b : Term) (us ss : Exs) → slice_get ts u ≡ Some t → slice_get ts a ≡ Some b → Accesses t.head b.head → t.args ≡ us → b.args ≡ ss → truth_of (ev (at_index_of n u a us ss) (over s)) ≡ true
    at_index_here u a t b NoMore ss e f h q r = refl
    at_index_here u a t b (More m NoMore) ss e f h q r = refl
    at_index_here u a t b (More m (More v ks)) NoMore e f h q r = refl
    at_index_here u a t b (More m (More v ks)) (More x qs) e f h q r =
        if_then
        (val_eq (ev x (over s)) (value_at s (n + u)) && truth_of (ev (all_equal ks qs) (over s)))
        (val_eq (value_at s (n + a)) (ev v (over s)))
        (λ c. let same_map = val_same (ev x (over s)) (value_at s (n + u)) (and_left (val_eq (ev x (over s)) (value_at s (n + u))) (truth_of (ev (all_equal ks qs) (over s))) c) in
        let same_key = equal_alike s ks qs (and_right (val_eq (ev x (over s)) (value_at s (n + u))) (truth_of (ev (all_equal ks qs) (over s))) c) in
        let w = done.here u h.keys h.result m v ks (update_of u t h.keys h.result m v ks e h.update q) in
        let args : evs b.args (over s) ≡ value_at s (n + u) ∷ evs ks (over s) =
        ap (λ xs. evs xs (over s)) r ∙ (ap (λ y. y ∷ evs qs (over s)) same_map ∙ ap (λ ys. value_at s (n + u) ∷ ys) (sym same_key)) in
        same_eq (value_at s (n + a)) (ev v (over s)) (done.functions a w.number b w.term f w.is_there (h.select ∙ sym w.selects) (args ∙ sym w.arguments) ∙ w.worth))

    at_index_true : (u a : ℕ) (o p : Option Term) → slice_get ts u ≡ o → slice_get ts a ≡ p → truth_of (ev (at_index n u a o p) (over s)) ≡ true
    at_index_true u a None p e f = refl
    at_index_true u a (Some t) None e f = refl
    at_index_true u a (Some t) (Some b) e f = on (accesses t.head b.head) refl
      where
        on : (c : Bool) → accesses t.head b.head ≡ c → truth_of (ev (if c then at_index_of n u a t.args b.args else Fact true) (over s)) ≡ true
        on false g = refl
        on true g = at_index_here u a t b t.args b.args e f (accessing t.head b.head g) refl refl

    elsewhere_here : (u a b : ℕ) (t x y : Term) (us ss rs : Exs) → slice_get ts u ≡ Some t → slice_get ts a ≡ Some x → slice_get ts b ≡ Some y → Accesses t.head x.head → Accesses t.head y.head → t.args ≡ us → x.args ≡ ss → y.args ≡ rs → truth_of (ev (elsewhere_of n u a b us ss rs) (over s)) ≡ true
    elsewhere_here u a b t x y NoMore ss rs e f g h k q p o = refl
    elsewhere_here u a b t x y (More m NoMore) ss rs e f g h k q p o = refl
    elsewhere_here u a b t x y (More m (More v ks)) NoMore rs e f g h k q p o = refl
    elsewhere_here u a b t x y (More m (More v ks)) (More z qs) NoMore e f g h k q p o = refl
    elsewhere_here u a b t x y (More m (More v ks)) (More z qs) (More w rs) e f g h k q p o =
        if_then
        ((val_eq (ev z (over s)) (value_at s (n + u)) && val_eq (ev w (over s)) (ev m (over s))) && (truth_of (ev (all_equal qs rs) (over s)) && not (truth_of (ev (all_equal ks qs) (over s)))))
        (val_eq (value_at s (n + a)) (value_at s (n + b)))
        (λ c. let first = and_left (val_eq (ev z (over s)) (value_at s (n + u)) && val_eq (ev w (over s)) (ev m (over s))) (truth_of (ev (all_equal qs rs) (over s)) && not (truth_of (ev (all_equal ks qs) (over s)))) c in
        let last = and_right (val_eq (ev z (over s)) (value_at s (n + u)) && val_eq (ev w (over s)) (ev m (over s))) (truth_of (ev (all_equal qs rs) (over s)) && not (truth_of (ev (all_equal ks qs) (over s)))) c in
        let same_map = val_same (ev z (over s)) (value_at s (n + u)) (and_left (val_eq (ev z (over s)) (value_at s (n + u))) (val_eq (ev w (over s)) (ev m (over s))) first) in
        let same_old = val_same (ev w (over s)) (ev m (over s)) (and_right (val_eq (ev z (over s)) (value_at s (n + u))) (val_eq (ev w (over s)) (ev m (over s))) first) in
        let same_key = equal_alike s qs rs (and_left (truth_of (ev (all_equal qs rs) (over s))) (not (truth_of (ev (all_equal ks qs) (over s)))) last) in
        let other = not_true (truth_of (ev (all_equal ks qs) (over s))) (and_right (truth_of (ev (all_equal qs rs) (over s))) (not (truth_of (ev (all_equal ks qs) (over s)))) last) in
        let off : evs qs (over s) ≡ evs ks (over s) → ⊥ = λ j. let t = equal_back s ks qs (sym j) in let bad : false ≡ true = sym other ∙ t in let no : ⊥ = cc in no in
        let args : evs x.args (over s) ≡ value_at s (n + u) ∷ evs qs (over s) =
        ap (λ xs. evs xs (over s)) p ∙ ap (λ i. i ∷ evs qs (over s)) same_map in
        let olds : evs y.args (over s) ≡ ev m (over s) ∷ evs qs (over s) =
        ap (λ xs. evs xs (over s)) o ∙ (ap (λ i. i ∷ evs rs (over s)) same_old ∙ ap (λ is. ev m (over s) ∷ is) (sym same_key)) in
        let w = done.elsewhere u h.keys h.result m v ks (update_of u t h.keys h.result m v ks e h.update q) a x (value_at s (n + u)) (evs qs (over s)) f h.select args (inl refl) off in
        same_eq (value_at s (n + a)) (value_at s (n + b)) (done.functions a w.new.number x w.new.term f w.new.is_there (h.select ∙ sym w.new.selects) (args ∙ sym w.new.arguments)
        ∙ (w.new.worth ∙ (sym w.old.worth
        ∙ sym (done.functions b w.old.number y w.old.term g w.old.is_there (k.select ∙ (sym (same_select h k) ∙ sym w.old.selects)) (olds ∙ sym w.old.arguments))))))
      where
        same_select : (h : Accesses t.head x.head) (k : Accesses t.head y.head) → Selects h.keys h.result ≡ Selects k.keys k.result
        same_select h k =
            let both_are : Updates h.keys h.result ≡ Updates k.keys k.result = sym h.update ∙ k.update in
            let keys : h.keys ≡ k.keys = cc in
            let result : h.result ≡ k.result = cc in
            ap (λ l. Selects l h.result) keys ∙ ap (Selects k.keys) result

    elsewhere_true : (u a b : ℕ) (o p q : Option Term) → slice_get ts u ≡ o → slice_get ts a ≡ p → slice_get ts b ≡ q → truth_of (ev (elsewhere n u a b o p q) (over s)) ≡ true
    elsewhere_true u a b None p q e f g = refl
    elsewhere_true u a b (Some t) None q e f g = refl
    elsewhere_true u a b (Some t) (Some x) None e f g = refl
    elsewhere_true u a b (Some t) (Some x) (Some y) e f g =
        on (accesses t.head x.head) (accesses t.head y.head) refl refl
      where
        on : (c d : Bool) → accesses t.head x.head ≡ c → accesses t.head y.head ≡ d → truth_of (ev (if c && d then elsewhere_of n u a b t.args x.args y.args else Fact true) (over s)) ≡ true
        on false d h k = refl
        on true false h k = refl
        on true true h k =
            elsewhere_here u a b t x y t.args x.args y.args e f g (accessing t.head x.head h) (accessing t.head y.head k) refl refl refl

    -- a select by numbers from an update or its map agrees with both
    agreeing : (u : ℕ) (ks : List KeyType) (t : Ty) (m v : Ex) (qs : Exs) → IsUpdate s n ts u ks t m v qs → (a : ℕ) (b : Term) (z : Val) → slice_get ts a ≡ Some b → is_of IntTy z ≡ true → (z ≡ value_at s (n + u)) ⊎ (z ≡ ev m (over s)) → selects_from s ks t (number_of z) b ≡ true → keys_eq (map number_of (evs qs (over s))) (index_of s b.args) ≡ false → (is : ArgsAre fs incs ts terms s typed ks b) × Agree s n ts ks t (value_at s (n + u)) (ev m (over s)) is.index
    agreeing u ks t m v qs up a b z e o which from off =
        let head = numbers.selects_head fs incs ts terms s typed ks t (number_of z) b from in
        let are = numbers.args_are fs incs ts terms s typed ks t a b e head in
        let read = args_read s b.args are.a_map are.index are.are in
        let same : are.a_map ≡ z = ints_same are.a_map z are.number o (sym read.0 ∙ numbers.selects_number fs incs ts terms s typed ks t (number_of z) b from) in
        let apart : are.index ≡ evs qs (over s) → ⊥ =
        λ k. let found : keys_eq (map number_of (evs qs (over s))) (index_of s b.args) ≡ true = ap (keys_eq (map number_of (evs qs (over s)))) (read.1 ∙ ap (map number_of) k) ∙ keys_eq_refl (map number_of (evs qs (over s))) in let bad : false ≡ true = sym off ∙ found in let no : ⊥ = cc in no in
        (are, done.elsewhere u ks t m v qs up a b z are.index e head (are.are ∙ ap (λ y. y ∷ are.index) same) which apart)

    closed : (u : ℕ) (b : Term) (ks : List KeyType) (t : Ty) (m v : Ex) (qs : Exs) → slice_get ts u ≡ Some b → b.head ≡ Updates ks t → b.args ≡ More m (More v qs) → IsClosed s n ts u ks t m qs
    closed u b ks t m v qs e h g =
        let up = update_of u b ks t m v qs e h g in
        let of_update = numbers.update_numeric fs incs ts terms s typed ks t u b e h in
        let its : HaveFlatTypes tys (More m (More v qs)) (MapTy ks t ∷ t ∷ map key_ty ks) = subst (λ xs. HaveFlatTypes tys xs (MapTy ks t ∷ t ∷ map key_ty ks)) g (numbers.update_args fs incs ts terms s typed ks t u b e h).1 in
        let of_map = numbers.numeric fs incs ts terms s typed m (MapTy ks t) its.0 refl in
        record {
          here = numbers.selected fs incs ts terms s typed ks t (value_at s (n + u)) (evs qs (over s)) (ev v (over s)) (done.here u ks t m v qs up);
          old =
              λ a c f from off.
              let w = agreeing u ks t m v qs up a c (value_at s (n + u)) f of_update (inl refl) from off in
              subst (IsSelected s ts ks t (number_of (ev m (over s)))) (sym (args_read s c.args w.0.a_map w.0.index w.0.are).1)
              (numbers.selected fs incs ts terms s typed ks t (ev m (over s)) w.0.index w.1.value w.1.old);
          new =
              λ a c f from off.
              let w = agreeing u ks t m v qs up a c (ev m (over s)) f of_map (inr refl) from off in
              subst (IsSelected s ts ks t (number_of (value_at s (n + u)))) (sym (args_read s c.args w.0.a_map w.0.index w.0.are).1)
              (numbers.selected fs incs ts terms s typed ks t (value_at s (n + u)) w.0.index w.1.value w.1.new);
        }

    pub finished : IsFinished s n ts tys
    finished =
        record {
          congruent = λ a b. congruent_true a b (slice_get ts a) (slice_get ts b) refl refl;
          at_index = λ u a. at_index_true u a (slice_get ts u) (slice_get ts a) refl refl;
          elsewhere =
              λ u a b. elsewhere_true u a b (slice_get ts u) (slice_get ts a) (slice_get ts b) refl refl refl;
          closed = closed;
          apart = done.apart;
        }

  -- ---- finished leaves are settled

  module _ (done : IsFinished s n ts tys) where
    functions : AreFunctions s n ts
    functions a b t u e f h args = val_same (value_at s (n + a)) (value_at s (n + b)) (on (head_eq t.head u.head) (head_refl t.head u.head h) (sym (ap (λ o. truth_of (ev (congruent n a b o (slice_get ts b)) (over s))) e ∙ ap (λ o. truth_of (ev (congruent n a b (Some t) o) (over s))) f) ∙ done.congruent a b))
      where
        on : (c : Bool) → c ≡ true → truth_of (ev (if c then Binary Implies (all_equal t.args u.args) (equal (term n a) (term n b)) else Fact true) (over s)) ≡ true → val_eq (value_at s (n + a)) (value_at s (n + b)) ≡ true
        on true q r = implied (truth_of (ev (all_equal t.args u.args) (over s))) (val_eq (value_at s (n + a)) (value_at s (n + b))) (equal_back s t.args u.args args) r
        on false q r = absurd (let bad : ⊥ = cc in bad)

    -- what an instance says of terms with these arguments
    at_index_said : (u a : ℕ) (ks : List KeyType) (t : Ty) (m v : Ex) (qs : Exs) (x : Ex) (rs : Exs) (b : Term) → IsUpdate s n ts u ks t m v qs → slice_get ts a ≡ Some b → b.head ≡ Selects ks t → b.args ≡ More x rs → truth_of (ev (at_index_of n u a (More m (More v qs)) (More x rs)) (over s)) ≡ true
    at_index_said u a ks t m v qs x rs b up e h g =
        let heads : accesses up.term.head b.head ≡ true = ap (λ k. accesses k b.head) up.head ∙ (ap (accesses (Updates ks t)) h ∙ kinds_refl ks t) in
        ap (λ y. truth_of (ev (at_index_of n u a y (More x rs)) (over s))) (sym up.args)
        ∙ (ap (λ y. truth_of (ev (at_index_of n u a up.term.args y) (over s))) (sym g)
        ∙ (ap (λ c. truth_of (ev (if c then at_index_of n u a up.term.args b.args else Fact true) (over s))) (sym heads)
        ∙ (sym (ap (λ o. truth_of (ev (at_index n u a o (slice_get ts a)) (over s))) up.is_there ∙ ap (λ o. truth_of (ev (at_index n u a (Some up.term) o) (over s))) e)
        ∙ done.at_index u a)))

    elsewhere_said : (u a d : ℕ) (ks : List KeyType) (t : Ty) (m v : Ex) (qs : Exs) (x y : Ex) (rs os : Exs) (b c : Term) → IsUpdate s n ts u ks t m v qs → slice_get ts a ≡ Some b → b.head ≡ Selects ks t → b.args ≡ More x rs → slice_get ts d ≡ Some c → c.head ≡ Selects ks t → c.args ≡ More y os → truth_of (ev (elsewhere_of n u a d (More m (More v qs)) (More x rs) (More y os)) (over s)) ≡ true
    elsewhere_said u a d ks t m v qs x y rs os b c up e h g f k p =
        let first : accesses up.term.head b.head ≡ true = ap (λ l. accesses l b.head) up.head ∙ (ap (accesses (Updates ks t)) h ∙ kinds_refl ks t) in
        let second : accesses up.term.head c.head ≡ true = ap (λ l. accesses l c.head) up.head ∙ (ap (accesses (Updates ks t)) k ∙ kinds_refl ks t) in
        ap (λ z. truth_of (ev (elsewhere_of n u a d z (More x rs) (More y os)) (over s))) (sym up.args)
        ∙ (ap (λ z. truth_of (ev (elsewhere_of n u a d up.term.args z (More y os)) (over s))) (sym g)
        ∙ (ap (λ z. truth_of (ev (elsewhere_of n u a d up.term.args b.args z) (over s))) (sym p)
        ∙ (ap (λ i. truth_of (ev (if i then elsewhere_of n u a d up.term.args b.args c.args else Fact true) (over s))) (sym (both (accesses up.term.head b.head) (accesses up.term.head c.head) first second))
        ∙ (sym (ap (λ o. truth_of (ev (elsewhere n u a d o (slice_get ts a) (slice_get ts d)) (over s))) up.is_there
        ∙ (ap (λ o. truth_of (ev (elsewhere n u a d (Some up.term) o (slice_get ts d)) (over s))) e ∙ ap (λ o. truth_of (ev (elsewhere n u a d (Some up.term) (Some b) o) (over s))) f))
        ∙ done.elsewhere u a d))))

    -- a list of values is that of a list of expressions, which has as many
    listed : (xs : Exs) (x : Val) (k : List Val) → evs xs (over s) ≡ x ∷ k → (y : Ex) × ((ys : Exs) × ((xs ≡ More y ys) × ((ev y (over s) ≡ x) × (evs ys (over s) ≡ k))))
    listed NoMore x k e = absurd (let bad : ⊥ = cc in bad)
    listed (More y ys) x k e =
        let first : ev y (over s) ≡ x = cc in
        let rest : evs ys (over s) ≡ k = cc in
        (y, (ys, (refl, (first, rest))))

    module _ (u : ℕ) (ks : List KeyType) (t : Ty) (m v : Ex) (qs : Exs) (up : IsUpdate s n ts u ks t m v qs) where
      of_update : is_of IntTy (value_at s (n + u)) ≡ true
      of_update = numbers.update_numeric fs incs ts terms s typed ks t u up.term up.is_there up.head

      its : HaveFlatTypes tys (More m (More v qs)) (MapTy ks t ∷ t ∷ map key_ty ks)
      its =
          subst (λ xs. HaveFlatTypes tys xs (MapTy ks t ∷ t ∷ map key_ty ks)) up.args (numbers.update_args fs incs ts terms s typed ks t u up.term up.is_there up.head).1

      of_map : is_of IntTy (ev m (over s)) ≡ true
      of_map = numbers.numeric fs incs ts terms s typed m (MapTy ks t) its.0 refl

      indices : are_of (map (λ k. IntTy) ks) (evs qs (over s)) ≡ true
      indices = numbers.numerics fs incs ts terms s typed qs ks its.1.1

      close : IsClosed s n ts u ks t m qs
      close = done.closed u up.term ks t m v qs up.is_there up.head up.args

      here : IsHere s n ts u ks t v qs
      here =
          let w = numbers.selected_back fs incs ts terms s typed ks t (value_at s (n + u)) (evs qs (over s)) of_update indices close.here in
          let l = listed w.term.args (value_at s (n + u)) (evs qs (over s)) w.arguments in
          let says = at_index_said u w.number ks t m v qs l.0 l.1.0 w.term up w.is_there w.selects l.1.1.0 in
          let premise : (val_eq (ev l.0 (over s)) (value_at s (n + u)) && truth_of (ev (all_equal qs l.1.0) (over s))) ≡ true =
          both (val_eq (ev l.0 (over s)) (value_at s (n + u))) (truth_of (ev (all_equal qs l.1.0) (over s))) (same_eq (ev l.0 (over s)) (value_at s (n + u)) l.1.1.1.0) (equal_back s qs l.1.0 (sym l.1.1.1.1)) in
          record {
            number = w.number;
            term = w.term;
            is_there = w.is_there;
            selects = w.selects;
            arguments = w.arguments;
            worth =
                val_same (value_at s (n + w.number)) (ev v (over s)) (implied (val_eq (ev l.0 (over s)) (value_at s (n + u)) && truth_of (ev (all_equal qs l.1.0) (over s))) (val_eq (value_at s (n + w.number)) (ev v (over s))) premise says);
          }

      -- both selects at one index agree
      agree : (k : List Val) (x y : Val) → HasSelect s n ts ks t (value_at s (n + u) ∷ k) x → HasSelect s n ts ks t (ev m (over s) ∷ k) y → (k ≡ evs qs (over s) → ⊥) → x ≡ y
      agree k x y a b off =
          let l = listed a.term.args (value_at s (n + u)) k a.arguments in
          let r = listed b.term.args (ev m (over s)) k b.arguments in
          let says = elsewhere_said u a.number b.number ks t m v qs l.0 r.0 l.1.0 r.1.0 a.term b.term up a.is_there a.selects l.1.1.0 b.is_there b.selects r.1.1.0 in
          let maps : (val_eq (ev l.0 (over s)) (value_at s (n + u)) && val_eq (ev r.0 (over s)) (ev m (over s))) ≡ true =
          both (val_eq (ev l.0 (over s)) (value_at s (n + u))) (val_eq (ev r.0 (over s)) (ev m (over s))) (same_eq (ev l.0 (over s)) (value_at s (n + u)) l.1.1.1.0) (same_eq (ev r.0 (over s)) (ev m (over s)) r.1.1.1.0) in
          let other : truth_of (ev (all_equal qs l.1.0) (over s)) ≡ false =
          false_unless (truth_of (ev (all_equal qs l.1.0) (over s))) (λ h. off (sym (equal_alike s qs l.1.0 h ∙ l.1.1.1.1))) in
          let at : (truth_of (ev (all_equal l.1.0 r.1.0) (over s)) && not (truth_of (ev (all_equal qs l.1.0) (over s)))) ≡ true =
          both (truth_of (ev (all_equal l.1.0 r.1.0) (over s))) (not (truth_of (ev (all_equal qs l.1.0) (over s)))) (equal_back s l.1.0 r.1.0 (l.1.1.1.1 ∙ sym r.1.1.1.1)) (not_so (truth_of (ev (all_equal qs l.1.0) (over s))) other) in
          let premise = both (val_eq (ev l.0 (over s)) (value_at s (n + u)) && val_eq (ev r.0 (over s)) (ev m (over s))) (truth_of (ev (all_equal l.1.0 r.1.0) (over s)) && not (truth_of (ev (all_equal qs l.1.0) (over s)))) maps at in
          sym a.worth
          ∙ (val_same (value_at s (n + a.number)) (value_at s (n + b.number)) (implied ((val_eq (ev l.0 (over s)) (value_at s (n + u)) && val_eq (ev r.0 (over s)) (ev m (over s))) && (truth_of (ev (all_equal l.1.0 r.1.0) (over s)) && not (truth_of (ev (all_equal qs l.1.0) (over s))))) (val_eq (value_at s (n + a.number)) (value_at s (n + b.number))) premise says)
          ∙ b.worth)

      off_by : (ks : List KeyType) (k l : List Val) → (is : are_of (map (λ i. IntTy) ks) k ≡ true) → are_of (map (λ i. IntTy) ks) l ≡ true → (k ≡ l → ⊥) → keys_eq (map number_of l) (map number_of k) ≡ false
      off_by ks k l h g off =
          false_unless (keys_eq (map number_of l) (map number_of k)) (λ e. off (numbers.int_lists ks k l h g (sym (keys_same (map number_of l) (map number_of k) e))))

      elsewhere_is : IsElsewhere s n ts u ks t m qs
      elsewhere_is a b x k e h args which off = by which
        where
          are : ArgsAre fs incs ts terms s typed ks b
          are = numbers.args_are fs incs ts terms s typed ks t a b e h

          same_index : are.index ≡ k
          same_index = let q : are.a_map ∷ are.index ≡ x ∷ k = sym are.are ∙ args in cc

          own : HasSelect s n ts ks t (x ∷ k) (value_at s (n + a))
          own = record { number = a; term = b; is_there = e; selects = h; arguments = args; worth = refl }

          keys : are_of (map (λ i. IntTy) ks) k ≡ true
          keys = subst (λ l. are_of (map (λ i. IntTy) ks) l ≡ true) same_index are.numbers

          index : index_of s b.args ≡ map number_of k
          index = (args_read s b.args x k args).1

          far : keys_eq (map number_of (evs qs (over s))) (index_of s b.args) ≡ false
          far = ap (keys_eq (map number_of (evs qs (over s)))) index ∙ off_by ks k (evs qs (over s)) keys indices off

          by : (x ≡ value_at s (n + u)) ⊎ (x ≡ ev m (over s)) → Agree s n ts ks t (value_at s (n + u)) (ev m (over s)) k
          by (inl same) =
              let new = subst (λ z. HasSelect s n ts ks t (z ∷ k) (value_at s (n + a))) same own in
              let from : selects_from s ks t (number_of (value_at s (n + u))) b ≡ true = ap (λ z. selects_from s ks t (number_of z) b) (sym same) ∙ numbers.selects_it fs incs ts terms s typed ks t a b e h x k args in
              let other = subst (IsSelected s ts ks t (number_of (ev m (over s)))) index (close.old a b e from far) in
              let old = numbers.selected_back fs incs ts terms s typed ks t (ev m (over s)) k of_map keys other in
              let one = agree k (value_at s (n + a)) (value_at s (n + other.number)) new old off in
              record {
                value = value_at s (n + a);
                new = new;
                old = subst (HasSelect s n ts ks t (ev m (over s) ∷ k)) (sym one) old;
              }
          by (inr same) =
              let old = subst (λ z. HasSelect s n ts ks t (z ∷ k) (value_at s (n + a))) same own in
              let from : selects_from s ks t (number_of (ev m (over s))) b ≡ true = ap (λ z. selects_from s ks t (number_of z) b) (sym same) ∙ numbers.selects_it fs incs ts terms s typed ks t a b e h x k args in
              let other = subst (IsSelected s ts ks t (number_of (value_at s (n + u)))) index (close.new a b e from far) in
              let new = numbers.selected_back fs incs ts terms s typed ks t (value_at s (n + u)) k of_update keys other in
              let one = agree k (value_at s (n + other.number)) (value_at s (n + a)) new old off in
              record {
                value = value_at s (n + a);
                new = subst (HasSelect s n ts ks t (value_at s (n + u) ∷ k)) one new;
                old = old;
              }

    pub settled : IsSettled s n ts tys
    settled =
        record {
          functions = functions;
          here = here;
          elsewhere = λ u ks t m v qs up. elsewhere_is u ks t m v qs up;
          apart = done.apart;
        }
