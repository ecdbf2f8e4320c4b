-- What is false at a leaf, by rows.
use Rattle.std.proofs.Common.{◌≡◌, ℕ, zero, suc, ◌+◌, ◌<◌, Bool, true, false, List, [], ◌∷◌, ◌++◌, length, Option, Some, None, refl, sym, ap, ◌∙◌, subst, arith}
use Rattle.std.specs.Prelude.{slice_get, not, nat_lt, ◌&&◌, ◌||◌, if◌then◌else◌, MatchOption}
use Rattle.std.proofs.lemmas.Bool.Decides.{nat_tests}
use Rattle.bg_ast.specs.Values.{Val, Ty, truth_of, val_eq}
use Rattle.bg_ast.specs.Syntax.{Exs, Fact, Binary, Implies, NoMore, More}
use Rattle.bg_sense.specs.Eval.{value_at, ev, evs}
use Rattle.bg_sense.proofs.Bools.{both}
use Rattle.bg_terms.specs.Terms.{Selects, Updates, Term, over, head_eq}
use Rattle.bg_terms.specs.Instances as i
use Rattle.bg_terms.specs.Instances.{term, equal, all_equal, congruent, at_index_of, at_index, elsewhere_of, elsewhere, accesses, instance_ex}
use Rattle.bg_terms.proofs.Heads.{head_refl, kinds_refl}
use Rattle.bg_terms.proofs.True.{equal_alike, equal_back, same_eq, false_unless}
use Rattle.bg_terms.proofs.Typed.{at_front}
use Rattle.bg_term_table.specs.declared.line.Line.TheVariants as line
use Rattle.bg_scalar.specs.declared.scalar.Scalar.{Scalar}
use Rattle.bg_scalar.specs.Values.{val_of}
use Rattle.bg_wanted.specs.Scalars.{scalars_in}
use Rattle.bg_wanted.specs.declared.class.Class.TheVariants as class
use Rattle.bg_wanted.specs.declared.looked.Update.{Update}
use Rattle.bg_wanted.specs.declared.false_here.Selected.{Selected}
use Rattle.bg_wanted.specs.Rows.{RowOf, AreRows}
use Rattle.bg_wanted.specs.Firsts.{KeyOf}
use Rattle.bg_wanted.specs.Asked.{IsOf, is_update, IsUpdateOf}
use Rattle.bg_wanted.specs.Chased.{IsSelect, IsSelectAt, IsNewWrong, IsOldWrong, IsNewLost, IsOldLost, IsPairLost, IsLost}
use Rattle.bg_wanted.proofs.ClassLaws.{one_class}
use Rattle.bg_wanted.proofs.Settlement.{vals_known, Its, of_row, UpdateAt, update_at, select_at}
use Rattle.bg_wanted.proofs.Asking as asking
use Rattle.bg_wanted.proofs.Tells.{here_within, elsewhere_within}

not_or : (a b : Bool) → a ≡ true → b ≡ false → (not a || b) ≡ false
not_or true b e f = f
not_or false b e f = absurd (let bad : ⊥ = cc in bad)

lt_is : (a b : ℕ) → a < b → nat_lt a b ≡ true
lt_is a b h = grind (arith, nat_tests, h)

pub below : {A : Type 0} (xs : List A) (a : ℕ) (x : A) → slice_get xs a ≡ Some x → a < length xs
below [] a x e = absurd (let bad : ⊥ = cc in bad)
below (y ∷ xs) zero x e = omega arith
below (y ∷ xs) (suc a) x e = let h = below xs a x e in omega (arith, h)

-- ---- rows

pub select_there : (rs : List RowOf) (a : ℕ) (r : RowOf) → slice_get rs a ≡ Some r → (o : Option Selected) → MatchOption o (Unit {0}) (λ x. IsSelect a r.class r.args r.value x) → MatchOption o (Unit {0}) (λ x. IsSelectAt rs x × (x.number ≡ a))
select_there rs a r e None h = tt
select_there rs a r e (Some x) h = (
  record {
    row = r;
    is_there = ap (slice_get rs) h.its_number ∙ e;
    its_class = h.its_class;
    its_args = h.its_args;
    its_value = h.its_value;
  },
  h.its_number,
)

pub update_there : (rs : List RowOf) (a : ℕ) (r : RowOf) → slice_get rs a ≡ Some r → (o : Option Update) → MatchOption o (is_update r ≡ false) (λ x. IsUpdateOf a r x) → MatchOption o (Unit {0}) (λ x. IsOf rs x × (x.number ≡ a))
update_there rs a r e None h = tt
update_there rs a r e (Some x) h = (asking.of_row rs r x a e h, h.its_number)

-- ---- what instances say

module _ (s : List Val) (n : ℕ) where
  new_false : (u a : ℕ) (ms xs : Exs) (b v : Val) (k : List Val) → evs ms (over s) ≡ b ∷ v ∷ k → evs xs (over s) ≡ value_at s (n + u) ∷ k → val_eq (value_at s (n + a)) v ≡ false → truth_of (ev (at_index_of n u a ms xs) (over s)) ≡ false
  new_false u a NoMore xs b v k e f d = absurd (let bad : ⊥ = cc in bad)
  new_false u a (More m NoMore) xs b v k e f d = absurd (let bad : ⊥ = cc in bad)
  new_false u a (More m (More w ks)) NoMore b v k e f d = absurd (let bad : ⊥ = cc in bad)
  new_false u a (More m (More w ks)) (More x qs) b v k e f d =
      let new : ev w (over s) ≡ v = cc in
      let index : evs ks (over s) ≡ k = cc in
      let its : ev x (over s) ≡ value_at s (n + u) = cc in
      let other : evs qs (over s) ≡ k = cc in
      not_or (val_eq (ev x (over s)) (value_at s (n + u)) && truth_of (ev (all_equal ks qs) (over s))) (val_eq (value_at s (n + a)) (ev w (over s)))
      (both (val_eq (ev x (over s)) (value_at s (n + u))) (truth_of (ev (all_equal ks qs) (over s))) (same_eq (ev x (over s)) (value_at s (n + u)) its) (equal_back s ks qs (index ∙ sym other)))
      (ap (val_eq (value_at s (n + a))) new ∙ d)

  old_false : (u a c : ℕ) (ms xs ys : Exs) (b v : Val) (k l : List Val) → evs ms (over s) ≡ b ∷ v ∷ k → evs xs (over s) ≡ value_at s (n + u) ∷ l → evs ys (over s) ≡ b ∷ l → (l ≡ k → ⊥) → val_eq (value_at s (n + a)) (value_at s (n + c)) ≡ false → truth_of (ev (elsewhere_of n u a c ms xs ys) (over s)) ≡ false
  old_false u a c NoMore xs ys b v k l e f g off d = absurd (let bad : ⊥ = cc in bad)
  old_false u a c (More m NoMore) xs ys b v k l e f g off d = absurd (let bad : ⊥ = cc in bad)
  old_false u a c (More m (More w ks)) NoMore ys b v k l e f g off d = absurd (let bad : ⊥ = cc in bad)
  old_false u a c (More m (More w ks)) (More x qs) NoMore b v k l e f g off d = absurd (let bad : ⊥ = cc in bad)
  old_false u a c (More m (More w ks)) (More x qs) (More y rs) b v k l e f g off d =
      let old : ev m (over s) ≡ b = cc in
      let index : evs ks (over s) ≡ k = cc in
      let its : ev x (over s) ≡ value_at s (n + u) = cc in
      let first : evs qs (over s) ≡ l = cc in
      let from : ev y (over s) ≡ b = cc in
      let second : evs rs (over s) ≡ l = cc in
      let other : truth_of (ev (all_equal ks qs) (over s)) ≡ false = false_unless (truth_of (ev (all_equal ks qs) (over s))) (λ h. off (sym first ∙ (sym (equal_alike s ks qs h) ∙ index))) in
      not_or ((val_eq (ev x (over s)) (value_at s (n + u)) && val_eq (ev y (over s)) (ev m (over s))) && (truth_of (ev (all_equal qs rs) (over s)) && not (truth_of (ev (all_equal ks qs) (over s))))) (val_eq (value_at s (n + a)) (value_at s (n + c)))
      (both (val_eq (ev x (over s)) (value_at s (n + u)) && val_eq (ev y (over s)) (ev m (over s))) (truth_of (ev (all_equal qs rs) (over s)) && not (truth_of (ev (all_equal ks qs) (over s))))
      (both (val_eq (ev x (over s)) (value_at s (n + u))) (val_eq (ev y (over s)) (ev m (over s))) (same_eq (ev x (over s)) (value_at s (n + u)) its) (same_eq (ev y (over s)) (ev m (over s)) (from ∙ sym old)))
      (both (truth_of (ev (all_equal qs rs) (over s))) (not (truth_of (ev (all_equal ks qs) (over s)))) (equal_back s qs rs (first ∙ sym second)) (ap not other)))
      d

-- ---- what rows say of terms

module _ (values : List Scalar) (incs : List Ty) (ts : List Term) (rs : List RowOf) (rows : AreRows values (length incs) ts 0 ts rs) where
  abbrev s : List Val
  s = scalars_in values

  abbrev n : ℕ
  n = length incs

  -- the term of an update
  pub record Updating (u : Update) : Type 0 where
    pub at : UpdateAt values (length incs) ts rs rows u.number u.maps
    pub args : evs at.term.args (over (scalars_in values)) ≡ val_of u.before ∷ val_of u.new ∷ scalars_in u.index.now
    pub value : value_at (scalars_in values) (length incs + u.number) ≡ val_of u.value

  -- and that of a select of its maps
  pub record Selecting (u : Update) (w : Updating u) (x : Selected) : Type 0 where
    pub term : Term
    pub is_there : slice_get ts x.number ≡ Some term
    pub head : term.head ≡ Selects w.at.keys w.at.gives
    pub args : evs term.args (over (scalars_in values)) ≡ val_of x.map ∷ scalars_in x.index.now
    pub value : value_at (scalars_in values) (length incs + x.number) ≡ val_of x.value

  pub updating : (u : Update) → IsOf rs u → Updating u
  updating u is =
      let at = update_at values n ts rs rows u.number u.maps is.row is.is_there is.its_class in
      let it = of_row values n ts rs rows u.number is.row is.is_there in
      let two : Some it.0 ≡ Some at.term = sym it.1.term_there ∙ at.is_there in
      let same : it.0 ≡ at.term = cc in
      record {
        at = at;
        args = ap (λ (t : Term). evs t.args (over s)) (sym same) ∙ (it.1.args ∙ ap scalars_in is.its_args);
        value = it.1.value ∙ ap val_of is.its_value;
      }

  pub selecting : (u : Update) (w : Updating u) (x : Selected) → IsSelectAt rs x → x.maps ≡ u.maps → Selecting u w x
  selecting u w x is maps =
      let y = select_at values n ts rs rows u.number u.maps w.at x.number is.row is.is_there (is.its_class ∙ ap (λ m. class.Select m) maps) in
      let it = of_row values n ts rs rows x.number is.row is.is_there in
      let two : Some it.0 ≡ Some y.0 = sym it.1.term_there ∙ y.1.0 in
      let same : it.0 ≡ y.0 = cc in
      record {
        term = y.0;
        is_there = y.1.0;
        head = y.1.1;
        args = ap (λ (t : Term). evs t.args (over s)) (sym same) ∙ (it.1.args ∙ ap scalars_in is.its_args);
        value = it.1.value ∙ ap val_of is.its_value;
      }

  accessed : (u : Update) (up : Updating u) (x : Selected) (it : Selecting u up x) → accesses up.at.term.head it.term.head ≡ true
  accessed u up x it =
      ap (λ h. accesses h it.term.head) up.at.head
      ∙ (ap (accesses (Updates up.at.keys up.at.gives)) it.head ∙ kinds_refl up.at.keys up.at.gives)

  new_said : (us : List Term) (u : Update) (up : Updating u) (x : Selected) (it : Selecting u up x) → IsNewWrong u x → truth_of (ev (instance_ex (length incs) (ts ++ us) (i.AtIndex u.number x.number)) (over (scalars_in values))) ≡ false
  new_said us u up x it w =
      let first = at_front ts us u.number up.at.term up.at.is_there in
      let second = at_front ts us x.number it.term it.is_there in
      let args : evs it.term.args (over s) ≡ value_at s (n + u.number) ∷ scalars_in u.index.now = it.args ∙ (ap (λ z. val_of z ∷ scalars_in x.index.now) w.map ∙ (ap (λ l. val_of u.value ∷ scalars_in l) w.index ∙ ap (λ z. z ∷ scalars_in u.index.now) (sym up.value))) in
      ap (λ o. truth_of (ev (at_index n u.number x.number o (slice_get (ts ++ us) x.number)) (over s))) first
      ∙ (ap (λ o. truth_of (ev (at_index n u.number x.number (Some up.at.term) o) (over s))) second
      ∙ (ap (λ c. truth_of (ev (if c then at_index_of n u.number x.number up.at.term.args it.term.args else Fact true) (over s))) (accessed u up x it)
      ∙ new_false s n u.number x.number up.at.term.args it.term.args (val_of u.before) (val_of u.new) (scalars_in u.index.now) up.args args (ap (λ z. val_eq z (val_of u.new)) it.value ∙ w.differ)))

  old_said : (us : List Term) (u : Update) (up : Updating u) (x y : Selected) (it : Selecting u up x) (other : Selecting u up y) → IsOldWrong u x y → truth_of (ev (instance_ex (length incs) (ts ++ us) (i.Elsewhere u.number x.number y.number)) (over (scalars_in values))) ≡ false
  old_said us u up x y it other w =
      let first = at_front ts us u.number up.at.term up.at.is_there in
      let second = at_front ts us x.number it.term it.is_there in
      let third = at_front ts us y.number other.term other.is_there in
      let news : evs it.term.args (over s) ≡ value_at s (n + u.number) ∷ scalars_in x.index.now = it.args ∙ (ap (λ z. val_of z ∷ scalars_in x.index.now) w.map ∙ ap (λ z. z ∷ scalars_in x.index.now) (sym up.value)) in
      let olds : evs other.term.args (over s) ≡ val_of u.before ∷ scalars_in x.index.now = other.args ∙ (ap (λ z. val_of z ∷ scalars_in y.index.now) w.before ∙ ap (λ l. val_of u.before ∷ scalars_in l) (sym w.index)) in
      let differ : val_eq (value_at s (n + x.number)) (value_at s (n + y.number)) ≡ false = ap (λ z. val_eq z (value_at s (n + y.number))) it.value ∙ (ap (val_eq (val_of x.value)) other.value ∙ w.differ) in
      ap (λ o. truth_of (ev (elsewhere n u.number x.number y.number o (slice_get (ts ++ us) x.number) (slice_get (ts ++ us) y.number)) (over s))) first
      ∙ (ap (λ o. truth_of (ev (elsewhere n u.number x.number y.number (Some up.at.term) o (slice_get (ts ++ us) y.number)) (over s))) second
      ∙ (ap (λ o. truth_of (ev (elsewhere n u.number x.number y.number (Some up.at.term) (Some it.term) o) (over s))) third
      ∙ (ap (λ c. truth_of (ev (if c then elsewhere_of n u.number x.number y.number up.at.term.args it.term.args other.term.args else Fact true) (over s))) (both (accesses up.at.term.head it.term.head) (accesses up.at.term.head other.term.head) (accessed u up x it) (accessed u up y other))
      ∙ old_false s n u.number x.number y.number up.at.term.args it.term.args other.term.args (val_of u.before) (val_of u.new) (scalars_in u.index.now) (scalars_in x.index.now) up.args news olds (λ e. w.off (vals_known x.index.now u.index.now e)) differ)))

  pair_said : (us : List Term) (a b : ℕ) → IsPairLost rs a b → truth_of (ev (instance_ex (length incs) (ts ++ us) (i.Congruent a b)) (over (scalars_in values))) ≡ false
  pair_said us a b w =
      let u = of_row values n ts rs rows a w.one w.first in
      let v = of_row values n ts rs rows b w.other w.second in
      by u.0 v.0 u.1 v.1
    where
      by : (x y : Term) → Its values (length incs) ts rs rows a x w.one → Its values (length incs) ts rs rows b y w.other → truth_of (ev (instance_ex (length incs) (ts ++ us) (i.Congruent a b)) (over (scalars_in values))) ≡ false
      by x y u v =
          ap (λ o. truth_of (ev (congruent n a b o (slice_get (ts ++ us) b)) (over s))) (at_front ts us a x u.term_there)
          ∙ (ap (λ o. truth_of (ev (congruent n a b (Some x) o) (over s))) (at_front ts us b y v.term_there)
          ∙ on (head_eq x.head y.head) (head_refl x.head y.head (one_class ts a b x y u.term_there v.term_there (sym u.its_class ∙ (ap (λ (k : KeyOf). k.0) w.wrong.0 ∙ v.its_class)))))
        where
          on : (c : Bool) → c ≡ true → truth_of (ev (if c then Binary Implies (all_equal x.args y.args) (equal (term n a) (term n b)) else Fact true) (over s)) ≡ false
          on false k = absurd (let bad : ⊥ = cc in bad)
          on true k =
              not_or (truth_of (ev (all_equal x.args y.args) (over s))) (val_eq (value_at s (n + a)) (value_at s (n + b)))
              (equal_back s x.args y.args (u.args ∙ (ap (λ (q : KeyOf). scalars_in q.1) w.wrong.0 ∙ sym v.args)))
              (ap (λ z. val_eq z (value_at s (n + b))) u.value ∙ (ap (val_eq (val_of w.one.value)) v.value ∙ w.wrong.1))

  -- ---- lines that are false

  its_place : (a b : ℕ) (t : Term) → slice_get ts a ≡ Some t → a ≡ b → b < length ts
  its_place a b t e same = subst (λ j. j < length ts) same (below ts a t e)

  pub new_lost : (u a : ℕ) → IsNewLost rs u a → IsLost (scalars_in values) (length incs) ts (line.AtIndex u a)
  new_lost u a w =
      let up = updating w.update w.its_update in
      let x = selecting w.update up w.select w.its_select w.wrong.maps in
      record {
        says = i.AtIndex u a;
        is = refl;
        within = here_within (length ts) u a (its_place w.update.number u up.at.term up.at.is_there w.first) (its_place w.select.number a x.term x.is_there w.second);
        wrong =
            λ us.
            subst (λ j. truth_of (ev (instance_ex n (ts ++ us) (i.AtIndex j a)) (over s)) ≡ false) w.first (subst (λ k. truth_of (ev (instance_ex n (ts ++ us) (i.AtIndex w.update.number k)) (over s)) ≡ false) w.second (new_said us w.update up w.select x w.wrong));
      }

  pub old_lost : (u a c : ℕ) → IsOldLost rs u a c → IsLost (scalars_in values) (length incs) ts (line.Elsewhere u a c)
  old_lost u a c w =
      let up = updating w.update w.its_update in
      let x = selecting w.update up w.select w.its_select w.wrong.maps in
      let y = selecting w.update up w.another w.its_other w.wrong.other_maps in
      record {
        says = i.Elsewhere u a c;
        is = refl;
        within = elsewhere_within (length ts) u a c (its_place w.update.number u up.at.term up.at.is_there w.first) (its_place w.select.number a x.term x.is_there w.second) (its_place w.another.number c y.term y.is_there w.third);
        wrong =
            λ us.
            subst (λ j. truth_of (ev (instance_ex n (ts ++ us) (i.Elsewhere j a c)) (over s)) ≡ false) w.first
            (subst (λ k. truth_of (ev (instance_ex n (ts ++ us) (i.Elsewhere w.update.number k c)) (over s)) ≡ false) w.second
            (subst (λ l. truth_of (ev (instance_ex n (ts ++ us) (i.Elsewhere w.update.number w.select.number l)) (over s)) ≡ false) w.third (old_said us w.update up w.select w.another x y w.wrong)));
      }

  pub pair_lost : (a b : ℕ) → IsPairLost rs a b → IsLost (scalars_in values) (length incs) ts (line.Congruent a b)
  pair_lost a b w =
      let u = of_row values n ts rs rows a w.one w.first in
      let v = of_row values n ts rs rows b w.other w.second in
      record {
        says = i.Congruent a b;
        is = refl;
        within = both (nat_lt a (length ts)) (nat_lt b (length ts)) (lt_is a (length ts) (below ts a u.0 u.1.term_there)) (lt_is b (length ts) (below ts b v.0 v.1.term_there));
        wrong = λ us. pair_said us a b w;
      }
