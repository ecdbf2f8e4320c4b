-- A term that an interpretation which is read off doesn't give its value names an instance that is false.
use Rattle.std.proofs.Common.{◌≡◌, ℕ, zero, suc, ◌+◌, Bool, true, false, List, [], ◌∷◌, Some, refl, sym, ap, ◌∙◌, arith}
use Rattle.std.specs.Prelude.{slice_get, not, ◌&&◌, ◌||◌, if◌then◌else◌}
use Rattle.bg_ast.specs.Values.{Val, val_eq, truth_of}
use Rattle.bg_ast.specs.Syntax.{Exs, Binary, Implies, Fact}
use Rattle.bg_ast.specs.Execution.{Interp}
use Rattle.bg_sense.specs.Eval.{value_at, vals_eq, entry_for, ev, evs}
use Rattle.bg_sense.proofs.Bools.{and_left, and_right, both}
use Rattle.bg_sense.proofs.MapLaws.{val_same, val_eq_refl}
use Rattle.bg_sense.proofs.Order.{vals_same}
use Rattle.bg_terms.specs.Terms.{Head, Applies, Selects, Updates, Differs, Term, over, mean, term_value, IsModel, head_eq}
use Rattle.bg_terms.specs.Instances.{Congruent, term, equal, all_equal, congruent, instance_ex}
use Rattle.bg_terms.specs.Tables.{entries_of, IsReadOff, is_application, is_right, are_right}
use Rattle.bg_terms.proofs.Heads.{head_same, head_refl}
use Rattle.bg_terms.proofs.True.{same_eq, equal_back}

vals_eq_refl : (vs : List Val) → vals_eq vs vs ≡ true
vals_eq_refl [] = refl
vals_eq_refl (v ∷ vs) = both (val_eq v v) (vals_eq vs vs) (val_eq_refl v) (vals_eq_refl vs)

-- the term from which an entry is read
pub record First (h : Head) (q : List Val) (v : Val) (w : List Val) (m : ℕ) (us : List Term) : Type 0 where
  pub number : ℕ
  pub its : Term
  pub is_there : slice_get us number ≡ Some its
  pub head : its.head ≡ h
  pub key : evs its.args (over w) ≡ q
  pub value : value_at w (m + number) ≡ v

further : (h : Head) (q : List Val) (v : Val) (w : List Val) (m : ℕ) (u : Term) (us : List Term) → First h q v w (suc m) us → First h q v w m (u ∷ us)
further h q v w m u us f =
    record {
      number = suc f.number;
      its = f.its;
      is_there = f.is_there;
      head = f.head;
      key = f.key;
      value = ap (value_at w) (let e : m + suc f.number ≡ suc m + f.number = omega arith in e) ∙ f.value;
    }

no_true : (b : Bool) → b ≡ false → b ≡ true → ⊥
no_true b e f = cc

module _ (h : Head) (q : List Val) (d : Val) (w : List Val) (m : ℕ) (u : Term) (us : List Term) where
  abbrev Rest : Val
  Rest = entry_for (entries_of h w (suc m) us) q d

  at_first : head_eq u.head h ≡ true → vals_eq (evs u.args (over w)) q ≡ true → First h q (value_at w m) w m (u ∷ us)
  at_first e f =
      record {
        number = 0;
        its = u;
        is_there = refl;
        head = head_same u.head h e;
        key = vals_same (evs u.args (over w)) q f;
        value = ap (value_at w) (let z : m + 0 ≡ m = omega arith in z);
      }

  by_key : (c : Bool) → head_eq u.head h ≡ true → vals_eq (evs u.args (over w)) q ≡ c → (c ≡ false → First h q Rest w (suc m) us) → First h q (if c then value_at w m else Rest) w m (u ∷ us)
  by_key true e f rest = at_first e f
  by_key false e f rest = further h q Rest w m u us (rest refl)

  by_head : (b : Bool) → head_eq u.head h ≡ b → ((b && vals_eq (evs u.args (over w)) q) ≡ false → First h q Rest w (suc m) us) → First h q (entry_for (if b then (evs u.args (over w), value_at w m) ∷ entries_of h w (suc m) us else entries_of h w (suc m) us) q d) w m (u ∷ us)
  by_head true e rest = by_key (vals_eq (evs u.args (over w)) q) e refl (λ z. rest z)
  by_head false e rest = further h q Rest w m u us (rest refl)

pub first : (h : Head) (q : List Val) (d : Val) (w : List Val) (m : ℕ) (us : List Term) (a : ℕ) (t : Term) → slice_get us a ≡ Some t → t.head ≡ h → evs t.args (over w) ≡ q → First h q (entry_for (entries_of h w m us) q d) w m us
first h q d w m [] a t e f g = absurd (let bad : ⊥ = cc in bad)
first h q d w m (u ∷ us) zero t e f g =
    let same : u ≡ t = cc in
    let heads = head_refl u.head h (ap (λ x. x.head) same ∙ f) in
    let keys : vals_eq (evs u.args (over w)) q ≡ true = ap (λ x. vals_eq (evs x.args (over w)) q) same ∙ ap (λ k. vals_eq k q) g ∙ vals_eq_refl q in
    by_head h q d w m u us (head_eq u.head h) refl (λ z. absurd (no_true (head_eq u.head h && vals_eq (evs u.args (over w)) q) z (both (head_eq u.head h) (vals_eq (evs u.args (over w)) q) heads keys)))
first h q d w m (u ∷ us) (suc a) t e f g =
    let rest = first h q d w (suc m) us a t e f g in
    by_head h q d w m u us (head_eq u.head h) refl (λ z. rest)

-- an instance that its premises make false
implied_false : (a b : Bool) → a ≡ true → b ≡ false → (not a || b) ≡ false
implied_false true b e f = f
implied_false false b e f = absurd (let bad : ⊥ = cc in bad)

module _ (i : Interp) (defaults : Head → Val) (w : List Val) (n : ℕ) (ts : List Term) (read : IsReadOff i defaults w n ts) where
  told : (h : Head) (xs : Exs) → is_application h ≡ true → mean i h (evs xs (over w)) ≡ entry_for (entries_of h w n ts) (evs xs (over w)) (defaults h)
  told (Applies f) xs p = read.tables f (evs xs (over w))
  told (Selects ks t) xs p = absurd (let bad : ⊥ = cc in bad)
  told (Updates ks t) xs p = absurd (let bad : ⊥ = cc in bad)
  told (Differs ks t j) xs p = absurd (let bad : ⊥ = cc in bad)

  abbrev IsFalse : ℕ → ℕ → Type 0
  IsFalse a b = truth_of (ev (instance_ex n ts (Congruent a b)) (over w)) ≡ false

  pub wrong_named : (b : ℕ) (t : Term) → slice_get ts b ≡ Some t → is_application t.head ≡ true → is_right i w (n + b) t ≡ false → (a : ℕ) × IsFalse a b
  wrong_named b t e p wrong = (f.number, ap (λ o. truth_of (ev (congruent n f.number b o (slice_get ts b)) (over w))) f.is_there ∙ ap (λ o. truth_of (ev (congruent n f.number b (Some f.its) o) (over w))) e ∙ on (head_eq f.its.head t.head) (head_refl f.its.head t.head f.head))
    where
      f : First t.head (evs t.args (over w)) (entry_for (entries_of t.head w n ts) (evs t.args (over w)) (defaults t.head)) w n ts
      f = first t.head (evs t.args (over w)) (defaults t.head) w n ts b t e refl refl

      differ : val_eq (value_at w (n + f.number)) (value_at w (n + b)) ≡ false
      differ = turned (value_at w (n + f.number)) (value_at w (n + b)) (ap (val_eq (value_at w (n + b))) (f.value ∙ sym (told t.head t.args p)) ∙ wrong)
        where
          turned : (x y : Val) → val_eq y x ≡ false → val_eq x y ≡ false
          turned x y z = unless (val_eq x y) (λ k. no_true (val_eq y x) z (same_eq y x (sym (val_same x y k))))
            where
              unless : (c : Bool) → (c ≡ true → ⊥) → c ≡ false
              unless true k = absurd (k refl)
              unless false k = refl

      on : (c : Bool) → c ≡ true → truth_of (ev (if c then Binary Implies (all_equal f.its.args t.args) (equal (term n f.number) (term n b)) else Fact true) (over w)) ≡ false
      on true z = implied_false (truth_of (ev (all_equal f.its.args t.args) (over w))) (val_eq (value_at w (n + f.number)) (value_at w (n + b))) (equal_back w f.its.args t.args f.key) differ
      on false z = absurd (let bad : ⊥ = cc in bad)

pub right_model : (i : Interp) (w : List Val) (n : ℕ) (ts : List Term) → are_right i w n ts ≡ true → IsModel i w n ts
right_model i w n [] h = tt
right_model i w n (t ∷ ts) h =
    (val_same (value_at w n) (term_value i w t) (and_left (is_right i w n t) (are_right i w (suc n) ts) h), right_model i w (suc n) ts (and_right (is_right i w n t) (are_right i w (suc n) ts) h))
