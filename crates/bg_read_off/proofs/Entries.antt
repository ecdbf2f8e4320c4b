-- The entries of a function's table are typed, and there are none where there is no function.
use Rattle.std.proofs.Common.{◌≡◌, ℕ, zero, suc, ◌+◌, Bool, true, false, List, [], ◌∷◌, length, map, Some, None, refl, sym, ap, ◌∙◌, subst, arith}
use Rattle.std.specs.Prelude.{slice_get, if◌then◌else◌, All, IsTrue}
use Rattle.bg_ast.specs.Values.{Val, Ty, is_of, is_int, is_bool}
use Rattle.bg_ast.specs.Syntax.{Ex, Exs, Number, Fact, Constant, Read, Local, Global, Not, Negative, Binary, Apply, Select, Update, Old, NoMore, More, Fun}
use Rattle.bg_sense.specs.Eval.{value_at, ev, evs}
use Rattle.bg_sense.specs.Types.{are_of}
use Rattle.bg_sense.proofs.Bools.{both}
use Rattle.bg_terms.specs.Terms.{Applies, Term, over, head_eq}
use Rattle.bg_terms.specs.Alike.{HasFlatType}
use Rattle.bg_terms.specs.Tables.{entries_of}
use Rattle.bg_terms.specs.Typed.{HaveFlatTypes, HeadHasType, type_of, types_with, TermsTyped}
use Rattle.bg_terms.proofs.Heads.{head_same}
use Rattle.bg_terms.proofs.Typed.{at_back, at_map}
use Rattle.bg_terms.proofs.Valued.{operate_typed}
use Rattle.bg_flat.proofs.Fronts.{each_of}

-- ---- values of flat expressions

module _ (tys : List Ty) (w : List Val) (typed : are_of tys w ≡ true) where
  flat_value : (x : Ex) (t : Ty) → HasFlatType tys x t → is_of t (ev x (over w)) ≡ true
  flat_value (Number z) t h = ap is_int h
  flat_value (Fact b) t h = ap is_bool h
  flat_value (Constant k) t h = absurd h
  flat_value (Read (Local j)) t h = each_of tys w j t typed h
  flat_value (Read (Global j)) t h = absurd h
  flat_value (Not x) t h = ap is_bool h.0
  flat_value (Negative x) t h = ap is_int h.0
  flat_value (Binary op x y) t h =
      operate_typed op (HasFlatType tys x) (HasFlatType tys y) (ev x (over w)) (ev y (over w)) t h
  flat_value (Apply f es) t h = absurd h
  flat_value (Select m es) t h = absurd h
  flat_value (Update m es x) t h = absurd h
  flat_value (Old x) t h = absurd h

  flat_values : (xs : Exs) (ts : List Ty) → HaveFlatTypes tys xs ts → are_of ts (evs xs (over w)) ≡ true
  flat_values NoMore ts h = ap (λ x. are_of x []) h
  flat_values (More x xs) [] h = absurd h
  flat_values (More x xs) (t ∷ ts) h =
      both (is_of t (ev x (over w))) (are_of ts (evs xs (over w))) (flat_value x t h.0) (flat_values xs ts h.1)

-- ---- entries

abbrev pub Typed : Fun → List Val × Val → Type 0
Typed f e = IsTrue (are_of f.params e.0) × IsTrue (is_of f.result e.1)

abbrev pub EachTyped : Fun → List (List Val × Val) → Type 0
EachTyped f [] = Unit {0}
EachTyped f (e ∷ es) = Typed f e × EachTyped f es

pub all_typed : (f : Fun) (es : List (List Val × Val)) → EachTyped f es → All (Typed f) es
all_typed f [] h k d l = absurd (omega (arith, l))
all_typed f (e ∷ es) h zero d l = h.0
all_typed f (e ∷ es) h (suc k) d l = all_typed f es h.1 k d (omega (arith, l))

one_some : (o : _) (x y : Fun) → o ≡ Some x → o ≡ Some y → x ≡ y
one_some o x y e f = cc

module _ (fs : List Fun) (incs : List Ty) (ts : List Term) (terms : TermsTyped fs incs ts) (w : List Val) where
  abbrev n : ℕ
  n = length incs

  abbrev tys : List Ty
  tys = types_with incs ts

  -- what is known of an application of this function
  its_parts : (a : ℕ) (t : Term) (f : ℕ) → slice_get ts a ≡ Some t → t.head ≡ Applies f → HeadHasType fs tys (Applies f) t.args t.ty
  its_parts a t f e h = subst (λ k. HeadHasType fs tys k t.args t.ty) h (terms a t e)

  -- these terms are the table's from place a on
  abbrev IsRest : ℕ → List Term → Type 0
  IsRest a us = (b : ℕ) (t : Term) → slice_get us b ≡ Some t → slice_get ts (a + b) ≡ Some t

  first_of : (a : ℕ) (u : Term) (us : List Term) → IsRest a (u ∷ us) → slice_get ts a ≡ Some u
  first_of a u us r = ap (slice_get ts) (let q : a ≡ a + 0 = omega arith in q) ∙ r 0 u refl

  rest_of : (a : ℕ) (u : Term) (us : List Term) → IsRest a (u ∷ us) → IsRest (suc a) us
  rest_of a u us r b t e = ap (slice_get ts) (let q : suc a + b ≡ a + suc b = omega arith in q) ∙ r (suc b) t e

  module _ (typed : are_of tys w ≡ true) (f : ℕ) (g : Fun) (is : slice_get fs f ≡ Some g) where
    entry_typed : (a : ℕ) (t : Term) → slice_get ts a ≡ Some t → t.head ≡ Applies f → Typed g (evs t.args (over w), value_at w (n + a))
    entry_typed a t e h =
        let p = its_parts a t f e h in
        let same : p.0 ≡ g = one_some (slice_get fs f) p.0 g p.1.0 is in
        let its : slice_get tys (n + a) ≡ Some t.ty = at_back incs (map type_of ts) a n refl ∙ at_map type_of ts a t e in
        (flat_values tys w typed t.args g.params (subst (λ k. HaveFlatTypes tys t.args k.params) same p.1.1.1), subst (λ k. is_of k (value_at w (n + a)) ≡ true) (p.1.1.0 ∙ ap (λ k. k.result) same) (each_of tys w (n + a) t.ty typed its))

    pub entries_typed : (m a : ℕ) (us : List Term) → m ≡ n + a → IsRest a us → EachTyped g (entries_of (Applies f) w m us)
    entries_typed m a [] q r = tt
    entries_typed m a (u ∷ us) q r =
        on (head_eq u.head (Applies f)) refl (entries_typed (suc m) (suc a) us (omega (arith, q)) (rest_of a u us r))
      where
        on : (c : Bool) → head_eq u.head (Applies f) ≡ c → EachTyped g (entries_of (Applies f) w (suc m) us) → EachTyped g (if c then (evs u.args (over w), value_at w m) ∷ entries_of (Applies f) w (suc m) us else entries_of (Applies f) w (suc m) us)
        on true e k =
            (subst (λ j. Typed g (evs u.args (over w), value_at w j)) (sym q) (entry_typed a u (first_of a u us r) (head_same u.head (Applies f) e)), k)
        on false e k = k

  -- no term applies what isn't there
  pub no_entries : (f : ℕ) → slice_get fs f ≡ None → (m a : ℕ) (us : List Term) → IsRest a us → entries_of (Applies f) w m us ≡ []
  no_entries f none m a [] r = refl
  no_entries f none m a (u ∷ us) r = on (head_eq u.head (Applies f)) refl (no_entries f none (suc m) (suc a) us (rest_of a u us r))
    where
      never : head_eq u.head (Applies f) ≡ true → ⊥
      never e =
          let p = its_parts a u f (first_of a u us r) (head_same u.head (Applies f) e) in
          let there = p.1.0 in
          let bad : ⊥ = cc in
          bad

      on : (c : Bool) → head_eq u.head (Applies f) ≡ c → entries_of (Applies f) w (suc m) us ≡ [] → (if c then (evs u.args (over w), value_at w m) ∷ entries_of (Applies f) w (suc m) us else entries_of (Applies f) w (suc m) us) ≡ []
      on true e k = absurd (never e)
      on false e k = k
