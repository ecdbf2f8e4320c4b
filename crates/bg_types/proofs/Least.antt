-- The best fault of a list is the one that is answered.
use Rattle.std.proofs.Common.{◌≡◌, ℕ, Bool, true, false, ◌&&◌, ◌||◌, if◌then◌else◌, nat_lt, ◌==◌, List, [], ◌∷◌, ◌++◌, Some, None, refl, sym, ap, ◌∙◌, subst, arith, append_assoc, append-nil, ◌⊎◌, inl, inr}
use Rattle.std.proofs.lemmas.Bool.Decides.{nat_tests}
use Rattle.bg_base.specs.declared.pos.Pos.{Pos}
use Rattle.bg_kinds.specs.Faults.{Fault, EachOf, IsFirst, position_of, precedes, comes_before, first_of}

before_numbers : (a b c d e f : ℕ) → (nat_lt a c || (a == c && nat_lt b d)) ≡ true → (nat_lt c e || (c == e && nat_lt d f)) ≡ true → (nat_lt a e || (a == e && nat_lt b f)) ≡ true
before_numbers a b c d e f h k = grind (arith, nat_tests)

past_numbers : (a b c d e f : ℕ) → (nat_lt a c || (a == c && nat_lt b d)) ≡ true → (nat_lt e c || (e == c && nat_lt f d)) ≡ false → (nat_lt a e || (a == e && nat_lt b f)) ≡ true
past_numbers a b c d e f h k = grind (arith, nat_tests)

before_before : (p q r : Pos) → precedes p q ≡ true → precedes q r ≡ true → precedes p r ≡ true
before_before p q r h k = before_numbers p.line p.column q.line q.column r.line r.column h k

before_past : (p q r : Pos) → precedes p q ≡ true → precedes r q ≡ false → precedes p r ≡ true
before_past p q r h k = past_numbers p.line p.column q.line q.column r.line r.column h k

some_stays : (g : Fault) (fs : List Fault) → first_of (Some g) fs ≡ None → ⊥
some_stays g [] h = cc
some_stays g (f ∷ fs) h =
    elim (comes_before f g) as (λ b. first_of (if b then Some f else Some g) fs ≡ None → ⊥) [ true ↦ some_stays f fs | false ↦ some_stays g fs ] h

-- no fault is found only where there is none
pub first_none : (fs : List Fault) → None ≡ first_of None fs → fs ≡ []
first_none [] h = refl
first_none (f ∷ fs) h = absurd (some_stays f fs (sym h))

all_before : (f g : Fault) (xs : List Fault) → comes_before f g ≡ true → EachOf (λ x. comes_before g x ≡ true) xs → EachOf (λ x. comes_before f x ≡ true) xs
all_before f g [] h a = tt
all_before f g (x ∷ xs) h a = (before_before (position_of f) (position_of g) (position_of x) h a.0, all_before f g xs h a.1)

all_past : (f g : Fault) (xs : List Fault) → comes_before f g ≡ true → EachOf (λ x. comes_before x g ≡ false) xs → EachOf (λ x. comes_before f x ≡ true) xs
all_past f g [] h a = tt
all_past f g (x ∷ xs) h a = (before_past (position_of f) (position_of g) (position_of x) h a.0, all_past f g xs h a.1)

all_and : (P : Fault → Type 0) (xs ys : List Fault) → EachOf P xs → EachOf P ys → EachOf P (xs ++ ys)
all_and P [] ys a b = b
all_and P (x ∷ xs) ys a b = (a.0, all_and P xs ys a.1 b)

-- one more fault, which stands before all
takes : (f g : Fault) (done : List Fault) → comes_before f g ≡ true → IsFirst g done → IsFirst f (done ++ f ∷ [])
takes f g done h w =
    let split = w.split in
    let all : EachOf (λ x. comes_before f x ≡ true) (w.before ++ g ∷ w.behind) = all_and (λ x. comes_before f x ≡ true) w.before (g ∷ w.behind) (all_before f g w.before h w.first) (h, all_past f g w.behind h w.least) in
    record {
      before = done;
      behind = [];
      split = refl;
      first = subst (λ (l : List Fault). EachOf (λ x. comes_before f x ≡ true) l) (sym split) all;
      least = tt;
    }

-- one more fault, which doesn't stand before the best
keeps : (f g : Fault) (done : List Fault) → comes_before f g ≡ false → IsFirst g done → IsFirst g (done ++ f ∷ [])
keeps f g done h w =
    record {
      before = w.before;
      behind = w.behind ++ f ∷ [];
      split = ap (λ l. l ++ f ∷ []) w.split ∙ append_assoc w.before (g ∷ w.behind) (f ∷ []);
      first = w.first;
      least = all_and (λ x. comes_before x g ≡ false) w.behind (f ∷ []) w.least (h, tt);
    }

bool_cases : (b : Bool) → (b ≡ true) ⊎ (b ≡ false)
bool_cases true = inl refl
bool_cases false = inr refl

one_more : (f x : Fault) (done xs : List Fault) → IsFirst f ((done ++ x ∷ []) ++ xs) → IsFirst f (done ++ x ∷ xs)
one_more f x done xs w = subst (λ (l : List Fault). IsFirst f l) (append_assoc done (x ∷ []) xs) w

-- of the faults so far and those of a list, the best is the one that is answered
found : (fs done : List Fault) (g f : Fault) → IsFirst g done → first_of (Some g) fs ≡ Some f → IsFirst f (done ++ fs)
found [] done g f w h =
    let e : g ≡ f = cc in
    subst (λ (l : List Fault). IsFirst f l) (sym (append-nil done)) (subst (λ (x : Fault). IsFirst x done) e w)
found (x ∷ xs) done g f w h =
    elim (bool_cases (comes_before x g)) [
      | inl e ↦
          let k : first_of (Some x) xs ≡ Some f = ap (λ b. first_of (if b then Some x else Some g) xs) (sym e) ∙ h in
          one_more f x done xs (found xs (done ++ x ∷ []) x f (takes x g done e w) k)
      | inr e ↦
          let k : first_of (Some g) xs ≡ Some f = ap (λ b. first_of (if b then Some x else Some g) xs) (sym e) ∙ h in
          one_more f x done xs (found xs (done ++ x ∷ []) g f (keeps x g done e w) k)
    ]

alone : (g : Fault) → IsFirst g (g ∷ [])
alone g = record { before = []; behind = []; split = refl; first = tt; least = tt }

-- the fault that is found is the one that is answered
pub first_some : (fs : List Fault) (f : Fault) → Some f ≡ first_of None fs → IsFirst f fs
first_some [] f h = cc
first_some (g ∷ fs) f h = found fs (g ∷ []) g f (alone g) (sym h)
