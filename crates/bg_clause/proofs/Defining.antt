-- Clauses that define names say what the names are worth.
use Rattle.std.proofs.Common.{◌≡◌, ℕ, suc, Bool, true, false, List, [], ◌∷◌, ◌++◌, refl, sym, ap, subst, ◌∙◌}
use Rattle.std.specs.Prelude.{not, ◌&&◌, ◌||◌}
use Rattle.bg_formula.specs.declared.atom.Literal.{Literal}
use Rattle.bg_formula.specs.Meaning.{same}
use Rattle.bg_forms.specs.Forms.{Form, Plain, Is, NotSo, Both, Same, literal_in, form_true, opposite}
use Rattle.bg_clause.specs.Emitted.{name_of, next_of, after_defined, clause_of, signed_as, equal_clauses, both_clauses, same_clauses, defined}
use Rattle.bg_forms.proofs.Meaning.{same_not, not_not, and_left, and_right}
use Rattle.bg_clause.proofs.Clausal.{any_in, all_in, clause_true, same_signs}

-- the atoms from n on have the values of these forms
abbrev pub Named : (ℕ → Bool) → ℕ → List Form → Type 0
Named t n [] = Unit {0}
Named t n (f ∷ fs) = (t n ≡ form_true t f) × Named t (suc n) fs

abbrev pub past : List Form → ℕ → ℕ
past [] n = n
past (f ∷ fs) n = past fs (suc n)

pub past_append : (fs gs : List Form) (n : ℕ) → past (fs ++ gs) n ≡ past gs (past fs n)
past_append [] gs n = refl
past_append (f ∷ fs) gs n = past_append fs gs (suc n)

pub named_append : (t : ℕ → Bool) (fs gs : List Form) (n : ℕ) → Named t n (fs ++ gs) → Named t n fs × Named t (past fs n) gs
named_append t [] gs n h = (tt, h)
named_append t (f ∷ fs) gs n h = let rest = named_append t fs gs (suc n) h.1 in ((h.0, rest.0), rest.1)

-- what the name of a form stands for: the name denies it
abbrev pub own : Form → List Form
own (Is l) = []
own f = NotSo f ∷ []

pub own_past : (f : Form) (n : ℕ) → past (own f) n ≡ next_of f n
own_past (Plain b) n = refl
own_past (Is l) n = refl
own_past (NotSo f) n = refl
own_past (Both f g) n = refl
own_past (Same f g) n = refl

denial : (a b : Bool) → a ≡ not b → same a false ≡ b
denial true true e = absurd (let bad : ⊥ = cc in bad)
denial true false e = refl
denial false true e = refl
denial false false e = sym e

-- the literal that stands for a form is worth what the form is
pub named_own : (t : ℕ → Bool) (f : Form) (gs : List Form) (n : ℕ) → Named t n (own f ++ gs) → (literal_in t (name_of f n) ≡ form_true t f) × Named t (next_of f n) gs
named_own t (Plain b) gs n h = (denial (t n) b h.0, h.1)
named_own t (Is l) gs n h = (refl, h)
named_own t (NotSo f) gs n h = (denial (t n) (form_true t (NotSo f)) h.0, h.1)
named_own t (Both f g) gs n h = (denial (t n) (form_true t (Both f g)) h.0, h.1)
named_own t (Same f g) gs n h = (denial (t n) (form_true t (Same f g)) h.0, h.1)

-- the parts that have names where a form is defined
abbrev pub deep : Form → List Form
deep (Plain b) = []
deep (Is l) = []
deep (NotSo f) = deep f
deep (Both f g) = own f ++ (own g ++ (deep f ++ deep g))
deep (Same f g) = own f ++ (own g ++ (deep f ++ deep g))

-- of two parts
parts_past : (f g : Form) (n : ℕ) → past (own f ++ (own g ++ (deep f ++ deep g))) n ≡ past (deep g) (past (deep f) (next_of g (next_of f n)))
parts_past f g n =
    past_append (own f) (own g ++ (deep f ++ deep g)) n
    ∙ past_append (own g) (deep f ++ deep g) (past (own f) n)
    ∙ past_append (deep f) (deep g) (past (own g) (past (own f) n))
    ∙ ap (λ x. past (deep g) (past (deep f) (past (own g) x))) (own_past f n)
    ∙ ap (λ x. past (deep g) (past (deep f) x)) (own_past g (next_of f n))

deep_past : (f : Form) (n : ℕ) → past (deep f) n ≡ after_defined f n
deep_past (Plain b) n = refl
deep_past (Is l) n = refl
deep_past (NotSo f) n = deep_past f n
deep_past (Both f g) n =
    let a = next_of g (next_of f n) in
    parts_past f g n ∙ ap (past (deep g)) (deep_past f a) ∙ deep_past g (after_defined f a)
deep_past (Same f g) n =
    let a = next_of g (next_of f n) in
    parts_past f g n ∙ ap (past (deep g)) (deep_past f a) ∙ deep_past g (after_defined f a)

pub two_past : (f g : Form) (n : ℕ) → past (own f ++ (own g ++ (deep f ++ deep g))) n ≡ after_defined g (after_defined f (next_of g (next_of f n)))
two_past f g n = deep_past (Same f g) n

-- the literals that stand for two parts, and the names within these
pub deep_named : (t : ℕ → Bool) (f g : Form) (n : ℕ) → Named t n (own f ++ (own g ++ (deep f ++ deep g))) → (literal_in t (name_of f n) ≡ form_true t f) × (literal_in t (name_of g (next_of f n)) ≡ form_true t g) × Named t (next_of g (next_of f n)) (deep f) × Named t (after_defined f (next_of g (next_of f n))) (deep g)
deep_named t f g n h =
    let a = next_of g (next_of f n) in
    let o = named_own t f (own g ++ (deep f ++ deep g)) n h in
    let p = named_own t g (deep f ++ deep g) (next_of f n) o.1 in
    let d = named_append t (deep f) (deep g) a p.1 in
    (o.0, p.0, d.0, subst (λ m. Named t m (deep g)) (deep_past f a) d.1)

pub all_append : (t : ℕ → Bool) (xs ys : List (List Literal)) → all_in t xs ≡ true → all_in t ys ≡ true → all_in t (xs ++ ys) ≡ true
all_append t [] ys p q = q
all_append t (x ∷ xs) ys p q =
    rw (and_left (any_in t x) (all_in t xs) p, all_append t xs ys (and_right (any_in t x) (all_in t xs) p) q) refl

pub all_first : (t : ℕ → Bool) (xs ys : List (List Literal)) → all_in t (xs ++ ys) ≡ true → all_in t xs ≡ true
all_first t [] ys p = refl
all_first t (x ∷ xs) ys p =
    rw (and_left (any_in t x) (all_in t (xs ++ ys)) p, all_first t xs ys (and_right (any_in t x) (all_in t (xs ++ ys)) p)) refl

pub all_second : (t : ℕ → Bool) (xs ys : List (List Literal)) → all_in t (xs ++ ys) ≡ true → all_in t ys ≡ true
all_second t [] ys p = p
all_second t (x ∷ xs) ys p = all_second t xs ys (and_right (any_in t x) (all_in t (xs ++ ys)) p)

-- truth values, case by case
and_assoc : (a b c : Bool) → (a && (b && c)) ≡ ((a && b) && c)
and_assoc true b c = refl
and_assoc false b c = refl

or_assoc : (a b c : Bool) → (a || (b || c)) ≡ ((a || b) || c)
or_assoc true b c = refl
or_assoc false b c = refl

or_none : (a : Bool) → (a || false) ≡ a
or_none true = refl
or_none false = refl

swap_bools : (m l x : Bool) → (m || (l || x)) ≡ (l || (m || x))
swap_bools true true x = refl
swap_bools true false x = refl
swap_bools false l x = refl

equal_bools : (a k l : Bool) → ((a || (not k || l)) && (a || (k || not l))) ≡ (a || same k l)
equal_bools true k l = refl
equal_bools false true true = refl
equal_bools false true false = refl
equal_bools false false true = refl
equal_bools false false false = refl

both_bools : (k l m : Bool) → ((not k || l) && ((not k || m) && (k || (not l || not m)))) ≡ same k (l && m)
both_bools true true true = refl
both_bools true true false = refl
both_bools true false m = refl
both_bools false true true = refl
both_bools false true false = refl
both_bools false false m = refl

same_bools : (k l m : Bool) → (((not k || false) || same l m) && ((k || false) || same l (not m))) ≡ same k (same l m)
same_bools true true true = refl
same_bools true true false = refl
same_bools true false true = refl
same_bools true false false = refl
same_bools false true true = refl
same_bools false true false = refl
same_bools false false true = refl
same_bools false false false = refl

same_self : (a : Bool) → same a a ≡ true
same_self true = refl
same_self false = refl

module _ (t : ℕ → Bool) where
  all_both : (xs ys : List (List Literal)) → all_in t (xs ++ ys) ≡ (all_in t xs && all_in t ys)
  all_both [] ys = refl
  all_both (x ∷ xs) ys =
      ap (λ y. any_in t x && y) (all_both xs ys)
      ∙ and_assoc (any_in t x) (all_in t xs) (all_in t ys)

  -- a literal behind others
  pub any_last : (ls : List Literal) (l : Literal) → any_in t (ls ++ l ∷ []) ≡ (literal_in t l || any_in t ls)
  any_last [] l = refl
  any_last (k ∷ ls) l = rw (any_last ls l) (swap_bools (literal_in t k) (literal_in t l) (any_in t ls))

  opposite_true : (l : Literal) → literal_in t (opposite l) ≡ not (literal_in t l)
  opposite_true l = same_not (t l.atom) l.sign

  -- two literals behind others
  any_two : (ls : List Literal) (k l : Literal) → any_in t (ls ++ k ∷ l ∷ []) ≡ (any_in t ls || (literal_in t k || literal_in t l))
  any_two [] k l = ap (λ x. literal_in t k || x) (or_none (literal_in t l))
  any_two (j ∷ ls) k l =
      ap (λ x. literal_in t j || x) (any_two ls k l)
      ∙ or_assoc (literal_in t j) (any_in t ls) (literal_in t k || literal_in t l)

  two_true : (ls : List Literal) (k l : Literal) → all_in t (clause_of (ls ++ k ∷ l ∷ [])) ≡ (any_in t ls || (literal_in t k || literal_in t l))
  two_true ls k l = clause_true t (ls ++ k ∷ l ∷ []) ∙ any_two ls k l

  pub equal_true : (ls : List Literal) (k l : Literal) → all_in t (equal_clauses ls k l) ≡ (any_in t ls || same (literal_in t k) (literal_in t l))
  equal_true ls k l =
      rw (all_both (clause_of (ls ++ opposite k ∷ l ∷ [])) (clause_of (ls ++ k ∷ opposite l ∷ [])), two_true ls (opposite k) l, two_true ls k (opposite l), opposite_true k, opposite_true l)
      (equal_bools (any_in t ls) (literal_in t k) (literal_in t l))

  both_are : (k l m : Literal) → all_in t (both_clauses k l m) ≡ same (literal_in t k) (literal_in t l && literal_in t m)
  both_are k l m =
      let xs = clause_of (opposite k ∷ l ∷ []) in
      let ys = clause_of (opposite k ∷ m ∷ []) in
      let zs = clause_of (k ∷ opposite l ∷ opposite m ∷ []) in
      rw (all_both xs (ys ++ zs), all_both ys zs, two_true [] (opposite k) l, two_true [] (opposite k) m, two_true (k ∷ []) (opposite l) (opposite m), opposite_true k, opposite_true l, opposite_true m, or_none (literal_in t k))
      (both_bools (literal_in t k) (literal_in t l) (literal_in t m))

  same_are : (k l m : Literal) → all_in t (same_clauses k l m) ≡ same (literal_in t k) (same (literal_in t l) (literal_in t m))
  same_are k l m =
      rw (all_both (equal_clauses (opposite k ∷ []) l m) (equal_clauses (k ∷ []) l (opposite m)), equal_true (opposite k ∷ []) l m, equal_true (k ∷ []) l (opposite m), opposite_true k, opposite_true m)
      (same_bools (literal_in t k) (literal_in t l) (literal_in t m))

  alone_are : (b : Bool) (k : Literal) → all_in t (clause_of (signed_as b k ∷ [])) ≡ same (literal_in t k) b
  alone_are true k = clause_true t (k ∷ []) ∙ yes_bools (literal_in t k)
    where
      yes_bools : (a : Bool) → (a || false) ≡ same a true
      yes_bools true = refl
      yes_bools false = refl
  alone_are false k =
      clause_true t (opposite k ∷ []) ∙ ap (λ x. x || false) (opposite_true k) ∙ no_bools (literal_in t k)
    where
      no_bools : (a : Bool) → (not a || false) ≡ same a false
      no_bools true = refl
      no_bools false = refl

  turned : (k : Literal) (x : Bool) → literal_in t (opposite k) ≡ x → literal_in t k ≡ not x
  turned k x e =
      sym (not_not (literal_in t k)) ∙ ap not (sym (opposite_true k) ∙ e)

  -- two forms are worth the same where the literals that stand for them are
  pub sides : (f g : Form) (k l : Literal) → literal_in t k ≡ form_true t f → literal_in t l ≡ form_true t g → same (literal_in t k) (literal_in t l) ≡ same (form_true t f) (form_true t g)
  sides f g k l p q =
      ap (λ x. same x (literal_in t l)) p ∙ ap (same (form_true t f)) q

  both_sides : (f g : Form) (k l : Literal) → literal_in t k ≡ form_true t f → literal_in t l ≡ form_true t g → (literal_in t k && literal_in t l) ≡ (form_true t f && form_true t g)
  both_sides f g k l p q =
      ap (λ x. x && literal_in t l) p ∙ ap (λ x. form_true t f && x) q

  -- where the clauses are true, the literal is worth what the form is
  pub defined_sound : (f : Form) (k : Literal) (n : ℕ) → all_in t (defined k f n) ≡ true → literal_in t k ≡ form_true t f
  defined_sound (Plain b) k n e = same_signs (literal_in t k) b (sym (alone_are b k) ∙ e)
  defined_sound (Is l) k n e =
      same_signs (literal_in t k) (literal_in t l) (sym (equal_true [] k l) ∙ e)
  defined_sound (NotSo f) k n e = turned k (form_true t f) (defined_sound f (opposite k) n e)
  defined_sound (Both f g) k n e =
      let l = name_of f n in
      let m = name_of g (next_of f n) in
      let a = next_of g (next_of f n) in
      let xs = defined l f a in
      let ys = defined m g (after_defined f a) in
      let rest = all_second t (both_clauses k l m) (xs ++ ys) e in
      same_signs (literal_in t k) (literal_in t l && literal_in t m) (sym (both_are k l m) ∙ all_first t (both_clauses k l m) (xs ++ ys) e)
      ∙ both_sides f g l m (defined_sound f l a (all_first t xs ys rest)) (defined_sound g m (after_defined f a) (all_second t xs ys rest))
  defined_sound (Same f g) k n e =
      let l = name_of f n in
      let m = name_of g (next_of f n) in
      let a = next_of g (next_of f n) in
      let xs = defined l f a in
      let ys = defined m g (after_defined f a) in
      let rest = all_second t (same_clauses k l m) (xs ++ ys) e in
      same_signs (literal_in t k) (same (literal_in t l) (literal_in t m)) (sym (same_are k l m) ∙ all_first t (same_clauses k l m) (xs ++ ys) e)
      ∙ sides f g l m (defined_sound f l a (all_first t xs ys rest)) (defined_sound g m (after_defined f a) (all_second t xs ys rest))

  known : (a b : Bool) → a ≡ b → same a b ≡ true
  known a b e = ap (same a) (sym e) ∙ same_self a

  -- where the literal is worth what the form is, and names are worth what they name, the clauses are true
  pub defined_complete : (f : Form) (k : Literal) (n : ℕ) → Named t n (deep f) → literal_in t k ≡ form_true t f → all_in t (defined k f n) ≡ true
  defined_complete (Plain b) k n h e = alone_are b k ∙ known (literal_in t k) b e
  defined_complete (Is l) k n h e = equal_true [] k l ∙ known (literal_in t k) (literal_in t l) e
  defined_complete (NotSo f) k n h e =
      defined_complete f (opposite k) n h (opposite_true k ∙ ap not e ∙ not_not (form_true t f))
  defined_complete (Both f g) k n h e =
      let l = name_of f n in
      let m = name_of g (next_of f n) in
      let a = next_of g (next_of f n) in
      let d = deep_named t f g n h in
      all_append t (both_clauses k l m) (defined l f a ++ defined m g (after_defined f a)) (both_are k l m ∙ known (literal_in t k) (literal_in t l && literal_in t m) (e ∙ sym (both_sides f g l m d.0 d.1))) (all_append t (defined l f a) (defined m g (after_defined f a)) (defined_complete f l a d.2 d.0) (defined_complete g m (after_defined f a) d.3 d.1))
  defined_complete (Same f g) k n h e =
      let l = name_of f n in
      let m = name_of g (next_of f n) in
      let a = next_of g (next_of f n) in
      let d = deep_named t f g n h in
      all_append t (same_clauses k l m) (defined l f a ++ defined m g (after_defined f a)) (same_are k l m ∙ known (literal_in t k) (same (literal_in t l) (literal_in t m)) (e ∙ sym (sides f g l m d.0 d.1))) (all_append t (defined l f a) (defined m g (after_defined f a)) (defined_complete f l a d.2 d.0) (defined_complete g m (after_defined f a) d.3 d.1))
