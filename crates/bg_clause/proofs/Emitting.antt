-- Clauses of forms say what the forms say: the names' values are those of the parts that they name.
use Rattle.std.proofs.Common.{◌≡◌, ℕ, Bool, true, false, List, [], ◌∷◌, ◌++◌, refl, sym, ap, subst, ◌∙◌}
use Rattle.std.specs.Prelude.{not, ◌&&◌, ◌||◌, if◌then◌else◌}
use Rattle.bg_formula.specs.declared.atom.Literal.{Literal}
use Rattle.bg_formula.specs.Meaning.{same}
use Rattle.bg_forms.specs.Forms.{Form, Plain, Is, NotSo, Both, Same, literal_in, form_true, opposite}
use Rattle.bg_clause.specs.Emitted.{denies, name_of, next_of, after_defined, after_as, clause_of, signed_as, equal_clauses, defined, emitted_as, emitted}
use Rattle.bg_forms.proofs.Meaning.{same_not, same_true}
use Rattle.bg_clause.proofs.Clausal.{any_in, all_in, clause_true}
use Rattle.bg_clause.proofs.Defining.{all_append, all_first, all_second, any_last, equal_true, sides, Named, past, past_append, named_append, own, named_own, own_past, deep, two_past, deep_named, defined_sound, defined_complete}

-- the parts that have names where a form is worth s
abbrev pub parts_as : Bool → Form → List Form
parts_as s (Plain b) = []
parts_as s (Is l) = []
parts_as s (NotSo f) = parts_as (not s) f
parts_as s (Both f g) =
    if s then parts_as true f ++ parts_as true g else own f ++ (parts_as false f ++ parts_as false g)
parts_as s (Same f g) = own f ++ (own g ++ (deep f ++ deep g))

-- the parts that have names, by name
abbrev pub parts : Form → List Form
parts f = parts_as true f

as_past : (f : Form) (s : Bool) (n : ℕ) → past (parts_as s f) n ≡ after_as s f n
as_past (Plain b) s n = refl
as_past (Is l) s n = refl
as_past (NotSo f) s n = as_past f (not s) n
as_past (Both f g) true n =
    past_append (parts_as true f) (parts_as true g) n
    ∙ ap (past (parts_as true g)) (as_past f true n)
    ∙ as_past g true (after_as true f n)
as_past (Both f g) false n =
    past_append (own f) (parts_as false f ++ parts_as false g) n
    ∙ past_append (parts_as false f) (parts_as false g) (past (own f) n)
    ∙ ap (λ x. past (parts_as false g) (past (parts_as false f) x)) (own_past f n)
    ∙ ap (past (parts_as false g)) (as_past f false (next_of f n))
    ∙ as_past g false (after_as false f (next_of f n))
as_past (Same f g) s n = two_past f g n

pub after_past : (f : Form) (n : ℕ) → after_as true f n ≡ past (parts f) n
after_past f n = sym (as_past f true n)

-- truth values, case by case
or_bools : (a : Bool) → true ≡ (a || true)
or_bools true = refl
or_bools false = refl

or_plain : (a : Bool) → a ≡ (a || false)
or_plain true = refl
or_plain false = refl

or_swap : (a b : Bool) → (a || b) ≡ (b || a)
or_swap true true = refl
or_swap true false = refl
or_swap false true = refl
or_swap false false = refl

same_flip : (a s : Bool) → same a (not s) ≡ same (not a) s
same_flip true true = refl
same_flip true false = refl
same_flip false true = refl
same_flip false false = refl

same_assoc : (a b c : Bool) → same a (same b c) ≡ same (same a b) c
same_assoc true b c = refl
same_assoc false true true = refl
same_assoc false true false = refl
same_assoc false false true = refl
same_assoc false false false = refl

both_bools : (a f g : Bool) → (a || same f true) ≡ true → (a || same g true) ≡ true → (a || same (f && g) true) ≡ true
both_bools true f g p q = refl
both_bools false true g p q = q
both_bools false false g p q = p

bools_first : (a f g : Bool) → (a || same (f && g) true) ≡ true → (a || same f true) ≡ true
bools_first true f g p = refl
bools_first false true g p = refl
bools_first false false g p = p

bools_second : (a f g : Bool) → (a || same (f && g) true) ≡ true → (a || same g true) ≡ true
bools_second true f g p = refl
bools_second false true g p = p
bools_second false false g p = absurd (let bad : ⊥ = cc in bad)

not_both_bools : (a k f g : Bool) → ((k || false) || same f false) ≡ true → ((not k || a) || same g false) ≡ true → (a || same (f && g) false) ≡ true
not_both_bools true k f g p q = refl
not_both_bools false k false g p q = refl
not_both_bools false true true g p q = q
not_both_bools false false true g p q = absurd (let bad : ⊥ = cc in bad)

bools_name : (f : Bool) → ((f || false) || same f false) ≡ true
bools_name true = refl
bools_name false = refl

bools_not_both : (a f g : Bool) → (a || same (f && g) false) ≡ true → ((not f || a) || same g false) ≡ true
bools_not_both a false g p = refl
bools_not_both true true g p = refl
bools_not_both false true g p = p

module _ (t : ℕ → Bool) where
  plain_says : (x : Bool) (ls : List Literal) → all_in t (if x then [] else clause_of ls) ≡ (any_in t ls || x)
  plain_says true ls = or_bools (any_in t ls)
  plain_says false ls = clause_true t ls ∙ or_plain (any_in t ls)

  signed_true : (s : Bool) (l : Literal) → literal_in t (signed_as s l) ≡ same (literal_in t l) s
  signed_true true l = sym (same_true (literal_in t l))
  signed_true false l = same_not (t l.atom) l.sign ∙ signed_false (literal_in t l)
    where
      signed_false : (a : Bool) → not a ≡ same a false
      signed_false true = refl
      signed_false false = refl

  literal_says : (ls : List Literal) (l : Literal) (s : Bool) → all_in t (clause_of (ls ++ signed_as s l ∷ [])) ≡ (any_in t ls || same (literal_in t l) s)
  literal_says ls l s =
      clause_true t (ls ++ signed_as s l ∷ [])
      ∙ any_last t ls (signed_as s l)
      ∙ or_swap (literal_in t (signed_as s l)) (any_in t ls)
      ∙ ap (λ x. any_in t ls || x) (signed_true s l)

  same_says : (ls : List Literal) (k l : Literal) (s : Bool) → all_in t (equal_clauses ls k (signed_as s l)) ≡ (any_in t ls || same (same (literal_in t k) (literal_in t l)) s)
  same_says ls k l s =
      equal_true t ls k (signed_as s l)
      ∙ ap (λ x. any_in t ls || same (literal_in t k) x) (signed_true s l)
      ∙ ap (λ x. any_in t ls || x) (same_assoc (literal_in t k) (literal_in t l) s)

  -- a denied literal behind others
  denied_last : (ls : List Literal) (k : Literal) (x : Bool) → (any_in t (ls ++ opposite k ∷ []) || x) ≡ ((not (literal_in t k) || any_in t ls) || x)
  denied_last ls k x =
      ap (λ y. y || x) (any_last t ls (opposite k))
      ∙ ap (λ y. (y || any_in t ls) || x) (same_not (t k.atom) k.sign)

  -- where the clauses are true, so is one of the literals, or the form is worth s
  as_sound : (f : Form) (s : Bool) (ls : List Literal) (n : ℕ) → all_in t (emitted_as s ls f n) ≡ true → (any_in t ls || same (form_true t f) s) ≡ true
  as_sound (Plain b) s ls n e = sym (plain_says (same b s) ls) ∙ e
  as_sound (Is l) s ls n e = sym (literal_says ls l s) ∙ e
  as_sound (NotSo f) s ls n e =
      ap (λ x. any_in t ls || x) (sym (same_flip (form_true t f) s)) ∙ as_sound f (not s) ls n e
  as_sound (Both f g) true ls n e =
      let xs = emitted_as true ls f n in
      let ys = emitted_as true ls g (after_as true f n) in
      both_bools (any_in t ls) (form_true t f) (form_true t g) (as_sound f true ls n (all_first t xs ys e)) (as_sound g true ls (after_as true f n) (all_second t xs ys e))
  as_sound (Both f g) false ls n e =
      let k = name_of f n in
      let m = after_as false f (next_of f n) in
      let xs = emitted_as false (k ∷ []) f (next_of f n) in
      let ys = emitted_as false (ls ++ opposite k ∷ []) g m in
      not_both_bools (any_in t ls) (literal_in t k) (form_true t f) (form_true t g) (as_sound f false (k ∷ []) (next_of f n) (all_first t xs ys e)) (sym (denied_last ls k (same (form_true t g) false)) ∙ as_sound g false (ls ++ opposite k ∷ []) m (all_second t xs ys e))
  as_sound (Same f g) s ls n e =
      let k = name_of f n in
      let l = name_of g (next_of f n) in
      let a = next_of g (next_of f n) in
      let ys = defined k f a in
      let zs = defined l g (after_defined f a) in
      let xs = equal_clauses ls k (signed_as s l) in
      let rest = all_second t xs (ys ++ zs) e in
      ap (λ x. any_in t ls || same x s) (sym (sides t f g k l (defined_sound t f k a (all_first t ys zs rest)) (defined_sound t g l (after_defined f a) (all_second t ys zs rest))))
      ∙ sym (same_says ls k l s)
      ∙ all_first t xs (ys ++ zs) e

  -- where one of the literals is true or the form is worth s, and names are worth what they name, the clauses are true
  as_complete : (f : Form) (s : Bool) (ls : List Literal) (n : ℕ) → Named t n (parts_as s f) → (any_in t ls || same (form_true t f) s) ≡ true → all_in t (emitted_as s ls f n) ≡ true
  as_complete (Plain b) s ls n h e = plain_says (same b s) ls ∙ e
  as_complete (Is l) s ls n h e = literal_says ls l s ∙ e
  as_complete (NotSo f) s ls n h e =
      as_complete f (not s) ls n h (ap (λ x. any_in t ls || x) (same_flip (form_true t f) s) ∙ e)
  as_complete (Both f g) true ls n h e =
      let d = named_append t (parts_as true f) (parts_as true g) n h in
      let rest = subst (λ m. Named t m (parts_as true g)) (as_past f true n) d.1 in
      all_append t (emitted_as true ls f n) (emitted_as true ls g (after_as true f n)) (as_complete f true ls n d.0 (bools_first (any_in t ls) (form_true t f) (form_true t g) e)) (as_complete g true ls (after_as true f n) rest (bools_second (any_in t ls) (form_true t f) (form_true t g) e))
  as_complete (Both f g) false ls n h e =
      let k = name_of f n in
      let m = after_as false f (next_of f n) in
      let o = named_own t f (parts_as false f ++ parts_as false g) n h in
      let d = named_append t (parts_as false f) (parts_as false g) (next_of f n) o.1 in
      let rest = subst (λ j. Named t j (parts_as false g)) (as_past f false (next_of f n)) d.1 in
      let first : ((literal_in t k || false) || same (form_true t f) false) ≡ true =
      ap (λ x. (x || false) || same (form_true t f) false) o.0 ∙ bools_name (form_true t f) in
      let second : (any_in t (ls ++ opposite k ∷ []) || same (form_true t g) false) ≡ true =
      denied_last ls k (same (form_true t g) false)
      ∙ ap (λ x. (not x || any_in t ls) || same (form_true t g) false) o.0
      ∙ bools_not_both (any_in t ls) (form_true t f) (form_true t g) e in
      all_append t (emitted_as false (k ∷ []) f (next_of f n)) (emitted_as false (ls ++ opposite k ∷ []) g m) (as_complete f false (k ∷ []) (next_of f n) d.0 first) (as_complete g false (ls ++ opposite k ∷ []) m rest second)
  as_complete (Same f g) s ls n h e =
      let k = name_of f n in
      let l = name_of g (next_of f n) in
      let a = next_of g (next_of f n) in
      let d = deep_named t f g n h in
      all_append t (equal_clauses ls k (signed_as s l)) (defined k f a ++ defined l g (after_defined f a)) (same_says ls k l s ∙ ap (λ x. any_in t ls || same x s) (sides t f g k l d.0 d.1) ∙ e) (all_append t (defined k f a) (defined l g (after_defined f a)) (defined_complete t f k a d.2 d.0) (defined_complete t g l (after_defined f a) d.3 d.1))

  -- the same where the form is true
  says_true : (ls : List Literal) (f : Form) → (any_in t ls || same (form_true t f) true) ≡ (any_in t ls || form_true t f)
  says_true ls f = ap (λ x. any_in t ls || x) (same_true (form_true t f))

  pub emitted_sound : (f : Form) (ls : List Literal) (n : ℕ) → all_in t (emitted ls f n) ≡ true → (any_in t ls || form_true t f) ≡ true
  emitted_sound f ls n e = sym (says_true ls f) ∙ as_sound f true ls n e

  pub emitted_complete : (f : Form) (ls : List Literal) (n : ℕ) → Named t n (parts f) → (any_in t ls || form_true t f) ≡ true → all_in t (emitted ls f n) ≡ true
  emitted_complete f ls n h e = as_complete f true ls n h (says_true ls f ∙ e)

  -- the same of an atom that implies the form
  pub implied : (a : ℕ) (f : Form) (n : ℕ) → all_in t (emitted (denies a ∷ []) f n) ≡ true → t a ≡ true → form_true t f ≡ true
  implied a f n e q = implies_bools (t a) (form_true t f) (emitted_sound f (denies a ∷ []) n e) q
    where
      implies_bools : (x f : Bool) → ((same x false || false) || f) ≡ true → x ≡ true → f ≡ true
      implies_bools true f e q = e
      implies_bools false f e q = absurd (let bad : ⊥ = cc in bad)

  pub named_implied : (a : ℕ) (f : Form) (n : ℕ) → t a ≡ form_true t f → Named t n (parts f) → all_in t (emitted (denies a ∷ []) f n) ≡ true
  named_implied a f n h k =
      emitted_complete f (denies a ∷ []) n k (rw h (name_bools (form_true t f)))
    where
      name_bools : (x : Bool) → ((same x false || false) || x) ≡ true
      name_bools true = refl
      name_bools false = refl
