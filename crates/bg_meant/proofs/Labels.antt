-- Labels of a body have numbers of their own, since no label stands twice.
use Rattle.std.proofs.Common.{◌≡◌, ℕ, ◌+◌, Bool, true, false, List, [], ◌∷◌, ◌++◌, map, Some, if◌then◌else◌, refl, sym, ap, ◌∙◌, subst, append_assoc, suc, inl, inr}
use Rattle.std.specs.Prelude.{not, ◌||◌, slice_get}
use Rattle.std.specs.List.{list_any}
use Rattle.std.specs.Str.{bytes_eq}
use Rattle.std.proofs.lemmas.List.{map-append}
use Rattle.std.proofs.lemmas.Slice.Eq.{bytes_eq-Decides}
use Rattle.bg_text.specs.Trees as t
use Rattle.bg_text.specs.Types.{All as Each}
use Rattle.bg_ast.specs.Syntax as s
use Rattle.bg_ast.specs.Meaning.{st_of, sts_of, arms_of}
use Rattle.bg_names.specs.Faults.{Fault, unless}
use Rattle.bg_names.specs.Spaces.{has_name, with_name, names_of, repeats, place, or_zero}
use Rattle.bg_names.specs.Inside.{Inside, entered}
use Rattle.bg_bodies.specs.Bodies.{label_number, before_next, arm_count, arms_count, st_count, sts_count, st_labels, sts_labels, arms_labels, named_st, named_sts, named_arms}
use Rattle.bg_spaces.specs.Declarations.{text_of}
use Rattle.bg_sense.specs.Resolved.{AreDifferent, labels_in}
use Rattle.bg_sense.proofs.Members.{In, member}
use Rattle.bg_named.proofs.SpacesOnce.{empty_parts, names_are}
use Rattle.bg_named.proofs.SpacesPlaces.{place_is, has_place}
use Rattle.bg_named.proofs.ProgramsEach.{IsIn}

-- ---- the labels of a body are its names' numbers

mutual
  st_labels_are : (b : Inside) (n loop : ℕ) (blocks : List (ℕ × ℕ)) (before : List ℕ) (a : t.St) → labels_in (st_of (named_st b n loop blocks before a)) ≡ map (label_number b) (st_labels a)
  st_labels_are b n loop blocks before (t.Label y) = refl
  st_labels_are b n loop blocks before (t.Assert k) = refl
  st_labels_are b n loop blocks before (t.Assume k) = refl
  st_labels_are b n loop blocks before (t.Havoc p xs) = refl
  st_labels_are b n loop blocks before (t.Assign p ts es) = refl
  st_labels_are b n loop blocks before (t.Invoke c) = refl
  st_labels_are b n loop blocks before (t.If p arms) =
      arms_labels_are b n (n + arm_count arms) loop (entered before n blocks) arms s.Skip [] refl
      ∙ whole (map (label_number b) (arms_labels arms))
    where
      whole : (xs : List ℕ) → xs ++ [] ≡ xs
      whole [] = refl
      whole (x ∷ xs) = ap (λ (l : List ℕ). x ∷ l) (whole xs)
  st_labels_are b n loop blocks before (t.IfElse p arms ss) =
      let k = n + arm_count arms + arms_count arms in
      let other = sts_of (named_sts b k loop (entered before n blocks) [] ss) in
      arms_labels_are b n (n + arm_count arms) loop (entered before n blocks) arms other (map (label_number b) (sts_labels ss)) (sts_labels_are b k loop (entered before n blocks) [] ss)
      ∙ sym (map-append (label_number b) (arms_labels arms) (sts_labels ss))
  st_labels_are b n loop blocks before (t.While p g is ss) = sts_labels_are b _ n (entered before n blocks) [] ss
  st_labels_are b n loop blocks before (t.Break p y) = refl
  st_labels_are b n loop blocks before (t.Goto p xs) = refl
  st_labels_are b n loop blocks before (t.Return p) = refl

  sts_labels_are : (b : Inside) (n loop : ℕ) (blocks : List (ℕ × ℕ)) (before : List ℕ) (ss : t.Sts) → labels_in (sts_of (named_sts b n loop blocks before ss)) ≡ map (label_number b) (sts_labels ss)
  sts_labels_are b n loop blocks before t.NoSt = refl
  sts_labels_are b n loop blocks before (t.Then a ss) =
      ap (λ (l : List ℕ). l ++ labels_in (sts_of (named_sts b (n + st_count a) loop blocks (before_next b before a) ss))) (st_labels_are b n loop blocks before a)
      ∙ ap (λ (l : List ℕ). map (label_number b) (st_labels a) ++ l) (sts_labels_are b (n + st_count a) loop blocks (before_next b before a) ss)
      ∙ sym (map-append (label_number b) (st_labels a) (sts_labels ss))

  arms_labels_are : (b : Inside) (m n loop : ℕ) (blocks : List (ℕ × ℕ)) (arms : t.Arms) (other : s.St) (ls : List ℕ) → labels_in other ≡ ls → labels_in (arms_of m (named_arms b n loop blocks arms) other) ≡ map (label_number b) (arms_labels arms) ++ ls
  arms_labels_are b m n loop blocks t.NoArm other ls e = e
  arms_labels_are b m n loop blocks (t.Arm g ss arms) other ls e =
      let rest = arms_labels_are b (suc m) (n + sts_count ss) loop blocks arms other ls e in
      ap (λ (l : List ℕ). l ++ labels_in (arms_of (suc m) (named_arms b (n + sts_count ss) loop blocks arms) other)) (sts_labels_are b n loop blocks [] ss)
      ∙ ap (λ (l : List ℕ). map (label_number b) (sts_labels ss) ++ l) rest
      ∙ sym (append_assoc (map (label_number b) (sts_labels ss)) (map (label_number b) (arms_labels arms)) ls)
      ∙ ap (λ (l : List ℕ). l ++ ls) (sym (map-append (label_number b) (sts_labels ss) (arms_labels arms)))

-- ---- names that stand once have numbers of their own

is_fresh : (b : Bool) (f : Fault) → unless (not b) f ≡ [] → b ≡ false
is_fresh false f h = refl
is_fresh true f h = absurd (let bad : f ∷ [] ≡ [] = h in cc)

or_left : (a b : Bool) → a ≡ true → (a || b) ≡ true
or_left true b h = refl
or_left false b h = absurd (let bad : false ≡ true = h in cc)

or_right : (a b : Bool) → b ≡ true → (a || b) ≡ true
or_right true b h = refl
or_right false b h = h

any_front : (p : List ℕ → Bool) (xs ys : List (List ℕ)) → list_any p xs ≡ true → list_any p (xs ++ ys) ≡ true
any_front p [] ys h = absurd (let bad : false ≡ true = h in cc)
any_front p (x ∷ xs) ys h = by (p x) h (any_front p xs ys)
  where
    by : (b : Bool) → (b || list_any p xs) ≡ true → (list_any p xs ≡ true → list_any p (xs ++ ys) ≡ true) → (b || list_any p (xs ++ ys)) ≡ true
    by true e f = refl
    by false e f = f e

any_last : (p : List ℕ → Bool) (xs : List (List ℕ)) (y : List ℕ) → p y ≡ true → list_any p (xs ++ y ∷ []) ≡ true
any_last p [] y h = or_left (p y) false h
any_last p (x ∷ xs) y h = or_right (p x) (list_any p (xs ++ y ∷ [])) (any_last p xs y h)

kept_name : (names : List (List ℕ)) (y x : List ℕ) → has_name names x ≡ true → has_name (with_name names y) x ≡ true
unfolding with_name
kept_name names y x h = by (has_name names y)
  where
    by : (b : Bool) → has_name (if b then names else names ++ y ∷ []) x ≡ true
    by true = h
    by false = any_front (bytes_eq x) names (y ∷ []) h

own_name : (names : List (List ℕ)) (x : List ℕ) → has_name (with_name names x) x ≡ true
unfolding with_name
own_name names x = by (has_name names x) refl
  where
    by : (b : Bool) → has_name names x ≡ b → has_name (if b then names else names ++ x ∷ []) x ≡ true
    by true e = e
    by false e = any_last (bytes_eq x) names x ((bytes_eq-Decides x x).1 refl)

no_again : (names : List (List ℕ)) (xs : List t.Id) (x : List ℕ) → repeats names xs ≡ [] → has_name names x ≡ true → In (map text_of xs) x → ⊥
no_again names [] x h n i = i
no_again names (y ∷ ys) x h n (inl e) =
    let parts = empty_parts (unless (not (has_name names y.text)) _) (repeats (with_name names y.text) ys) h in
    let fresh = is_fresh (has_name names y.text) _ parts.0 in
    let bad : true ≡ false = sym n ∙ ap (has_name names) (sym e) ∙ fresh in
    cc
no_again names (y ∷ ys) x h n (inr i) =
    let parts = empty_parts (unless (not (has_name names y.text)) _) (repeats (with_name names y.text) ys) h in
    no_again (with_name names y.text) ys x parts.1 (kept_name names y.text x n) i

abbrev number : List (List ℕ) → t.Id → ℕ
number names x = or_zero (place names x.text)

some_text : {x y : List ℕ} → Some x ≡ Some y → x ≡ y
some_text e = cc

same_text : (names : List (List ℕ)) (x y : List ℕ) → has_name names x ≡ true → has_name names y ≡ true → or_zero (place names y) ≡ or_zero (place names x) → y ≡ x
same_text names x y h k e =
    let a = has_place names x h in
    let b = has_place names y k in
    let same : b.0 ≡ a.0 = ap or_zero (sym b.1) ∙ (e ∙ ap or_zero a.1) in
    let at_x = (place_is names x a.0 a.1).is_there in
    let at_y = (place_is names y b.0 b.1).is_there in
    let both : Some y ≡ Some x = sym at_y ∙ (ap (slice_get names) same ∙ at_x) in
    some_text both

clash : (names : List (List ℕ)) (x : t.Id) (xs : List t.Id) → IsIn names x → Each (IsIn names) xs → In (map (number names) xs) (number names x) → In (map text_of xs) x.text
clash names x [] h k i = i
clash names x (y ∷ ys) h k (inl e) = inl (same_text names x.text y.text h k.0 e)
clash names x (y ∷ ys) h k (inr i) = inr (clash names x ys h k.1 i)

pub numbers_differ : (names seen : List (List ℕ)) (xs : List t.Id) → Each (IsIn names) xs → repeats seen xs ≡ [] → AreDifferent (map (number names) xs)
numbers_differ names seen [] k h = tt
numbers_differ names seen (x ∷ xs) k h =
    let parts = empty_parts (unless (not (has_name seen x.text)) _) (repeats (with_name seen x.text) xs) h in
    ((λ c. no_again (with_name seen x.text) xs x.text parts.1 (own_name seen x.text) (clash names x xs k.0 k.1 (member (map (number names) xs) (number names x) c))), numbers_differ names (with_name seen x.text) xs k.1 parts.1)

pub labels_are : (b : Inside) (n : ℕ) (ss : t.Sts) → labels_in (sts_of (named_sts b n 0 [] [] ss)) ≡ map (label_number b) (sts_labels ss)
labels_are b n ss = sts_labels_are b n 0 [] [] ss

or_in : (x : List ℕ) (a : List ℕ) (names : List (List ℕ)) → has_name names x ≡ true → has_name (a ∷ names) x ≡ true
or_in x a names h = or_right (bytes_eq x a) (has_name names x) h

own_names : (xs : List t.Id) → Each (IsIn (map text_of xs)) xs
own_names [] = tt
own_names (x ∷ xs) = (or_left (bytes_eq x.text x.text) (list_any (bytes_eq x.text) (map text_of xs)) ((bytes_eq-Decides x.text x.text).1 refl), more xs (own_names xs))
  where
    more : (ys : List t.Id) → Each (IsIn (map text_of xs)) ys → Each (IsIn (x.text ∷ map text_of xs)) ys
    more [] h = tt
    more (y ∷ ys) h = (or_in y.text x.text (map text_of xs) h.0, more ys h.1)

-- labels that stand once have numbers of their own
pub own_labels : (xs : List t.Id) → repeats [] xs ≡ [] → AreDifferent (map (number (names_of xs)) xs)
own_labels xs h =
    numbers_differ (names_of xs) [] xs (subst (λ (l : List (List ℕ)). Each (IsIn l) xs) (sym (names_are xs h)) (own_names xs)) h
