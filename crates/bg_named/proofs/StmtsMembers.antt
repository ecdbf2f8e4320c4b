-- Members of lists that are made of others.
use Rattle.std.proofs.Common.{◌≡◌, ℕ, zero, suc, ◌+◌, ◌<◌, ◌≤◌, Bool, true, false, List, [], ◌∷◌, map, Some, None, cond, refl, sym, ap, ◌∙◌, arith, inl, inr}
use Rattle.std.specs.Prelude.{◌⊎◌, ◌||◌, ◌==◌, nat_eq, filter, find, flat_map, All}
use Rattle.std.proofs.lemmas.Bool.{eqb-true, eq-eqb}
use Rattle.std.proofs.lemmas.List.Elements.{All-nil, All-cons}
use Rattle.bg_ast.specs.Syntax.{Global}
use Rattle.bg_sense.specs.Variables.{is_among, count_from}
use Rattle.bg_sense.proofs.Members.{In}
use Rattle.bg_names.specs.Faults.{Fault}
use Rattle.bg_names.specs.Inside.{has_number}
use Rattle.bg_named.proofs.ExprsBits.{never, nothing, split_nil}

pub all_in : {A : Type 0} (P : A → Type 0) (xs : List A) → ((x : A) → In xs x → P x) → All P xs
all_in P [] f = All-nil P
all_in P (x ∷ xs) f = All-cons P x xs (f x (inl refl)) (all_in P xs (λ y i. f y (inr i)))

pub in_map : {A B : Type 0} (f : A → B) (xs : List A) (x : A) → In xs x → In (map f xs) (f x)
in_map f [] x h = h
in_map f (y ∷ ys) x (inl e) = inl (ap f e)
in_map f (y ∷ ys) x (inr h) = inr (in_map f ys x h)

-- a member of a mapped list is what one of the list is mapped to
pub in_mapped : {A B : Type 0} (f : A → B) (xs : List A) (y : B) → In (map f xs) y → (x : A) × (f x ≡ y) × In xs x
in_mapped f [] y h = absurd h
in_mapped f (x ∷ xs) y (inl e) = (x, e, inl refl)
in_mapped f (x ∷ xs) y (inr h) = let r = in_mapped f xs y h in (r.0, r.1, inr r.2)

pub in_filter : {A : Type 0} (p : A → Bool) (xs : List A) (x : A) → In xs x → p x ≡ true → In (filter p xs) x
in_filter p [] x h e = h
in_filter {A} p (y ∷ ys) x h e = by (p y) refl h (λ i. in_filter p ys x i e)
  where
    by : (b : Bool) → p y ≡ b → (y ≡ x) ⊎ In ys x → (In ys x → In (filter p ys) x) → In (cond b (y ∷ filter p ys) (filter p ys)) x
    by true q (inl s) f = inl s
    by true q (inr i) f = inr (f i)
    by false q (inl s) f = never (sym q ∙ (ap p s ∙ e))
    by false q (inr i) f = f i

pub in_filtered : {A : Type 0} (p : A → Bool) (xs : List A) (x : A) → In (filter p xs) x → In xs x × (p x ≡ true)
in_filtered p [] x h = absurd h
in_filtered {A} p (y ∷ ys) x h = by (p y) refl h (in_filtered p ys x)
  where
    by : (b : Bool) → p y ≡ b → In (cond b (y ∷ filter p ys) (filter p ys)) x → (In (filter p ys) x → In ys x × (p x ≡ true)) → ((y ≡ x) ⊎ In ys x) × (p x ≡ true)
    by true q (inl s) f = (inl s, ap p (sym s) ∙ q)
    by true q (inr i) f = let r = f i in (inr r.0, r.1)
    by false q i f = let r = f i in (inr r.0, r.1)

pub in_counted : (k from n : ℕ) → from ≤ k → k < from + n → In (count_from from n) k
in_counted k from zero h l = absurd (omega arith)
in_counted k from (suc n) h l = by (from == k) refl (in_counted k (suc from) n)
  where
    by : (b : Bool) → (from == k) ≡ b → (suc from ≤ k → k < suc from + n → In (count_from (suc from) n) k) → (from ≡ k) ⊎ In (count_from (suc from) n) k
    by true e f = inl (eqb-true from k e)
    by false e f = let apart : (from ≡ k → ⊥) = λ s. never (sym e ∙ eq-eqb from k s) in inr (f (omega arith) (omega arith))

pub counted_below : (k from n : ℕ) → In (count_from from n) k → k < from + n
counted_below k from zero h = absurd h
counted_below k from (suc n) (inl e) = omega (arith, e)
counted_below k from (suc n) (inr h) = let r = counted_below k (suc from) n h in omega (arith, r)

pub in_numbers : (ks : List ℕ) (k : ℕ) → has_number ks k ≡ true → In ks k
in_numbers [] k h = never h
in_numbers (x ∷ xs) k h = by (nat_eq k x) refl h (in_numbers xs k)
  where
    by : (b : Bool) → nat_eq k x ≡ b → (b || has_number xs k) ≡ true → (has_number xs k ≡ true → In xs k) → (x ≡ k) ⊎ In xs k
    by true e h f = inl (sym (eqb-true k x e))
    by false e h f = inr (f h)

pub or_right : (a b : Bool) → b ≡ true → (a || b) ≡ true
or_right true b h = refl
or_right false b h = h

pub or_left : (a b : Bool) → a ≡ true → (a || b) ≡ true
or_left true b h = refl
or_left false b h = never h

pub among_globals : (ks : List ℕ) (k : ℕ) → In ks k → is_among (map Global ks) (Global k) ≡ true
among_globals [] k h = absurd h
among_globals (x ∷ xs) k (inl e) = or_left (x == k) (is_among (map Global xs) (Global k)) (eq-eqb x k e)
among_globals (x ∷ xs) k (inr h) = or_right (x == k) (is_among (map Global xs) (Global k)) (among_globals xs k h)

pub in_globals : (ks : List ℕ) (k : ℕ) → is_among (map Global ks) (Global k) ≡ true → In ks k
in_globals [] k h = never h
in_globals (x ∷ xs) k h = by (x == k) refl h (in_globals xs k)
  where
    by : (b : Bool) → (x == k) ≡ b → (b || is_among (map Global xs) (Global k)) ≡ true → (is_among (map Global xs) (Global k) ≡ true → In xs k) → (x ≡ k) ⊎ In xs k
    by true e h f = inl (eqb-true x k e)
    by false e h f = inr (f h)

-- where nothing is found, nothing passes
pub none_passes : (p : ℕ → Bool) (ks : List ℕ) → find p ks ≡ None → (k : ℕ) → In ks k → p k ≡ false
none_passes p [] h k i = absurd i
none_passes p (x ∷ xs) h k i = by (p x) refl h i (λ n. none_passes p xs n k)
  where
    by : (b : Bool) → p x ≡ b → cond b (Some x) (find p xs) ≡ None → (x ≡ k) ⊎ In xs k → (find p xs ≡ None → In xs k → p k ≡ false) → p k ≡ false
    by true q h i f = nothing x (sym h)
    by false q h (inl s) f = ap p (sym s) ∙ q
    by false q h (inr j) f = f h j

-- where all together have no fault, none has one
pub each_nil : {A : Type 0} (f : A → List Fault) (xs : List A) → flat_map f xs ≡ [] → (x : A) → In xs x → f x ≡ []
each_nil f [] h x i = absurd i
each_nil f (y ∷ ys) h x (inl e) = ap f (sym e) ∙ (split_nil (f y) (flat_map f ys) h).0
each_nil f (y ∷ ys) h x (inr i) = each_nil f ys (split_nil (f y) (flat_map f ys) h).1 x i
