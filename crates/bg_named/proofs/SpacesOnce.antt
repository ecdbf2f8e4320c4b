-- Names that are declared once: each space has the names of the declarations, in order.
use Rattle.std.proofs.Common.{◌≡◌, ℕ, ◌+◌, ◌≤◌, Bool, true, false, List, [], ◌∷◌, ◌++◌, map, length, refl, sym, ap, ◌∙◌, arith, append_assoc, append-nil, length-append, if◌then◌else◌}
use Rattle.std.specs.Prelude.{not}
use Rattle.bg_text.specs.Trees as t
use Rattle.bg_names.specs.Faults.{Fault, unless}
use Rattle.bg_names.specs.Spaces.{has_name, with_name, with_names, names_of, repeats}
use Rattle.bg_names.specs.declared.scope.Meaning.{Meaning}
use Rattle.bg_spaces.specs.Declarations.{Entry, entry_id, if_new, meanings_from, text_of}
use Rattle.bg_resolve.specs.Calls.{fun_id, if_first, once}

-- what an entry says that its name is
abbrev pub entry_meaning : Entry → Meaning
entry_meaning e = e.1

pub empty_parts : {A : Type 0} (xs ys : List A) → xs ++ ys ≡ [] → (xs ≡ []) × (ys ≡ [])
empty_parts [] ys h = (refl, h)
empty_parts (x ∷ xs) ys h = absurd (let bad : x ∷ (xs ++ ys) ≡ [] = h in cc)

-- a test that notes no fault holds
pub passed : (b : Bool) (f : Fault) → unless b f ≡ [] → b ≡ true
passed true f h = refl
passed false f h = absurd (let bad : f ∷ [] ≡ [] = h in cc)

is_fresh : (b : Bool) (f : Fault) → unless (not b) f ≡ [] → b ≡ false
is_fresh false f h = refl
is_fresh true f h = absurd (let bad : f ∷ [] ≡ [] = h in cc)

with_fresh : (names : List (List ℕ)) (x : List ℕ) → has_name names x ≡ false → with_name names x ≡ names ++ x ∷ []
unfolding with_name
with_fresh names x h = ap (λ (b : Bool). if b then names else names ++ x ∷ []) h

pub names_once : (names : List (List ℕ)) (xs : List t.Id) → repeats names xs ≡ [] → with_names names xs ≡ names ++ map text_of xs
names_once names [] h = sym (append-nil names)
names_once names (x ∷ xs) h =
    let parts = empty_parts (unless (not (has_name names x.text)) _) (repeats (with_name names x.text) xs) h in
    let new = with_fresh names x.text (is_fresh (has_name names x.text) _ parts.0) in
    names_once (with_name names x.text) xs parts.1
    ∙ (ap (λ (l : List (List ℕ)). l ++ map text_of xs) new ∙ append_assoc names (x.text ∷ []) (map text_of xs))

pub names_are : (xs : List t.Id) → repeats [] xs ≡ [] → names_of xs ≡ map text_of xs
names_are xs h = names_once [] xs h

pub meanings_once : (names : List (List ℕ)) (es : List Entry) → repeats names (map entry_id es) ≡ [] → meanings_from names es ≡ map entry_meaning es
meanings_once names [] h = refl
meanings_once names (e ∷ es) h =
    let parts = empty_parts (unless (not (has_name names e.0.text)) _) (repeats (with_name names e.0.text) (map entry_id es)) h in
    let new = is_fresh (has_name names e.0.text) _ parts.0 in
    ap (λ (b : Bool). if_new b e.1 ++ meanings_from (with_name names e.0.text) es) new
    ∙ ap (λ (l : List Meaning). e.1 ∷ l) (meanings_once (with_name names e.0.text) es parts.1)

pub functions_once : (names : List (List ℕ)) (fs : List t.Fun) → repeats names (map fun_id fs) ≡ [] → once names fs ≡ fs
functions_once names [] h = refl
functions_once names (f ∷ fs) h =
    let parts = empty_parts (unless (not (has_name names f.name.text)) _) (repeats (with_name names f.name.text) (map fun_id fs)) h in
    let new = is_fresh (has_name names f.name.text) _ parts.0 in
    ap (λ (b : Bool). if_first b f ++ once (with_name names f.name.text) fs) new
    ∙ ap (λ (l : List t.Fun). f ∷ l) (functions_once (with_name names f.name.text) fs parts.1)

-- the first of names that are declared once are declared once
pub repeats_front : (names : List (List ℕ)) (xs ys : List t.Id) → repeats names (xs ++ ys) ≡ [] → repeats names xs ≡ []
repeats_front names [] ys h = refl
repeats_front names (x ∷ xs) ys h =
    let parts = empty_parts (unless (not (has_name names x.text)) _) (repeats (with_name names x.text) (xs ++ ys)) h in
    ap (λ (l : List Fault). l ++ repeats (with_name names x.text) xs) parts.0 ∙ repeats_front (with_name names x.text) xs ys parts.1

one_more : (names : List (List ℕ)) (x : List ℕ) → length (with_name names x) ≤ length names + 1
unfolding with_name
one_more names x = by (has_name names x)
  where
    by : (b : Bool) → length (if b then names else names ++ x ∷ []) ≤ length names + 1
    by true = omega arith
    by false = let long = length-append names (x ∷ []) in omega (arith, long)

-- each name counts at most once
pub names_short : (names : List (List ℕ)) (xs : List t.Id) → length (with_names names xs) ≤ length names + length xs
names_short names [] = omega arith
names_short names (x ∷ xs) =
    let one = one_more names x.text in
    let rest = names_short (with_name names x.text) xs in
    omega (arith, one, rest)
