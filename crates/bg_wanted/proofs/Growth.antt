-- One line more.
use Rattle.std.proofs.Common.{◌≡◌, ℕ, ◌+◌, ◌≤◌, Bool, true, false, List, [], ◌∷◌, ◌++◌, length, map, Option, Some, None, refl, sym, ap, ◌∙◌, append_assoc, arith}
use Rattle.std.specs.Prelude.{slice_get, ◌||◌, ◌==◌}
use Rattle.std.proofs.lemmas.Bool.{eq-eqb}
use Rattle.bg_ast.specs.Values.{Ty, KeyType, IntTy, BoolTy, UserTy, MapTy}
use Rattle.bg_sense.specs.Types.{key_types_eq}
use Rattle.bg_sense.proofs.Bools.{and_left, and_right, both}
use Rattle.bg_terms.specs.Terms.{Head, Applies, Selects, Updates, Differs, Term}
use Rattle.bg_terms.specs.Typed.{type_of, types_with}
use Rattle.bg_terms.specs.Instances.{Instance, Congruent, AtIndex, Elsewhere, Apart}
use Rattle.bg_terms.proofs.Typed.{at_front}
use Rattle.bg_numbered.specs.Lines.{Line, if_fits, pick_at, pick_by, picked, after_line, after_lines, said_by, instances_in, is_any, is_there, are_there}
use Rattle.bg_numbered.proofs.Lines.{lines_grow}
use Rattle.bg_wanted.specs.Wanting.{Each, is_argument, is_in, names, are_naming}

-- ---- lines

pub after_more : (incs : List Ty) (ts : List Term) (ls : List Line) (l : Line) → after_lines incs ts (ls ++ l ∷ []) ≡ after_line incs (after_lines incs ts ls) l
after_more incs ts [] l = refl
after_more incs ts (k ∷ ls) l = after_more incs (after_line incs ts k) ls l

pub there_more : (incs : List Ty) (ts : List Term) (ls : List Line) (l : Line) → are_there incs ts ls ≡ true → is_there incs (after_lines incs ts ls) l ≡ true → are_there incs ts (ls ++ l ∷ []) ≡ true
there_more incs ts [] l h k = both (is_there incs ts l) true k refl
there_more incs ts (j ∷ ls) l h k =
    both (is_there incs ts j) (are_there incs (after_line incs ts j) (ls ++ l ∷ [])) (and_left (is_there incs ts j) (are_there incs (after_line incs ts j) ls) h)
    (there_more incs (after_line incs ts j) ls l (and_right (is_there incs ts j) (are_there incs (after_line incs ts j) ls) h) k)

none_behind : {A : Type 0} (xs : List A) → xs ++ [] ≡ xs
none_behind [] = refl
none_behind (x ∷ xs) = ap (λ l. x ∷ l) (none_behind xs)

pub instances_more : (ls : List Line) (l : Line) → instances_in (ls ++ l ∷ []) ≡ instances_in ls ++ said_by l
instances_more [] l = none_behind (said_by l)
instances_more (k ∷ ls) l =
    ap (λ es. said_by k ++ es) (instances_more ls l) ∙ sym (append_assoc (said_by k) (instances_in ls) (said_by l))

pub each_more : {A : Type 0} (P : A → Type 0) (xs ys : List A) → Each P xs → Each P ys → Each P (xs ++ ys)
each_more P [] ys h k = k
each_more P (x ∷ xs) ys h k = (h.0, each_more P xs ys h.1 k)

-- ---- picks

one_fits : (b : Bool) (t : Term) → is_any (if_fits b t) ≡ true → length (if_fits b t) ≡ 1
one_fits true t h = refl
one_fits false t h = absurd (let bad : ⊥ = cc in bad)

one_at : (ks : List KeyType) (t : Ty) (m : ℕ) (h : Head) (xs : _) → is_any (pick_at ks t m h xs) ≡ true → length (pick_at ks t m h xs) ≡ 1
one_at ks t m (Applies f) xs h = absurd (let bad : ⊥ = cc in bad)
one_at ks t m (Selects ls u) xs h = one_fits (key_types_eq ks ls) _ h
one_at ks t m (Updates ls u) xs h = one_fits (key_types_eq ks ls) _ h
one_at ks t m (Differs ls u j) xs h = absurd (let bad : ⊥ = cc in bad)

-- a pick that fits brings one term
one_by : (o : Option Ty) (m : ℕ) (a : Option Term) → is_any (pick_by o m a) ≡ true → length (pick_by o m a) ≡ 1
one_by None m a h = absurd (let bad : ⊥ = cc in bad)
one_by (Some IntTy) m a h = absurd (let bad : ⊥ = cc in bad)
one_by (Some BoolTy) m a h = absurd (let bad : ⊥ = cc in bad)
one_by (Some (UserTy u)) m a h = absurd (let bad : ⊥ = cc in bad)
one_by (Some (MapTy [] t)) m a h = absurd (let bad : ⊥ = cc in bad)
one_by (Some (MapTy (k ∷ ks) t)) m None h = absurd (let bad : ⊥ = cc in bad)
one_by (Some (MapTy (k ∷ ks) t)) m (Some a) h = one_at (k ∷ ks) t m a.head a.args h

pub one_picked : (incs : List Ty) (ts : List Term) (m a : ℕ) → is_any (picked incs ts m a) ≡ true → length (picked incs ts m a) ≡ 1
one_picked incs ts m a h = one_by (slice_get (types_with incs ts) m) m (slice_get ts a) h

map_behind : {A B : Type 0} (f : A → B) (xs ys : List A) → map f (xs ++ ys) ≡ map f xs ++ map f ys
map_behind f [] ys = refl
map_behind f (x ∷ xs) ys = ap (λ l. f x ∷ l) (map_behind f xs ys)

types_behind : (incs : List Ty) (ts us : List Term) → types_with incs (ts ++ us) ≡ types_with incs ts ++ map type_of us
types_behind incs ts us =
    ap (λ l. incs ++ l) (map_behind type_of ts us) ∙ sym (append_assoc incs (map type_of ts) (map type_of us))

-- what fits over terms fits over more of them, and brings the same
pub picked_on : (incs : List Ty) (ts us : List Term) (m a : ℕ) → is_any (picked incs ts m a) ≡ true → picked incs (ts ++ us) m a ≡ picked incs ts m a
picked_on incs ts us m a h = on (slice_get (types_with incs ts) m) refl (slice_get ts a) refl h
  where
    on : (o : Option Ty) → slice_get (types_with incs ts) m ≡ o → (b : Option Term) → slice_get ts a ≡ b → is_any (pick_by o m b) ≡ true → picked incs (ts ++ us) m a ≡ picked incs ts m a
    on None e b f h = absurd (let bad : ⊥ = cc in bad)
    on (Some IntTy) e b f h = absurd (let bad : ⊥ = cc in bad)
    on (Some BoolTy) e b f h = absurd (let bad : ⊥ = cc in bad)
    on (Some (UserTy u)) e b f h = absurd (let bad : ⊥ = cc in bad)
    on (Some (MapTy [] t)) e b f h = absurd (let bad : ⊥ = cc in bad)
    on (Some (MapTy (k ∷ ks) t)) e None f h = absurd (let bad : ⊥ = cc in bad)
    on (Some (MapTy (k ∷ ks) t)) e (Some x) f h =
        let types : slice_get (types_with incs (ts ++ us)) m ≡ Some (MapTy (k ∷ ks) t) = ap (λ l. slice_get l m) (types_behind incs ts us) ∙ at_front (types_with incs ts) (map type_of us) m (MapTy (k ∷ ks) t) e in
        ap (λ o. pick_by o m (slice_get (ts ++ us) a)) types
        ∙ (ap (pick_by (Some (MapTy (k ∷ ks) t)) m) (at_front ts us a x f)
        ∙ sym (ap (λ o. pick_by o m (slice_get ts a)) e ∙ ap (pick_by (Some (MapTy (k ∷ ks) t)) m) f))

pub fits_on : (incs : List Ty) (ts : List Term) (ls : List Line) (m a : ℕ) → is_any (picked incs ts m a) ≡ true → picked incs (after_lines incs ts ls) m a ≡ picked incs ts m a
fits_on incs ts ls m a h =
    let g = lines_grow incs ts ls in
    ap (λ us. picked incs us m a) g.1 ∙ picked_on incs ts g.0 m a h

pub length_behind : {A : Type 0} (xs ys : List A) → length (xs ++ ys) ≡ length xs + length ys
length_behind [] ys = let q : length ys ≡ 0 + length ys = omega arith in q
length_behind (x ∷ xs) ys = let e = length_behind xs ys in omega (arith, e)

pub grown_length : (incs : List Ty) (ts : List Term) (ls : List Line) → length ts ≤ length (after_lines incs ts ls)
grown_length incs ts ls =
    let g = lines_grow incs ts ls in
    let e = ap length g.1 ∙ length_behind ts g.0 in
    omega (arith, e)

-- ---- names

or_left : (a b : Bool) → a ≡ true → (a || b) ≡ true
or_left true b h = refl
or_left false b h = absurd (let bad : ⊥ = cc in bad)

pub or_right : (a b : Bool) → b ≡ true → (a || b) ≡ true
or_right true b h = refl
or_right false b h = h

or_on : (a b c d : Bool) → (a ≡ true → c ≡ true) → (b ≡ true → d ≡ true) → (a || b) ≡ true → (c || d) ≡ true
or_on true b c d f g h = or_left c d (f refl)
or_on false b c d f g h = or_right c d (g h)

argument_on : (j b : ℕ) (us vs : List Term) → is_argument j (slice_get us b) ≡ true → is_argument j (slice_get (us ++ vs) b) ≡ true
argument_on j b us vs h = on (slice_get us b) refl h
  where
    on : (o : Option Term) → slice_get us b ≡ o → is_argument j o ≡ true → is_argument j (slice_get (us ++ vs) b) ≡ true
    on None e k = absurd (let bad : ⊥ = cc in bad)
    on (Some t) e k = ap (is_argument j) (at_front us vs b t e) ∙ k

module _ (n : ℕ) (us vs : List Term) (a : ℕ) where
  in_on : (b : ℕ) → is_in n us a b ≡ true → is_in n (us ++ vs) a b ≡ true
  in_on b h =
      or_on (a == b) (is_argument (n + a) (slice_get us b)) (a == b) (is_argument (n + a) (slice_get (us ++ vs) b)) (λ k. k) (argument_on (n + a) b us vs) h

  two_on : (b c : ℕ) → (is_in n us a b || is_in n us a c) ≡ true → (is_in n (us ++ vs) a b || is_in n (us ++ vs) a c) ≡ true
  two_on b c h =
      or_on (is_in n us a b) (is_in n us a c) (is_in n (us ++ vs) a b) (is_in n (us ++ vs) a c) (in_on b) (in_on c) h

  names_on : (e : Instance) → names n us a e ≡ true → names n (us ++ vs) a e ≡ true
  names_on (Congruent b c) h = two_on b c h
  names_on (AtIndex u s) h = two_on u s h
  names_on (Elsewhere u s r) h =
      or_on (is_in n us a u) (is_in n us a s || is_in n us a r) (is_in n (us ++ vs) a u) (is_in n (us ++ vs) a s || is_in n (us ++ vs) a r) (in_on u) (two_on s r) h
  names_on (Apart s r) h = two_on s r h

  -- what is named stays so
  pub naming_on : (es fs : List Instance) → are_naming n us a es ≡ true → are_naming n (us ++ vs) a (es ++ fs) ≡ true
  naming_on [] fs h = absurd (let bad : ⊥ = cc in bad)
  naming_on (e ∷ es) fs h =
      or_on (names n us a e) (are_naming n us a es) (names n (us ++ vs) a e) (are_naming n (us ++ vs) a (es ++ fs)) (names_on e) (naming_on es fs) h

-- and so is what a last instance names
pub named_last : (n : ℕ) (us : List Term) (a : ℕ) (es : List Instance) (e : Instance) → names n us a e ≡ true → are_naming n us a (es ++ e ∷ []) ≡ true
named_last n us a [] e h = or_left (names n us a e) false h
named_last n us a (d ∷ es) e h =
    or_right (names n us a d) (are_naming n us a (es ++ e ∷ [])) (named_last n us a es e h)

pub its_own : (n : ℕ) (us : List Term) (a b : ℕ) → a ≡ b → is_in n us a b ≡ true
its_own n us a b e = or_left (a == b) (is_argument (n + a) (slice_get us b)) (eq-eqb a b e)
