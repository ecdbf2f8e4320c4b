-- What is found by a key is what a walk over the terms finds.
use Rattle.std.proofs.Common.{◌≡◌, ◌≤◌, ℕ, zero, suc, ◌+◌, Bool, true, false, List, [], ◌∷◌, ◌++◌, length, Option, Some, None, Vec, Global, cond, refl, sym, ap, ◌∙◌, subst, arith}
use Rattle.std.specs.Prelude.{◌&&◌, ◌==◌, if◌then◌else◌, slice_get}
use Rattle.std.specs.Ordering.{is_eq}
use Rattle.std.proofs.lemmas.Bool.{eqb-true}
use Rattle.std.proofs.lemmas.List.{map-append, length-map}
use Rattle.bg_ast.specs.declared.resolved.Expr.{Expr}
use Rattle.bg_ast.specs.Syntax.{Ex, Fun}
use Rattle.bg_sense.specs.Types.{key_types_eq, ty_eq}
use Rattle.bg_kinds.specs.Views as types
use Rattle.bg_terms.specs.Terms.{head_eq}
use Rattle.bg_numbered.specs.Put.{are_one, is_that, found_from, made, with_by, place_by, with_term, place_term}
use Rattle.bg_term_table.specs.declared.kind.Kind.TheVariants as kind
use Rattle.bg_term_table.specs.declared.leaf.Leaf.{Leaf}
use Rattle.bg_term_table.specs.declared.table.Head as code
use Rattle.bg_term_table.specs.declared.table.Head.TheVariants as head
use Rattle.bg_term_table.specs.declared.table.Term as kept
use Rattle.bg_term_table.specs.Views.{meanings, listed, head_of, term_of, terms_in}
use Rattle.bg_term_table.specs.Keys.{leaves_in, kind_in, KeyOf, key_cmp, key_with, key_in, keys_of, is_key, found_by, HasHead}
use Rattle.bg_term_table.proofs.Keyed.{key_is, key_same, leaves_eq, both_and, and_false, and_both, and_left, and_right, one_leaves, key_both, key_leaves, alike}

-- ---- heads that are one have one kind

pub one_kind : (g h : code.Head) → head_eq (head_of g) (head_of h) ≡ true → kind_in g ≡ kind_in h
one_kind (head.Function f) (head.Function g) e = ap kind.Function (eqb-true f g e)
one_kind (head.Function f) (head.Selects l u) e = absurd (let bad : ⊥ = cc in bad)
one_kind (head.Function f) (head.Updates l u) e = absurd (let bad : ⊥ = cc in bad)
one_kind (head.Function f) (head.Differs l u j) e = absurd (let bad : ⊥ = cc in bad)
one_kind (head.Selects k t) (head.Function g) e = absurd (let bad : ⊥ = cc in bad)
one_kind (head.Selects k t) (head.Selects l u) e = refl
one_kind (head.Selects k t) (head.Updates l u) e = absurd (let bad : ⊥ = cc in bad)
one_kind (head.Selects k t) (head.Differs l u j) e = absurd (let bad : ⊥ = cc in bad)
one_kind (head.Updates k t) (head.Function g) e = absurd (let bad : ⊥ = cc in bad)
one_kind (head.Updates k t) (head.Selects l u) e = absurd (let bad : ⊥ = cc in bad)
one_kind (head.Updates k t) (head.Updates l u) e = refl
one_kind (head.Updates k t) (head.Differs l u j) e = absurd (let bad : ⊥ = cc in bad)
one_kind (head.Differs k t i) (head.Function g) e = absurd (let bad : ⊥ = cc in bad)
one_kind (head.Differs k t i) (head.Selects l u) e = absurd (let bad : ⊥ = cc in bad)
one_kind (head.Differs k t i) (head.Updates l u) e = absurd (let bad : ⊥ = cc in bad)
one_kind (head.Differs k t i) (head.Differs l u j) e =
    ap kind.Part (eqb-true i j (and_right (key_types_eq (types.keys_of k) (types.keys_of l) && ty_eq (types.ref_in t) (types.ref_in u)) (i == j) e))

-- ---- a walk over terms, and one over their keys

at_least_by : (b : Bool) (a p : ℕ) (rest : Option ℕ) → (if b then Some a else rest) ≡ Some p → (rest ≡ Some p → suc a ≤ p) → a ≤ p
at_least_by true a p rest r f = let q : a ≡ p = cc in omega (arith, q)
at_least_by false a p rest r f = let h = f r in omega (arith, h)

at_least : (k : KeyOf) (a p : ℕ) (os : List (Option KeyOf)) → found_by k a os ≡ Some p → a ≤ p
at_least k a p [] e = absurd (let bad : ⊥ = cc in bad)
at_least k a p (o ∷ os) e = at_least_by (is_key k o) a p (found_by k (suc a) os) e (at_least k (suc a) p os)

module _ (fs : List Fun) (h : code.Head) (xs : List Ex) where
  abbrev found : ℕ → List kept.Term → Option ℕ
  found a ts = found_from a (head_of h) (listed xs) (terms_in fs ts)

  abbrev is_it : kept.Term → Bool
  is_it t = is_that (head_of h) (listed xs) (term_of fs t)

  module _ (ls : List Leaf) (leaves : leaves_in xs ≡ Some ls) where
    abbrev key : KeyOf
    key = (kind_in h, ls)

    ones : (es : List Ex) → are_one (listed es) (listed xs) ≡ both_and leaves_eq (leaves_in es) (Some ls)
    ones es = one_leaves es xs ∙ ap (both_and leaves_eq (leaves_in es)) leaves

    has_key : (t : kept.Term) → is_it t ≡ true → is_key key (key_in t) ≡ true
    has_key t e = on (leaves_in (meanings t.args.items)) refl
      where
        same : kind_in t.head ≡ kind_in h
        same = one_kind t.head h (and_left (head_eq (head_of t.head) (head_of h)) (are_one (listed (meanings t.args.items)) (listed xs)) e)

        one : both_and leaves_eq (leaves_in (meanings t.args.items)) (Some ls) ≡ true
        one =
            sym (ones (meanings t.args.items))
            ∙ and_right (head_eq (head_of t.head) (head_of h)) (are_one (listed (meanings t.args.items)) (listed xs)) e

        on : (o : Option (List Leaf)) → leaves_in (meanings t.args.items) ≡ o → is_key key (key_with (kind_in t.head) o) ≡ true
        on None q = absurd (let no : false ≡ true = sym (ap (λ o. both_and leaves_eq o (Some ls)) q) ∙ one in let bad : ⊥ = cc in bad)
        on (Some ms) q =
            key_both (kind_in h) (kind_in t.head) ls ms same (sym (ap (λ o. both_and leaves_eq o (Some ls)) q) ∙ one)

    by_key : (t : kept.Term) → head_eq (head_of t.head) (head_of h) ≡ true → is_key key (key_in t) ≡ true → is_it t ≡ true
    by_key t g e =
        and_both (head_eq (head_of t.head) (head_of h)) (are_one (listed (meanings t.args.items)) (listed xs)) g (ones (meanings t.args.items) ∙ on (leaves_in (meanings t.args.items)) e)
      where
        on : (o : Option (List Leaf)) → is_key key (key_with (kind_in t.head) o) ≡ true → both_and leaves_eq o (Some ls) ≡ true
        on None q = absurd (let bad : ⊥ = cc in bad)
        on (Some ms) q = key_leaves (kind_in h) (kind_in t.head) ls ms q

    without_key : (t : kept.Term) → is_key key (key_in t) ≡ false → is_it t ≡ false
    without_key t e = on (is_it t) refl
      where
        on : (b : Bool) → is_it t ≡ b → b ≡ false
        on true q = absurd (let no : false ≡ true = sym e ∙ has_key t q in let bad : ⊥ = cc in bad)
        on false q = refl

    pub found_none : (a : ℕ) (ts : List kept.Term) → found_by key a (keys_of ts) ≡ None → found a ts ≡ None
    found_none a [] e = refl
    found_none a (t ∷ ts) e = on (is_key key (key_in t)) refl e (found_none (suc a) ts)
      where
        on : (b : Bool) → is_key key (key_in t) ≡ b → (if b then Some a else found_by key (suc a) (keys_of ts)) ≡ None → (found_by key (suc a) (keys_of ts) ≡ None → found (suc a) ts ≡ None) → found a (t ∷ ts) ≡ None
        on true q r later = absurd (let bad : ⊥ = cc in bad)
        on false q r later = ap (λ b. if b then Some a else found (suc a) ts) (without_key t q) ∙ later r

    pub found_some : (a i : ℕ) (ts : List kept.Term) (u : kept.Term) → found_by key a (keys_of ts) ≡ Some (a + i) → slice_get ts i ≡ Some u → head_eq (head_of u.head) (head_of h) ≡ true → found a ts ≡ Some (a + i)
    found_some a i [] u e is g = absurd (let bad : ⊥ = cc in bad)
    found_some a zero (t ∷ ts) u e is g = on (is_key key (key_in t)) refl e
      where
        same : t ≡ u
        same = cc

        at : a + 0 ≡ a
        at = omega arith

        on : (b : Bool) → is_key key (key_in t) ≡ b → (if b then Some a else found_by key (suc a) (keys_of ts)) ≡ Some (a + 0) → found a (t ∷ ts) ≡ Some (a + 0)
        on true q r =
            ap (λ b. if b then Some a else found (suc a) ts) (by_key t (subst (λ (v : kept.Term). head_eq (head_of v.head) (head_of h) ≡ true) (sym same) g) q) ∙ ap Some (sym at)
        on false q r = absurd (let l = at_least key (suc a) (a + 0) (keys_of ts) r in omega (arith, l))
    found_some a (suc i) (t ∷ ts) u e is g = on (is_key key (key_in t)) refl e (found_some (suc a) i ts u)
      where
        at : suc a + i ≡ a + suc i
        at = omega arith

        on : (b : Bool) → is_key key (key_in t) ≡ b → (if b then Some a else found_by key (suc a) (keys_of ts)) ≡ Some (a + suc i) → (found_by key (suc a) (keys_of ts) ≡ Some (suc a + i) → slice_get ts i ≡ Some u → head_eq (head_of u.head) (head_of h) ≡ true → found (suc a) ts ≡ Some (suc a + i)) → found a (t ∷ ts) ≡ Some (a + suc i)
        on true q r later = absurd (let z : a ≡ a + suc i = cc in omega (arith, z))
        on false q r later =
            ap (λ b. if b then Some a else found (suc a) ts) (without_key t q) ∙ later (r ∙ ap Some (sym at)) is g ∙ ap Some at

    pub found_place : (p : ℕ) (ts : List kept.Term) → found_by key 0 (keys_of ts) ≡ Some p → HasHead p (head_of h) ts → found 0 ts ≡ Some p
    found_place p ts e there =
        let at : p ≡ 0 + p = omega arith in
        found_some 0 p ts there.term (e ∙ ap Some at) there.is_there there.head ∙ ap Some (sym at)

  module _ (none : leaves_in xs ≡ None) where
    no_leaves : (o : Option (List Leaf)) → both_and leaves_eq o None ≡ false
    no_leaves None = refl
    no_leaves (Some ms) = refl

    not_that : (t : kept.Term) → is_it t ≡ false
    not_that t =
        let es = meanings t.args.items in
        ap (λ b. head_eq (head_of t.head) (head_of h) && b) (one_leaves es xs ∙ ap (both_and leaves_eq (leaves_in es)) none ∙ no_leaves (leaves_in es))
        ∙ and_false (head_eq (head_of t.head) (head_of h))

    pub not_found : (a : ℕ) (ts : List kept.Term) → found a ts ≡ None
    not_found a [] = refl
    not_found a (t ∷ ts) =
        ap (λ b. if b then Some a else found (suc a) ts) (not_that t) ∙ not_found (suc a) ts

  -- ---- what a table has, and gets

  module _ (n j : ℕ) (ts : List kept.Term) where
    pub old_number : (a : ℕ) → found 0 ts ≡ Some a → j ≡ n + a → j ≡ n + place_term (head_of h) (listed xs) (terms_in fs ts)
    old_number a e k = k ∙ ap (λ o. n + place_by o (terms_in fs ts)) (sym e)

    pub new_number : found 0 ts ≡ None → j ≡ n + length ts → j ≡ n + place_term (head_of h) (listed xs) (terms_in fs ts)
    new_number e k =
        k ∙ ap (λ m. n + m) (sym (length-map ts (term_of fs))) ∙ ap (λ o. n + place_by o (terms_in fs ts)) (sym e)

  pub old_table : (a : ℕ) (ts : List kept.Term) → found 0 ts ≡ Some a → terms_in fs ts ≡ with_term fs (head_of h) (listed xs) (terms_in fs ts)
  old_table a ts e = ap (λ o. with_by o (made fs (head_of h) (listed xs)) (terms_in fs ts)) (sym e)

pub new_table : (fs : List Fun) (h : code.Head) (args : Vec Expr Global) (ts us : List kept.Term) → found fs h (meanings args.items) 0 ts ≡ None → us ≡ ts ++ (record { head = h; args = args }) ∷ [] → terms_in fs us ≡ with_term fs (head_of h) (listed (meanings args.items)) (terms_in fs ts)
new_table fs h args ts us e k =
    ap (terms_in fs) k
    ∙ map-append (term_of fs) ts ((record { head = h; args = args }) ∷ [])
    ∙ ap (λ o. with_by o (made fs (head_of h) (listed (meanings args.items))) (terms_in fs ts)) (sym e)

-- ---- one term more

abbrev or_place : Option ℕ → Option ℕ → Option ℕ
or_place None p = p
or_place (Some a) p = Some a

or_none : (o : Option ℕ) → or_place o None ≡ o
or_none None = refl
or_none (Some a) = refl

found_last : (k : KeyOf) (a : ℕ) (os : List (Option KeyOf)) (o : Option KeyOf) → found_by k a (os ++ o ∷ []) ≡ or_place (found_by k a os) (if is_key k o then Some (a + length os) else None)
found_last k a [] o = ap (λ b. if is_key k o then Some b else None) (let q : a ≡ a + 0 = omega arith in q)
found_last k a (p ∷ os) o =
    on (is_key k p) (found_last k (suc a) os o ∙ ap (λ b. or_place (found_by k (suc a) os) (if is_key k o then Some b else None)) (let q : suc a + length os ≡ a + suc (length os) = omega arith in q))
  where
    on : (b : Bool) → found_by k (suc a) (os ++ o ∷ []) ≡ or_place (found_by k (suc a) os) (if is_key k o then Some (a + suc (length os)) else None) → (if b then Some a else found_by k (suc a) (os ++ o ∷ [])) ≡ or_place (if b then Some a else found_by k (suc a) os) (if is_key k o then Some (a + suc (length os)) else None)
    on true later = refl
    on false later = later

keys_last : (ts us : List kept.Term) (t : kept.Term) → us ≡ ts ++ t ∷ [] → keys_of us ≡ keys_of ts ++ key_in t ∷ []
keys_last ts us t e = ap keys_of e ∙ map-append key_in ts (t ∷ [])

-- what has no key isn't found
found_other : (k : KeyOf) (ts us : List kept.Term) (t : kept.Term) → us ≡ ts ++ t ∷ [] → key_in t ≡ None → found_by k 0 (keys_of us) ≡ found_by k 0 (keys_of ts)
found_other k ts us t e none =
    ap (found_by k 0) (keys_last ts us t e)
    ∙ found_last k 0 (keys_of ts) (key_in t)
    ∙ ap (λ o. or_place (found_by k 0 (keys_of ts)) (if is_key k o then Some (0 + length (keys_of ts)) else None)) none
    ∙ or_none (found_by k 0 (keys_of ts))

-- whether it was put behind the others or not
pub found_push : (b : Bool) (k : KeyOf) (ts us : List kept.Term) (t : kept.Term) → us ≡ (if b then ts ++ t ∷ [] else ts) → key_in t ≡ None → found_by k 0 (keys_of us) ≡ found_by k 0 (keys_of ts)
found_push true k ts us t e none = found_other k ts us t e none
found_push false k ts us t e none = ap (λ l. found_by k 0 (keys_of l)) e

turned : (k q : KeyOf) → is_eq (key_cmp k q) ≡ is_eq (key_cmp q k)
turned k q = alike _ _ (there k q) (there q k)
  where
    there : (k q : KeyOf) → is_eq (key_cmp k q) ≡ true → is_eq (key_cmp q k) ≡ true
    there k q h = subst (λ z. is_eq (key_cmp z k) ≡ true) (key_is k q h) (key_same k)

-- a key at which nothing was found is found last
pub found_new : (k q : KeyOf) (a : ℕ) (ts us : List kept.Term) (t : kept.Term) → us ≡ ts ++ t ∷ [] → key_in t ≡ Some q → a ≡ length ts → found_by q 0 (keys_of ts) ≡ None → cond (is_eq (key_cmp q k)) (Some a) (found_by k 0 (keys_of ts)) ≡ found_by k 0 (keys_of us)
found_new k q a ts us t e its at none =
    on (is_eq (key_cmp q k)) refl
    ∙ sym (ap (found_by k 0) (keys_last ts us t e) ∙ found_last k 0 (keys_of ts) (key_in t) ∙ ap (λ o. or_place (found_by k 0 (keys_of ts)) (if is_key k o then Some (0 + length (keys_of ts)) else None)) its ∙ ap (λ m. or_place (found_by k 0 (keys_of ts)) (if is_eq (key_cmp k q) then Some m else None)) place)
  where
    place : 0 + length (keys_of ts) ≡ a
    place = let n = length-map ts key_in in omega (arith, n, at)

    on : (b : Bool) → is_eq (key_cmp q k) ≡ b → cond b (Some a) (found_by k 0 (keys_of ts)) ≡ or_place (found_by k 0 (keys_of ts)) (if is_eq (key_cmp k q) then Some a else None)
    on true h =
        let same : found_by k 0 (keys_of ts) ≡ None = subst (λ z. found_by z 0 (keys_of ts) ≡ None) (key_is q k h) none in
        sym (ap (λ o. or_place o (if is_eq (key_cmp k q) then Some a else None)) same ∙ ap (λ b. if b then Some a else None) (turned k q ∙ h))
    on false h =
        sym (ap (λ b. or_place (found_by k 0 (keys_of ts)) (if b then Some a else None)) (turned k q ∙ h) ∙ or_none (found_by k 0 (keys_of ts)))
