-- Keys of indices, part by part; selects and updates at them.
use Rattle.std.proofs.Common.{◌≡◌, ◌<◌, ◌≤◌, ◌+◌, ◌∙◌, ℕ, suc, ℤ, Bool, true, false, ◌&&◌, List, [], ◌∷◌, ◌++◌, map, length, drop, drop-cons, add-one, get_or, Option, Some, None, refl, sym, ap, append_assoc, Vec, Box, Global}
use Rattle.std.specs.Prelude.{if◌then◌else◌}
use Rattle.std.proofs.lemmas.List.{drop_all}
use Rattle.bg_ast.specs.Values.{Val, number_of, select, update}
use Rattle.bg_scalar.specs.Worths.{WorthOf, Is, NoValue, known, is_table, is_part, are_parts, chosen, written}
use Rattle.bg_scalar.specs.Values.{val_of, value_of}
use Rattle.bg_scalar.specs.Maps.{map_of}
use Rattle.bg_scalar.specs.Views.{vals_in}
use Rattle.bg_scalar.specs.Indices.{part_in, in_front_of, index_in, kept_at}
use Rattle.bg_scalar.specs.declared.scalar.Scalar.{Scalar}
use Rattle.bg_scalar.specs.declared.value.Value.{Value}
use Rattle.bg_scalar.specs.declared.value.Value.TheVariants as value
use Rattle.bg_scalar.specs.declared.value.Entry as kept
use Rattle.bg_scalar.proofs.Rows.{value_of-Map}
use Rattle.bg_scalar.proofs.Operands.{is_table-Map, is_table-Plain}

-- ---- the key of an index

front_if : (a b : Bool) (z : ℤ) (ks : List ℤ) → in_front_of (if a then Some z else None) (if b then Some ks else None) ≡ (if a && b then Some (z ∷ ks) else None)
front_if true true z ks = refl
front_if true false z ks = refl
front_if false b z ks = refl

pub index_is : (qs : List Val) → index_in qs ≡ (if are_parts qs then Some (map number_of qs) else None)
index_is [] = refl
index_is (q ∷ qs) =
    ap (in_front_of (part_in q)) (index_is qs) ∙ front_if (is_part q) (are_parts qs) (number_of q) (map number_of qs)

-- these numbers in front
abbrev pub onto_key : List ℤ → Option (List ℤ) → Option (List ℤ)
onto_key xs None = None
onto_key xs (Some ys) = Some (xs ++ ys)

pub onto_no_key : (o : Option (List ℤ)) → onto_key [] o ≡ o
onto_no_key None = refl
onto_no_key (Some k) = refl

onto_one : (xs : List ℤ) (z : ℤ) (o : Option (List ℤ)) → onto_key (xs ++ z ∷ []) o ≡ onto_key xs (in_front_of (Some z) o)
onto_one xs z None = refl
onto_one xs z (Some ks) = ap Some (append_assoc xs (z ∷ []) ks)

onto_nothing : (xs : List ℤ) (o : Option (List ℤ)) → onto_key xs (in_front_of None o) ≡ None
onto_nothing xs o = refl

cut : (vs : List Value) (i : ℕ) (v : Value) → i < length vs → v ≡ get_or vs i v → drop i vs ≡ v ∷ drop (i + 1) vs
cut vs i v l at = rw (add-one, drop-cons vs i v l) (ap (λ y. y ∷ drop (suc i) vs) (sym at))

-- one more part
pub key_step : (vs : List Value) (i : ℕ) (v : Value) (made new : List ℤ) (z : ℤ) (o : Option ℤ) (whole : Option (List ℤ)) → i < length vs → v ≡ get_or vs i v → o ≡ part_in (value_of v) → o ≡ Some z → new ≡ made ++ z ∷ [] → onto_key made (index_in (vals_in (drop i vs))) ≡ whole → onto_key new (index_in (vals_in (drop (i + 1) vs))) ≡ whole
key_step vs i v made new z o whole l at p k m known =
    let rest = index_in (vals_in (drop (i + 1) vs)) in
    ap (λ ys. onto_key ys rest) m
    ∙ (onto_one made z rest
    ∙ (ap (λ (x : Option ℤ). onto_key made (in_front_of x rest)) (sym k ∙ p)
    ∙ (ap (λ ys. onto_key made (index_in (vals_in ys))) (sym (cut vs i v l at)) ∙ known)))

-- one that is no part
pub key_none : (vs : List Value) (i : ℕ) (v : Value) (made : List ℤ) (o : Option ℤ) (whole : Option (List ℤ)) → i < length vs → v ≡ get_or vs i v → o ≡ part_in (value_of v) → o ≡ None → onto_key made (index_in (vals_in (drop i vs))) ≡ whole → None ≡ whole
key_none vs i v made o whole l at p k known =
    let rest = index_in (vals_in (drop (i + 1) vs)) in
    ap (λ (x : Option ℤ). onto_key made (in_front_of x rest)) (sym k ∙ p)
    ∙ (ap (λ ys. onto_key made (index_in (vals_in ys))) (sym (cut vs i v l at)) ∙ known)

append_none : (xs : List ℤ) → xs ++ [] ≡ xs
append_none [] = refl
append_none (x ∷ xs) = ap (λ l. x ∷ l) (append_none xs)

-- no part is left
pub key_end : (vs : List Value) (i : ℕ) (made : List ℤ) (whole : Option (List ℤ)) → length vs ≤ i → onto_key made (index_in (vals_in (drop i vs))) ≡ whole → Some made ≡ whole
key_end vs i made whole l known =
    ap Some (sym (append_none made)) ∙ rw (drop_all i vs l) at known

-- ---- selects and updates

-- what goes on where there is a key
abbrev on_key : Option (List ℤ) → (List ℤ → WorthOf) → WorthOf
on_key None f = NoValue
on_key (Some k) f = f k

chosen_if : (t p : Bool) (m : Val) (ks : List ℤ) → (if t && p then Is (select m ks) else NoValue) ≡ on_key (if p then Some ks else None) (λ k. known (if t then Some (select m k) else None))
chosen_if true true m ks = refl
chosen_if true false m ks = refl
chosen_if false true m ks = refl
chosen_if false false m ks = refl

chosen_is : (m : Val) (qs : List Val) → chosen m qs ≡ on_key (index_in qs) (λ k. known (kept_at m k))
chosen_is m qs =
    chosen_if (is_table m) (are_parts qs) m (map number_of qs) ∙ ap (λ o. on_key o (λ k. known (kept_at m k))) (sym (index_is qs))

written_if : (t p : Bool) (m v : Val) (ks : List ℤ) → (if t && p then Is (update m ks v) else NoValue) ≡ on_key (if p then Some ks else None) (λ k. if t then Is (update m k v) else NoValue)
written_if true true m v ks = refl
written_if true false m v ks = refl
written_if false true m v ks = refl
written_if false false m v ks = refl

written_is : (m v : Val) (qs : List Val) → written m qs v ≡ on_key (index_in qs) (λ k. if is_table m then Is (update m k v) else NoValue)
written_is m v qs =
    written_if (is_table m) (are_parts qs) m v (map number_of qs) ∙ ap (λ o. on_key o (λ k. if is_table m then Is (update m k v) else NoValue)) (sym (index_is qs))

pub none_chosen : (m : Val) (qs : List Val) → None ≡ index_in qs → NoValue ≡ chosen m qs
none_chosen m qs h = sym (chosen_is m qs ∙ ap (λ o. on_key o (λ k. known (kept_at m k))) (sym h))

pub chosen_at : (m : Val) (qs : List Val) (k : List ℤ) (o : Option Val) → Some k ≡ index_in qs → o ≡ kept_at m k → known o ≡ chosen m qs
chosen_at m qs k o h e = ap known e ∙ sym (chosen_is m qs ∙ ap (λ o. on_key o (λ k. known (kept_at m k))) (sym h))

pub none_written : (m v : Val) (qs : List Val) → None ≡ index_in qs → NoValue ≡ written m qs v
none_written m v qs h =
    sym (written_is m v qs ∙ ap (λ o. on_key o (λ k. if is_table m then Is (update m k v) else NoValue)) (sym h))

pub written_at : (m v : Val) (qs : List Val) (k : List ℤ) (t : Bool) (x : WorthOf) → Some k ≡ index_in qs → is_table m ≡ t → x ≡ (if t then Is (update m k v) else NoValue) → x ≡ written m qs v
written_at m v qs k t x h i e =
    e
    ∙ (ap (λ b. if b then Is (update m k v) else NoValue) (sym i)
    ∙ sym (written_is m v qs ∙ ap (λ o. on_key o (λ k. if is_table m then Is (update m k v) else NoValue)) (sym h)))

-- the map with an entry more is what is written
pub written_map : (es new : Vec kept.Entry Global) (d : Box Value Global) (m v : Val) (qs : List Val) (k : List ℤ) → value_of (value.Map es d) ≡ m → Some k ≡ index_in qs → map_of new.items (value_of d.value) ≡ update (map_of es.items (value_of d.value)) k v → Is (value_of (value.Map new d)) ≡ written m qs v
written_map es new d m v qs k e h u =
    written_at m v qs k true (Is (value_of (value.Map new d))) h (ap is_table (sym e) ∙ is_table-Map es d)
    (ap Is (value_of-Map new d ∙ (u ∙ ap (λ (x : Val). update x k v) (sym (value_of-Map es d) ∙ e))))

-- a scalar has no index
pub no_map_written : (s : Scalar) (m v : Val) (qs : List Val) (k : List ℤ) → val_of s ≡ m → Some k ≡ index_in qs → NoValue ≡ written m qs v
no_map_written s m v qs k e h = written_at m v qs k false NoValue h (ap is_table (sym e) ∙ is_table-Plain s) refl
