-- Maps of a type, entry by entry.
use Rattle.std.proofs.Common.{◌≡◌, ◌∙◌, ◌<◌, ◌≤◌, ◌+◌, ℕ, zero, suc, ℤ, Bool, true, false, ◌&&◌, List, [], ◌∷◌, map, length, drop, drop-cons, add-one, get_or, Option, Some, None, refl, sym, ap, Vec, Box, Global, arith}
use Rattle.std.specs.Prelude.{not, ◌==◌}
use Rattle.std.proofs.lemmas.List.{length-map, drop_all}
use Rattle.bg_ast.specs.Values.{Val, Ty, KeyType, IntTy, BoolTy, UserTy, MapTy, Default, Entry, val_eq, default_of, below_first, takes_parts, is_of, keys_lt}
use Rattle.bg_kinds.specs.declared.kinds.Base.{Base}
use Rattle.bg_kinds.specs.declared.kinds.Base.TheVariants as base
use Rattle.bg_kinds.specs.declared.kinds.Keys.{Keys}
use Rattle.bg_kinds.specs.Views.{key_of, keys_of, base_of, tower}
use Rattle.bg_scalar.specs.declared.value.Value.{Value}
use Rattle.bg_scalar.specs.declared.value.Value.TheVariants as value
use Rattle.bg_scalar.specs.declared.value.Entry as kept
use Rattle.bg_scalar.specs.Values.{value_of}
use Rattle.bg_scalar.specs.Maps.{Item, with_entries, entry_in, map_of}
use Rattle.bg_scalar.proofs.Rows.{value_of-Map}
use Rattle.bg_scalar.proofs.Places.{default_is}
use Rattle.bg_replay.specs.Holds.{is_below, first_key, is_fit, are_entries}

below_is : (q : List ℤ) (es : List Item) (d : Val) → below_first q (with_entries es (Default d)) ≡ is_below q (first_key es)
below_is q [] d = refl
below_is q (e ∷ es) d = refl

to_front : (a b c d x y z : Bool) → z ≡ (x && y) → (a && (b && (c && (d && z)))) ≡ (x && ((a && (b && (c && d))) && y))
to_front true true true true x y z h = h
to_front true true true false true y z h = refl
to_front true true true false false y z h = refl
to_front true true false d true y z h = refl
to_front true true false d false y z h = refl
to_front true false c d true y z h = refl
to_front true false c d false y z h = refl
to_front false b c d true y z h = refl
to_front false b c d false y z h = refl

and_true : (x : Bool) → x ≡ (x && true)
and_true true = refl
and_true false = refl

pub map_typed : (ks : List KeyType) (t : Ty) (es : List Item) (d : Val) → is_of (MapTy ks t) (with_entries es (Default d)) ≡ (is_of t d && are_entries (length ks) t d es)
map_typed ks t [] d = and_true (is_of t d)
map_typed ks t (e ∷ es) d =
    let m = with_entries es (Default d) in
    ap (λ x. (length ks == length e.0) && (is_of t e.1 && (not (val_eq e.1 x) && (below_first e.0 m && is_of (MapTy ks t) m)))) (default_is es d)
    ∙ (ap (λ b. (length ks == length e.0) && (is_of t e.1 && (not (val_eq e.1 d) && (b && is_of (MapTy ks t) m)))) (below_is e.0 es d)
    ∙ to_front (length ks == length e.0) (is_of t e.1) (not (val_eq e.1 d)) (is_below e.0 (first_key es)) (is_of t d) (are_entries (length ks) t d es) (is_of (MapTy ks t) m) (map_typed ks t es d))

no_map_of : (b : Base) (es : List Item) (d : Val) → is_of (base_of b) (with_entries es (Default d)) ≡ false
no_map_of base.Int [] d = refl
no_map_of base.Int (e ∷ es) d = refl
no_map_of base.Bool [] d = refl
no_map_of base.Bool (e ∷ es) d = refl
no_map_of (base.User u) [] d = refl
no_map_of (base.User u) (e ∷ es) d = refl

-- a map where there is no bracket
pub none_of_base : (maps : List Keys) (b : Base) (es : Vec kept.Entry Global) (d : Box Value Global) → length maps ≡ 0 → false ≡ is_of (tower maps (base_of b)) (value_of (value.Map es d))
none_of_base [] b es d h = sym (ap (is_of (base_of b)) (value_of-Map es d) ∙ no_map_of b (map entry_in es.items) (value_of d.value))
none_of_base (k ∷ maps) b es d h = absurd (omega (arith, h))

-- a map behind the first bracket
pub map_of_type : (maps rest : List Keys) (k : Keys) (b : Base) (es : Vec kept.Entry Global) (d : Box Value Global) (n : ℕ) → maps ≡ k ∷ rest → n ≡ length k.keys.items → (is_of (tower rest (base_of b)) (value_of d.value) && are_entries n (tower rest (base_of b)) (value_of d.value) (map entry_in es.items)) ≡ is_of (tower maps (base_of b)) (value_of (value.Map es d))
map_of_type maps rest k b es d n is h =
    let t = tower rest (base_of b) in
    sym
    (ap (λ l. is_of (tower l (base_of b)) (value_of (value.Map es d))) is
    ∙ (ap (is_of (MapTy (keys_of k) t)) (value_of-Map es d)
    ∙ (map_typed (keys_of k) t (map entry_in es.items) (value_of d.value)
    ∙ ap (λ m. is_of t (value_of d.value) && are_entries m t (value_of d.value) (map entry_in es.items)) (length-map k.keys.items key_of ∙ sym h))))

-- the key of the next entry
pub next_there : (es : List kept.Entry) (i : ℕ) (e : kept.Entry) → i < length es → e ≡ get_or es i e → Some e.key.items ≡ first_key (map entry_in (drop i es))
next_there [] i e l at = absurd (omega (arith, l))
next_there (x ∷ es) zero e l at = ap (λ (y : kept.Entry). Some y.key.items) at
next_there (x ∷ es) (suc i) e l at = next_there es i e (omega (arith, l)) at

pub next_none : (es : List kept.Entry) (i : ℕ) → length es ≤ i → None ≡ first_key (map entry_in (drop i es))
next_none [] zero l = refl
next_none [] (suc i) l = refl
next_none (x ∷ es) zero l = absurd (omega (arith, l))
next_none (x ∷ es) (suc i) l = next_none es i (omega (arith, l))

one_of : (es : List kept.Entry) (i : ℕ) (e : kept.Entry) → i < length es → e ≡ get_or es i e → drop i es ≡ e ∷ drop (i + 1) es
one_of es i e l at = rw (add-one, drop-cons es i e l) (ap (λ y. y ∷ drop (suc i) es) (sym at))

-- an entry that fits
pub entry_step : (es : List kept.Entry) (i : ℕ) (e : kept.Entry) (n : ℕ) (t : Ty) (d : Val) (k : Option (List ℤ)) (fit whole : Bool) → i < length es → e ≡ get_or es i e → k ≡ first_key (map entry_in (drop (i + 1) es)) → fit ≡ is_fit n t d (entry_in e) k → fit ≡ true → are_entries n t d (map entry_in (drop i es)) ≡ whole → are_entries n t d (map entry_in (drop (i + 1) es)) ≡ whole
entry_step es i e n t d k fit whole l at is f h known =
    let rest = are_entries n t d (map entry_in (drop (i + 1) es)) in
    ap (λ b. b && rest) (sym h ∙ (f ∙ ap (is_fit n t d (entry_in e)) is))
    ∙ (ap (λ xs. are_entries n t d (map entry_in xs)) (sym (one_of es i e l at)) ∙ known)

-- one that doesn't
pub entry_wrong : (es : List kept.Entry) (i : ℕ) (e : kept.Entry) (n : ℕ) (t : Ty) (d : Val) (k : Option (List ℤ)) (fit whole : Bool) → i < length es → e ≡ get_or es i e → k ≡ first_key (map entry_in (drop (i + 1) es)) → fit ≡ is_fit n t d (entry_in e) k → fit ≡ false → are_entries n t d (map entry_in (drop i es)) ≡ whole → false ≡ whole
entry_wrong es i e n t d k fit whole l at is f h known =
    let rest = are_entries n t d (map entry_in (drop (i + 1) es)) in
    ap (λ b. b && rest) (sym h ∙ (f ∙ ap (is_fit n t d (entry_in e)) is))
    ∙ (ap (λ xs. are_entries n t d (map entry_in xs)) (sym (one_of es i e l at)) ∙ known)

pub entries_end : (es : List kept.Entry) (i : ℕ) (n : ℕ) (t : Ty) (d : Val) (whole : Bool) → length es ≤ i → are_entries n t d (map entry_in (drop i es)) ≡ whole → true ≡ whole
entries_end es i n t d whole l known = rw (drop_all i es l) at known
