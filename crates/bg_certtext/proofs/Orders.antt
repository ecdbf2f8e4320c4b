-- The order of values, part by part.
use Rattle.std.proofs.Common.{◌≡◌, ◌≢◌, ℕ, ◌<◌, ◌≤◌, Bool, true, false, ◌&&◌, if◌then◌else◌, List, [], ◌∷◌, length, map, drop, ℤ, bytes_eq, refl, sym, ap, ◌∙◌, arith, Vec, Box, Global}
use Rattle.std.specs.Prelude.{int_lt}
use Rattle.std.proofs.lemmas.List.{drop_all, length-drop}
use Rattle.std.specs.Ordering.{int_eq, ordering_then}
use Rattle.std.specs.declared.cmp.Ordering.{Ordering}
use Rattle.std.specs.declared.cmp.Ordering.TheVariants.{Less, Equal, Greater}
use Rattle.bg_certtext.specs.declared.text.Value.{Value}
use Rattle.bg_certtext.specs.declared.text.Value.TheVariants as value
use Rattle.bg_certtext.specs.declared.text.Slot as kept
use Rattle.bg_certtext.specs.Views.{PartOf, AtNumber, AtElement, ValueOf, Truth, Number, Element, Default, Slot, Item, value_of, slot_of, with_slots}
use Rattle.bg_certtext.specs.Spellable.{part_lt, part_eq, index_lt, index_eq, value_lt, value_eq, key_lt}
use Rattle.bg_certtext.specs.Orders.{order_of, part_order, index_order, value_order, item_order, slots_order}
use Rattle.bg_certtext.proofs.Rows.{value_of-Map}

chained : (l q m r : Bool) → order_of (if l then true else q && m) (q && r) ≡ ordering_then (order_of l q) (order_of m r)
chained true q m r = refl
chained false true m r = refl
chained false false m r = refl

then_assoc : (o p q : Ordering) → ordering_then (ordering_then o p) q ≡ ordering_then o (ordering_then p q)
then_assoc Less p q = refl
then_assoc Equal p q = refl
then_assoc Greater p q = refl

-- ---- indices

index_by : (p q : PartOf) (ps qs : List PartOf) (o : Ordering) → part_order p q ≡ o → index_order (p ∷ ps) (q ∷ qs) ≡ ordering_then o (index_order ps qs)
index_by p q ps qs o e = chained (part_lt p q) (part_eq p q) (index_lt ps qs) (index_eq ps qs) ∙ ap (λ x. ordering_then x (index_order ps qs)) e

pub index_less : (p q : PartOf) (ps qs : List PartOf) → part_order p q ≡ Less → index_order (p ∷ ps) (q ∷ qs) ≡ Less
index_less p q ps qs e = index_by p q ps qs Less e

pub index_same : (p q : PartOf) (ps qs : List PartOf) → part_order p q ≡ Equal → index_order (p ∷ ps) (q ∷ qs) ≡ index_order ps qs
index_same p q ps qs e = index_by p q ps qs Equal e

pub index_more : (p q : PartOf) (ps qs : List PartOf) → part_order p q ≡ Greater → index_order (p ∷ ps) (q ∷ qs) ≡ Greater
index_more p q ps qs e = index_by p q ps qs Greater e

pub ruleset index_steps = (index_less, index_same, index_more)

-- ---- maps

pub maps_order : (es fs : List Item) (c d : ValueOf) → value_order (with_slots es (Default c)) (with_slots fs (Default d)) ≡ slots_order es fs (value_order c d)
maps_order [] [] c d = refl
maps_order [] (f ∷ fs) c d = refl
maps_order (e ∷ es) [] c d = refl
maps_order (e ∷ es) (f ∷ fs) c d =
    let m = with_slots es (Default c) in
    let n = with_slots fs (Default d) in
    chained (index_lt e.0 f.0) (index_eq e.0 f.0) (if value_lt e.1 f.1 then true else value_eq e.1 f.1 && value_lt m n) (value_eq e.1 f.1 && value_eq m n)
    ∙ (ap (ordering_then (index_order e.0 f.0)) (chained (value_lt e.1 f.1) (value_eq e.1 f.1) (value_lt m n) (value_eq m n))
    ∙ (ap (λ o. ordering_then (index_order e.0 f.0) (ordering_then (value_order e.1 f.1) o)) (maps_order es fs c d)
    ∙ sym (then_assoc (index_order e.0 f.0) (value_order e.1 f.1) (slots_order es fs (value_order c d)))))

abbrev pub IsPlain : ValueOf → Type 0
IsPlain (Default d) = ⊥
IsPlain (Slot k v m) = ⊥
IsPlain v = Unit {0}

plain_first : (v : ValueOf) (es : List Item) (d : ValueOf) → IsPlain v → value_order v (with_slots es (Default d)) ≡ Greater
plain_first (Truth true) [] d h = refl
plain_first (Truth false) [] d h = refl
plain_first (Number z) [] d h = refl
plain_first (Element t z) [] d h = refl
plain_first (Default c) [] d h = absurd h
plain_first (Slot k v m) [] d h = absurd h
plain_first (Truth true) (e ∷ es) d h = refl
plain_first (Truth false) (e ∷ es) d h = refl
plain_first (Number z) (e ∷ es) d h = refl
plain_first (Element t z) (e ∷ es) d h = refl
plain_first (Default c) (e ∷ es) d h = absurd h
plain_first (Slot k v m) (e ∷ es) d h = absurd h

plain_second : (v : ValueOf) (es : List Item) (d : ValueOf) → IsPlain v → value_order (with_slots es (Default d)) v ≡ Greater
plain_second (Truth b) [] d h = refl
plain_second (Number z) [] d h = refl
plain_second (Element t z) [] d h = refl
plain_second (Default c) [] d h = absurd h
plain_second (Slot k v m) [] d h = absurd h
plain_second (Truth b) (e ∷ es) d h = refl
plain_second (Number z) (e ∷ es) d h = refl
plain_second (Element t z) (e ∷ es) d h = refl
plain_second (Default c) (e ∷ es) d h = absurd h
plain_second (Slot k v m) (e ∷ es) d h = absurd h

pub plain_and_map : (v : ValueOf) (ss : Vec kept.Slot Global) (d : Box Value Global) → IsPlain v → value_order v (value_of (value.Map ss d)) ≡ Greater
plain_and_map v ss d h = ap (value_order v) (value_of-Map ss d) ∙ plain_first v (map slot_of ss.items) (value_of d.value) h

pub map_and_plain : (v : ValueOf) (ss : Vec kept.Slot Global) (d : Box Value Global) → IsPlain v → value_order (value_of (value.Map ss d)) v ≡ Greater
map_and_plain v ss d h = ap (λ w. value_order w v) (value_of-Map ss d) ∙ plain_second v (map slot_of ss.items) (value_of d.value) h

slots_then : (es fs : List Item) (o : Ordering) → slots_order es fs o ≡ ordering_then (slots_order es fs Equal) o
slots_then [] [] o = refl
slots_then [] (f ∷ fs) o = refl
slots_then (e ∷ es) [] o = refl
slots_then (e ∷ es) (f ∷ fs) o = ap (ordering_then (item_order e f)) (slots_then es fs o) ∙ sym (then_assoc (item_order e f) (slots_order es fs Equal) o)

pub maps_ordered : (ss ts : Vec kept.Slot Global) (c d : Box Value Global) → value_order (value_of (value.Map ss c)) (value_of (value.Map ts d)) ≡ ordering_then (slots_order (map slot_of ss.items) (map slot_of ts.items) Equal) (value_order (value_of c.value) (value_of d.value))
maps_ordered ss ts c d =
    ap (λ v. value_order v (value_of (value.Map ts d))) (value_of-Map ss c)
    ∙ (ap (value_order (with_slots (map slot_of ss.items) (Default (value_of c.value)))) (value_of-Map ts d)
    ∙ (maps_order (map slot_of ss.items) (map slot_of ts.items) (value_of c.value) (value_of d.value) ∙ slots_then (map slot_of ss.items) (map slot_of ts.items) (value_order (value_of c.value) (value_of d.value))))

truths_alike : (a b : Bool) → value_eq (Truth a) (Truth b) ≡ value_eq (Truth b) (Truth a)
truths_alike true true = refl
truths_alike true false = refl
truths_alike false true = refl
truths_alike false false = refl

pub ruleset value_forms = (plain_and_map, map_and_plain, maps_ordered)

-- ---- slots

pub slots_less : (e f : Item) (es fs : List Item) (o : Ordering) → item_order e f ≡ Less → slots_order (e ∷ es) (f ∷ fs) o ≡ Less
slots_less e f es fs o h = ap (λ x. ordering_then x (slots_order es fs o)) h

pub slots_same : (e f : Item) (es fs : List Item) (o : Ordering) → item_order e f ≡ Equal → slots_order (e ∷ es) (f ∷ fs) o ≡ slots_order es fs o
slots_same e f es fs o h = ap (λ x. ordering_then x (slots_order es fs o)) h

pub slots_more : (e f : Item) (es fs : List Item) (o : Ordering) → item_order e f ≡ Greater → slots_order (e ∷ es) (f ∷ fs) o ≡ Greater
slots_more e f es fs o h = ap (λ x. ordering_then x (slots_order es fs o)) h

-- slots that are left on one side alone, or on none

over : (zs : List kept.Slot) → 0 < length zs → slots_order (map slot_of zs) [] Equal ≡ Greater
over [] l = absurd (omega (arith, l))
over (z ∷ zs) l = refl

under : (zs : List kept.Slot) → 0 < length zs → slots_order [] (map slot_of zs) Equal ≡ Less
under [] l = absurd (omega (arith, l))
under (z ∷ zs) l = refl

pub slots_over : (xs ys : List kept.Slot) (i : ℕ) → i < length xs → length ys ≤ i → slots_order (map slot_of (drop i xs)) (map slot_of (drop i ys)) Equal ≡ Greater
slots_over xs ys i l k =
    ap (λ (zs : List kept.Slot). slots_order (map slot_of (drop i xs)) (map slot_of zs) Equal) (drop_all i ys k) ∙ over (drop i xs) (omega (arith, l, length-drop i xs))

pub slots_under : (xs ys : List kept.Slot) (i : ℕ) → length xs ≤ i → i < length ys → slots_order (map slot_of (drop i xs)) (map slot_of (drop i ys)) Equal ≡ Less
slots_under xs ys i l k =
    ap (λ (zs : List kept.Slot). slots_order (map slot_of zs) (map slot_of (drop i ys)) Equal) (drop_all i xs l) ∙ under (drop i ys) (omega (arith, k, length-drop i ys))

pub slots_level : (xs ys : List kept.Slot) (i : ℕ) → length xs ≤ i → length ys ≤ i → slots_order (map slot_of (drop i xs)) (map slot_of (drop i ys)) Equal ≡ Equal
slots_level xs ys i l k =
    ap (λ (zs : List kept.Slot). slots_order (map slot_of zs) (map slot_of (drop i ys)) Equal) (drop_all i xs l)
    ∙ ap (λ (zs : List kept.Slot). slots_order [] (map slot_of zs) Equal) (drop_all i ys k)

pub ruleset slot_steps = (slots_less, slots_same, slots_more)

-- ---- what is below another is not the same

ints_apart : (x y : ℤ) → int_lt x y ≡ true → int_eq x y ≡ false
ints_apart x y h = grind arith

named_apart : (a : Bool) (x y : ℤ) → (a && int_lt x y) ≡ true → (a && int_eq x y) ≡ false
named_apart true x y h = ints_apart x y h
named_apart false x y h = refl

rest_apart : (l q m r : Bool) → (l ≡ true → q ≡ false) → (m ≡ true → r ≡ false) → (if l then true else q && m) ≡ true → (q && r) ≡ false
rest_apart true q m r f g h = ap (λ b. b && r) (f refl)
rest_apart false true m r f g h = g h
rest_apart false false m r f g h = refl

parts_apart : (p q : PartOf) → part_lt p q ≡ true → part_eq p q ≡ false
parts_apart (AtNumber x) (AtNumber y) h = ints_apart x y h
parts_apart (AtNumber x) (AtElement u y) h = refl
parts_apart (AtElement t x) (AtNumber y) h = refl
parts_apart (AtElement t x) (AtElement u y) h = named_apart (bytes_eq t u) x y h

indices_apart : (k l : List PartOf) → index_lt k l ≡ true → index_eq k l ≡ false
indices_apart [] [] h = absurd (let bad : ⊥ = cc in bad)
indices_apart [] (q ∷ qs) h = refl
indices_apart (p ∷ ps) [] h = refl
indices_apart (p ∷ ps) (q ∷ qs) h = rest_apart (part_lt p q) (part_eq p q) (index_lt ps qs) (index_eq ps qs) (parts_apart p q) (indices_apart ps qs) h

pub values_apart : (v w : ValueOf) → value_lt v w ≡ true → value_eq v w ≡ false
values_apart (Truth true) (Truth b) h = absurd (let bad : ⊥ = cc in bad)
values_apart (Truth false) (Truth true) h = refl
values_apart (Truth false) (Truth false) h = absurd (let bad : ⊥ = cc in bad)
values_apart (Number x) (Number y) h = ints_apart x y h
values_apart (Element t x) (Element u y) h = named_apart (bytes_eq t u) x y h
values_apart (Default c) (Default d) h = values_apart c d h
values_apart (Default c) (Slot l w n) h = refl
values_apart (Slot k v m) (Slot l w n) h =
    rest_apart (index_lt k l) (index_eq k l) (if value_lt v w then true else value_eq v w && value_lt m n) (value_eq v w && value_eq m n) (indices_apart k l)
    (rest_apart (value_lt v w) (value_eq v w) (value_lt m n) (value_eq m n) (values_apart v w) (values_apart m n)) h
values_apart (Truth a) (Number y) h = absurd (let bad : ⊥ = cc in bad)
values_apart (Truth a) (Element u y) h = absurd (let bad : ⊥ = cc in bad)
values_apart (Truth a) (Default d) h = absurd (let bad : ⊥ = cc in bad)
values_apart (Truth a) (Slot l w n) h = absurd (let bad : ⊥ = cc in bad)
values_apart (Number x) (Truth b) h = absurd (let bad : ⊥ = cc in bad)
values_apart (Number x) (Element u y) h = absurd (let bad : ⊥ = cc in bad)
values_apart (Number x) (Default d) h = absurd (let bad : ⊥ = cc in bad)
values_apart (Number x) (Slot l w n) h = absurd (let bad : ⊥ = cc in bad)
values_apart (Element t x) (Truth b) h = absurd (let bad : ⊥ = cc in bad)
values_apart (Element t x) (Number y) h = absurd (let bad : ⊥ = cc in bad)
values_apart (Element t x) (Default d) h = absurd (let bad : ⊥ = cc in bad)
values_apart (Element t x) (Slot l w n) h = absurd (let bad : ⊥ = cc in bad)
values_apart (Default c) (Truth b) h = absurd (let bad : ⊥ = cc in bad)
values_apart (Default c) (Number y) h = absurd (let bad : ⊥ = cc in bad)
values_apart (Default c) (Element u y) h = absurd (let bad : ⊥ = cc in bad)
values_apart (Slot k v m) (Truth b) h = absurd (let bad : ⊥ = cc in bad)
values_apart (Slot k v m) (Number y) h = absurd (let bad : ⊥ = cc in bad)
values_apart (Slot k v m) (Element u y) h = absurd (let bad : ⊥ = cc in bad)
values_apart (Slot k v m) (Default d) h = absurd (let bad : ⊥ = cc in bad)

-- ---- what an order tells

below_by : (l q : Bool) → order_of l q ≡ Less → l ≡ true
below_by true q h = refl
below_by false true h = absurd (let bad : ⊥ = cc in bad)
below_by false false h = absurd (let bad : ⊥ = cc in bad)

not_below_by : (l q : Bool) (o : Ordering) → order_of l q ≡ o → o ≢ Less → l ≡ false
not_below_by true q o h f = absurd (f (sym h))
not_below_by false q o h f = refl

equal_by : (l q : Bool) → order_of l q ≡ Equal → (l ≡ false) × (q ≡ true)
equal_by true q h = absurd (let bad : ⊥ = cc in bad)
equal_by false true h = (refl, refl)
equal_by false false h = absurd (let bad : ⊥ = cc in bad)

greater_by : (l q : Bool) → order_of l q ≡ Greater → (l ≡ false) × (q ≡ false)
greater_by true q h = absurd (let bad : ⊥ = cc in bad)
greater_by false true h = absurd (let bad : ⊥ = cc in bad)
greater_by false false h = (refl, refl)

pub differ_below : (v w : ValueOf) → value_order v w ≡ Less → value_eq v w ≡ false
differ_below v w h = values_apart v w (below_by (value_lt v w) (value_eq v w) h)

pub same_equal : (v w : ValueOf) → value_order v w ≡ Equal → value_eq v w ≡ true
same_equal v w h = (equal_by (value_lt v w) (value_eq v w) h).1

pub differ_above : (v w : ValueOf) → value_order v w ≡ Greater → value_eq v w ≡ false
differ_above v w h = (greater_by (value_lt v w) (value_eq v w) h).1

pub ruleset sameness = (differ_below, same_equal, differ_above)

pub is_index_below : (k l : List PartOf) → index_order k l ≡ Less → index_lt k l ≡ true
is_index_below k l h = below_by (index_lt k l) (index_eq k l) h

pub same_indices : (k l : List PartOf) → index_order k l ≡ Equal → index_lt k l ≡ false
same_indices k l h = (equal_by (index_lt k l) (index_eq k l) h).0

pub index_above : (k l : List PartOf) → index_order k l ≡ Greater → index_lt k l ≡ false
index_above k l h = (greater_by (index_lt k l) (index_eq k l) h).0

pub ruleset index_below = (is_index_below, same_indices, index_above)

-- ---- keys

pub key_less : (v w : ValueOf) (vs ws : List ValueOf) → value_order v w ≡ Less → key_lt (v ∷ vs) (w ∷ ws) ≡ true
key_less v w vs ws h = ap (λ b. if b then true else value_eq v w && key_lt vs ws) (below_by (value_lt v w) (value_eq v w) h)

pub key_same : (v w : ValueOf) (vs ws : List ValueOf) → value_order v w ≡ Equal → key_lt (v ∷ vs) (w ∷ ws) ≡ key_lt vs ws
key_same v w vs ws h =
    let p = equal_by (value_lt v w) (value_eq v w) h in
    rw (p.0, p.1) refl

pub key_more : (v w : ValueOf) (vs ws : List ValueOf) → value_order v w ≡ Greater → key_lt (v ∷ vs) (w ∷ ws) ≡ false
key_more v w vs ws h =
    let p = greater_by (value_lt v w) (value_eq v w) h in
    rw (p.0, p.1) refl

pub ruleset key_steps = (key_less, key_same, key_more)
