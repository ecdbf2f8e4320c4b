-- Entries of a function's table that are entered from the last one on.
use Rattle.std.proofs.Common.{◌≡◌, ℕ, suc, ◌+◌, ◌<◌, Bool, true, false, List, [], ◌∷◌, length, map, drop, get_or, Vec, Global, None, Some, ℤ, zero, refl, sym, ap, ◌∙◌, subst, arith}
use Rattle.std.specs.Prelude.{◌&&◌, ◌==◌, not, if◌then◌else◌, Option, int_lt}
use Rattle.std.specs.List.{list_all}
use Rattle.std.specs.Str.{bytes_eq}
use Rattle.std.proofs.lemmas.Bool.{eq-eqb}
use Rattle.std.proofs.lemmas.Slice.Eq.{bytes_eq-Decides}
use Rattle.std.specs.declared.cmp.Ordering.TheVariants.{Less}
use Rattle.std.specs.Ordering.{int_eq, match_ordering}
use Rattle.std.specs.BTreeMap.{insert_entry}
use Rattle.std.proofs.lemmas.List.{drop_more}
use Rattle.bg_sense.specs.Tables.{val_lt, vals_lt}
use Rattle.bg_sense.proofs.Bools.{both, and_left, and_right}
use Rattle.bg_sense.proofs.MapLaws.{val_eq_refl}
use Rattle.bg_ast.specs.Values.{Val, Ty, MapTy, BoolTy, IntTy, UserTy, keys_lt, keys_eq, val_eq, result_of}
use Rattle.bg_scalar.specs.declared.value.Value.{Value}
use Rattle.bg_scalar.specs.Values.{value_of}
use Rattle.bg_scalar.specs.Views.{vals_in, entry_in}
use Rattle.bg_replay.specs.Holds.{type_at}
use Rattle.bg_certtext.specs.declared.text.Entry as code
use Rattle.bg_certtext.specs.Views as text
use Rattle.bg_certtext.specs.Views.{PartOf, AtNumber, AtElement, ValueOf, Truth, Number, Element, Default, Slot, EntryOf, FunctionOf}
use Rattle.bg_certtext.specs.Spellable.{part_lt, part_eq, index_lt, index_eq, value_lt, value_eq, key_lt, comes_behind, are_entries, is_name, is_value, is_entry, is_function}
use Rattle.bg_confirm.specs.Met as met
use Rattle.bg_confirm.specs.Met.{number_at, val_for, vals_for}
use Rattle.bg_scalar.proofs.Below.{args_cmp, args_less}

-- ---- the order of a certificate's values is that of values

int_same : (x y : ℤ) → int_eq x y ≡ true → x ≡ y
int_same x y e = grind arith

-- parts, indices and values that are the same
part_same : (p q : PartOf) → part_eq p q ≡ true → p ≡ q
part_same (AtNumber x) (AtNumber y) h = ap AtNumber (int_same x y h)
part_same (AtNumber x) (AtElement u y) h = absurd (let bad : ⊥ = cc in bad)
part_same (AtElement t x) (AtNumber y) h = absurd (let bad : ⊥ = cc in bad)
part_same (AtElement t x) (AtElement u y) h =
    ap (λ (w : List ℕ). AtElement w x) ((bytes_eq-Decides t u).0 (and_left (bytes_eq t u) (int_eq x y) h))
    ∙ ap (AtElement u) (int_same x y (and_right (bytes_eq t u) (int_eq x y) h))

index_same : (k l : List PartOf) → index_eq k l ≡ true → k ≡ l
index_same [] [] h = refl
index_same [] (q ∷ l) h = absurd (let bad : ⊥ = cc in bad)
index_same (p ∷ k) [] h = absurd (let bad : ⊥ = cc in bad)
index_same (p ∷ k) (q ∷ l) h =
    ap (λ (z : PartOf). z ∷ k) (part_same p q (and_left (part_eq p q) (index_eq k l) h))
    ∙ ap (λ (zs : List PartOf). q ∷ zs) (index_same k l (and_right (part_eq p q) (index_eq k l) h))

value_same : (x y : ValueOf) → value_eq x y ≡ true → x ≡ y
value_same (Truth true) (Truth true) h = refl
value_same (Truth true) (Truth false) h = absurd (let bad : ⊥ = cc in bad)
value_same (Truth false) (Truth true) h = absurd (let bad : ⊥ = cc in bad)
value_same (Truth false) (Truth false) h = refl
value_same (Truth true) (Number y) h = absurd (let bad : ⊥ = cc in bad)
value_same (Truth false) (Number y) h = absurd (let bad : ⊥ = cc in bad)
value_same (Truth true) (Element u y) h = absurd (let bad : ⊥ = cc in bad)
value_same (Truth false) (Element u y) h = absurd (let bad : ⊥ = cc in bad)
value_same (Truth true) (Default d) h = absurd (let bad : ⊥ = cc in bad)
value_same (Truth false) (Default d) h = absurd (let bad : ⊥ = cc in bad)
value_same (Truth true) (Slot l w n) h = absurd (let bad : ⊥ = cc in bad)
value_same (Truth false) (Slot l w n) h = absurd (let bad : ⊥ = cc in bad)
value_same (Number x) (Truth b) h = absurd (let bad : ⊥ = cc in bad)
value_same (Number x) (Number y) h = ap Number (int_same x y h)
value_same (Number x) (Element u y) h = absurd (let bad : ⊥ = cc in bad)
value_same (Number x) (Default d) h = absurd (let bad : ⊥ = cc in bad)
value_same (Number x) (Slot l w n) h = absurd (let bad : ⊥ = cc in bad)
value_same (Element t x) (Truth b) h = absurd (let bad : ⊥ = cc in bad)
value_same (Element t x) (Number y) h = absurd (let bad : ⊥ = cc in bad)
value_same (Element t x) (Element u y) h =
    ap (λ (w : List ℕ). Element w x) ((bytes_eq-Decides t u).0 (and_left (bytes_eq t u) (int_eq x y) h))
    ∙ ap (Element u) (int_same x y (and_right (bytes_eq t u) (int_eq x y) h))
value_same (Element t x) (Default d) h = absurd (let bad : ⊥ = cc in bad)
value_same (Element t x) (Slot l w n) h = absurd (let bad : ⊥ = cc in bad)
value_same (Default c) (Truth b) h = absurd (let bad : ⊥ = cc in bad)
value_same (Default c) (Number y) h = absurd (let bad : ⊥ = cc in bad)
value_same (Default c) (Element u y) h = absurd (let bad : ⊥ = cc in bad)
value_same (Default c) (Default d) h = ap Default (value_same c d h)
value_same (Default c) (Slot l w n) h = absurd (let bad : ⊥ = cc in bad)
value_same (Slot k v m) (Truth b) h = absurd (let bad : ⊥ = cc in bad)
value_same (Slot k v m) (Number y) h = absurd (let bad : ⊥ = cc in bad)
value_same (Slot k v m) (Element u y) h = absurd (let bad : ⊥ = cc in bad)
value_same (Slot k v m) (Default d) h = absurd (let bad : ⊥ = cc in bad)
value_same (Slot k v m) (Slot l w n) h =
    let rest = and_right (index_eq k l) (value_eq v w && value_eq m n) h in
    ap (λ (i : List PartOf). Slot i v m) (index_same k l (and_left (index_eq k l) (value_eq v w && value_eq m n) h))
    ∙ (ap (λ (x : ValueOf). Slot l x m) (value_same v w (and_left (value_eq v w) (value_eq m n) rest))
    ∙ ap (Slot l w) (value_same m n (and_right (value_eq v w) (value_eq m n) rest)))

or_else : (a b : Bool) → b ≡ true → (if a then true else b) ≡ true
or_else true b h = refl
or_else false b h = h

-- where the first that differ are in order, or all so far are the same and the rest is in order
first_or : (l e b l' e' b' : Bool) → (l ≡ true → l' ≡ true) → (e ≡ true → e' ≡ true) → (b ≡ true → b' ≡ true) → (if l then true else e && b) ≡ true → (if l' then true else e' && b') ≡ true
first_or true e b l' e' b' f g h k = ap (λ (x : Bool). if x then true else e' && b') (f refl)
first_or false e b l' e' b' f g h k =
    or_else l' (e' && b') (both e' b' (g (and_left e b k)) (h (and_right e b k)))

part_on : (p q : PartOf) → part_lt p q ≡ true → int_lt (number_at p) (number_at q) ≡ true
part_on (AtNumber x) (AtNumber y) h = h
part_on (AtNumber x) (AtElement u y) h = absurd (let bad : ⊥ = cc in bad)
part_on (AtElement t x) (AtNumber y) h = absurd (let bad : ⊥ = cc in bad)
part_on (AtElement t x) (AtElement u y) h = and_right (bytes_eq t u) (int_lt x y) h

abbrev numbers : List PartOf → List ℤ
numbers k = map number_at k

int_itself : (x y : ℤ) → x ≡ y → int_eq x y ≡ true
int_itself x y e = grind arith

index_on : (k l : List PartOf) → index_lt k l ≡ true → keys_lt (numbers k) (numbers l) ≡ true
index_on [] [] h = absurd (let bad : ⊥ = cc in bad)
index_on [] (q ∷ l) h = refl
index_on (p ∷ k) [] h = absurd (let bad : ⊥ = cc in bad)
index_on (p ∷ k) (q ∷ l) h =
    first_or (part_lt p q) (part_eq p q) (index_lt k l) (int_lt (number_at p) (number_at q)) (int_eq (number_at p) (number_at q)) (keys_lt (numbers k) (numbers l)) (part_on p q) (λ e. int_itself (number_at p) (number_at q) (ap number_at (part_same p q e))) (index_on k l) h

keys_itself : (k : List ℤ) → keys_eq k k ≡ true
keys_itself [] = refl
keys_itself (x ∷ k) = both (int_eq x x) (keys_eq k k) (int_itself x x refl) (keys_itself k)

element_on : (t : Ty) (x y : ℤ) → int_lt x y ≡ true → val_lt (met.element_in t x) (met.element_in t y) ≡ true
element_on BoolTy x y e = e
element_on IntTy x y e = e
element_on (UserTy k) x y e = both (k == k) (int_lt x y) (eq-eqb k k refl) e
element_on (MapTy ks u) x y e = e

value_on : (t : Ty) (x y : ValueOf) → value_lt x y ≡ true → val_lt (val_for t x) (val_for t y) ≡ true
value_on t (Truth false) (Truth true) h = refl
value_on t (Truth false) (Truth false) h = absurd (let bad : ⊥ = cc in bad)
value_on t (Truth true) (Truth b) h = absurd (let bad : ⊥ = cc in bad)
value_on t (Truth a) (Number y) h = absurd (let bad : ⊥ = cc in bad)
value_on t (Truth a) (Element u y) h = absurd (let bad : ⊥ = cc in bad)
value_on t (Truth a) (Default d) h = absurd (let bad : ⊥ = cc in bad)
value_on t (Truth a) (Slot l w n) h = absurd (let bad : ⊥ = cc in bad)
value_on t (Number x) (Truth b) h = absurd (let bad : ⊥ = cc in bad)
value_on t (Number x) (Number y) h = h
value_on t (Number x) (Element u y) h = absurd (let bad : ⊥ = cc in bad)
value_on t (Number x) (Default d) h = absurd (let bad : ⊥ = cc in bad)
value_on t (Number x) (Slot l w n) h = absurd (let bad : ⊥ = cc in bad)
value_on t (Element s x) (Truth b) h = absurd (let bad : ⊥ = cc in bad)
value_on t (Element s x) (Number y) h = absurd (let bad : ⊥ = cc in bad)
value_on t (Element s x) (Element u y) h = element_on t x y (and_right (bytes_eq s u) (int_lt x y) h)
value_on t (Element s x) (Default d) h = absurd (let bad : ⊥ = cc in bad)
value_on t (Element s x) (Slot l w n) h = absurd (let bad : ⊥ = cc in bad)
value_on t (Default c) (Truth b) h = absurd (let bad : ⊥ = cc in bad)
value_on t (Default c) (Number y) h = absurd (let bad : ⊥ = cc in bad)
value_on t (Default c) (Element u y) h = absurd (let bad : ⊥ = cc in bad)
value_on t (Default c) (Default d) h = value_on (result_of t) c d h
value_on t (Default c) (Slot l w n) h = refl
value_on t (Slot k v m) (Truth b) h = absurd (let bad : ⊥ = cc in bad)
value_on t (Slot k v m) (Number y) h = absurd (let bad : ⊥ = cc in bad)
value_on t (Slot k v m) (Element u y) h = absurd (let bad : ⊥ = cc in bad)
value_on t (Slot k v m) (Default d) h = absurd (let bad : ⊥ = cc in bad)
value_on t (Slot k v m) (Slot l w n) h =
    let u = result_of t in
    first_or (index_lt k l) (index_eq k l) (if value_lt v w then true else value_eq v w && value_lt m n)
    (keys_lt (numbers k) (numbers l)) (keys_eq (numbers k) (numbers l)) (if val_lt (val_for u v) (val_for u w) then true else val_eq (val_for u v) (val_for u w) && val_lt (val_for t m) (val_for t n))
    (index_on k l) (λ e. subst (λ (i : List PartOf). keys_eq (numbers k) (numbers i) ≡ true) (index_same k l e) (keys_itself (numbers k)))
    (first_or (value_lt v w) (value_eq v w) (value_lt m n) (val_lt (val_for u v) (val_for u w)) (val_eq (val_for u v) (val_for u w)) (val_lt (val_for t m) (val_for t n)) (λ e. value_on u v w e) (λ e. subst (λ (x : ValueOf). val_eq (val_for u v) (val_for u x) ≡ true) (value_same v w e) (val_eq_refl (val_for u v))) (λ e. value_on t m n e))
    h

keys_on : (hs : List Ty) (xs ys : List ValueOf) → key_lt xs ys ≡ true → vals_lt (vals_for hs xs) (vals_for hs ys) ≡ true
keys_on hs [] [] h = absurd (let bad : ⊥ = cc in bad)
keys_on hs [] (y ∷ ys) h = refl
keys_on hs (x ∷ xs) [] h = absurd (let bad : ⊥ = cc in bad)
keys_on hs (x ∷ xs) (y ∷ ys) h =
    let t = type_at hs 0 in
    first_or (value_lt x y) (value_eq x y) (key_lt xs ys) (val_lt (val_for t x) (val_for t y)) (val_eq (val_for t x) (val_for t y)) (vals_lt (vals_for (drop 1 hs) xs) (vals_for (drop 1 hs) ys))
    (value_on t x y) (λ e. subst (λ (z : ValueOf). val_eq (val_for t x) (val_for t z) ≡ true) (value_same x y e) (val_eq_refl (val_for t x))) (keys_on (drop 1 hs) xs ys) h

-- ---- an entry in front of all others

abbrev Entries : Type 0
Entries = List (Vec Value Global × Value)

abbrev IsBefore : Vec Value Global → Entries → Type 0
IsBefore k [] = Unit {0}
IsBefore k (e ∷ es) = args_cmp k.items (e.0).items ≡ Less

first_in : (k : Vec Value Global) (x : Value) (es : Entries) → IsBefore k es → map entry_in (insert_entry (λ a b. args_cmp a.items b.items) es k x) ≡ (vals_in k.items, value_of x) ∷ map entry_in es
first_in k x [] h = refl
first_in k x (e ∷ es) h = ap (λ o. map entry_in (match_ordering o ((k, x) ∷ e ∷ es) ((e.0, x) ∷ es) (e ∷ insert_entry (λ a b. args_cmp a.items b.items) es k x))) h

-- behind an entry the others are in order
entries_on : (before : Option (List ValueOf)) (d : ValueOf) (es : List code.Entry) (n : ℕ) (e : code.Entry) → n < length es → are_entries before d (map text.entry_of es) ≡ true →
    are_entries (Some (map text.value_of (get_or es n e).key.items)) d (map text.entry_of (drop (n + 1) es)) ≡ true
entries_on before d [] n e l h = absurd (omega arith)
entries_on before d (x ∷ es) n e l h = by (λ k j. entries_on (Some (map text.value_of x.key.items)) d es k e j rest) n l
  where
    rest : are_entries (Some (map text.value_of x.key.items)) d (map text.entry_of es) ≡ true
    rest = and_right (not (value_eq (text.value_of x.value) d)) _ (and_right (comes_behind before (map text.value_of x.key.items)) _ h)

    by : ((n : ℕ) → n < length es → are_entries (Some (map text.value_of (get_or es n e).key.items)) d (map text.entry_of (drop (n + 1) es)) ≡ true) → (n : ℕ) → n < length (x ∷ es) → are_entries (Some (map text.value_of (get_or (x ∷ es) n e).key.items)) d (map text.entry_of (drop (n + 1) (x ∷ es))) ≡ true
    by on zero l = rest
    by on (suc n) l =
        let same : suc n + 1 ≡ suc (n + 1) = omega arith in
        ap (λ (k : ℕ). are_entries (Some (map text.value_of (get_or es n e).key.items)) d (map text.entry_of (drop k (x ∷ es)))) same
        ∙ on n (omega (arith, l))

-- entries of a function's types
module _ (hs : List Ty) (h : Ty) where
  abbrev pub read : EntryOf → List Val × Val
  read e = (vals_for hs e.key, val_for h e.value)

  abbrev pub all_read : List code.Entry → List (List Val × Val)
  all_read es = map read (map text.entry_of es)

  -- what is entered already comes behind it
  before_all : (k : Vec Value Global) (key : List ValueOf) (d : ValueOf) (old : Entries) (es : List EntryOf) → vals_in k.items ≡ vals_for hs key → map entry_in old ≡ map read es → are_entries (Some key) d es ≡ true → IsBefore k old
  before_all k key d [] es i e o = tt
  before_all k key d (x ∷ old) [] i e o = absurd (let bad : ⊥ = cc in bad)
  before_all k key d (x ∷ old) (g ∷ gs) i e o =
      let first : entry_in x ≡ read g = cc in
      let its : vals_in (x.0).items ≡ vals_for hs g.key = ap (λ (y : List Val × Val). y.0) first in
      args_less k.items (x.0).items
      (ap (λ (ys : List Val). vals_lt ys (vals_in (x.0).items)) i
      ∙ (ap (vals_lt (vals_for hs key)) its ∙ keys_on hs key g.key (and_left (key_lt key g.key) _ o)))

  -- one more entry, in front of those that are entered
  pub entered : (d : ValueOf) (es : List code.Entry) (n : ℕ) (e : code.Entry) (key : Vec Value Global) (x : Value) (old new : Entries) → n < length es → are_entries None d (map text.entry_of es) ≡ true →
      vals_in key.items ≡ vals_for hs (map text.value_of (get_or es n e).key.items) → value_of x ≡ val_for h (text.value_of (get_or es n e).value) → new ≡ insert_entry (λ a b. args_cmp a.items b.items) old key x →
      map entry_in old ≡ all_read (drop (n + 1) es) → map entry_in new ≡ all_read (drop n es)
  entered d es n e key x old new l o k v put inv =
      ap (map entry_in) put
      ∙ (first_in key x old (before_all key (map text.value_of (get_or es n e).key.items) d old (map text.entry_of (drop (n + 1) es)) k inv (entries_on None d es n e l o))
      ∙ (ap (λ (ys : List Val). (ys, value_of x) ∷ map entry_in old) k
      ∙ (ap (λ (y : Val). (vals_for hs (map text.value_of (get_or es n e).key.items), y) ∷ map entry_in old) v
      ∙ (ap (λ (rs : List (List Val × Val)). (vals_for hs (map text.value_of (get_or es n e).key.items), val_for h (text.value_of (get_or es n e).value)) ∷ rs) inv
      ∙ ap all_read (sym (drop_more es n e l))))))

-- the entries of a table that has a text are in order
pub spelt : (g : FunctionOf) → is_function g ≡ true → are_entries None g.default g.entries ≡ true
spelt g h =
    and_right (is_value g.default) _ (and_right (list_all is_entry g.entries) _ (and_right (is_name g.name) _ h))
