-- Tables that are tested are typed and in normal form.
use Rattle.std.proofs.Common.{◌≡◌, ◌≢◌, ℕ, zero, suc, ◌+◌, ◌<◌, ◌≤◌, Bool, true, false, List, [], ◌∷◌, length, get_or, drop, map, Vec, Global, Some, None, refl, sym, ap, ◌∙◌, arith}
use Rattle.std.specs.Prelude.{not, ◌&&◌, ◌||◌, slice_get}
use Rattle.std.specs.List.Sorted.{IsStrictlySortedBy}
use Rattle.bg_ast.specs.Values.{Val, is_of, val_eq}
use Rattle.bg_ast.specs.Syntax.{Fun}
use Rattle.std.proofs.lemmas.List.{drop_all}
use Rattle.bg_sense.specs.Eval.{body_of}
use Rattle.bg_sense.specs.Types.{are_of}
use Rattle.bg_sense.specs.Tables.{has_body, is_blank, is_table, is_table_of, are_entries, are_tables}
use Rattle.bg_sense.proofs.Bools.{and_left, and_right, both}
use Rattle.bg_kinds.specs.Views.{ref_in}
use Rattle.bg_kinds.specs.declared.kinds.ValueType.{ValueType}
use Rattle.bg_terms.specs.Flat.{HaveNoBodies}
use Rattle.bg_scalar.specs.declared.value.Value.{Value}
use Rattle.bg_scalar.specs.declared.table.Table.{Table}
use Rattle.bg_scalar.specs.Values.{value_of}
use Rattle.bg_scalar.specs.Views as view
use Rattle.bg_scalar.specs.Views.{vals_in, table_in, tables_in}
use Rattle.bg_finish.specs.Filled.{args_cmp, entry_in}
use Rattle.bg_finish.proofs.Entered.{entry_of, InOrder, Fit, IsArgs, IsTold, entries_are}
use Rattle.bg_check.specs.Fitting.{entry_fits, entries_fit, EntriesRise}

and_false : (a b : Bool) → b ≡ false → (a && b) ≡ false
and_false true b h = h
and_false false b h = refl

pub lengths_differ : (ks : List ValueType) (vs : List Value) → length vs ≢ length ks → are_of (map ref_in ks) (vals_in vs) ≡ false
lengths_differ [] [] h = absurd (h refl)
lengths_differ [] (v ∷ vs) h = refl
lengths_differ (k ∷ ks) [] h = refl
lengths_differ (k ∷ ks) (v ∷ vs) h =
    and_false (is_of (ref_in k) (value_of v)) (are_of (map ref_in ks) (vals_in vs)) (lengths_differ ks vs (λ e. h (ap suc e)))

abbrev Kept : Type 0
Kept = Vec Value Global × Value

-- arguments that rise are in order
rises : (es : List Kept) → IsStrictlySortedBy (λ (a b : Vec Value Global). args_cmp a.items b.items) (map (λ (e : Kept). e.0) es) → InOrder (map entry_in es)
unfolding IsStrictlySortedBy
rises [] h = tt
rises (e ∷ []) h = (tt, tt)
rises (e ∷ g ∷ es) h = (h.0.0, rises (g ∷ es) h.1)

not_true : (b : Bool) → not b ≡ true → b ≡ false
not_true true h = absurd (let bad : ⊥ = cc in bad)
not_true false h = refl

fits : (f : Fun) (d : Val) (es : List Kept) → entries_fit f.params f.result d (map view.entry_in es) ≡ true → Fit (IsArgs f) (IsTold f d) (map entry_in es)
fits f d [] h = tt
fits f d (e ∷ es) h =
    let x = view.entry_in e in
    let one = and_left (entry_fits f.params f.result d x) (entries_fit f.params f.result d (map view.entry_in es)) h in
    let rest = and_right (entry_fits f.params f.result d x) (entries_fit f.params f.result d (map view.entry_in es)) h in
    let more = and_right (are_of f.params x.0) (is_of f.result x.1 && not (val_eq x.1 d)) one in
    ((and_left (are_of f.params x.0) (is_of f.result x.1 && not (val_eq x.1 d)) one, (and_left (is_of f.result x.1) (not (val_eq x.1 d)) more, not_true (val_eq x.1 d) (and_right (is_of f.result x.1) (not (val_eq x.1 d)) more))), fits f d es rest)

alike : (es : List Kept) → map entry_of (map entry_in es) ≡ map view.entry_in es
alike [] = refl
alike (e ∷ es) = ap (λ (l : List (List Val × Val)). view.entry_in e ∷ l) (alike es)

table_is : (f : Fun) (t : Table) → f.body ≡ None → (is_of f.result (value_of t.default) && entries_fit f.params f.result (value_of t.default) (table_in t).entries) ≡ true → EntriesRise t → is_table_of f (table_in t) ≡ true
table_is f t body h rise =
    let d = value_of t.default in
    let es = t.entries.entries in
    let typed = and_left (is_of f.result d) (entries_fit f.params f.result d (map view.entry_in es)) h in
    let fit = and_right (is_of f.result d) (entries_fit f.params f.result d (map view.entry_in es)) h in
    let entries = ap (are_entries f d) (sym (alike es)) ∙ entries_are f d (map entry_in es) (rises es rise) (fits f d es fit) in
    both (is_table f (table_in t)) (not (has_body f.body) || is_blank f (table_in t)) (both (is_of f.result d) (are_entries f d (map view.entry_in es)) typed entries) (ap (λ b. not (has_body b) || is_blank f (table_in t)) body)

-- ---- tables one by one

pub body_at : (fs : List Fun) (i : ℕ) (f : Fun) → HaveNoBodies fs → slice_get fs i ≡ Some f → f.body ≡ None
body_at fs i f none e = sym (ap body_of e) ∙ none i

map_at : {A B : Type 0} (h : A → B) (xs : List A) (i : ℕ) (x d : A) → i < length xs → x ≡ get_or xs i d → slice_get (map h xs) i ≡ Some (h x)
map_at h [] i x d lt e = absurd (omega (arith, lt))
map_at h (y ∷ xs) zero x d lt e = ap (λ z. Some (h z)) (sym e)
map_at h (y ∷ xs) (suc i) x d lt e = map_at h xs i x d (omega (arith, lt)) e

-- one table more is tested
pub one_more : {A : Type 0} (h : A → Fun) (gs : List A) (ts : List Table) (i : ℕ) (g dg : A) (t dt : Table) → i < length gs → i < length ts → g ≡ get_or gs i dg → t ≡ get_or ts i dt → is_table_of (h g) (table_in t) ≡ true → are_tables (map h (drop (i + 1) gs)) (tables_in (drop (i + 1) ts)) ≡ are_tables (map h (drop i gs)) (tables_in (drop i ts))
one_more h [] ts i g dg t dt lt less e k is = absurd (omega (arith, lt))
one_more h (x ∷ gs) [] i g dg t dt lt less e k is = absurd (omega (arith, less))
one_more h (x ∷ gs) (y ∷ ts) zero g dg t dt lt less e k is =
    let one : is_table_of (h x) (table_in y) ≡ true = ap (λ z. is_table_of (h z) (table_in y)) (sym e) ∙ (ap (λ z. is_table_of (h g) (table_in z)) (sym k) ∙ is) in
    sym (ap (λ b. b && are_tables (map h gs) (tables_in ts)) one)
one_more h (x ∷ gs) (y ∷ ts) (suc i) g dg t dt lt less e k is =
    ap (λ j. are_tables (map h (drop j (x ∷ gs))) (tables_in (drop j (y ∷ ts)))) (let q : suc i + 1 ≡ suc (i + 1) = omega arith in q)
    ∙ one_more h gs ts i g dg t dt (omega (arith, lt)) (omega (arith, less)) e k is

pub all_tested : {A : Type 0} (h : A → Fun) (gs : List A) (ts : List Table) (i : ℕ) → length ts ≤ i → length gs ≡ length ts → are_tables (map h (drop i gs)) (tables_in (drop i ts)) ≡ true
all_tested h [] [] i lt e = ap (λ l. are_tables (map h l) (tables_in (drop i []))) (drop_all i [] (omega arith)) ∙ ap (λ l. are_tables [] (tables_in l)) (drop_all i [] (omega arith))
all_tested h [] (t ∷ ts) i lt e = absurd (omega (arith, e))
all_tested h (g ∷ gs) [] i lt e = absurd (omega (arith, e))
all_tested h (g ∷ gs) (t ∷ ts) zero lt e = absurd (omega (arith, lt))
all_tested h (g ∷ gs) (t ∷ ts) (suc i) lt e = all_tested h gs ts i (omega (arith, lt)) (omega (arith, e))

-- the test of the table at a place
pub tested_at : {A : Type 0} (h : A → Fun) (gs : List A) (i : ℕ) (g d : A) (t : Table) → HaveNoBodies (map h gs) → i < length gs → g ≡ get_or gs i d → (is_of (h g).result (value_of t.default) && entries_fit (h g).params (h g).result (value_of t.default) (table_in t).entries) ≡ true → EntriesRise t → is_table_of (h g) (table_in t) ≡ true
tested_at h gs i g d t none lt e ok rise =
    table_is (h g) t (body_at (map h gs) i (h g) none (map_at h gs i g d lt e)) ok rise
