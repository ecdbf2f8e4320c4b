-- The arguments of entries, and tables of functions, are read back from bytes.
use Rattle.std.proofs.Common.{◌≡◌, ⊎_elim, ℕ, zero, suc, ◌+◌, ◌<◌, ◌≤◌, ◌==◌, Bool, true, false, ◌&&◌, not, if◌then◌else◌, List, [], ◌∷◌, ◌++◌, length, map, flat_map, Option, Some, None, codes, refl, ap, sym, subst, ◌∙◌, append_assoc, append-nil, arith}
use Rattle.std.specs.List.{list_all}
use Rattle.bg_certtext.specs.Views.{ValueOf, Truth, Number, Element, Default, Slot, EntryOf}
use Rattle.bg_certtext.specs.Spellable.{is_empty, is_value, is_entry}
use Rattle.bg_certtext.specs.Lines.{behind_comma}
use Rattle.bg_certtext.specs.Texts.{row_text, value_text, key_text, entries_text, table_text}
use Rattle.bg_certtext.specs.Rows.{rows_text}
use Rattle.bg_certtext.specs.Words.{is_in_value}
use Rattle.bg_certtext.specs.Machine.{then_, behind, Got, either, RowsOf, value_at, values_from, key_at, table_at, entry_for}
use Rattle.bg_certtext.specs.Got.{entries_at}
use Rattle.bg_certtext.proofs.ReadsOptions.{then_made, same_some, both, all_of}
use Rattle.bg_certtext.proofs.ReadsBytes.{Stops}
use Rattle.bg_certtext.proofs.ReadsRows.{row_joined, behind_back, behind_length, either_made, either_alike, then_alike, Cuts, shorter, rows_back}
use Rattle.bg_certtext.proofs.ReadsFuel.{value_at_cuts}
use Rattle.bg_certtext.proofs.ReadsValues.{else_is_no_value, plain_spelt, filled_plain, rows_more, rows_last, value_read, bracket_stops, comma_stops}
use Rattle.bg_certtext.proofs.Late.{is_spelt}

-- ---- back

abbrev pub are_values : List ValueOf → Bool
are_values vs = list_all is_value vs

abbrev AreValues : List ℕ → List ValueOf × List ℕ → Type 0
AreValues bs p = (bs ≡ key_text p.0 ++ p.1) × (are_values p.0 ≡ true) × (is_empty p.0 ≡ false)

key_more : (v : ValueOf) (vs : List ValueOf) (q : List ℕ) → is_empty vs ≡ false → value_text v ++ (codes "," ++ (key_text vs ++ q)) ≡ key_text (v ∷ vs) ++ q
key_more v [] q h = absurd (cc)
key_more v (w ∷ ws) q h = sym (append_assoc (value_text v) (codes "," ++ key_text (w ∷ ws)) q)

values_back : (n : ℕ) (bs : List ℕ) (p : List ValueOf × List ℕ) → values_from n bs ≡ Some p → AreValues bs p
values_back zero bs p h = absurd (cc)
values_back (suc n) bs p h =
    let (v, hv, h1) = then_made (value_at bs) _ p h in
    let c = value_at_cuts bs v hv in
    ⊎_elim
    (λ q.
    let (vs, hvs, h2) = then_made (values_from n q.0) _ p q.2 in
    let made : List ValueOf × List ℕ = (v.0 ∷ vs.0, vs.1) in
    let more = values_back n q.0 vs hvs in
    subst (AreValues bs) (same_some made p h2)
    (c.0 ∙ ap (λ (x : List ℕ). value_text v.0 ++ x) (behind_back (codes ",") v.1 q.0 q.1 ∙ ap (λ (x : List ℕ). codes "," ++ x) more.0) ∙ key_more v.0 vs.0 vs.1 more.2, all_of (is_value v.0) (are_values vs.0) c.1 more.1, refl))
    (λ q.
    let made : List ValueOf × List ℕ = (v.0 ∷ [], v.1) in
    subst (AreValues bs) (same_some made p q.1)
    (c.0 ∙ ap (λ (x : List ℕ). x ++ v.1) (sym (append-nil (value_text v.0))), all_of (is_value v.0) true c.1 refl, refl))
    (either_made (behind (codes ",") v.1) _ _ p h1)

pub key_cuts : Cuts key_at key_text are_values
key_cuts bs p h =
    ⊎_elim
    (λ q.
    let made : List ValueOf × List ℕ = ([], bs) in
    let P : List ValueOf × List ℕ → Type 0 = λ p. (bs ≡ key_text p.0 ++ p.1) × (are_values p.0 ≡ true) in
    subst P (same_some made p q.2) (refl, refl))
    (λ q. let r = values_back (suc (length bs)) bs p q.1 in (r.0, r.1))
    (either_made (behind (codes " ") bs) _ (values_from (suc (length bs)) bs) p h)

-- ---- as many values as bytes are enough

pub values_alike : (n m : ℕ) (bs : List ℕ) → length bs < n → length bs < m → values_from n bs ≡ values_from m bs
values_alike zero m bs a b = absurd (omega (arith, a))
values_alike (suc n) zero bs a b = absurd (omega (arith, b))
values_alike (suc n) (suc m) bs a b =
    then_alike (value_at bs) _ _
    (λ v hv.
    let short : length v.1 ≤ length bs = shorter value_at value_text is_value value_at_cuts bs v hv in
    either_alike (behind (codes ",") v.1) _ _ _ _
    (λ r hr.
    let less : length v.1 ≡ 1 + length r = behind_length (codes ",") v.1 r hr in
    ap (λ (o : Got (List ValueOf)). then_ o (λ vs. let made : List ValueOf × List ℕ = (v.0 ∷ vs.0, vs.1) in Some made)) (values_alike n m r (omega (arith, a, short, less)) (omega (arith, b, short, less))))
    refl)

abbrev pub values_at : List ℕ → Got (List ValueOf)
values_at bs = values_from (suc (length bs)) bs

pub values_step : (bs : List ℕ) → values_at bs ≡ then_ (value_at bs) (λ v. either (behind (codes ",") v.1) (λ r. then_ (values_at r) (λ vs. Some (v.0 ∷ vs.0, vs.1))) (Some (v.0 ∷ [], v.1)))
values_step bs =
    then_alike (value_at bs) _ _
    (λ v hv.
    let short : length v.1 ≤ length bs = shorter value_at value_text is_value value_at_cuts bs v hv in
    either_alike (behind (codes ",") v.1) _ _ _ _
    (λ r hr.
    let less : length v.1 ≡ 1 + length r = behind_length (codes ",") v.1 r hr in
    ap (λ (o : Got (List ValueOf)). then_ o (λ vs. let made : List ValueOf × List ℕ = (v.0 ∷ vs.0, vs.1) in Some made)) (values_alike (length bs) (suc (length r)) r (omega (arith, short, less)) (omega arith)))
    refl)

-- ---- forwards

sign_stops : (rest : List ℕ) → Stops is_in_value (codes " := " ++ rest)
unfolding is_in_value
sign_stops rest = refl

key_comma_stops : (rest : List ℕ) → Stops is_in_value (codes "," ++ rest)
unfolding is_in_value
key_comma_stops rest = refl

lone_value : (v : ValueOf) (x : List ℕ) → is_value v ≡ true → values_at (key_text (v ∷ []) ++ (codes " := " ++ x)) ≡ Some (v ∷ [], codes " := " ++ x)
lone_value v x h =
    let rest = codes " := " ++ x in
    ap (λ (w : List ℕ). values_at (w ++ rest)) (append-nil (value_text v))
    ∙ (values_step (value_text v ++ rest)
    ∙ ap (λ (o : Got ValueOf). then_ o (λ v. either (behind (codes ",") v.1) (λ r. then_ (values_at r) (λ vs. let made : List ValueOf × List ℕ = (v.0 ∷ vs.0, vs.1) in Some made)) (let made : List ValueOf × List ℕ = (v.0 ∷ [], v.1) in Some made))) (value_read v h rest (sign_stops x)))

pub values_read : (v : ValueOf) (vs : List ValueOf) (x : List ℕ) → is_value v ≡ true → are_values vs ≡ true → values_at (key_text (v ∷ vs) ++ (codes " := " ++ x)) ≡ Some (v ∷ vs, codes " := " ++ x)
values_read v [] x h k = lone_value v x h
values_read v (w ∷ ws) x h k =
    let p = both (is_value w) (are_values ws) k in
    let rest = codes " := " ++ x in
    let on = key_text (w ∷ ws) ++ rest in
    ap values_at (sym (key_more v (w ∷ ws) rest refl))
    ∙ (values_step (value_text v ++ (codes "," ++ on))
    ∙ (ap (λ (o : Got ValueOf). then_ o (λ v. either (behind (codes ",") v.1) (λ r. then_ (values_at r) (λ vs. let made : List ValueOf × List ℕ = (v.0 ∷ vs.0, vs.1) in Some made)) (let made : List ValueOf × List ℕ = (v.0 ∷ [], v.1) in Some made))) (value_read v h (codes "," ++ on) (key_comma_stops on))
    ∙ ap (λ (o : Got (List ValueOf)). then_ o (λ vs. let made : List ValueOf × List ℕ = (v ∷ vs.0, vs.1) in Some made)) (values_read w ws x p.0 p.1)))

unlike : (t : Bool) (o : Option (List ℕ)) → not t ≡ true → (if t then o else None) ≡ None
unlike true o h = absurd (let bad : ⊥ = cc in bad)
unlike false o h = refl

no_space_by : (w rest : List ℕ) → list_all is_spelt w ≡ true → is_empty w ≡ false → behind (codes " ") (w ++ rest) ≡ None
unfolding is_in_value
no_space_by [] rest h e = absurd (let bad : ⊥ = cc in bad)
no_space_by (b ∷ bs) rest h e =
    let p = both (is_spelt b) (list_all is_spelt bs) h in
    unlike (b == 32) (Some (bs ++ rest)) (both (not (b == 32)) _ (both (is_in_value b) (not (b == 91)) p.0).0).0

no_space : (v : ValueOf) (rest : List ℕ) → is_value v ≡ true → behind (codes " ") (value_text v ++ rest) ≡ None
no_space (Truth b) rest h = no_space_by (value_text (Truth b)) rest (plain_spelt (Truth b) tt h) (filled_plain (Truth b) tt h)
no_space (Number z) rest h = no_space_by (value_text (Number z)) rest (plain_spelt (Number z) tt h) (filled_plain (Number z) tt h)
no_space (Element t z) rest h = no_space_by (value_text (Element t z)) rest (plain_spelt (Element t z) tt h) (filled_plain (Element t z) tt h)
no_space (Default d) rest h = refl
no_space (Slot k v m) rest h = refl

pub key_read : (vs : List ValueOf) (x : List ℕ) → are_values vs ≡ true → key_at (key_text vs ++ (codes " := " ++ x)) ≡ Some (vs, codes " := " ++ x)
key_read [] x h = refl
key_read (v ∷ vs) x h =
    let p = both (is_value v) (are_values vs) h in
    let others = flat_map behind_comma (map value_text vs) in
    let rest = codes " := " ++ x in
    let bs = key_text (v ∷ vs) ++ rest in
    let none : behind (codes " ") bs ≡ None = ap (behind (codes " ")) (append_assoc (value_text v) others rest) ∙ no_space v (others ++ rest) p.0 in
    ap (λ (o : Option (List ℕ)). either o (λ r. let made : List ValueOf × List ℕ = ([], bs) in Some made) (values_at bs)) none
    ∙ values_read v vs x p.0 p.1

-- ---- tables

pub else_is_no_key : (r : List ℕ) → key_at (codes "else " ++ r) ≡ None
else_is_no_key r = ap (λ (o : Got ValueOf). then_ o (λ v. either (behind (codes ",") v.1) (λ q. then_ (values_from (length (codes "else " ++ r)) q) (λ vs. let made : List ValueOf × List ℕ = (v.0 ∷ vs.0, vs.1) in Some made)) (let made : List ValueOf × List ℕ = (v.0 ∷ [], v.1) in Some made))) (else_is_no_value (length (codes "else " ++ r)) r)

abbrev pairs : List EntryOf → List (List ValueOf × ValueOf)
pairs es = map (λ e. (e.key, e.value)) es

pub entries_read : (es : List EntryOf) (d : ValueOf) → list_all is_entry es ≡ true → is_value d ≡ true → (rest : List ℕ) → entries_at (entries_text es d ++ rest) ≡ Some (record { entries = pairs es; default = d; rest = rest })
entries_read [] d h k rest = rows_last key_at key_text are_values key_cuts else_is_no_key d rest (value_read d k (codes "]" ++ rest) (bracket_stops rest))
entries_read (e ∷ es) d h k rest =
    let p = both (is_entry e) (list_all is_entry es) h in
    let q = both (are_values e.key) (is_value e.value) p.0 in
    let x = entries_text es d ++ rest in
    ap entries_at (sym (row_joined (key_text e.key) (value_text e.value) (entries_text es d) rest))
    ∙ rows_more key_at key_text are_values key_cuts else_is_no_key e.key e.value x (record { entries = pairs es; default = d; rest = rest }) (key_read e.key (value_text e.value ++ (codes ", " ++ x)) q.0) (value_read e.value q.1 (codes ", " ++ x) (comma_stops x)) (entries_read es d p.1 k rest)

pub table_read : (es : List EntryOf) (d : ValueOf) → list_all is_entry es ≡ true → is_value d ≡ true → (rest : List ℕ) → table_at (table_text es d ++ rest) ≡ Some (record { entries = pairs es; default = d; rest = rest })
table_read es d h k rest = entries_read es d h k rest

pairs_back : (es : List EntryOf) → map entry_for (pairs es) ≡ es
pairs_back [] = refl
pairs_back (e ∷ es) = ap (λ (l : List EntryOf). e ∷ l) (pairs_back es)

pub entries_of_pairs : (es : List EntryOf) → map entry_for (pairs es) ≡ es
entries_of_pairs es = pairs_back es

-- the rows that are read are those of entries
abbrev row_in : List ValueOf × ValueOf → List ℕ × List ℕ
row_in e = (key_text e.0, value_text e.1)

rows_are : (es : List (List ValueOf × ValueOf)) (d : ValueOf) → rows_text (map row_in es) (value_text d) ≡ entries_text (map entry_for es) d
rows_are [] d = refl
rows_are (e ∷ es) d = ap (row_text (key_text e.0) (value_text e.1)) (rows_are es d)

entries_good : (es : List (List ValueOf × ValueOf)) → list_all (λ e. are_values e.0 && is_value e.1) es ≡ true → list_all is_entry (map entry_for es) ≡ true
entries_good [] h = refl
entries_good (e ∷ es) h =
    let p = both (are_values e.0 && is_value e.1) (list_all (λ e. are_values e.0 && is_value e.1) es) h in
    all_of (is_entry (entry_for e)) (list_all is_entry (map entry_for es)) p.0 (entries_good es p.1)

abbrev pub IsTable : List ℕ → RowsOf (List ValueOf) → Type 0
IsTable bs s = (bs ≡ table_text (map entry_for s.entries) s.default ++ s.rest) × (list_all is_entry (map entry_for s.entries) ≡ true) × (is_value s.default ≡ true)

pub table_back : (bs : List ℕ) (s : RowsOf (List ValueOf)) → table_at bs ≡ Some s → IsTable bs s
table_back bs s h =
    let (r, hr, h1) = then_made (behind (codes "[") bs) entries_at s h in
    let p = rows_back key_at key_text are_values key_cuts value_at value_at_cuts (suc (length r)) r s h1 in
    (behind_back (codes "[") bs r hr ∙ ap (λ (x : List ℕ). codes "[" ++ x) (p.0 ∙ ap (λ (x : List ℕ). x ++ s.rest) (rows_are s.entries s.default)), entries_good s.entries p.1, p.2)
