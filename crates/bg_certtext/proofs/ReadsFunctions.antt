-- Tables of functions are read back from their lines, and their lines are theirs.
use Rattle.std.proofs.Common.{◌≡◌, ◌++◌, ℕ, Bool, true, false, ◌&&◌, List, [], ◌∷◌, ◌<◌, ◌≤◌, length, map, drop, get_or, arith, Option, Some, None, codes, refl, ap, sym, subst, ◌∙◌, append-nil}
use Rattle.std.specs.List.{list_all}
use Rattle.bg_certtext.specs.declared.text.Entry.{Entry}
use Rattle.bg_certtext.specs.Views.{ValueOf, EntryOf, FunctionOf, entry_of}
use Rattle.bg_certtext.specs.Got.{pairs_of}
use Rattle.bg_certtext.specs.Spellable.{is_empty, is_name, is_value, is_entry, are_entries, is_function}
use Rattle.bg_certtext.specs.Lines.{spaced}
use Rattle.bg_certtext.specs.Texts.{table_text, function_words}
use Rattle.bg_certtext.specs.Words.{word_in, words_of}
use Rattle.bg_certtext.specs.Machine.{then_, when, RowsOf, table_at, are_words, entry_for, function_with, function_in}
use Rattle.bg_certtext.proofs.ReadsOptions.{then_made, when_made, both, all_of}
use Rattle.bg_certtext.proofs.ReadsKeys.{table_back, table_read, entries_of_pairs}
use Rattle.bg_certtext.proofs.ReadsGivens.{words_free, again, nothing_left, text_taken}
use Rattle.bg_certtext.proofs.Joined.{spaced_words}

abbrev function_for : List ℕ → RowsOf (List ValueOf) → FunctionOf
function_for name s = record { name = name; entries = map entry_for s.entries; default = s.default }

abbrev is_good : List ℕ → RowsOf (List ValueOf) → Bool
is_good name s = is_empty s.rest && (is_name name && are_entries None s.default (map entry_for s.entries))

-- the words behind the first one of a function's line
abbrev pub IsFunctionLine : List (List ℕ) → FunctionOf → Type 0
IsFunctionLine ws f = (codes "function" ∷ ws ≡ function_words f) × (is_function f ≡ true)

pub function_back : (ws : List (List ℕ)) (f : FunctionOf) → function_in ws ≡ Some f → IsFunctionLine ws f
function_back [] f h = absurd (cc)
function_back (name ∷ ws) f h =
    let (bs, e, k) = then_made (when (are_words ws) (spaced ws)) (λ (bs : List ℕ). then_ (table_at bs) (function_with name)) f h in
    let w = when_made (are_words ws) (spaced ws) bs e in
    let (s, g, m) = then_made (table_at bs) (function_with name) f k in
    let t = when_made (is_good name s) (function_for name s) f m in
    let t1 = both (is_empty s.rest) (is_name name && are_entries None s.default (map entry_for s.entries)) t.0 in
    let t2 = both (is_name name) (are_entries None s.default (map entry_for s.entries)) t1.1 in
    let q = table_back bs s g in
    let es = map entry_for s.entries in
    let text : bs ≡ table_text es s.default = q.0 ∙ (ap (λ (r : List ℕ). table_text es s.default ++ r) (nothing_left s.rest t1.0) ∙ append-nil (table_text es s.default)) in
    subst (IsFunctionLine (name ∷ ws)) t.1
    (ap (λ (u : List (List ℕ)). codes "function" ∷ name ∷ u) (again ws (table_text es s.default) w.0 (w.1 ∙ text) refl), all_of (is_name name) _ t2.0 (all_of (list_all is_entry es) _ q.1 (all_of (is_value s.default) (are_entries None s.default es) q.2 t2.1)))

pub function_read : (f : FunctionOf) → is_function f ≡ true → function_in (f.name ∷ words_of (table_text f.entries f.default)) ≡ Some f
function_read f h =
    let h1 = both (is_name f.name) _ h in
    let h2 = both (list_all is_entry f.entries) _ h1.1 in
    let h3 = both (is_value f.default) (are_entries None f.default f.entries) h2.1 in
    let bs = table_text f.entries f.default in
    let pairs = map (λ (e : EntryOf). let p : List ValueOf × ValueOf = (e.key, e.value) in p) f.entries in
    let s : RowsOf (List ValueOf) = record { entries = pairs; default = f.default; rest = [] } in
    let same = entries_of_pairs f.entries in
    ap (λ (b : Bool). then_ (when b (spaced (words_of bs))) (λ bs. then_ (table_at bs) (function_with f.name))) (words_free bs)
    ∙ (ap (λ (x : List ℕ). then_ (table_at x) (function_with f.name)) (spaced_words bs ∙ sym (append-nil bs))
    ∙ (ap (λ (o : Option (RowsOf (List ValueOf))). then_ o (function_with f.name)) (table_read f.entries f.default h2.0 h3.0 [])
    ∙ (ap (λ (es : List EntryOf). when (is_name f.name && are_entries None f.default es) (let made : FunctionOf = record { name = f.name; entries = es; default = f.default } in made)) same
    ∙ ap (λ (b : Bool). when b f) (all_of (is_name f.name) (are_entries None f.default f.entries) h1.0 h3.1))))

-- ---- what stands behind a line's first word

abbrev pub function_from : List ℕ → List ℕ → Option FunctionOf
function_from name bs = then_ (table_at bs) (function_with name)

pub function_short : {W : Type 0} (f : W → List ℕ) (ws : List W) → length ws < 2 → function_in (map f ws) ≡ None
function_short f [] l = refl
function_short f (a ∷ []) l = refl
function_short f (a ∷ b ∷ ws) l = absurd (omega (arith, l))

pub function_long : {W : Type 0} (f : W → List ℕ) (d : W) (ws : List W) (bs rest : List ℕ) → 2 ≤ length ws → map f ws ≡ words_of bs → rest ≡ drop 1 (drop (word_in bs) bs) → function_in (map f ws) ≡ function_from (f (get_or ws 0 d)) rest
function_long f d [] bs rest l e r = absurd (omega (arith, l))
function_long f d (a ∷ []) bs rest l e r = absurd (omega (arith, l))
function_long f d (a ∷ b ∷ ws) bs rest l e r = text_taken (function_from (f a)) bs (f a) (f b) (map f ws) (sym e) ∙ ap (function_from (f a)) (sym r)

-- what is made of a table that is read, or isn't

pub function_none : (name bs : List ℕ) → table_at bs ≡ None → function_from name bs ≡ None
function_none name bs h = ap (λ (o : Option (RowsOf (List ValueOf))). then_ o (function_with name)) h

pub function_some : (name bs : List ℕ) (s : RowsOf (List ValueOf)) → table_at bs ≡ Some s → function_from name bs ≡ function_with name s
function_some name bs s h = ap (λ (o : Option (RowsOf (List ValueOf))). then_ o (function_with name)) h

pub pairs_entries : (es : List Entry) → map entry_for (pairs_of es) ≡ map entry_of es
pairs_entries [] = refl
pairs_entries (e ∷ es) = ap (λ (l : List EntryOf). entry_of e ∷ l) (pairs_entries es)

abbrev pub made_function : List ℕ → List EntryOf → ValueOf → Option FunctionOf
made_function name es d = when (is_name name && are_entries None d es) (let made : FunctionOf = record { name = name; entries = es; default = d } in made)

-- where nothing is left
pub function_made : (name rest : List ℕ) (es : List Entry) (d : ValueOf) → is_empty rest ≡ true → function_with name (record { entries = pairs_of es; default = d; rest = rest }) ≡ made_function name (map entry_of es) d
function_made name rest es d h =
    ap (λ (b : Bool). when (b && (is_name name && are_entries None d (map entry_for (pairs_of es)))) (let made : FunctionOf = record { name = name; entries = map entry_for (pairs_of es); default = d } in made)) h
    ∙ ap (λ (l : List EntryOf). made_function name l d) (pairs_entries es)

pub function_left : (name : List ℕ) (s : RowsOf (List ValueOf)) → is_empty s.rest ≡ false → function_with name s ≡ None
function_left name s h =
    ap (λ (b : Bool). when (b && (is_name name && are_entries None s.default (map entry_for s.entries))) (function_for name s)) h
