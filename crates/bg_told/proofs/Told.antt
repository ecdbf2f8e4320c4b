-- What the code finds is what is told.
use Rattle.std.proofs.Common.{◌≡◌, ℕ, zero, suc, ◌+◌, Bool, true, false, ◌&&◌, ◌||◌, List, [], ◌∷◌, ◌++◌, map, take, drop, filter, cond, fold, flat_map, count_by, if◌then◌else◌, Option, Some, None, is_none, refl, sym, ap, ◌∙◌, append_assoc}
use Rattle.std.specs.List.{list_any}
use Rattle.std.proofs.lemmas.List.{map-append}
use Rattle.bg_base.specs.declared.ids.CandId.{CandId}
use Rattle.bg_text.specs.Views.{option_of}
use Rattle.bg_ast.specs.Values.{Ty, Val}
use Rattle.bg_ast.specs.Views.{candidate_of}
use Rattle.bg_scalar.specs.declared.value.Value.{Value}
use Rattle.bg_scalar.specs.declared.choice.Choice.{Choice}
use Rattle.bg_scalar.specs.Values.{value_of}
use Rattle.bg_scalar.specs.Choices.{choice_of}
use Rattle.bg_kinds.specs.declared.kinds.ValueType.{ValueType}
use Rattle.bg_kinds.specs.Views.{ref_in}
use Rattle.bg_scalar.specs.Views.{vals_in, tables_in}
use Rattle.bg_told.specs.ValueTexts.{value_text, part_text, key_text}
use Rattle.bg_scalar.specs.declared.table.Table as code
use Rattle.bg_sound.specs.Told as t
use Rattle.bg_check.specs.Kept.{why_of}
use Rattle.bg_check.specs.declared.verdict.Verdict.{Verdict}
use Rattle.bg_check.specs.declared.verdict.Verdict.TheVariants as verdict
use Rattle.bg_check.specs.declared.verdict.Judged.{Judged}
use Rattle.bg_check.specs.Outcomes as c
use Rattle.bg_check.specs.Outcomes.{verdict_of, told_one, told}
use Rattle.bg_check.specs.Verdicts.{judged}
use Rattle.bg_told.specs.declared.word.Word.{Word}
use Rattle.bg_told.specs.declared.word.Word.TheVariants.{Verified, Refuted, Unknown}
use Rattle.bg_told.specs.Lines.{texts}
use Rattle.bg_told.specs.Places.{Variable, Named, Names, constant_text, function_text, variable_text, choice_text, judged_text}
use Rattle.bg_told.specs.Report as r
use Rattle.bg_told.specs.Views.{told_word, status_in}
use Rattle.bg_told.specs.Words.{is_ordinary, word_in, is_word, has, word_of, word_for, left_unknown, count_of}
use Rattle.bg_told.specs.Entries.{entry_text, constant_line, function_line, choice_line, part_behind, split_one, split_all, shown_text}

same_none : (o : Option CandId) → is_none (option_of candidate_of o) ≡ is_none o
same_none None = refl
same_none (Some b) = refl

same_ordinary : (j : Judged) → c.is_ordinary j ≡ is_ordinary j.place
same_ordinary j = same_none j.place.candidate

-- ---- words

any_in_front : (f : t.Verdict → Bool) (o : Bool) (j : Judged) (js : List Judged) → list_any (λ (u : t.Judged). f u.verdict) (map (told_one why_of) (cond o (j ∷ js) js)) ≡ ((o && f (verdict_of why_of j.verdict)) || list_any (λ (u : t.Judged). f u.verdict) (map (told_one why_of) js))
any_in_front f true j js = refl
any_in_front f false j js = refl

has_by : (w : Word) (f : t.Verdict → Bool) → ((v : Verdict) → is_word w (word_in v) ≡ f (verdict_of why_of v)) → (js : List Judged) → has w js ≡ list_any (λ (u : t.Judged). f u.verdict) (told why_of js)
has_by w f e [] = refl
has_by w f e (j ∷ js) =
    ap (λ (b : Bool). (is_ordinary j.place && b) || has w js) (e j.verdict)
    ∙ ap (λ (b : Bool). (is_ordinary j.place && f (verdict_of why_of j.verdict)) || b) (has_by w f e js)
    ∙ ap (λ (o : Bool). (o && f (verdict_of why_of j.verdict)) || list_any (λ (u : t.Judged). f u.verdict) (told why_of js)) (sym (same_ordinary j))
    ∙ sym (any_in_front f (c.is_ordinary j) j (filter c.is_ordinary js))

refuted_in : (v : Verdict) → is_word Refuted (word_in v) ≡ t.is_refuted (verdict_of why_of v)
refuted_in (verdict.Proved proof) = refl
refuted_in (verdict.Refuted cex) = refl
refuted_in (verdict.Unknown rounds cause) = refl
refuted_in (verdict.Left kept) = refl

unknown_in : (v : Verdict) → is_word Unknown (word_in v) ≡ t.is_unknown (verdict_of why_of v)
unknown_in (verdict.Proved proof) = refl
unknown_in (verdict.Refuted cex) = refl
unknown_in (verdict.Unknown rounds cause) = refl
unknown_in (verdict.Left kept) = refl

has_refuted : (js : List Judged) → has Refuted js ≡ t.has_refuted (told why_of js)
has_refuted js = has_by Refuted t.is_refuted refuted_in js

has_unknown : (js : List Judged) → has Unknown js ≡ t.has_unknown (told why_of js)
has_unknown js = has_by Unknown t.is_unknown unknown_in js

told_by : (a b : Bool) → told_word (if a then Refuted else (if b then Unknown else Verified)) ≡ (if a then t.SomeRefuted else if b then t.SomeUnknown else t.AllProved)
told_by true b = refl
told_by false true = refl
told_by false false = refl

-- an implementation's word
pub word_told : (js : List Judged) → told_word (word_of js) ≡ t.word_of (told why_of js)
word_told js =
    told_by (has Refuted js) (has Unknown js)
    ∙ ap (λ (a : Bool). if a then t.SomeRefuted else if has Unknown js then t.SomeUnknown else t.AllProved) (has_refuted js)
    ∙ ap (λ (b : Bool). if t.has_refuted (told why_of js) then t.SomeRefuted else if b then t.SomeUnknown else t.AllProved) (has_unknown js)

same_word : (w v : Word) → is_word w v ≡ r.is_word (told_word w) (told_word v)
same_word Verified Verified = refl
same_word Verified Refuted = refl
same_word Verified Unknown = refl
same_word Refuted Verified = refl
same_word Refuted Refuted = refl
same_word Refuted Unknown = refl
same_word Unknown Verified = refl
same_word Unknown Refuted = refl
same_word Unknown Unknown = refl

count_from : (w : Word) (n : ℕ) (os : List (List Judged)) → fold (λ (a : ℕ) (js : List Judged). a + cond (is_word w (word_of js)) 1 0) n os ≡ fold (λ (a : ℕ) (js : List t.Judged). a + cond (r.is_word (told_word w) (t.word_of js)) 1 0) n (map (told why_of) os)
count_from w n [] = refl
count_from w n (js ∷ os) =
    ap (λ (b : Bool). fold (λ (a : ℕ) (ks : List Judged). a + cond (is_word w (word_of ks)) 1 0) (n + cond b 1 0) os) (same_word w (word_of js) ∙ ap (r.is_word (told_word w)) (word_told js))
    ∙ count_from w (n + cond (r.is_word (told_word w) (t.word_of (told why_of js))) 1 0) os

-- how many have a word
pub count_told : (w : Word) (os : List (List Judged)) → count_of w os ≡ count_by (λ (js : List t.Judged). r.is_word (told_word w) (t.word_of js)) (map (told why_of) os)
count_told w os = count_from w 0 os

any_told : (f : List Judged → Bool) (g : List t.Judged → Bool) → ((js : List Judged) → f js ≡ g (told why_of js)) → (os : List (List Judged)) → list_any f os ≡ list_any g (map (told why_of) os)
any_told f g e [] = refl
any_told f g e (js ∷ os) =
    ap (λ (b : Bool). b || list_any f os) (e js) ∙ ap (λ (b : Bool). g (told why_of js) || b) (any_told f g e os)

status_by : (a b : Bool) → status_in (if a then Refuted else (if b then Unknown else Verified)) ≡ (if a then 1 else if b then 2 else 0)
status_by true b = refl
status_by false true = refl
status_by false false = refl

-- the word of a program's places
pub places_told : (os : List (List Judged)) → status_in (word_for os) ≡ (if list_any t.has_refuted (map (told why_of) os) then 1 else if list_any t.has_unknown (map (told why_of) os) then 2 else 0)
places_told os =
    let refuted = any_told (has Refuted) t.has_refuted has_refuted os in
    let unknown = any_told (has Unknown) t.has_unknown has_unknown os in
    status_by (list_any (has Refuted) os) (list_any (has Unknown) os)
    ∙ ap (λ (a : Bool). if a then 1 else if list_any (has Unknown) os then 2 else 0) refuted
    ∙ ap (λ (b : Bool). if list_any t.has_refuted (map (told why_of) os) then 1 else if b then 2 else 0) unknown

-- where the axioms are unknown
unknown_by : (a b : Bool) → status_in (left_unknown (if a then Refuted else (if b then Unknown else Verified))) ≡ (if a then 1 else 2)
unknown_by true b = refl
unknown_by false true = refl
unknown_by false false = refl

pub unknown_told : (os : List (List Judged)) → status_in (left_unknown (word_for os)) ≡ (if list_any t.has_refuted (map (told why_of) os) then 1 else 2)
unknown_told os =
    unknown_by (list_any (has Refuted) os) (list_any (has Unknown) os)
    ∙ ap (λ (a : Bool). if a then 1 else 2) (any_told (has Refuted) t.has_refuted has_refuted os)

-- ---- texts

shown_in_front : (names : Names) (n : ℕ) (o : Bool) (j : Judged) (js : List Judged) → (if o then judged_text names (split_one n (told_one why_of j)) else []) ++ flat_map (judged_text names) (map (split_one n) (map (told_one why_of) js)) ≡ flat_map (judged_text names) (map (split_one n) (map (told_one why_of) (cond o (j ∷ js) js)))
shown_in_front names n true j js = refl
shown_in_front names n false j js = refl

-- the lines of the ordinary places
pub shown_is : (names : Names) (n : ℕ) (js : List Judged) → flat_map (shown_text names n) js ≡ flat_map (judged_text names) (split_all n js)
shown_is names n [] = refl
shown_is names n (j ∷ js) =
    ap (λ (x : List ℕ). shown_text names n j ++ x) (shown_is names n js)
    ∙ ap (λ (o : Bool). (if o then judged_text names (split_one n (told_one why_of j)) else []) ++ flat_map (judged_text names) (split_all n js)) (sym (same_ordinary j))
    ∙ shown_in_front names n (c.is_ordinary j) j (filter c.is_ordinary js)

map_front : (n : ℕ) (gs : List Value) → map value_of (take n gs) ≡ take n (map value_of gs)
map_front zero gs = refl
map_front (suc n) [] = refl
map_front (suc n) (g ∷ gs) = ap (λ (vs : List Val). value_of g ∷ vs) (map_front n gs)

map_behind : (n : ℕ) (gs : List Value) → map value_of (drop n gs) ≡ drop n (map value_of gs)
map_behind zero gs = refl
map_behind (suc n) [] = refl
map_behind (suc n) (g ∷ gs) = map_behind n gs

pub texts_map : {A B C : Type 0} (text : A → C → List ℕ) (f : B → C) (xs : List A) (ys : List B) → texts text xs (map f ys) ≡ texts (λ (x : A) (y : B). text x (f y)) xs ys
texts_map text f [] ys = refl
texts_map text f (x ∷ xs) [] = refl
texts_map text f (x ∷ xs) (y ∷ ys) = ap (λ (z : List ℕ). text x (f y) ++ z) (texts_map text f xs ys)

-- the lines of entry values
pub entries_told : (types : List (List ℕ)) (names : List Variable) (n : ℕ) (gs fs : List Value) → texts (entry_text types) names (take n gs ++ fs) ≡ texts (variable_text types) names (take n (map value_of gs) ++ map value_of fs)
entries_told types names n gs fs =
    sym (texts_map (variable_text types) value_of names (take n gs ++ fs))
    ∙ ap (texts (variable_text types) names) (map-append value_of (take n gs) fs ∙ ap (λ (vs : List Val). vs ++ map value_of fs) (map_front n gs))

-- and those of constants
pub constants_told : (types : List (List ℕ)) (names : List Variable) (n : ℕ) (gs : List Value) → texts (constant_line types) names (drop n gs) ≡ texts (constant_text types) names (drop n (map value_of gs))
constants_told types names n gs =
    sym (texts_map (constant_text types) value_of names (drop n gs)) ∙ ap (texts (constant_text types) names) (map_behind n gs)

-- and those of functions
pub functions_told : (types : List (List ℕ)) (fs : List Named) (ts : List code.Table) → texts (function_line types) fs ts ≡ texts (function_text types) fs (tables_in ts)
functions_told types [] ts = refl
functions_told types (f ∷ fs) [] = refl
functions_told types (f ∷ fs) (t ∷ ts) = ap (λ (x : List ℕ). function_line types f t ++ x) (functions_told types fs ts)

pub constants_all : (types : List (List ℕ)) (names : List Variable) (gs : List Value) → texts (constant_line types) names gs ≡ texts (constant_text types) names (map value_of gs)
constants_all types names gs = sym (texts_map (constant_text types) value_of names gs)

-- and those of choices
pub choices_told : (types : List (List ℕ)) (ts : List Ty) (cs : List Choice) → texts (choice_line types) ts cs ≡ texts (choice_text types) ts (map choice_of cs)
choices_told types ts cs = sym (texts_map (choice_text types) choice_of ts cs)

-- a key is put part by part
pub key_put : (types : List (List ℕ)) (kinds more : List ValueType) (kind : ValueType) (key parts : List Value) (part : Value) (old one new : List ℕ) → kinds ≡ kind ∷ more → key ≡ part ∷ parts → one ≡ old ++ value_text types (ref_in kind) (value_of part) → new ≡ one ++ texts (part_behind types) (map ref_in more) parts → new ≡ old ++ key_text types (map ref_in kinds) (vals_in key)
key_put types kinds more kind key parts part old one new ks vs a b =
    let front = value_text types (ref_in kind) (value_of part) in
    b
    ∙ ap (λ (x : List ℕ). x ++ texts (part_behind types) (map ref_in more) parts) a
    ∙ append_assoc old front (texts (part_behind types) (map ref_in more) parts)
    ∙ ap (λ (x : List ℕ). old ++ (front ++ x)) (sym (texts_map (part_text types) value_of (map ref_in more) parts))
    ∙ ap (λ (l : List ValueType). old ++ key_text types (map ref_in l) (vals_in (part ∷ parts))) (sym ks)
    ∙ ap (λ (l : List Value). old ++ key_text types (map ref_in kinds) (vals_in l)) (sym vs)
