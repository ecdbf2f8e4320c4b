-- What the code tells of the opened program's verdicts is what is told of the program's.
use Rattle.std.proofs.Common.{◌≡◌, ℕ, ◌+◌, Bool, true, false, ◌||◌, List, [], ◌∷◌, ◌++◌, map, take, drop, fold, codes, flat_map, count_by, cond, if◌then◌else◌, length, refl, sym, ap, ◌∙◌}
use Rattle.std.specs.List.{list_any}
use Rattle.std.specs.Fmt.{decimal}
use Rattle.bg_ast.specs.Syntax.{Prog}
use Rattle.bg_ast.specs.Values.{Ty}
use Rattle.bg_ast.specs.Execution.{Interp, State, Choice}
use Rattle.bg_sound.specs.Told.{Verdict, Proved, Refuted, Unknown, Judged, Word, is_refuted, is_unknown, has_refuted, has_unknown, word_of, SomeRefuted, SomeUnknown, AllProved}
use Rattle.bg_check.specs.Kept.{why_of}
use Rattle.bg_check.specs.declared.verdict.Judged as code
use Rattle.bg_check.specs.Outcomes.{told}
use Rattle.bg_opened.specs.Moments.{interp_in}
use Rattle.bg_carried.specs.Carried.{carried_verdict, carried_one}
use Rattle.bg_told.specs.Lines.{texts, word_text}
use Rattle.bg_lines.specs.Lines.{line}
use Rattle.bg_told.specs.Places.{Names, constant_text, variable_text, choice_text, told_text, counterexample_text, verdict_text, judged_text}
use Rattle.bg_told.specs.Sheets.{Head, Outer, names_of}
use Rattle.bg_told.specs.Report.{is_word, count_text, implementation_text, head_text}
use Rattle.bg_told.specs.History.{found_text, shown_text}
use Rattle.bg_told.specs.Entries.{split_verdict, split_one, split_all}
use Rattle.bg_told.proofs.Fitting.{Fits}

-- ---- words

abbrev Keeps : (Verdict → Bool) → (Judged → Judged) → Type 0
Keeps f g = (j : Judged) → f (g j).verdict ≡ f j.verdict

any_kept : (f : Verdict → Bool) (g : Judged → Judged) → Keeps f g → (js : List Judged) → list_any (λ (j : Judged). f j.verdict) (map g js) ≡ list_any (λ (j : Judged). f j.verdict) js
any_kept f g k [] = refl
any_kept f g k (j ∷ js) =
    ap (λ (b : Bool). b || list_any (λ (x : Judged). f x.verdict) (map g js)) (k j)
    ∙ ap (λ (b : Bool). f j.verdict || b) (any_kept f g k js)

word_kept : (g : Judged → Judged) → Keeps is_refuted g → Keeps is_unknown g → (js : List Judged) → word_of (map g js) ≡ word_of js
word_kept g r u js =
    ap (λ (b : Bool). if b then SomeRefuted else if list_any (λ (j : Judged). is_unknown j.verdict) (map g js) then SomeUnknown else AllProved) (any_kept is_refuted g r js)
    ∙ ap (λ (b : Bool). if list_any (λ (j : Judged). is_refuted j.verdict) js then SomeRefuted else if b then SomeUnknown else AllProved) (any_kept is_unknown g u js)

refuted_split : (n : ℕ) (v : Verdict) → is_refuted (split_verdict n v) ≡ is_refuted v
refuted_split n Proved = refl
refuted_split n (Refuted i s ts cs) = refl
refuted_split n (Unknown why) = refl

unknown_split : (n : ℕ) (v : Verdict) → is_unknown (split_verdict n v) ≡ is_unknown v
unknown_split n Proved = refl
unknown_split n (Refuted i s ts cs) = refl
unknown_split n (Unknown why) = refl

refuted_carried : (p : Prog) (v : Verdict) → is_refuted (carried_verdict p v) ≡ is_refuted v
refuted_carried p Proved = refl
refuted_carried p (Refuted i s ts cs) = refl
refuted_carried p (Unknown why) = refl

unknown_carried : (p : Prog) (v : Verdict) → is_unknown (carried_verdict p v) ≡ is_unknown v
unknown_carried p Proved = refl
unknown_carried p (Refuted i s ts cs) = refl
unknown_carried p (Unknown why) = refl

pub word_split : (n : ℕ) (js : List Judged) → word_of (map (split_one n) js) ≡ word_of js
word_split n js = word_kept (split_one n) (λ j. refuted_split n j.verdict) (λ j. unknown_split n j.verdict) js

word_carried : (p : Prog) (js : List Judged) → word_of (map (carried_one p) js) ≡ word_of js
word_carried p js =
    word_kept (carried_one p) (λ j. refuted_carried p j.verdict) (λ j. unknown_carried p j.verdict) js

pub words_carried : (p : Prog) (os : List (List Judged)) → map word_of (map (map (carried_one p)) os) ≡ map word_of os
words_carried p [] = refl
words_carried p (js ∷ os) =
    ap (λ (w : Word). w ∷ map word_of (map (map (carried_one p)) os)) (word_carried p js)
    ∙ ap (λ (ws : List Word). word_of js ∷ ws) (words_carried p os)

pub refuted_too : (p : Prog) (os : List (List Judged)) → list_any has_refuted (map (map (carried_one p)) os) ≡ list_any has_refuted os
refuted_too p [] = refl
refuted_too p (js ∷ os) =
    ap (λ (b : Bool). b || list_any has_refuted (map (map (carried_one p)) os)) (any_kept is_refuted (carried_one p) (λ j. refuted_carried p j.verdict) js)
    ∙ ap (λ (b : Bool). has_refuted js || b) (refuted_too p os)

pub unknown_too : (p : Prog) (os : List (List Judged)) → list_any has_unknown (map (map (carried_one p)) os) ≡ list_any has_unknown os
unknown_too p [] = refl
unknown_too p (js ∷ os) =
    ap (λ (b : Bool). b || list_any has_unknown (map (map (carried_one p)) os)) (any_kept is_unknown (carried_one p) (λ j. unknown_carried p j.verdict) js)
    ∙ ap (λ (b : Bool). has_unknown js || b) (unknown_too p os)

-- how many have a word is told by the words
count_from : (w : Word) (n : ℕ) (os : List (List Judged)) → fold (λ (a : ℕ) (js : List Judged). a + cond (is_word w (word_of js)) 1 0) n os ≡ fold (λ (a : ℕ) (x : Word). a + cond (is_word w x) 1 0) n (map word_of os)
count_from w n [] = refl
count_from w n (js ∷ os) = count_from w (n + cond (is_word w (word_of js)) 1 0) os

pub count_same : (w : Word) (os ps : List (List Judged)) → map word_of os ≡ map word_of ps → count_text w os ≡ count_text w ps
count_same w os ps h =
    let same : count_by (λ js. is_word w (word_of js)) os ≡ count_by (λ js. is_word w (word_of js)) ps =
    count_from w 0 os ∙ ap (λ (ws : List Word). fold (λ (a : ℕ) (x : Word). a + cond (is_word w x) 1 0) 0 ws) h ∙ sym (count_from w 0 ps) in
    ap (λ (n : ℕ). decimal n ++ codes " " ++ word_text w) same

-- ---- texts

-- a counterexample's
module _ (s : Outer) (h : Head) (p : Prog) (fits : Fits s p) where
  abbrev names : Names
  names = names_of s h

  abbrev n : ℕ
  n = length p.globals

  example_same : (i : Interp) (u : State) (ts : List Ty) (cs : List Choice) → counterexample_text names (record { constants = drop n u.globals; tables = i.tables }) (take n u.globals ++ u.frame) ts cs ≡ counterexample_text names (interp_in p i u) (take n u.globals ++ u.frame) ts cs
  example_same i u ts cs =
      ap (λ (x : List ℕ). (texts (constant_text names.types) names.constants (drop n u.globals) ++ x) ++ (texts (variable_text names.types) names.variables (take n u.globals ++ u.frame) ++ texts (choice_text names.types) ts cs)) (sym (fits i.tables))

  verdict_same : (j : Judged) (v : Verdict) → verdict_text names j.placed (split_verdict n v) ≡ verdict_text names j.placed (carried_verdict p v)
  verdict_same j Proved = refl
  verdict_same j (Refuted i u ts cs) =
      ap (λ (x : List ℕ). line (told_text SomeRefuted j.placed) ++ x) (example_same i u ts cs)
  verdict_same j (Unknown why) = refl

  judged_same : (js : List Judged) → flat_map (judged_text names) (map (split_one n) js) ≡ flat_map (judged_text names) (map (carried_one p) js)
  judged_same [] = refl
  judged_same (j ∷ js) =
      ap (λ (x : List ℕ). x ++ flat_map (judged_text names) (map (split_one n) js)) (verdict_same j j.verdict)
      ∙ ap (λ (x : List ℕ). judged_text names (carried_one p j) ++ x) (judged_same js)

  implementation_same : (js : List Judged) → implementation_text s h (map (split_one n) js) ≡ implementation_text s h (map (carried_one p) js)
  implementation_same js =
      ap (λ (w : Word). head_text h w ++ flat_map (judged_text names) (map (split_one n) js)) (word_split n js ∙ sym (word_carried p js))
      ∙ ap (λ (x : List ℕ). head_text h (word_of (map (carried_one p) js)) ++ x) (judged_same js)

  pub shown_same : (v : Verdict) → shown_text names (split_verdict n v) ≡ shown_text names (carried_verdict p v)
  shown_same Proved = refl
  shown_same (Refuted i u ts cs) = example_same i u ts cs
  shown_same (Unknown why) = refl

pub implementations_same : (s : Outer) (p : Prog) → Fits s p → (hs : List Head) (os : List (List code.Judged)) → texts (implementation_text s) hs (map (split_all (length p.globals)) os) ≡ texts (implementation_text s) hs (map (map (carried_one p)) (map (told why_of) os))
implementations_same s p fits [] os = refl
implementations_same s p fits (h ∷ hs) [] = refl
implementations_same s p fits (h ∷ hs) (js ∷ os) =
    ap (λ (x : List ℕ). x ++ texts (implementation_text s) hs (map (split_all (length p.globals)) os)) (implementation_same s h p fits (told why_of js))
    ∙ ap (λ (x : List ℕ). implementation_text s h (map (carried_one p) (told why_of js)) ++ x) (implementations_same s p fits hs os)

-- ---- of a history

pub found_same : (p : Prog) (n : ℕ) (v : Verdict) → found_text (split_verdict n v) ≡ found_text (carried_verdict p v)
found_same p n Proved = refl
found_same p n (Refuted i s ts cs) = refl
found_same p n (Unknown why) = refl
