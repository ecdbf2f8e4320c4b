-- Whatever lines the machine took, it stands where they were read right.
use Rattle.std.proofs.Common.{◌≡◌, ⊎_elim, ℕ, true, false, ◌&&◌, List, [], ◌∷◌, ◌++◌, map, codes, bytes_eq, Some, None, refl, ap, sym, ◌∙◌, append_assoc, append-nil}
use Rattle.std.specs.List.{list_all}
use Rattle.bg_certtext.specs.declared.draft.Stage.{Stage}
use Rattle.bg_certtext.specs.declared.draft.Stage.TheVariants as at
use Rattle.bg_certtext.specs.Views.{GivenOf, FunctionOf}
use Rattle.bg_certtext.specs.Spellable.{is_empty, is_name, is_given, is_function, is_interp}
use Rattle.bg_certtext.specs.Texts.{given_words, function_words, retain_words, interp_lines, version_words, place_words}
use Rattle.bg_certtext.specs.Machine.{DraftOf, start, then_, two, name_in, given_in, function_in, with_place, with_name, with_given, with_function, on_section, on_retained, on_function, on_given, on_version, on_interp, next, after}
use Rattle.bg_certtext.proofs.ReadsOptions.{then_made, when_made, if_made, same_some, both, all_of}
use Rattle.bg_certtext.proofs.ReadsWords.{same_word, two_back, name_back}
use Rattle.bg_certtext.proofs.ReadsGivens.{given_back}
use Rattle.bg_certtext.proofs.ReadsFunctions.{function_back}
use Rattle.bg_certtext.proofs.ReadsStates.{Interp, Head, State, AtVersion, AtInterp, AtGivens, AtFunctions, interp_with, AtRetained, AtTable, AtRows, AtNodes, AtSteps, AtSections, AtEnd, Lines, Stays, Goes, Good, GoodHead, head_draft, first_head, head_lines, written, draft_at}
use Rattle.bg_certtext.proofs.ReadsLines.{map_one, all_one}
use Rattle.bg_certtext.proofs.ReadsMoves.{on_node_goes, along}
use Rattle.bg_certtext.proofs.ReadsTables.{on_steps_goes, on_rows_goes, on_stated_goes}

-- ---- where a place may stand

place_goes : (st : Stage) (h : Head) (key : List ℕ) (ws : List (List ℕ)) (e : DraftOf) → GoodHead h → bytes_eq key (codes "place") ≡ true → then_ (two ws) (λ p. Some (with_place p.0 p.1 (head_draft st h))) ≡ Some e → Goes (head_lines h) (key ∷ ws) e
place_goes st h key ws e g k i =
    let (p, f, l) = then_made (two ws) (λ (p : ℕ × ℕ). Some (with_place p.0 p.1 (head_draft st h))) e i in
    let q = two_back ws p f in
    let same : key ≡ codes "place" = same_word key (codes "place") k in
    let line : key ∷ ws ≡ place_words p.0 p.1 = cc (same, q.0) in
    record {
      state = AtTable (record h { implementation = p.0; place = p.1; stated = [] });
      good = record { head = record { interp = g.interp; names = g.names; sections = g.sections }; implementation = q.1; place = q.2; stated = refl };
      is = sym (same_some (with_place p.0 p.1 (head_draft st h)) e l);
      lines_are = ap (λ (us : List (List ℕ)). head_lines h ++ us ∷ []) line;
    }

end_goes : (st : Stage) (h : Head) (key : List ℕ) (ws : List (List ℕ)) (e : DraftOf) → GoodHead h → (bytes_eq key (codes "end") && is_empty ws) ≡ true → Some (head_draft at.End h) ≡ Some e → Goes (head_lines h) (key ∷ ws) e
end_goes st h key [] e g k i =
    let t = both (bytes_eq key (codes "end")) true k in
    record {
      state = AtEnd h;
      good = g;
      is = sym (same_some (head_draft at.End h) e i);
      lines_are = ap (λ (w : List ℕ). head_lines h ++ (w ∷ []) ∷ []) (same_word key (codes "end") t.0);
    }
end_goes st h key (w ∷ ws) e g k i = let t = both (bytes_eq key (codes "end")) false k in absurd (cc t.1)

on_section_goes : (st : Stage) (h : Head) (ws : List (List ℕ)) (e : DraftOf) → GoodHead h → on_section ws (head_draft st h) ≡ Some e → Goes (head_lines h) ws e
on_section_goes st h [] e g i = absurd (cc)
on_section_goes st h (key ∷ ws) e g i =
    ⊎_elim
    (λ p. place_goes st h key ws e g p.0 p.1)
    (λ p.
    ⊎_elim (λ q. end_goes st h key ws e g q.0 q.1) (λ q. absurd (cc q.1))
    (if_made (bytes_eq key (codes "end") && is_empty ws) (Some (head_draft at.End h)) None e p.1))
    (if_made (bytes_eq key (codes "place")) _ _ e i)

-- ---- in front of the places

first_good : (i : Interp) (names : List (List ℕ)) → is_interp i ≡ true → list_all is_name names ≡ true → GoodHead (first_head i names)
first_good i names f g = record { interp = f; names = g; sections = refl }

first_lines : (i : Interp) (names : List (List ℕ)) → written (AtRetained i names) ≡ head_lines (first_head i names)
first_lines i names = ap (λ (ls : Lines). version_words ∷ ls) (sym (append-nil (interp_lines i ++ map retain_words names)))

retain_goes : (st : Stage) (i : Interp) (names : List (List ℕ)) (key : List ℕ) (ws : List (List ℕ)) (e : DraftOf) → is_interp i ≡ true → list_all is_name names ≡ true → bytes_eq key (codes "retain") ≡ true → then_ (name_in ws) (λ name. Some (with_name name (head_draft st (first_head i names)))) ≡ Some e → Goes (written (AtRetained i names)) (key ∷ ws) e
retain_goes st i names key ws e f g k m =
    let (name, n, l) = then_made (name_in ws) (λ (name : List ℕ). Some (with_name name (head_draft st (first_head i names)))) e m in
    let q = name_back ws name n in
    let same : key ≡ codes "retain" = same_word key (codes "retain") k in
    let line : key ∷ ws ≡ retain_words name = cc (same, q.0) in
    record {
      state = AtRetained i (names ++ name ∷ []);
      good = (f, all_one is_name names name g q.1);
      is = sym (same_some (with_name name (head_draft st (first_head i names))) e l);
      lines_are =
          ap (λ (us : List (List ℕ)). written (AtRetained i names) ++ us ∷ []) line
          ∙ ap (λ (ls : Lines). version_words ∷ ls)
          (append_assoc (interp_lines i) (map retain_words names) (retain_words name ∷ []) ∙ ap (λ (ls : Lines). interp_lines i ++ ls) (sym (map_one retain_words names name)));
    }

on_retained_goes : (st : Stage) (i : Interp) (names : List (List ℕ)) (ws : List (List ℕ)) (e : DraftOf) → is_interp i ≡ true → list_all is_name names ≡ true → on_retained ws (head_draft st (first_head i names)) ≡ Some e → Goes (written (AtRetained i names)) ws e
on_retained_goes st i names [] e f g m = absurd (cc)
on_retained_goes st i names (key ∷ ws) e f g m =
    ⊎_elim
    (λ p. retain_goes st i names key ws e f g p.0 p.1)
    (λ p.
    along (written (AtRetained i names) ++ (key ∷ ws) ∷ []) (head_lines (first_head i names) ++ (key ∷ ws) ∷ []) e
    (ap (λ (ls : Lines). ls ++ (key ∷ ws) ∷ []) (first_lines i names))
    (on_section_goes st (first_head i names) (key ∷ ws) e (first_good i names f g) p.1))
    (if_made (bytes_eq key (codes "retain")) _ _ e m)

given_goes : (gs : List GivenOf) (key : List ℕ) (ws : List (List ℕ)) (e : DraftOf) → list_all is_given gs ≡ true → bytes_eq key (codes "const") ≡ true → then_ (given_in ws) (λ g. Some (with_given g (draft_at (AtGivens gs)))) ≡ Some e → Goes (written (AtGivens gs)) (key ∷ ws) e
given_goes gs key ws e g k i =
    let (x, f, l) = then_made (given_in ws) (λ (x : GivenOf). Some (with_given x (draft_at (AtGivens gs)))) e i in
    let q = given_back ws x f in
    let line : key ∷ ws ≡ given_words x = ap (λ (w : List ℕ). w ∷ ws) (same_word key (codes "const") k) ∙ q.0 in
    record {
      state = AtGivens (gs ++ x ∷ []);
      good = all_one is_given gs x g q.1;
      is = sym (same_some (with_given x (draft_at (AtGivens gs))) e l);
      lines_are =
          ap (λ (us : List (List ℕ)). written (AtGivens gs) ++ us ∷ []) line
          ∙ ap (λ (ls : Lines). version_words ∷ (codes "interp" ∷ []) ∷ ls) (sym (map_one given_words gs x));
    }

-- a function behind constants and functions
function_goes : (st : Stage) (gs : List GivenOf) (fs : List FunctionOf) (key : List ℕ) (ws : List (List ℕ)) (e : DraftOf) → list_all is_given gs ≡ true → list_all is_function fs ≡ true → bytes_eq key (codes "function") ≡ true → then_ (function_in ws) (λ f. Some (with_function f (head_draft st (first_head (Some (interp_with gs fs)) [])))) ≡ Some e → Goes (written (AtFunctions gs fs)) (key ∷ ws) e
function_goes st gs fs key ws e g h k i =
    let d : DraftOf = head_draft st (first_head (Some (interp_with gs fs)) []) in
    let (f, m, l) = then_made (function_in ws) (λ (f : FunctionOf). Some (with_function f d)) e i in
    let q = function_back ws f m in
    let line : key ∷ ws ≡ function_words f = ap (λ (w : List ℕ). w ∷ ws) (same_word key (codes "function") k) ∙ q.0 in
    record {
      state = AtFunctions gs (fs ++ f ∷ []);
      good = (g, all_one is_function fs f h q.1);
      is = sym (same_some (with_function f d) e l);
      lines_are =
          ap (λ (us : List (List ℕ)). written (AtFunctions gs fs) ++ us ∷ []) line
          ∙ ap (λ (ls : Lines). version_words ∷ (codes "interp" ∷ []) ∷ ls)
          (append_assoc (map given_words gs) (map function_words fs) (function_words f ∷ []) ∙ ap (λ (ls : Lines). map given_words gs ++ ls) (sym (map_one function_words fs f)));
    }

on_function_goes : (st : Stage) (gs : List GivenOf) (fs : List FunctionOf) (ws : List (List ℕ)) (e : DraftOf) → list_all is_given gs ≡ true → list_all is_function fs ≡ true → on_function ws (head_draft st (first_head (Some (interp_with gs fs)) [])) ≡ Some e → Goes (written (AtFunctions gs fs)) ws e
on_function_goes st gs fs [] e g h i = absurd (cc)
on_function_goes st gs fs (key ∷ ws) e g h i =
    ⊎_elim
    (λ p. function_goes st gs fs key ws e g h p.0 p.1)
    (λ p.
    along (written (AtFunctions gs fs) ++ (key ∷ ws) ∷ []) (written (AtRetained (Some (interp_with gs fs)) []) ++ (key ∷ ws) ∷ []) e
    (ap (λ (ls : Lines). (version_words ∷ ls) ++ (key ∷ ws) ∷ []) (sym (append-nil (interp_lines (Some (interp_with gs fs))))))
    (on_retained_goes st (Some (interp_with gs fs)) [] (key ∷ ws) e (all_of (list_all is_given gs) (list_all is_function fs) g h) refl p.1))
    (if_made (bytes_eq key (codes "function")) _ _ e i)

on_given_goes : (gs : List GivenOf) (ws : List (List ℕ)) (e : DraftOf) → list_all is_given gs ≡ true → on_given ws (draft_at (AtGivens gs)) ≡ Some e → Goes (written (AtGivens gs)) ws e
on_given_goes gs [] e g i = absurd (cc)
on_given_goes gs (key ∷ ws) e g i =
    ⊎_elim
    (λ p. given_goes gs key ws e g p.0 p.1)
    (λ p.
    along (written (AtGivens gs) ++ (key ∷ ws) ∷ []) (written (AtFunctions gs []) ++ (key ∷ ws) ∷ []) e
    (ap (λ (ls : Lines). (version_words ∷ (codes "interp" ∷ []) ∷ ls) ++ (key ∷ ws) ∷ []) (sym (append-nil (map given_words gs))))
    (on_function_goes at.Givens gs [] (key ∷ ws) e g refl p.1))
    (if_made (bytes_eq key (codes "const")) _ _ e i)

on_version_goes : (ws : List (List ℕ)) (e : DraftOf) → on_version ws (draft_at AtVersion) ≡ Some e → Goes [] ws e
on_version_goes [] e i = absurd (cc)
on_version_goes (key ∷ []) e i = absurd (cc)
on_version_goes (key ∷ v ∷ []) e i =
    let t = when_made (bytes_eq key (codes "bg-cert") && bytes_eq v (codes "1")) (draft_at AtInterp) e i in
    let p = both (bytes_eq key (codes "bg-cert")) (bytes_eq v (codes "1")) t.0 in
    let first : key ≡ codes "bg-cert" = same_word key (codes "bg-cert") p.0 in
    let second : v ≡ codes "1" = same_word v (codes "1") p.1 in
    record { state = AtInterp; good = tt; is = sym t.1; lines_are = let line : (key ∷ v ∷ []) ∷ [] ≡ version_words ∷ [] = cc (first, second) in line }
on_version_goes (key ∷ v ∷ w ∷ ws) e i = absurd (cc)

on_interp_goes : (ws : List (List ℕ)) (e : DraftOf) → on_interp ws (draft_at AtInterp) ≡ Some e → Goes (version_words ∷ []) ws e
on_interp_goes [] e i = absurd (cc)
on_interp_goes (key ∷ []) e i =
    let t = when_made (bytes_eq key (codes "interp")) (draft_at (AtGivens [])) e i in
    record { state = AtGivens []; good = refl; is = sym t.1; lines_are = ap (λ (w : List ℕ). version_words ∷ (w ∷ []) ∷ []) (same_word key (codes "interp") t.0) }
on_interp_goes (word ∷ key ∷ []) e i =
    let t = when_made (bytes_eq word (codes "no") && bytes_eq key (codes "interp")) (draft_at (AtRetained None [])) e i in
    let p = both (bytes_eq word (codes "no")) (bytes_eq key (codes "interp")) t.0 in
    let first : word ≡ codes "no" = same_word word (codes "no") p.0 in
    let second : key ≡ codes "interp" = same_word key (codes "interp") p.1 in
    let line : (word ∷ key ∷ []) ∷ [] ≡ interp_lines None = cc (first, second) in
    record { state = AtRetained None []; good = (refl, refl); is = sym t.1; lines_are = ap (λ (ls : Lines). version_words ∷ ls) line }
on_interp_goes (word ∷ key ∷ w ∷ ws) e i = absurd (cc)

-- ---- any line

pub next_goes : (s : State) (ws : List (List ℕ)) (e : DraftOf) → Good s → next ws (draft_at s) ≡ Some e → Goes (written s) ws e
next_goes AtVersion ws e g i = on_version_goes ws e i
next_goes AtInterp ws e g i = on_interp_goes ws e i
next_goes (AtGivens gs) ws e g i = on_given_goes gs ws e g i
next_goes (AtFunctions gs fs) ws e g i = on_function_goes at.Functions gs fs ws e g.0 g.1 i
next_goes (AtRetained b names) ws e g i = on_retained_goes at.Retained b names ws e g.0 g.1 i
next_goes (AtTable h) ws e g i = on_stated_goes h ws e g i
next_goes (AtRows h table m) ws e g i = on_rows_goes h table m ws e g i
next_goes (AtNodes h table nodes t) ws e g i = on_node_goes at.Nodes h table nodes t ws e g i
next_goes (AtSteps h table nodes t steps m) ws e g i = on_steps_goes h table nodes t steps m ws e g.0 g.1 i
next_goes (AtSections h) ws e g i = on_section_goes at.Sections h ws e g i
next_goes (AtEnd h) ws e g i = absurd (cc)

run_from : (lines : Lines) (s : State) (d : DraftOf) → Good s → after lines (draft_at s) ≡ Some d → Stays (written s ++ lines) d
run_from [] s d g i = record { state = s; good = g; is = sym (same_some (draft_at s) d i); lines_are = append-nil (written s) }
run_from (ws ∷ lines) s d g i =
    let (e, f, k) = then_made (next ws (draft_at s)) (after lines) d i in
    let p = next_goes s ws e g f in
    let more = run_from lines p.state d p.good (ap (after lines) (sym p.is) ∙ k) in
    along (written s ++ ws ∷ lines) (written p.state ++ lines) d
    (sym (append_assoc (written s) (ws ∷ []) lines) ∙ ap (λ (ls : Lines). ls ++ lines) p.lines_are) more

pub run_stays : (lines : Lines) (d : DraftOf) → after lines start ≡ Some d → Stays lines d
run_stays lines d i = run_from lines AtVersion d tt i
