-- The machine takes the lines of a certificate, and what it read is the certificate.
use Rattle.std.proofs.Common.{◌≡◌, ℕ, suc, Bool, true, false, not, ◌==◌, List, [], ◌∷◌, ◌++◌, map, flat_map, length, codes, Some, None, refl, ap, sym, ◌∙◌, append_assoc, append-nil, arith}
use Rattle.std.proofs.lemmas.Bool.{ne_eqb}
use Rattle.std.specs.List.{list_all}
use Rattle.bg_certtext.specs.declared.draft.Stage.{Stage}
use Rattle.bg_certtext.specs.declared.draft.Stage.TheVariants as at
use Rattle.bg_certtext.specs.Views.{RowOf, NodeOf, SectionOf, GivenOf, FunctionOf, CertOf}
use Rattle.bg_certtext.specs.declared.text.Stated.{Stated}
use Rattle.bg_certtext.specs.Spellable.{IsSpellable, is_given, is_function, is_interp, is_stated, is_name, is_number, is_row, is_node, is_section, are_trees}
use Rattle.bg_certtext.specs.Texts.{lines_of, given_words, function_words, stated_words, retain_words, interp_lines, place_words, section_lines, table_lines, row_words, node_lines, end_words}
use Rattle.bg_certtext.specs.Machine.{DraftOf, start, next, after, cert_in}
use Rattle.bg_certtext.proofs.ReadsOptions.{both}
use Rattle.bg_certtext.proofs.ReadsNumbers.{natural_read}
use Rattle.bg_certtext.proofs.ReadsWords.{count_read}
use Rattle.bg_certtext.proofs.ReadsGivens.{given_read}
use Rattle.bg_certtext.proofs.ReadsFunctions.{function_read}
use Rattle.bg_certtext.proofs.ReadsStated.{stated_read}
use Rattle.bg_certtext.proofs.ReadsStates.{Interp, Head, AtInterp, AtGivens, AtRetained, Lines, interp_with, open_draft, head_draft, first_head, draft_at, with_open, counted}
use Rattle.bg_certtext.proofs.ReadsForwards.{after_join, after_first, rows_run, tree_run}

-- ---- a place

-- the stages in which a place may stand: behind the names, or behind another place
abbrev between : Bool → Stage
between true = at.Retained
between false = at.Sections

abbrev placed : Head → SectionOf → Head
placed h s = record h { implementation = s.implementation; place = s.place; stated = [] }

abbrev with_all : Head → List Stated → Head
with_all h ss = record h { stated = ss }

place_next : (first : Bool) (h : Head) (s : SectionOf) → is_number s.implementation ≡ true → is_number s.place ≡ true → next (place_words s.implementation s.place) (head_draft (between first) h) ≡ Some (open_draft at.Table (placed h s) [] [] [] 1 0)
place_next true h s i k = rw (natural_read s.implementation i, natural_read s.place k) refl
place_next false h s i k = rw (natural_read s.implementation i, natural_read s.place k) refl

table_next : (h : Head) (r : RowOf) (rs : List RowOf) → is_number (length (r ∷ rs)) ≡ true → next (counted (codes "table") (length (r ∷ rs))) (open_draft at.Table h [] [] [] 1 0) ≡ Some (open_draft at.Rows h [] [] [] 1 (length (r ∷ rs)))
table_next h r rs k =
    let some : not (suc (length rs) == 0) ≡ true = ap not (ne_eqb (suc (length rs)) 0 (λ e. omega (arith, e))) in
    rw (count_read (suc (length rs)) k some) refl

table_run : (h : Head) (table : List RowOf) (nodes : List NodeOf) → is_number (length table) ≡ true → list_all is_row table ≡ true → list_all is_node nodes ≡ true → are_trees 1 nodes ≡ true → after (table_lines table ++ flat_map node_lines nodes) (open_draft at.Table h [] [] [] 1 0) ≡ Some (head_draft at.Sections (with_open h table nodes))
table_run h [] nodes k f g e = tree_run nodes true 0 h [] [] g e
table_run h (r ∷ rs) nodes k f g e =
    let more : Lines = flat_map node_lines nodes in
    let d : DraftOf = open_draft at.Rows h [] [] [] 1 (length (r ∷ rs)) in
    after_first (counted (codes "table") (length (r ∷ rs))) (map row_words (r ∷ rs) ++ more) (open_draft at.Table h [] [] [] 1 0) d (table_next h r rs k)
    ∙ after_join (map row_words (r ∷ rs)) more d (open_draft at.Nodes h (r ∷ rs) [] [] 1 0) (rows_run r rs h [] f)
    ∙ tree_run nodes false 0 h (r ∷ rs) [] g e

stated_run : (ss : List Stated) (h : Head) (done : List Stated) → list_all is_stated ss ≡ true → after (map stated_words ss) (open_draft at.Table (with_all h done) [] [] [] 1 0) ≡ Some (open_draft at.Table (with_all h (done ++ ss)) [] [] [] 1 0)
stated_run [] h done k = ap (λ (ss : List Stated). Some (open_draft at.Table (with_all h ss) [] [] [] 1 0)) (sym (append-nil done))
stated_run (s ∷ ss) h done k =
    let p = both (is_stated s) (list_all is_stated ss) k in
    let d : DraftOf = open_draft at.Table (with_all h done) [] [] [] 1 0 in
    let e : DraftOf = open_draft at.Table (with_all h (done ++ s ∷ [])) [] [] [] 1 0 in
    let took : next (stated_words s) d ≡ Some e = rw (stated_read s p.0) refl in
    after_first (stated_words s) (map stated_words ss) d e took
    ∙ stated_run ss h (done ++ s ∷ []) p.1
    ∙ ap (λ (rs : List Stated). Some (open_draft at.Table (with_all h rs) [] [] [] 1 0)) (append_assoc done (s ∷ []) ss)

section_run : (first : Bool) (h : Head) (s : SectionOf) → is_section s ≡ true → after (section_lines s) (head_draft (between first) h) ≡ Some (head_draft at.Sections (with_open (with_all (placed h s) s.stated) s.table s.nodes))
section_run first h s k =
    let k1 = both (is_number s.implementation) _ k in
    let k2 = both (is_number s.place) _ k1.1 in
    let k0 = both (list_all is_stated s.stated) _ k2.1 in
    let k3 = both (is_number (length s.table)) _ k0.1 in
    let rest : Lines = table_lines s.table ++ flat_map node_lines s.nodes in
    let k4 = both (list_all is_row s.table) _ k3.1 in
    let k5 = both (list_all is_node s.nodes) (are_trees 1 s.nodes) k4.1 in
    after_first (place_words s.implementation s.place) (map stated_words s.stated ++ rest) (head_draft (between first) h) (open_draft at.Table (placed h s) [] [] [] 1 0) (place_next first h s k1.0 k2.0)
    ∙ after_join (map stated_words s.stated) rest (open_draft at.Table (placed h s) [] [] [] 1 0) (open_draft at.Table (with_all (placed h s) s.stated) [] [] [] 1 0) (stated_run s.stated (placed h s) [] k0.0)
    ∙ table_run (with_all (placed h s) s.stated) s.table s.nodes k3.0 k4.0 k5.0 k5.1

-- ---- all places, and the end

abbrev behind_all : Head → List SectionOf → Head
behind_all h [] = h
behind_all h (s ∷ ss) = behind_all (with_open (with_all (placed h s) s.stated) s.table s.nodes) ss

behind_is : (h : Head) (ss : List SectionOf) → cert_in (head_draft at.End (behind_all h ss)) ≡ record { interp = h.interp; retained = h.retained; sections = h.sections ++ ss }
behind_is h [] = ap (λ (ts : List SectionOf). let c : CertOf = record { interp = h.interp; retained = h.retained; sections = ts } in c) (sym (append-nil h.sections))
behind_is h (s ∷ ss) =
    behind_is (with_open (with_all (placed h s) s.stated) s.table s.nodes) ss
    ∙ ap (λ (ts : List SectionOf). let c : CertOf = record { interp = h.interp; retained = h.retained; sections = ts } in c) (append_assoc h.sections (s ∷ []) ss)

sections_run : (ss : List SectionOf) (first : Bool) (h : Head) → list_all is_section ss ≡ true → after (flat_map section_lines ss ++ end_words ∷ []) (head_draft (between first) h) ≡ Some (head_draft at.End (behind_all h ss))
sections_run [] true h k = refl
sections_run [] false h k = refl
sections_run (s ∷ ss) first h k =
    let p = both (is_section s) (list_all is_section ss) k in
    let more : Lines = flat_map section_lines ss in
    let behind : Head = with_open (with_all (placed h s) s.stated) s.table s.nodes in
    ap (λ (ls : Lines). after ls (head_draft (between first) h)) (append_assoc (section_lines s) more (end_words ∷ []))
    ∙ after_join (section_lines s) (more ++ end_words ∷ []) (head_draft (between first) h) (head_draft at.Sections behind) (section_run first h s p.0)
    ∙ sections_run ss false behind p.1

-- ---- the lines in front

names_run : (names : List (List ℕ)) (i : Interp) (done : List (List ℕ)) → list_all is_name names ≡ true → after (map retain_words names) (head_draft at.Retained (first_head i done)) ≡ Some (head_draft at.Retained (first_head i (done ++ names)))
names_run [] i done k = ap (λ (ns : List (List ℕ)). Some (head_draft at.Retained (first_head i ns))) (sym (append-nil done))
names_run (n ∷ ns) i done k =
    let p = both (is_name n) (list_all is_name ns) k in
    let d : DraftOf = head_draft at.Retained (first_head i done) in
    let e : DraftOf = head_draft at.Retained (first_head i (done ++ n ∷ [])) in
    let took : next (retain_words n) d ≡ Some e = rw p.0 refl in
    after_first (retain_words n) (map retain_words ns) d e took
    ∙ names_run ns i (done ++ n ∷ []) p.1
    ∙ ap (λ (ms : List (List ℕ)). Some (head_draft at.Retained (first_head i ms))) (append_assoc done (n ∷ []) ns)

givens_run : (gs done : List GivenOf) → list_all is_given gs ≡ true → after (map given_words gs) (draft_at (AtGivens done)) ≡ Some (draft_at (AtGivens (done ++ gs)))
givens_run [] done k = ap (λ (gs : List GivenOf). Some (draft_at (AtGivens gs))) (sym (append-nil done))
givens_run (g ∷ gs) done k =
    let p = both (is_given g) (list_all is_given gs) k in
    let took : next (given_words g) (draft_at (AtGivens done)) ≡ Some (draft_at (AtGivens (done ++ g ∷ []))) = rw (given_read g p.0) refl in
    after_first (given_words g) (map given_words gs) (draft_at (AtGivens done)) (draft_at (AtGivens (done ++ g ∷ []))) took
    ∙ givens_run gs (done ++ g ∷ []) p.1
    ∙ ap (λ (gs : List GivenOf). Some (draft_at (AtGivens gs))) (append_assoc done (g ∷ []) gs)

-- the stages in which a function may stand: behind the constants, or behind another function
abbrev at_function : Bool → Stage
at_function true = at.Givens
at_function false = at.Functions

function_next : (first : Bool) (gs : List GivenOf) (f : FunctionOf) (done : List FunctionOf) → is_function f ≡ true → next (function_words f) (head_draft (at_function first) (first_head (Some (interp_with gs done)) [])) ≡ Some (head_draft at.Functions (first_head (Some (interp_with gs (done ++ f ∷ []))) []))
function_next true gs f done k = rw (function_read f k) refl
function_next false gs f done k = rw (function_read f k) refl

-- the stage behind these functions
abbrev stage_behind : Bool → List FunctionOf → Stage
stage_behind first [] = at_function first
stage_behind first (f ∷ fs) = at.Functions

stage_then : (fs : List FunctionOf) → stage_behind false fs ≡ at.Functions
stage_then [] = refl
stage_then (f ∷ fs) = refl

functions_run : (fs : List FunctionOf) (first : Bool) (gs : List GivenOf) (done : List FunctionOf) → list_all is_function fs ≡ true → after (map function_words fs) (head_draft (at_function first) (first_head (Some (interp_with gs done)) [])) ≡ Some (head_draft (stage_behind first fs) (first_head (Some (interp_with gs (done ++ fs))) []))
functions_run [] first gs done k = ap (λ (fs : List FunctionOf). Some (head_draft (at_function first) (first_head (Some (interp_with gs fs)) []))) (sym (append-nil done))
functions_run (f ∷ fs) first gs done k =
    let p = both (is_function f) (list_all is_function fs) k in
    let d : DraftOf = head_draft (at_function first) (first_head (Some (interp_with gs done)) []) in
    let e : DraftOf = head_draft at.Functions (first_head (Some (interp_with gs (done ++ f ∷ []))) []) in
    after_first (function_words f) (map function_words fs) d e (function_next first gs f done p.0)
    ∙ functions_run fs false gs (done ++ f ∷ []) p.1
    ∙ ap (λ (st : Stage). Some (head_draft st (first_head (Some (interp_with gs ((done ++ f ∷ []) ++ fs))) []))) (stage_then fs)
    ∙ ap (λ (hs : List FunctionOf). Some (head_draft at.Functions (first_head (Some (interp_with gs hs)) []))) (append_assoc done (f ∷ []) fs)

-- the stage behind the interpretation
abbrev opened : Interp → Stage
opened None = at.Retained
opened (Some i) = stage_behind true i.functions

interp_run : (i : Interp) → is_interp i ≡ true → after (interp_lines i) (draft_at AtInterp) ≡ Some (head_draft (opened i) (first_head i []))
interp_run None k = refl
interp_run (Some i) k =
    let p = both (list_all is_given i.constants) (list_all is_function i.functions) k in
    after_join (map given_words i.constants) (map function_words i.functions) (draft_at (AtGivens [])) (draft_at (AtGivens i.constants)) (givens_run i.constants [] p.0)
    ∙ functions_run i.functions true i.constants [] p.1

-- the lines behind it make the same of it as where a name stands in front
behind_interp : (i : Interp) (names : List (List ℕ)) (ss : List SectionOf) → after (map retain_words names ++ (flat_map section_lines ss ++ end_words ∷ [])) (head_draft (opened i) (first_head i [])) ≡ after (map retain_words names ++ (flat_map section_lines ss ++ end_words ∷ [])) (draft_at (AtRetained i []))
behind_interp None names ss = refl
behind_interp (Some i) names ss = by i.constants i.functions names ss
  where
    by : (gs : List GivenOf) (fs : List FunctionOf) (names : List (List ℕ)) (ss : List SectionOf) → after (map retain_words names ++ (flat_map section_lines ss ++ end_words ∷ [])) (head_draft (stage_behind true fs) (first_head (Some (interp_with gs fs)) [])) ≡ after (map retain_words names ++ (flat_map section_lines ss ++ end_words ∷ [])) (draft_at (AtRetained (Some (interp_with gs fs)) []))
    by gs [] [] [] = refl
    by gs [] [] (s ∷ ss) = refl
    by gs [] (n ∷ ns) ss = refl
    by gs (f ∷ fs) [] [] = refl
    by gs (f ∷ fs) [] (s ∷ ss) = refl
    by gs (f ∷ fs) (n ∷ ns) ss = refl

-- ---- a certificate

-- the machine takes these lines, stands at the end, and has read this certificate
pub record Accepts (lines : Lines) (c : CertOf) : Type 0 where
  pub draft : DraftOf
  pub ran : after lines start ≡ Some draft
  pub ended : draft.stage ≡ at.End
  pub has : cert_in draft ≡ c

pub lines_are_accepted : (c : CertOf) → IsSpellable c → Accepts (lines_of c) c
lines_are_accepted c k =
    let p = both (is_interp c.interp) _ k in
    let q = both (list_all is_name c.retained) (list_all is_section c.sections) p.1 in
    let h : Head = first_head c.interp c.retained in
    let front : Lines = interp_lines c.interp in
    let names : Lines = map retain_words c.retained in
    let places : Lines = flat_map section_lines c.sections in
    record {
      draft = head_draft at.End (behind_all h c.sections);
      ran =
          ap (λ (ls : Lines). after ls (draft_at AtInterp)) (append_assoc (front ++ names) places (end_words ∷ []) ∙ append_assoc front names (places ++ end_words ∷ []))
          ∙ after_join front (names ++ (places ++ end_words ∷ [])) (draft_at AtInterp) (head_draft (opened c.interp) (first_head c.interp [])) (interp_run c.interp p.0)
          ∙ behind_interp c.interp c.retained c.sections
          ∙ after_join names (places ++ end_words ∷ []) (draft_at (AtRetained c.interp [])) (head_draft at.Retained h) (names_run c.retained c.interp [] q.0)
          ∙ sections_run c.sections true h q.1;
      ended = refl;
      has = behind_is h c.sections;
    }
