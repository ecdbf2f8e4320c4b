-- Wherever the machine stands, what it read is the beginning of a certificate.
use Rattle.std.proofs.Common.{◌≡◌, ℕ, zero, suc, ◌+◌, ◌-◌, true, false, List, [], ◌∷◌, ◌++◌, map, length, codes, Some, None, pos, refl, ap, sym, subst, ◌∙◌, append_assoc, append-nil, arith}
use Rattle.std.specs.List.{list_all}
use Rattle.bg_rows.specs.declared.step.Step.{Step}
use Rattle.bg_rows.specs.declared.step.Step.TheVariants.{Path}
use Rattle.bg_certtext.specs.Views.{RowOf, NodeOf, IsClause, Derives, GivenOf, FunctionOf, CertOf}
use Rattle.bg_certtext.specs.Spellable.{IsSpellable, is_empty, is_number, is_name, is_given, is_function, is_interp, is_section, is_node}
use Rattle.bg_certtext.specs.Texts.{lines_of, given_words, retain_words, interp_lines, version_words, end_words, node_lines, row_words, step_words}
use Rattle.bg_certtext.specs.Reading.{Begins}
use Rattle.bg_certtext.proofs.ReadsOptions.{all_of}
use Rattle.bg_certtext.proofs.ReadsStates.{Head, State, AtVersion, AtInterp, AtGivens, AtFunctions, AtRetained, interp_with, AtTable, AtRows, AtNodes, AtSteps, AtSections, AtEnd, Lines, Good, GoodHead, GoodRows, GoodNodes, GoodSteps, first_head, with_open, written, head_lines, nodes_lines, rows_lines, steps_lines}
use Rattle.bg_certtext.proofs.ReadsLines.{head_more, nodes_more, steps_more, steps_whole, rows_more, length_one}
use Rattle.bg_certtext.proofs.ReadsMoves.{node_good, sections_good}
use Rattle.bg_certtext.proofs.ReadsTables.{steps_good, rows_good, table_is_whole, place_good}

-- what begins with more lines begins with these
pub begins_less : (ls ms ns : Lines) → ns ≡ ls ++ ms → Begins ns → Begins ls
begins_less ls ms ns e b = let (c, more, s, k) = b in (c, ms ++ more, s, k ∙ ap (λ (us : Lines). us ++ more) e ∙ append_assoc ls ms more)

abbrev pub head_cert : Head → CertOf
head_cert h = record { interp = h.interp; retained = h.retained; sections = h.sections }

pub head_spells : (h : Head) → GoodHead h → IsSpellable (head_cert h)
head_spells h g =
    all_of (is_interp h.interp) _ g.interp (all_of (list_all is_name h.retained) (list_all is_section h.sections) g.names g.sections)

head_begins : (h : Head) → GoodHead h → Begins (head_lines h)
head_begins h g = (head_cert h, end_words ∷ [], head_spells h g, refl)

-- behind trees that are still to come stands a clause for each
nodes_begin : (t : ℕ) (h : Head) (table : List RowOf) (nodes : List NodeOf) → GoodNodes h table nodes t → Begins (nodes_lines h table nodes)
nodes_begin zero h table nodes g =
    begins_less (nodes_lines h table nodes) [] (head_lines (with_open h table nodes)) (head_more h table nodes ∙ sym (append-nil (nodes_lines h table nodes)))
    (head_begins (with_open h table nodes) (sections_good h table nodes g))
nodes_begin (suc t) h table nodes g =
    let n : NodeOf = IsClause 0 in
    let same : 0 + (suc t - 1) ≡ t = omega arith in
    begins_less (nodes_lines h table nodes) (node_lines n) (nodes_lines h table (nodes ++ n ∷ [])) (nodes_more h table nodes n)
    (nodes_begin t h table (nodes ++ n ∷ []) (subst (GoodNodes h table (nodes ++ n ∷ [])) same (node_good h table nodes t n g refl)))

filled : (ss : List Step) (s : Step) → is_empty (ss ++ s ∷ []) ≡ false
filled [] s = refl
filled (r ∷ rs) s = refl

-- for each step that is still to come stands one of a path
steps_begin : (m : ℕ) (h : Head) (table : List RowOf) (nodes : List NodeOf) (t : ℕ) (steps : List Step) → GoodNodes h table nodes (suc t) → GoodSteps steps (length steps + suc m) → Begins (steps_lines h table nodes steps (length steps + suc m))
steps_begin zero h table nodes t steps g k =
    let s : Step = Path 0 in
    let more = steps_good steps s 0 k refl in
    let n : NodeOf = Derives (steps ++ s ∷ []) in
    let whole : length (steps ++ s ∷ []) + 0 ≡ length (steps ++ s ∷ []) = omega arith in
    let count : is_number (length (steps ++ s ∷ [])) ≡ true = ap is_number (sym whole) ∙ more.count in
    let fine : is_node n ≡ true = rw (filled steps s, count, more.fine) refl in
    begins_less (steps_lines h table nodes steps (length steps + 1)) (step_words s ∷ []) (nodes_lines h table (nodes ++ n ∷ []))
    (steps_whole h table nodes (steps ++ s ∷ []) ∙ ap (steps_lines h table nodes (steps ++ s ∷ [])) (length_one steps s) ∙ steps_more h table nodes steps s (length steps + 1))
    (nodes_begin (0 + (suc t - 1)) h table (nodes ++ n ∷ []) (node_good h table nodes t n g fine))
steps_begin (suc m) h table nodes t steps g k =
    let s : Step = Path 0 in
    let same : length (steps ++ s ∷ []) + suc m ≡ length steps + suc (suc m) = omega (arith, length_one steps s) in
    begins_less (steps_lines h table nodes steps (length steps + suc (suc m))) (step_words s ∷ []) (steps_lines h table nodes (steps ++ s ∷ []) (length (steps ++ s ∷ []) + suc m))
    (ap (steps_lines h table nodes (steps ++ s ∷ [])) same ∙ steps_more h table nodes steps s (length steps + suc (suc m)))
    (steps_begin m h table nodes t (steps ++ s ∷ []) g (steps_good steps s (suc m) k refl))

-- for each row that is still to come stands one without terms
rows_begin : (m : ℕ) (h : Head) (table : List RowOf) → GoodRows h table (length table + suc m) → Begins (rows_lines h table (length table + suc m))
rows_begin zero h table g =
    let r : RowOf = record { bound = pos 0; terms = [] } in
    let more = rows_good h table r 0 g refl in
    let whole : length (table ++ r ∷ []) + 0 ≡ length (table ++ r ∷ []) = omega arith in
    begins_less (rows_lines h table (length table + 1)) (row_words r ∷ []) (nodes_lines h (table ++ r ∷ []) [])
    (sym (table_is_whole h table r) ∙ ap (rows_lines h (table ++ r ∷ [])) (length_one table r) ∙ rows_more h table r (length table + 1))
    (nodes_begin 1 h (table ++ r ∷ []) [] (record { rows = record { place = more.place; rows = more.rows; count = ap is_number (sym whole) ∙ more.count }; fine = refl; trees = λ rest. refl }))
rows_begin (suc m) h table g =
    let r : RowOf = record { bound = pos 0; terms = [] } in
    let same : length (table ++ r ∷ []) + suc m ≡ length table + suc (suc m) = omega (arith, length_one table r) in
    begins_less (rows_lines h table (length table + suc (suc m))) (row_words r ∷ []) (rows_lines h (table ++ r ∷ []) (length (table ++ r ∷ []) + suc m))
    (ap (rows_lines h (table ++ r ∷ [])) same ∙ rows_more h table r (length table + suc (suc m)))
    (rows_begin m h (table ++ r ∷ []) (rows_good h table r (suc m) g refl))

functions_begin : (gs : List GivenOf) (fs : List FunctionOf) → list_all is_given gs ≡ true → list_all is_function fs ≡ true → Begins (written (AtFunctions gs fs))
functions_begin gs fs g k =
    let h : Head = first_head (Some (interp_with gs fs)) [] in
    let front : Lines = interp_lines (Some (interp_with gs fs)) in
    (head_cert h, end_words ∷ [], head_spells h (record { interp = all_of (list_all is_given gs) (list_all is_function fs) g k; names = refl; sections = refl }), ap (λ (ls : Lines). (version_words ∷ ls) ++ end_words ∷ []) (append-nil (front ++ []) ∙ append-nil front))

pub good_begins : (s : State) → Good s → Begins (written s)
good_begins AtVersion g = (head_cert (first_head None []), lines_of (head_cert (first_head None [])), refl, refl)
good_begins AtInterp g = (head_cert (first_head None []), (codes "no" ∷ codes "interp" ∷ []) ∷ end_words ∷ [], refl, refl)
good_begins (AtGivens gs) g =
    begins_less (version_words ∷ (codes "interp" ∷ []) ∷ map given_words gs) [] (written (AtFunctions gs [])) refl (functions_begin gs [] g refl)
good_begins (AtFunctions gs fs) g = functions_begin gs fs g.0 g.1
good_begins (AtRetained i names) g =
    let h : Head = first_head i names in
    let front : Lines = interp_lines i ++ map retain_words names in
    (head_cert h, end_words ∷ [], head_spells h (record { interp = g.0; names = g.1; sections = refl }), ap (λ (ls : Lines). (version_words ∷ ls) ++ end_words ∷ []) (append-nil front))
good_begins (AtTable h) g = nodes_begin 1 h [] [] (place_good h g)
good_begins (AtRows h table m) g = rows_begin m h table g
good_begins (AtNodes h table nodes t) g = nodes_begin (suc t) h table nodes g
good_begins (AtSteps h table nodes t steps m) g = steps_begin m h table nodes t steps g.0 g.1
good_begins (AtSections h) g = head_begins h g
good_begins (AtEnd h) g = (head_cert h, [], head_spells h g, sym (append-nil (written (AtEnd h))))
