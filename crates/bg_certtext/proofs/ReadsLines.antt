-- One more row, node, step or section is so many lines more.
use Rattle.std.proofs.Common.{◌≡◌, ℕ, suc, ◌+◌, Bool, true, List, [], ◌∷◌, ◌++◌, map, flat_map, length, codes, refl, ap, sym, ◌∙◌, append_assoc, append-nil, arith}
use Rattle.std.specs.List.{list_all}
use Rattle.bg_rows.specs.declared.step.Step.{Step}
use Rattle.bg_certtext.specs.declared.text.Stated.{Stated}
use Rattle.bg_certtext.specs.Views.{RowOf, NodeOf, Derives, SectionOf}
use Rattle.bg_certtext.specs.Spellable.{is_step, are_steps}
use Rattle.bg_certtext.specs.Texts.{retain_words, interp_lines, version_words, place_words, section_lines, row_words, step_words, stated_words, table_lines, node_lines}
use Rattle.bg_certtext.proofs.ReadsOptions.{both, all_of}
use Rattle.bg_certtext.proofs.ReadsStates.{Head, Lines, with_open, open_section, head_lines, nodes_lines, rows_lines, steps_lines, counted}

pub map_one : {A B : Type 0} (f : A → B) (xs : List A) (x : A) → map f (xs ++ x ∷ []) ≡ map f xs ++ f x ∷ []
map_one f [] x = refl
map_one f (y ∷ ys) x = ap (λ zs. f y ∷ zs) (map_one f ys x)

pub flat_map_one : {A B : Type 0} (f : A → List B) (xs : List A) (x : A) → flat_map f (xs ++ x ∷ []) ≡ flat_map f xs ++ f x
flat_map_one f [] x = append-nil (f x)
flat_map_one f (y ∷ ys) x = ap (λ zs. f y ++ zs) (flat_map_one f ys x) ∙ sym (append_assoc (f y) (flat_map f ys) (f x))

pub length_one : {A : Type 0} (xs : List A) (x : A) → length (xs ++ x ∷ []) ≡ length xs + 1
length_one [] x = refl
length_one (y ∷ ys) x = omega (arith, length_one ys x)

pub all_one : {A : Type 0} (p : A → Bool) (xs : List A) (x : A) → list_all p xs ≡ true → p x ≡ true → list_all p (xs ++ x ∷ []) ≡ true
all_one p [] x h k = rw k refl
all_one p (y ∷ ys) x h k = let q = both (p y) (list_all p ys) h in all_of (p y) (list_all p (ys ++ x ∷ [])) q.0 (all_one p ys x q.1 k)

pub steps_one : (n : ℕ) (ss : List Step) (s : Step) → are_steps n ss ≡ true → is_step (n + length ss) s ≡ true → are_steps n (ss ++ s ∷ []) ≡ true
steps_one n [] s h k = let same : n + 0 ≡ n = omega arith in let fine : is_step n s ≡ true = rw same at k in rw fine refl
steps_one n (r ∷ rs) s h k =
    let p = both (is_step n r) (are_steps (n + 1) rs) h in
    let same : n + suc (length rs) ≡ n + 1 + length rs = omega arith in
    all_of (is_step n r) (are_steps (n + 1) (rs ++ s ∷ [])) p.0 (steps_one (n + 1) rs s p.1 (ap (λ (m : ℕ). is_step m s) (sym same) ∙ k))

-- ---- lines

pub head_more : (h : Head) (table : List RowOf) (nodes : List NodeOf) → head_lines (with_open h table nodes) ≡ nodes_lines h table nodes
head_more h table nodes =
    let front : Lines = interp_lines h.interp ++ map retain_words h.retained in
    let s : SectionOf = open_section h table nodes in
    ap (λ (ls : Lines). version_words ∷ ls)
    (ap (λ (ls : Lines). front ++ ls) (flat_map_one section_lines h.sections s) ∙ sym (append_assoc front (flat_map section_lines h.sections) (section_lines s)))

pub nodes_more : (h : Head) (table : List RowOf) (nodes : List NodeOf) (n : NodeOf) → nodes_lines h table (nodes ++ n ∷ []) ≡ nodes_lines h table nodes ++ node_lines n
nodes_more h table nodes n =
    let place : List (List ℕ) = place_words h.implementation h.place in
    let front : Lines = map stated_words h.stated in
    ap (λ (ls : Lines). head_lines h ++ place ∷ (front ++ ls))
    (ap (λ (ls : Lines). table_lines table ++ ls) (flat_map_one node_lines nodes n) ∙ sym (append_assoc (table_lines table) (flat_map node_lines nodes) (node_lines n)))
    ∙ ap (λ (ls : Lines). head_lines h ++ place ∷ ls) (sym (append_assoc front (table_lines table ++ flat_map node_lines nodes) (node_lines n)))
    ∙ sym (append_assoc (head_lines h) (place ∷ (front ++ (table_lines table ++ flat_map node_lines nodes))) (node_lines n))

-- one more instance, in front of a table and nodes
pub stated_more : (h : Head) (s : Stated) → nodes_lines (record h { stated = h.stated ++ s ∷ [] }) [] [] ≡ nodes_lines h [] [] ++ stated_words s ∷ []
stated_more h s =
    let place : List (List ℕ) = place_words h.implementation h.place in
    let front : Lines = map stated_words h.stated in
    ap (λ (ls : Lines). head_lines h ++ place ∷ ls)
    (append-nil (map stated_words (h.stated ++ s ∷ [])) ∙ map_one stated_words h.stated s ∙ ap (λ (ls : Lines). ls ++ stated_words s ∷ []) (sym (append-nil front)))
    ∙ sym (append_assoc (head_lines h) (place ∷ (front ++ [])) (stated_words s ∷ []))

pub rows_more : (h : Head) (table : List RowOf) (r : RowOf) (n : ℕ) → rows_lines h (table ++ r ∷ []) n ≡ rows_lines h table n ++ row_words r ∷ []
rows_more h table r n =
    let place : List (List ℕ) = place_words h.implementation h.place in
    let front : Lines = map stated_words h.stated in
    let rows : Lines = counted (codes "table") n ∷ map row_words table in
    ap (λ (ls : Lines). head_lines h ++ place ∷ (front ++ counted (codes "table") n ∷ ls)) (map_one row_words table r)
    ∙ ap (λ (ls : Lines). head_lines h ++ place ∷ ls) (sym (append_assoc front rows (row_words r ∷ [])))
    ∙ sym (append_assoc (head_lines h) (place ∷ (front ++ rows)) (row_words r ∷ []))

pub table_whole : (h : Head) (r : RowOf) (rs : List RowOf) → rows_lines h (r ∷ rs) (length (r ∷ rs)) ≡ nodes_lines h (r ∷ rs) []
table_whole h r rs =
    ap (λ (ls : Lines). head_lines h ++ place_words h.implementation h.place ∷ (map stated_words h.stated ++ ls)) (sym (append-nil (counted (codes "table") (length (r ∷ rs)) ∷ map row_words (r ∷ rs))))

pub steps_more : (h : Head) (table : List RowOf) (nodes : List NodeOf) (ss : List Step) (s : Step) (n : ℕ) → steps_lines h table nodes (ss ++ s ∷ []) n ≡ steps_lines h table nodes ss n ++ step_words s ∷ []
steps_more h table nodes ss s n =
    ap (λ (ls : Lines). nodes_lines h table nodes ++ counted (codes "rows") n ∷ ls) (map_one step_words ss s)
    ∙ sym (append_assoc (nodes_lines h table nodes) (counted (codes "rows") n ∷ map step_words ss) (step_words s ∷ []))

pub steps_whole : (h : Head) (table : List RowOf) (nodes : List NodeOf) (ss : List Step) → nodes_lines h table (nodes ++ Derives ss ∷ []) ≡ steps_lines h table nodes ss (length ss)
steps_whole h table nodes ss = nodes_more h table nodes (Derives ss)
