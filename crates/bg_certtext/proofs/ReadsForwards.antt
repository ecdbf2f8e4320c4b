-- The machine takes the lines of nodes, steps and rows.
use Rattle.std.proofs.Common.{◌≡◌, ℕ, zero, suc, ◌+◌, ◌-◌, Bool, true, false, not, ◌==◌, List, [], ◌∷◌, ◌++◌, map, flat_map, length, Option, Some, None, refl, ap, sym, ◌∙◌, append_assoc, append-nil, arith}
use Rattle.std.proofs.lemmas.Bool.{ne_eqb}
use Rattle.std.specs.List.{list_all}
use Rattle.bg_base.specs.Exact.{fits}
use Rattle.bg_rows.specs.declared.step.Step.{Step}
use Rattle.bg_certtext.specs.declared.draft.Stage.{Stage}
use Rattle.bg_certtext.specs.declared.draft.Stage.TheVariants as at
use Rattle.bg_certtext.specs.Views.{RowOf, NodeOf, Splits, Bounds, Cuts, Learns, IsClause, IsUnit, IsKnown, Derives}
use Rattle.bg_certtext.specs.Spellable.{is_number, is_row, is_node, is_step, are_steps, are_trees, children}
use Rattle.bg_certtext.specs.Texts.{node_words, node_lines, steps_of, row_words, step_words}
use Rattle.bg_certtext.specs.Machine.{DraftOf, then_, closed, with_node, with_steps, with_step, with_row, on_node, on_stated, next, after}
use Rattle.bg_certtext.proofs.ReadsOptions.{both}
use Rattle.bg_certtext.proofs.ReadsNumbers.{natural_read, integer_read}
use Rattle.bg_certtext.proofs.ReadsWords.{count_read}
use Rattle.bg_certtext.proofs.ReadsLists.{literals_read, row_read}
use Rattle.bg_certtext.proofs.ReadsSteps.{step_read}
use Rattle.bg_certtext.proofs.ReadsStates.{Head, Lines, open_draft, head_draft, with_open}
use Rattle.bg_certtext.proofs.ReadsLines.{length_one}
use Rattle.bg_certtext.proofs.ReadsTables.{not_last, not_last_row}

-- ---- lines, one after the other

pub after_join : (xs ys : Lines) (d e : DraftOf) → after xs d ≡ Some e → after (xs ++ ys) d ≡ after ys e
after_join [] ys d e h = let same : d ≡ e = cc in ap (after ys) same
after_join (x ∷ xs) ys d e h = by xs ys e (next x d) h (after_join xs ys)
  where
    by : (xs ys : Lines) (e : DraftOf) (o : Option DraftOf) → then_ o (after xs) ≡ Some e → ((d e : DraftOf) → after xs d ≡ Some e → after (xs ++ ys) d ≡ after ys e) → then_ o (after (xs ++ ys)) ≡ after ys e
    by xs ys e None h more = absurd (cc)
    by xs ys e (Some d) h more = more d e h

pub after_first : (ws : List (List ℕ)) (rest : Lines) (d e : DraftOf) → next ws d ≡ Some e → after (ws ∷ rest) d ≡ after rest e
after_first ws rest d e h = ap (λ (o : Option DraftOf). then_ o (after rest)) h

-- ---- steps

steps_run : (s : Step) (ss : List Step) (h : Head) (table : List RowOf) (nodes : List NodeOf) (t : ℕ) (done : List Step) → are_steps (length done) (s ∷ ss) ≡ true → after (map step_words (s ∷ ss)) (open_draft at.Steps h table nodes done (suc t) (length (s ∷ ss))) ≡ Some (with_node (Derives (done ++ s ∷ ss)) (open_draft at.Steps h table nodes [] (suc t) 0))
steps_run s [] h table nodes t done k =
    let p = both (is_step (length done) s) _ k in
    let d : DraftOf = open_draft at.Steps h table nodes done (suc t) 1 in
    ap (λ (o : Option Step). then_ (then_ o (λ s. Some (with_step s d))) (after [])) (step_read (length done) s p.0)
steps_run s (r ∷ rs) h table nodes t done k =
    let p = both (is_step (length done) s) (are_steps (length done + 1) (r ∷ rs)) k in
    let d : DraftOf = open_draft at.Steps h table nodes done (suc t) (suc (suc (length rs))) in
    let k1 : are_steps (length (done ++ s ∷ [])) (r ∷ rs) ≡ true = ap (λ (n : ℕ). are_steps n (r ∷ rs)) (length_one done s) ∙ p.1 in
    ap (λ (o : Option Step). then_ (then_ o (λ s. Some (with_step s d))) (after (map step_words (r ∷ rs)))) (step_read (length done) s p.0)
    ∙ ap (after (map step_words (r ∷ rs))) (not_last h table nodes t done s (length rs))
    ∙ steps_run r rs h table nodes t (done ++ s ∷ []) k1
    ∙ ap (λ (ss : List Step). Some (with_node (Derives ss) (open_draft at.Steps h table nodes [] (suc t) 0))) (append_assoc done (s ∷ []) (r ∷ rs))

-- ---- rows

pub rows_run : (r : RowOf) (rs : List RowOf) (h : Head) (done : List RowOf) → list_all is_row (r ∷ rs) ≡ true → after (map row_words (r ∷ rs)) (open_draft at.Rows h done [] [] 1 (length (r ∷ rs))) ≡ Some (open_draft at.Nodes h (done ++ r ∷ rs) [] [] 1 0)
rows_run r [] h done k =
    let p = both (is_row r) _ k in
    let d : DraftOf = open_draft at.Rows h done [] [] 1 1 in
    ap (λ (o : Option RowOf). then_ (then_ o (λ r. Some (with_row r d))) (after [])) (row_read r p.0)
rows_run r (q ∷ qs) h done k =
    let p = both (is_row r) (list_all is_row (q ∷ qs)) k in
    let d : DraftOf = open_draft at.Rows h done [] [] 1 (suc (suc (length qs))) in
    ap (λ (o : Option RowOf). then_ (then_ o (λ r. Some (with_row r d))) (after (map row_words (q ∷ qs)))) (row_read r p.0)
    ∙ ap (after (map row_words (q ∷ qs))) (not_last_row h done r (length qs))
    ∙ rows_run q qs h (done ++ r ∷ []) p.1
    ∙ ap (λ (rs : List RowOf). Some (open_draft at.Nodes h rs [] [] 1 0)) (append_assoc done (r ∷ []) (q ∷ qs))

-- ---- nodes

-- the stages in which a node may stand: right behind a place, or later
abbrev pub behind : Bool → Stage
behind true = at.Table
behind false = at.Nodes

-- behind one more node
abbrev pub noded : Head → List RowOf → List NodeOf → NodeOf → ℕ → DraftOf
noded h table nodes n k = closed k (open_draft at.Nodes h table (nodes ++ n ∷ []) [] k 0)

closed_alike : (st : Stage) (h : Head) (table : List RowOf) (nodes : List NodeOf) (k : ℕ) → closed k (open_draft st h table nodes [] k 0) ≡ closed k (open_draft at.Nodes h table nodes [] k 0)
closed_alike st h table nodes zero = refl
closed_alike st h table nodes (suc k) = refl

with_node_is : (st : Stage) (h : Head) (table : List RowOf) (nodes : List NodeOf) (n : NodeOf) (t : ℕ) → with_node n (open_draft st h table nodes [] (suc t) 0) ≡ noded h table nodes n (children n + t)
with_node_is st h table nodes n t =
    let same : children n + (suc t - 1) ≡ children n + t = omega arith in
    closed_alike st h table (nodes ++ n ∷ []) (children n + (suc t - 1)) ∙ ap (noded h table nodes n) same

-- a node that no steps follow
plain_read : (n : NodeOf) (d : DraftOf) → is_node n ≡ true → steps_of n ≡ [] → on_node (node_words n) d ≡ Some (with_node n d)
plain_read (Splits a) d h e = rw (natural_read a h) refl
plain_read (Bounds x k) d h e = let p = both (is_number x) (fits k) h in rw (natural_read x p.0, integer_read k p.1) refl
plain_read (Cuts r) d h e = rw (natural_read r h) refl
plain_read (Learns ls) d h e = rw (literals_read ls h) refl
plain_read (IsClause c) d h e = rw (natural_read c h) refl
plain_read (IsUnit name) d h e = rw h refl
plain_read (IsKnown i) d h e = rw (natural_read i h) refl
plain_read (Derives steps) d h e = absurd (let none : is_node (Derives []) ≡ true = ap (λ (ss : List Step). is_node (Derives ss)) (sym e) ∙ h in cc)

rows_read : (s : Step) (ss : List Step) (d : DraftOf) → is_number (length (s ∷ ss)) ≡ true → on_node (node_words (Derives (s ∷ ss))) d ≡ Some (with_steps (length (s ∷ ss)) d)
rows_read s ss d h =
    let some : not (suc (length ss) == 0) ≡ true = ap not (ne_eqb (suc (length ss)) 0 (λ e. omega (arith, e))) in
    rw (count_read (suc (length ss)) h some) refl

no_table : (n : NodeOf) (d : DraftOf) → on_stated (node_words n) d ≡ on_node (node_words n) d
no_table (Splits a) d = refl
no_table (Bounds x k) d = refl
no_table (Cuts r) d = refl
no_table (Learns ls) d = refl
no_table (IsClause c) d = refl
no_table (IsUnit name) d = refl
no_table (IsKnown i) d = refl
no_table (Derives steps) d = refl

next_is : (first : Bool) (n : NodeOf) (h : Head) (table : List RowOf) (nodes : List NodeOf) (t : ℕ) → next (node_words n) (open_draft (behind first) h table nodes [] (suc t) 0) ≡ on_node (node_words n) (open_draft (behind first) h table nodes [] (suc t) 0)
next_is true n h table nodes t = no_table n (open_draft at.Table h table nodes [] (suc t) 0)
next_is false n h table nodes t = refl

plain_run : (first : Bool) (n : NodeOf) (h : Head) (table : List RowOf) (nodes : List NodeOf) (t : ℕ) → is_node n ≡ true → steps_of n ≡ [] → after (node_words n ∷ []) (open_draft (behind first) h table nodes [] (suc t) 0) ≡ Some (noded h table nodes n (children n + t))
plain_run first n h table nodes t k e =
    let d : DraftOf = open_draft (behind first) h table nodes [] (suc t) 0 in
    after_first (node_words n) [] d (noded h table nodes n (children n + t))
    (next_is first n h table nodes t ∙ plain_read n d k e ∙ ap (λ (e : DraftOf). Some e) (with_node_is (behind first) h table nodes n t))

pub node_run : (first : Bool) (n : NodeOf) (h : Head) (table : List RowOf) (nodes : List NodeOf) (t : ℕ) → is_node n ≡ true → after (node_lines n) (open_draft (behind first) h table nodes [] (suc t) 0) ≡ Some (noded h table nodes n (children n + t))
node_run first (Splits a) h table nodes t k = plain_run first (Splits a) h table nodes t k refl
node_run first (Bounds x b) h table nodes t k = plain_run first (Bounds x b) h table nodes t k refl
node_run first (Cuts r) h table nodes t k = plain_run first (Cuts r) h table nodes t k refl
node_run first (Learns ls) h table nodes t k = plain_run first (Learns ls) h table nodes t k refl
node_run first (IsClause c) h table nodes t k = plain_run first (IsClause c) h table nodes t k refl
node_run first (IsUnit name) h table nodes t k = plain_run first (IsUnit name) h table nodes t k refl
node_run first (IsKnown i) h table nodes t k = plain_run first (IsKnown i) h table nodes t k refl
node_run first (Derives []) h table nodes t k = absurd (cc)
node_run first (Derives (s ∷ ss)) h table nodes t k =
    let p = both (is_number (length (s ∷ ss))) (are_steps 0 (s ∷ ss)) k in
    let n : NodeOf = Derives (s ∷ ss) in
    let d : DraftOf = open_draft (behind first) h table nodes [] (suc t) 0 in
    after_first (node_words n) (map step_words (s ∷ ss)) d (with_steps (length (s ∷ ss)) d) (next_is first n h table nodes t ∙ rows_read s ss d p.0)
    ∙ steps_run s ss h table nodes t [] p.1
    ∙ ap (λ (e : DraftOf). Some e) (with_node_is at.Steps h table nodes n t)

-- ---- a tree

tree_by : (ns : List NodeOf) (k : ℕ) (h : Head) (table : List RowOf) (nodes : List NodeOf) → are_trees k ns ≡ true → list_all is_node ns ≡ true → ((t : ℕ) → are_trees (suc t) ns ≡ true → after (flat_map node_lines ns) (open_draft at.Nodes h table nodes [] (suc t) 0) ≡ Some (head_draft at.Sections (with_open h table (nodes ++ ns)))) → after (flat_map node_lines ns) (closed k (open_draft at.Nodes h table nodes [] k 0)) ≡ Some (head_draft at.Sections (with_open h table (nodes ++ ns)))
tree_by [] zero h table nodes e g more = ap (λ (ms : List NodeOf). Some (head_draft at.Sections (with_open h table ms))) (sym (append-nil nodes))
tree_by (n ∷ ns) zero h table nodes e g more = absurd (cc)
tree_by ns (suc t) h table nodes e g more = more t e

pub tree_run : (ns : List NodeOf) (first : Bool) (t : ℕ) (h : Head) (table : List RowOf) (nodes : List NodeOf) → list_all is_node ns ≡ true → are_trees (suc t) ns ≡ true → after (flat_map node_lines ns) (open_draft (behind first) h table nodes [] (suc t) 0) ≡ Some (head_draft at.Sections (with_open h table (nodes ++ ns)))
tree_run [] first t h table nodes g e = absurd (cc)
tree_run (n ∷ ns) first t h table nodes g e =
    let p = both (is_node n) (list_all is_node ns) g in
    after_join (node_lines n) (flat_map node_lines ns) (open_draft (behind first) h table nodes [] (suc t) 0) (noded h table nodes n (children n + t)) (node_run first n h table nodes t p.0)
    ∙ tree_by ns (children n + t) h table (nodes ++ n ∷ []) e p.1 (λ k f. tree_run ns false k h table (nodes ++ n ∷ []) p.1 f)
    ∙ ap (λ (ms : List NodeOf). Some (head_draft at.Sections (with_open h table ms))) (append_assoc nodes (n ∷ []) ns)
