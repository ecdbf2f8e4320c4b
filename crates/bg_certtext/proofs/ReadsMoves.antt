-- One line more, at a place: what is read stays right.
use Rattle.std.proofs.Common.{◌≡◌, ⊎_elim, ℕ, zero, suc, ◌+◌, ◌-◌, true, not, ◌==◌, List, [], ◌∷◌, ◌++◌, codes, Some, refl, ap, sym, ◌∙◌, append_assoc, append-nil, arith}
use Rattle.bg_certtext.specs.declared.draft.Stage.{Stage}
use Rattle.bg_certtext.specs.declared.draft.Stage.TheVariants as at
use Rattle.bg_certtext.specs.Views.{RowOf, NodeOf}
use Rattle.bg_certtext.specs.Spellable.{is_number, is_node, is_section, are_trees, children}
use Rattle.bg_certtext.specs.Machine.{DraftOf, then_, count_in, node_in, closed, with_node, with_steps, on_node}
use Rattle.bg_certtext.proofs.ReadsOptions.{then_made, or_made, same_some}
use Rattle.bg_certtext.proofs.ReadsWords.{count_in_back}
use Rattle.bg_certtext.proofs.ReadsNodes.{node_back}
use Rattle.bg_certtext.proofs.ReadsStates.{Head, AtNodes, AtSteps, AtSections, Lines, Stays, Goes, GoodHead, GoodNodes, Leaves, open_draft, open_section, with_open, nodes_lines, counted}
use Rattle.bg_certtext.proofs.ReadsLines.{head_more, nodes_more, all_one}

-- ---- nodes

section_good : (h : Head) (table : List RowOf) (nodes : List NodeOf) → GoodNodes h table nodes 0 → is_section (open_section h table nodes) ≡ true
section_good h table nodes g =
    let whole : are_trees 1 nodes ≡ true = ap (are_trees 1) (sym (append-nil nodes)) ∙ g.trees [] in
    rw (g.rows.place.implementation, g.rows.place.place, g.rows.place.stated, g.rows.count, g.rows.rows, g.fine, whole) refl

pub sections_good : (h : Head) (table : List RowOf) (nodes : List NodeOf) → GoodNodes h table nodes 0 → GoodHead (with_open h table nodes)
sections_good h table nodes g =
    record { interp = g.rows.place.head.interp; names = g.rows.place.head.names; sections = all_one is_section h.sections (open_section h table nodes) g.rows.place.head.sections (section_good h table nodes g) }

closed_stays : (st : Stage) (h : Head) (table : List RowOf) (nodes : List NodeOf) (n : ℕ) → GoodNodes h table nodes n → Stays (nodes_lines h table nodes) (closed n (open_draft st h table nodes [] n 0))
closed_stays st h table nodes zero g = record { state = AtSections (with_open h table nodes); good = sections_good h table nodes g; is = refl; lines_are = sym (head_more h table nodes) }
closed_stays st h table nodes (suc t) g = record { state = AtNodes h table nodes t; good = g; is = refl; lines_are = refl }

leaves_more : (nodes : List NodeOf) (n : NodeOf) (t : ℕ) → Leaves nodes (suc t) → Leaves (nodes ++ n ∷ []) (children n + (suc t - 1))
leaves_more nodes n t h rest =
    let same : children n + t ≡ children n + (suc t - 1) = omega arith in
    ap (are_trees 1) (append_assoc nodes (n ∷ []) rest) ∙ h (n ∷ rest) ∙ ap (λ (k : ℕ). are_trees k rest) same

pub node_good : (h : Head) (table : List RowOf) (nodes : List NodeOf) (t : ℕ) (n : NodeOf) → GoodNodes h table nodes (suc t) → is_node n ≡ true → GoodNodes h table (nodes ++ n ∷ []) (children n + (suc t - 1))
node_good h table nodes t n g k = record { rows = g.rows; fine = all_one is_node nodes n g.fine k; trees = leaves_more nodes n t g.trees }

-- behind one more node
pub node_stays : (st : Stage) (h : Head) (table : List RowOf) (nodes : List NodeOf) (t : ℕ) (n : NodeOf) → GoodNodes h table nodes (suc t) → is_node n ≡ true → Stays (nodes_lines h table (nodes ++ n ∷ [])) (with_node n (open_draft st h table nodes [] (suc t) 0))
node_stays st h table nodes t n g k =
    closed_stays st h table (nodes ++ n ∷ []) (children n + (suc t - 1)) (node_good h table nodes t n g k)

pub along : (ls ms : Lines) (e : DraftOf) → ls ≡ ms → Stays ms e → Stays ls e
along ls ms e h k = record { state = k.state; good = k.good; is = k.is; lines_are = h ∙ k.lines_are }

pub became : (ls : Lines) (d e : DraftOf) → d ≡ e → Stays ls d → Stays ls e
became ls d e h k = record { state = k.state; good = k.good; is = sym h ∙ k.is; lines_are = k.lines_are }

rows_goes : (h : Head) (table : List RowOf) (nodes : List NodeOf) (t m : ℕ) (ws : List (List ℕ)) → GoodNodes h table nodes (suc t) → ws ≡ counted (codes "rows") m → is_number m ≡ true → not (m == 0) ≡ true → Goes (nodes_lines h table nodes) ws (open_draft at.Steps h table nodes [] (suc t) m)
rows_goes h table nodes t zero ws g e k some = absurd (cc)
rows_goes h table nodes t (suc m) ws g e k some =
    let same : 0 + suc m ≡ suc m = omega arith in
    record {
      state = AtSteps h table nodes t [] m;
      good = (g, record { fine = refl; count = ap is_number same ∙ k });
      is = refl;
      lines_are = ap (λ (us : List (List ℕ)). nodes_lines h table nodes ++ us ∷ []) (e ∙ ap (counted (codes "rows")) (sym same));
    }

pub on_node_goes : (st : Stage) (h : Head) (table : List RowOf) (nodes : List NodeOf) (t : ℕ) (ws : List (List ℕ)) (e : DraftOf) → GoodNodes h table nodes (suc t) → on_node ws (open_draft st h table nodes [] (suc t) 0) ≡ Some e → Goes (nodes_lines h table nodes) ws e
on_node_goes st h table nodes t ws e g k =
    let d : DraftOf = open_draft st h table nodes [] (suc t) 0 in
    ⊎_elim
    (λ p.
    let (m, f, i) = then_made (count_in (codes "rows") ws) (λ (m : ℕ). Some (with_steps m d)) e p in
    let q = count_in_back (codes "rows") ws m f in
    became (nodes_lines h table nodes ++ ws ∷ []) (with_steps m d) e (same_some (with_steps m d) e i) (rows_goes h table nodes t m ws g q.0 q.1 q.2))
    (λ p.
    let (n, f, i) = then_made (node_in ws) (λ (n : NodeOf). Some (with_node n d)) e p in
    let q = node_back ws n f in
    became (nodes_lines h table nodes ++ ws ∷ []) (with_node n d) e (same_some (with_node n d) e i)
    (along (nodes_lines h table nodes ++ ws ∷ []) (nodes_lines h table (nodes ++ n ∷ [])) (with_node n d)
    (ap (λ (ls : Lines). nodes_lines h table nodes ++ ls) q.0 ∙ sym (nodes_more h table nodes n)) (node_stays st h table nodes t n g q.1)))
    (or_made (then_ (count_in (codes "rows") ws) (λ m. Some (with_steps m d))) (then_ (node_in ws) (λ n. Some (with_node n d))) e k)
