-- The rows of a graph.
use Rattle.std.proofs.Common.{◌≡◌, ℕ, ◌<◌, List, [], length, get_or, take, slice_index, Contains, Vec, ◌≤◌, sym, ◌∙◌, ap, subst, arith}
use Rattle.std.specs.declared.alloc.Global.{Global}
use Rattle.std.proofs.lemmas.List.{get_or-map, get_or_default, length-map, take_all}
use Rattle.bg_graph.specs.Graphs.{Graph, IsEdge, IsGraph, targets, graph_of}

-- each row has only numbers below n
abbrev pub RowsBelow : ℕ → Graph → Type 0
RowsBelow n g = (f k : ℕ) → k < length (targets g f) → slice_index (targets g f) k < n

edges_below : (n : ℕ) (g : Graph) → RowsBelow n g → (f t : ℕ) → IsEdge g f t → t < n
edges_below n g h f t e =
    let P : ℕ → Type 0 = λ m. m < n in
    subst P (sym (get_or_default (targets g f) e.0 t 0 e.1) ∙ e.2) (h f e.0 e.1)

pub all_rows : (rows : List (Vec ℕ Global)) (i : ℕ) → length rows ≤ i → RowsBelow (length rows) (graph_of (take i rows)) → IsGraph (graph_of rows)
all_rows rows i end h f t e =
    let P : List (Vec ℕ Global) → Type 0 = λ rs. RowsBelow (length rows) (graph_of rs) in
    let all = subst P (take_all i rows end) h in
    let low = edges_below (length rows) (graph_of rows) all f t e in
    let same = length-map rows (λ row. row.items) in omega arith

pub row_fits : (rows : List (Vec ℕ Global)) (i : ℕ) (v : Vec ℕ Global) (row : List ℕ) → i < length rows → v ≡ get_or rows i v → row ≡ v.items → IsGraph (graph_of rows) → (k : ℕ) → k < length row → slice_index row k < length rows
row_fits rows i v row h is same graph k l =
    let at : targets (graph_of rows) i ≡ row = get_or-map (λ r. r.items) rows i v [] h ∙ (ap (λ r. r.items) (sym is) ∙ sym same) in
    let P : List ℕ → Type 0 = λ r. Contains r (slice_index row k) in
    let low = graph i (slice_index row k) (subst P (sym at) (k, l, get_or_default row k (slice_index row k) 0 l)) in
    let long = length-map rows (λ r. r.items) in omega arith
