-- What a section as it is spelled says.
use Rattle.std.proofs.Common.{◌≡◌, ℕ, ◌<◌, Bool, true, false, List, [], ◌∷◌, length, map, Result, Ok, refl, ap, ◌∙◌, eq-eqb}
use Rattle.std.specs.Prelude.{◌||◌}
use Rattle.bg_base.specs.declared.exact.OutOfRange.{OutOfRange}
use Rattle.bg_text.specs.Trees.{Id}
use Rattle.bg_meant.specs.Once.{AreOnce}
use Rattle.bg_rows.specs.declared.entry.Entry.{Entry}
use Rattle.bg_rows.specs.Rows as rows
use Rattle.bg_formula.specs.declared.atom.Linear.{Linear}
use Rattle.bg_formula.specs.Atoms.{AtomOf, IsRow, view_linear, row_and_denial}
use Rattle.bg_formula.specs.Formulas.{Formula}
use Rattle.bg_cert.specs.declared.cert.Node.{Node}
use Rattle.bg_cert.specs.declared.cert.Node.TheVariants.{Split, Bound, Cut, Lemma, Clause, Unit, Known, Rows}
use Rattle.bg_cert.specs.Certs as cert
use Rattle.bg_cert.specs.Walks.{no_instance}
use Rattle.bg_accept.specs.Sections.{row_in, table_in, node_in, accepts_table, accepts_section}
use Rattle.bg_certify.specs.Names.{text_in}
use Rattle.bg_certify.specs.Spelled.{spelled_term, spelled_row, spelled_node, spelled}
use Rattle.bg_certify.specs.Found.{Shown}
use Rattle.bg_certify.proofs.Retained.{numbered}

-- ---- rows

entries_back : (es : List Entry) → map (λ t. rows.entry t.term t.by) (map spelled_term es) ≡ es
entries_back [] = refl
entries_back (e ∷ es) = ap (λ (l : List Entry). e ∷ l) (entries_back es)

row_back : (a : Linear) → row_in (spelled_row a) ≡ rows.row_of a.row
row_back a =
    ap (λ (es : List Entry). let r : rows.RowOf = record { entries = es; bound = a.row.bound } in r) (entries_back a.row.entries.items)

abbrev in_front : Result AtomOf OutOfRange → Result (List AtomOf) OutOfRange → Result (List AtomOf) OutOfRange
in_front x xs = rows.and_then x (λ a. rows.and_then xs (λ as'. Ok (a ∷ as')))

pub table_back : (as' : List Linear) → table_in (map spelled_row as') ≡ Ok (map view_linear as')
table_back [] = refl
table_back (a ∷ as') =
    ap (λ (r : rows.RowOf). in_front (row_and_denial r) (table_in (map spelled_row as'))) (row_back a)
    ∙ (ap (λ (d : Result rows.RowOf OutOfRange). in_front (rows.and_then d (λ e. Ok (IsRow (rows.row_of a.row) e))) (table_in (map spelled_row as'))) a.denies
    ∙ ap (λ (t : Result (List AtomOf) OutOfRange). in_front (Ok (view_linear a)) t) (table_back as'))

-- ---- nodes

node_back : (names : List Id) → AreOnce (map text_in names) → (n : Node) → ((c : ℕ) → cert.names_unit c (cert.node_of n) ≡ true → c < length names) →
    node_in names (spelled_node names n) ≡ cert.node_of n
node_back names o (Split a) h = refl
node_back names o (Bound x k) h = refl
node_back names o (Cut r) h = refl
node_back names o (Lemma ls) h = refl
node_back names o (Clause c) h = refl
node_back names o (Unit c) h = ap (λ (b : ℕ). cert.IsUnit b) (numbered names c o (h c (eq-eqb c c refl)))
node_back names o (Known i) h = refl
node_back names o (Rows steps) h = refl

or_first : (a b : Bool) → a ≡ true → a || b ≡ true
or_first a b e = ap (λ (x : Bool). x || b) e

or_second : (a b : Bool) → b ≡ true → a || b ≡ true
or_second true b e = refl
or_second false b e = e

pub nodes_back : (names : List Id) → AreOnce (map text_in names) → (ns : List Node) → ((c : ℕ) → cert.uses (map cert.node_of ns) c ≡ true → c < length names) →
    map (node_in names) (map (spelled_node names) ns) ≡ map cert.node_of ns
nodes_back names o [] h = refl
nodes_back names o (n ∷ ns) h =
    ap (λ (m : cert.NodeOf). m ∷ map (node_in names) (map (spelled_node names) ns)) (node_back names o n (λ c e. h c (or_first (cert.names_unit c (cert.node_of n)) (cert.uses (map cert.node_of ns) c) e)))
    ∙ ap (λ (ms : List cert.NodeOf). cert.node_of n ∷ ms) (nodes_back names o ns (λ c e. h c (or_second (cert.names_unit c (cert.node_of n)) (cert.uses (map cert.node_of ns) c) e)))

-- ---- sections

-- a section is accepted where the certificate is that it spells
pub section_back : (f : Formula) (set : ℕ → Bool) (names : List Id) → AreOnce (map text_in names) → (k i : ℕ) (x : Shown) →
    ((b : ℕ) → cert.uses (cert.cert_of x.cert).nodes b ≡ true → b < length names) →
    accepts_section f set names (spelled names k i x) ≡ cert.is_accepted f set no_instance (cert.cert_of x.cert)
section_back f set names o k i x h =
    ap (λ (ns : List cert.NodeOf). accepts_table f set ns (table_in (map spelled_row x.cert.table.items))) (nodes_back names o x.cert.nodes.items h)
    ∙ ap (λ (t : Result (List AtomOf) OutOfRange). accepts_table f set (cert.cert_of x.cert).nodes t) (table_back x.cert.table.items)
