-- A section of a certificate's text as a certificate of its place.
use Rattle.std.specs.Prelude.{ℕ, Bool, true, false, ◌&&◌, ◌||◌, ◌==◌, nat_lt, if◌then◌else◌, List, [], ◌∷◌, map, Option, Some, None, Result, Ok, Err}
use Rattle.bg_base.specs.declared.exact.OutOfRange.{OutOfRange}
use Rattle.bg_text.specs.Trees.{Id}
use Rattle.bg_rows.specs.Rows as rows
use Rattle.bg_formula.specs.Atoms.{AtomOf, row_and_denial}
use Rattle.bg_formula.specs.Formulas.{Formula}
use Rattle.bg_cert.specs.Certs as cert
use Rattle.bg_cert.specs.Walks.{no_instance}
use Rattle.bg_certtext.specs.Views.{RowOf, NodeOf, Splits, Bounds, Cuts, Learns, IsClause, IsUnit, IsKnown, Derives, SectionOf}
use Rattle.bg_accept.specs.Names.{number_in}

abbrev pub row_in : RowOf → rows.RowOf
row_in r = record { entries = map (λ t. rows.entry t.term t.by) r.terms; bound = r.bound }

-- the rows of a table with their denials, or the first operation past 128 bits of a denial
abbrev pub table_in : List RowOf → Result (List AtomOf) OutOfRange
table_in [] = Ok []
table_in (r ∷ rs) = rows.and_then (row_and_denial (row_in r)) (λ a. rows.and_then (table_in rs) (λ as'. Ok (a ∷ as')))

-- a unit is that of the candidate of its name
abbrev pub node_in : List Id → NodeOf → cert.NodeOf
node_in names (Splits a) = cert.Splits a
node_in names (Bounds x k) = cert.Bounds x k
node_in names (Cuts r) = cert.Cuts r
node_in names (Learns ls) = cert.Learns ls
node_in names (IsClause c) = cert.IsClause c
node_in names (IsUnit name) = cert.IsUnit (number_in names name)
node_in names (IsKnown i) = cert.IsKnown i
node_in names (Derives steps) = cert.Derives steps

-- whether the section is an accepted certificate of these clauses, where the candidates of the set are units
abbrev pub accepts_table : Formula → (ℕ → Bool) → List cert.NodeOf → Result (List AtomOf) OutOfRange → Bool
accepts_table f set nodes (Err o) = false
accepts_table f set nodes (Ok table) = cert.is_accepted f set no_instance (record { table = table; nodes = nodes })

abbrev pub accepts_section : Formula → (ℕ → Bool) → List Id → SectionOf → Bool
accepts_section f set names s = accepts_table f set (map (node_in names) s.nodes) (table_in s.table)

-- whether the section is that of place i of implementation k
abbrev pub is_at : ℕ → ℕ → SectionOf → Bool
is_at k i s = s.implementation == k && s.place == i

-- the first section of place i of implementation k
abbrev pub section_at : ℕ → ℕ → List SectionOf → Option SectionOf
section_at k i [] = None
section_at k i (s ∷ ss) = if is_at k i s then Some s else section_at k i ss

-- whether a section comes behind another one's numbers: a later place of the same implementation, or one of a later implementation
abbrev pub is_behind : Option SectionOf → SectionOf → Bool
is_behind None s = true
is_behind (Some r) s = nat_lt r.implementation s.implementation || (r.implementation == s.implementation && nat_lt r.place s.place)

-- the first section that is of no required place, or not behind the one before it
abbrev pub extra_behind : (ℕ → ℕ → Bool) → Option SectionOf → List SectionOf → Option SectionOf
extra_behind required before [] = None
extra_behind required before (s ∷ ss) =
    if is_behind before s && required s.implementation s.place then extra_behind required (Some s) ss else Some s
