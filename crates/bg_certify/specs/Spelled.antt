-- Certificates as their text has them.
use Rattle.std.specs.Prelude.{ℕ, suc, List, [], ◌∷◌, ◌++◌, map, Option, Some, None}
use Rattle.bg_text.specs.Trees.{Id}
use Rattle.bg_rows.specs.declared.entry.Entry.{Entry}
use Rattle.bg_formula.specs.declared.atom.Linear.{Linear}
use Rattle.bg_cert.specs.declared.cert.Node.{Node}
use Rattle.bg_cert.specs.declared.cert.Node.TheVariants.{Split, Bound, Cut, Lemma, Clause, Unit, Known, Rows}
use Rattle.bg_term_table.specs.declared.line.Line.{Line}
use Rattle.bg_term_table.specs.declared.line.Line.TheVariants as kind
use Rattle.bg_certtext.specs.declared.text.Stated.{Stated}
use Rattle.bg_certtext.specs.declared.text.Stated.TheVariants as said
use Rattle.bg_certtext.specs.declared.text.Term.{Term}
use Rattle.bg_certtext.specs.Views.{RowOf, NodeOf, Splits, Bounds, Cuts, Learns, IsClause, IsUnit, IsKnown, Derives, SectionOf}
use Rattle.bg_certify.specs.Names.{name_at}
use Rattle.bg_certify.specs.Found.{Shown}

abbrev pub spelled_term : Entry → Term
spelled_term e = record { term = e.variable; by = e.by }

-- a row without its denial
abbrev pub spelled_row : Linear → RowOf
spelled_row a = record { bound = a.row.bound; terms = map spelled_term a.row.entries.items }

-- a node; a unit has the name of its candidate
abbrev pub spelled_node : List Id → Node → NodeOf
spelled_node names (Split a) = Splits a
spelled_node names (Bound x k) = Bounds x k
spelled_node names (Cut r) = Cuts r
spelled_node names (Lemma ls) = Learns ls.items
spelled_node names (Clause c) = IsClause c
spelled_node names (Unit c) = IsUnit (name_at names c)
spelled_node names (Known i) = IsKnown i
spelled_node names (Rows steps) = Derives steps.items

-- a line as the text has it
abbrev pub spelled_line : Line → Stated
spelled_line (kind.Pick m a) = said.Pick m a
spelled_line (kind.Names m o) = said.Names m o
spelled_line (kind.Congruent a b) = said.Congruent a b
spelled_line (kind.AtIndex u s) = said.AtIndex u s
spelled_line (kind.Elsewhere u s r) = said.Elsewhere u s r
spelled_line (kind.Apart s r) = said.Apart s r

-- the section of place i of implementation k
abbrev pub spelled : List Id → ℕ → ℕ → Shown → SectionOf
spelled names k i x =
    record {
      implementation = k;
      place = i;
      stated = map spelled_line x.lines;
      table = map spelled_row x.cert.table.items;
      nodes = map (spelled_node names) x.cert.nodes.items;
    }

abbrev pub with_section : List Id → ℕ → ℕ → Option Shown → List SectionOf → List SectionOf
with_section names k i None ss = ss
with_section names k i (Some x) ss = spelled names k i x ∷ ss

-- the sections of implementation k from place i on, where these are the certificates
abbrev pub row : List Id → ℕ → ℕ → List (Option Shown) → List SectionOf
row names k i [] = []
row names k i (c ∷ cs) = with_section names k i c (row names k (suc i) cs)

-- those of the implementations from number k on
abbrev pub rows : List Id → ℕ → List (List (Option Shown)) → List SectionOf
rows names k [] = []
rows names k (cs ∷ css) = row names k 0 cs ++ rows names (suc k) css
