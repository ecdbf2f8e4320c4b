-- Certificates of texts, without where they lie in memory.
use Rattle.std.specs.Prelude.{ℕ, Bool, List, [], ◌∷◌, map, ℤ, Option, option_map}
use Rattle.bg_rows.specs.declared.step.Step.{Step}
use Rattle.bg_cert.specs.declared.cert.Named.{Named}
use Rattle.bg_certtext.specs.declared.text.Term.{Term}
use Rattle.bg_certtext.specs.declared.text.TextRow.{TextRow}
use Rattle.bg_certtext.specs.declared.text.TextNode.{TextNode}
use Rattle.bg_certtext.specs.declared.text.TextNode.TheVariants.{Split, Bound, Cut, Lemma, Clause, Unit, Known, Rows}
use Rattle.bg_certtext.specs.declared.text.Stated.{Stated}
use Rattle.bg_certtext.specs.declared.text.Section.{Section}
use Rattle.bg_certtext.specs.declared.text.Part.{Part}
use Rattle.bg_certtext.specs.declared.text.Part.TheVariants as part
use Rattle.bg_certtext.specs.declared.text.Value.{Value, Row_of-Slot, end_of-Slot, more_of-Slot}
use Rattle.bg_certtext.specs.declared.text.Value.TheVariants as value
use Rattle.bg_certtext.specs.declared.text.Slot as kept
use Rattle.bg_certtext.specs.declared.text.Given.{Given}
use Rattle.bg_certtext.specs.declared.text.Entry.{Entry}
use Rattle.bg_certtext.specs.declared.text.Function.{Function}
use Rattle.bg_certtext.specs.declared.text.Interp.{Interp}
use Rattle.bg_certtext.specs.declared.text.CertText.{CertText}

-- a row: the sum of the terms is at most the bound
pub record RowOf : Type 0 where
  pub bound : ℤ
  pub terms : List Term

-- a node of a case tree; a unit has the name of its candidate
pub data NodeOf : Type 0 where
  Splits : ℕ → NodeOf
  Bounds : ℕ → ℤ → NodeOf
  Cuts : ℕ → NodeOf
  Learns : List Named → NodeOf
  IsClause : ℕ → NodeOf
  IsUnit : List ℕ → NodeOf
  IsKnown : ℕ → NodeOf
  Derives : List Step → NodeOf

-- the certificate of one place
pub record SectionOf : Type 0 where
  pub implementation : ℕ
  pub place : ℕ
  pub stated : List Stated
  pub table : List RowOf
  pub nodes : List NodeOf

-- a part of a map's index; an element has the name of its type and its number
pub data PartOf : Type 0 where
  AtNumber : ℤ → PartOf
  AtElement : (ty : List ℕ) (number : ℤ) → PartOf

-- a value; an element has the name of its type and its number. A map is its slots, written in front of its default: `Slot k v m` is m with
-- v at the index k, and `Default d` is d everywhere
pub data ValueOf : Type 0 where
  Truth : Bool → ValueOf
  Number : ℤ → ValueOf
  Element : (ty : List ℕ) (number : ℤ) → ValueOf
  Default : ValueOf → ValueOf
  Slot : (index : List PartOf) (value rest : ValueOf) → ValueOf

-- a constant's value in the interpretation
pub record GivenOf : Type 0 where
  pub name : List ℕ
  pub value : ValueOf

-- a function's value for these arguments
pub record EntryOf : Type 0 where
  pub key : List ValueOf
  pub value : ValueOf

-- a function's table in the interpretation
pub record FunctionOf : Type 0 where
  pub name : List ℕ
  pub entries : List EntryOf
  pub default : ValueOf

-- the values of constants, and the tables of functions
pub record InterpOf : Type 0 where
  pub constants : List GivenOf
  pub functions : List FunctionOf

-- the certificate of a program
pub record CertOf : Type 0 where
  pub interp : Option InterpOf
  pub retained : List (List ℕ)
  pub sections : List SectionOf

abbrev pub row_of : TextRow → RowOf
row_of r = record { bound = r.bound; terms = r.terms.items }

abbrev pub node_of : TextNode → NodeOf
node_of (Split a) = Splits a
node_of (Bound x k) = Bounds x k
node_of (Cut r) = Cuts r
node_of (Lemma ls) = Learns ls.items
node_of (Clause c) = IsClause c
node_of (Unit name) = IsUnit name.now
node_of (Known i) = IsKnown i
node_of (Rows steps) = Derives steps.items

abbrev pub section_of : Section → SectionOf
section_of s =
    record {
      implementation = s.implementation;
      place = s.place;
      stated = s.stated.items;
      table = map row_of s.table.items;
      nodes = map node_of s.nodes.items;
    }

abbrev pub part_of : Part → PartOf
part_of (part.Number k) = AtNumber k
part_of (part.Element t k) = AtElement t.now k

abbrev mutual
  pub value_of : Value → ValueOf
  value_of (value.Truth b) = Truth b
  value_of (value.Number k) = Number k
  value_of (value.Element t k) = Element t.now k
  value_of (value.Map' shape ss p d) = slotted ss (Default (value_of d))

  -- slots in front of a map
  pub slotted : {n : _} → Row_of-Slot n → ValueOf → ValueOf
  slotted end_of-Slot m = m
  slotted (more_of-Slot k v ss) m = Slot (map part_of k.items) (value_of v) (slotted ss m)

-- a slot as an index and a value
abbrev pub Item : Type 0
Item = List PartOf × ValueOf

abbrev pub slot_of : kept.Slot → Item
slot_of s = (map part_of s.index.items, value_of s.value)

-- the map with these slots and this default
abbrev pub with_slots : List Item → ValueOf → ValueOf
with_slots [] m = m
with_slots (e ∷ es) m = Slot e.0 e.1 (with_slots es m)

abbrev pub given_of : Given → GivenOf
given_of g = record { name = g.name.now; value = value_of g.value }

abbrev pub entry_of : Entry → EntryOf
entry_of e = record { key = map value_of e.key.items; value = value_of e.value }

abbrev pub function_of : Function → FunctionOf
function_of f = record { name = f.name.now; entries = map entry_of f.entries.items; default = value_of f.default }

abbrev pub interp_of : Interp → InterpOf
interp_of i = record { constants = map given_of i.constants.items; functions = map function_of i.functions.items }

abbrev pub cert_of : CertText → CertOf
cert_of c =
    record {
      interp = option_map interp_of c.interp;
      retained = map (λ name. name.now) c.retained.items;
      sections = map section_of c.sections.items;
    }
