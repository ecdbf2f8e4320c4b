-- The text of a certificate, as lines of words.
use Rattle.std.specs.Prelude.{ℕ, Bool, true, false, List, [], ◌∷◌, ◌++◌, map, flat_map, length, codes, ℤ, Option, Some, None}
use Rattle.std.specs.Fmt.{decimal, signed_decimal}
use Rattle.bg_rows.specs.declared.step.Step.{Step}
use Rattle.bg_rows.specs.declared.step.Step.TheVariants.{Path, Sum, Tight}
use Rattle.bg_cert.specs.declared.cert.Named.{Named}
use Rattle.bg_cert.specs.declared.cert.Named.TheVariants.{OfAtom, OfRow}
use Rattle.bg_certtext.specs.declared.text.Term.{Term}
use Rattle.bg_certtext.specs.declared.text.Stated.{Stated}
use Rattle.bg_certtext.specs.declared.text.Stated.TheVariants as said
use Rattle.bg_certtext.specs.Views.{PartOf, AtNumber, AtElement, ValueOf, Truth, Number, Element, Default, Slot}
use Rattle.bg_certtext.specs.Views.{RowOf, NodeOf, Splits, Bounds, Cuts, Learns, IsClause, IsUnit, IsKnown, Derives, SectionOf, GivenOf, EntryOf, FunctionOf, InterpOf, CertOf}
use Rattle.bg_certtext.specs.Lines.{line, commas}
use Rattle.bg_certtext.specs.Words.{words_of}

-- a sign in front of a literal
abbrev pub sign_text : Bool → List ℕ
sign_text true = codes "+"
sign_text false = codes "-"

-- a literal of a lemma; a row of the table has a hash in front of its number
abbrev pub literal_word : Named → List ℕ
literal_word (OfAtom a s) = sign_text s ++ decimal a
literal_word (OfRow r s) = sign_text s ++ codes "#" ++ decimal r

-- a node's own line
abbrev pub node_words : NodeOf → List (List ℕ)
node_words (Splits a) = codes "split" ∷ decimal a ∷ []
node_words (Bounds x k) = codes "bound" ∷ decimal x ∷ signed_decimal k ∷ []
node_words (Cuts r) = codes "cut" ∷ decimal r ∷ []
node_words (Learns ls) = codes "lemma" ∷ map literal_word ls
node_words (IsClause c) = codes "clause" ∷ decimal c ∷ []
node_words (IsUnit name) = codes "unit" ∷ name ∷ []
node_words (IsKnown i) = codes "known" ∷ decimal i ∷ []
node_words (Derives steps) = codes "rows" ∷ decimal (length steps) ∷ []

abbrev pub step_words : Step → List (List ℕ)
step_words (Path j) = codes "path" ∷ decimal j ∷ []
step_words (Sum r p s q) = codes "sum" ∷ decimal r ∷ signed_decimal p ∷ decimal s ∷ signed_decimal q ∷ []
step_words (Tight r) = codes "tight" ∷ decimal r ∷ []

-- the steps that stand below a node's line
abbrev pub steps_of : NodeOf → List Step
steps_of (Derives steps) = steps
steps_of _ = []

abbrev pub node_lines : NodeOf → List (List (List ℕ))
node_lines n = node_words n ∷ map step_words (steps_of n)

abbrev pub term_words : Term → List (List ℕ)
term_words t = decimal t.term ∷ signed_decimal t.by ∷ []

abbrev pub row_words : RowOf → List (List ℕ)
row_words r = codes "row" ∷ signed_decimal r.bound ∷ flat_map term_words r.terms

-- a table's lines, where there are rows
abbrev pub table_lines : List RowOf → List (List (List ℕ))
table_lines [] = []
table_lines (r ∷ rs) = (codes "table" ∷ decimal (length (r ∷ rs)) ∷ []) ∷ map row_words (r ∷ rs)

-- a line of terms and instances
abbrev pub stated_words : Stated → List (List ℕ)
stated_words (said.Pick m a) = codes "pick" ∷ decimal m ∷ decimal a ∷ []
stated_words (said.Names m n) = codes "names" ∷ decimal m ∷ decimal n ∷ []
stated_words (said.Congruent a b) = codes "inst" ∷ codes "c" ∷ decimal a ∷ decimal b ∷ []
stated_words (said.AtIndex u a) = codes "inst" ∷ codes "s" ∷ decimal u ∷ decimal a ∷ []
stated_words (said.Elsewhere u a b) = codes "inst" ∷ codes "d" ∷ decimal u ∷ decimal a ∷ decimal b ∷ []
stated_words (said.Apart a b) = codes "inst" ∷ codes "x" ∷ decimal a ∷ decimal b ∷ []
stated_words (said.Unequal a b) = codes "apart" ∷ decimal a ∷ decimal b ∷ []

abbrev pub place_words : ℕ → ℕ → List (List ℕ)
place_words implementation place = codes "place" ∷ decimal implementation ∷ decimal place ∷ []

abbrev pub section_lines : SectionOf → List (List (List ℕ))
section_lines s =
    place_words s.implementation s.place ∷ (map stated_words s.stated ++ (table_lines s.table ++ flat_map node_lines s.nodes))

abbrev pub version_words : List (List ℕ)
version_words = codes "bg-cert" ∷ codes "1" ∷ []

-- an element: its type's name and its number
abbrev pub element_word : List ℕ → ℤ → List ℕ
element_word t k = t ++ codes "!" ++ signed_decimal k

-- an index of a map
abbrev pub part_word : PartOf → List ℕ
part_word (AtNumber k) = signed_decimal k
part_word (AtElement t k) = element_word t k

abbrev pub index_word : List PartOf → List ℕ
index_word ps = commas (map part_word ps)

-- a row of a table: a key, a value, and what stands behind them; and the default of all others, with the bracket that closes
abbrev pub row_text : (key value rest : List ℕ) → List ℕ
row_text key value rest = key ++ (codes " := " ++ (value ++ (codes ", " ++ rest)))

abbrev pub default_text : List ℕ → List ℕ
default_text value = codes "else " ++ (value ++ codes "]")

-- a value; and of a map what stands behind its bracket
abbrev mutual
  pub value_text : ValueOf → List ℕ
  value_text (Truth true) = codes "true"
  value_text (Truth false) = codes "false"
  value_text (Number k) = signed_decimal k
  value_text (Element t k) = element_word t k
  value_text (Default d) = codes "[" ++ default_text (value_text d)
  value_text (Slot k v m) = codes "[" ++ row_text (index_word k) (value_text v) (inside_text m)

  pub inside_text : ValueOf → List ℕ
  inside_text (Default d) = default_text (value_text d)
  inside_text (Slot k v m) = row_text (index_word k) (value_text v) (inside_text m)
  inside_text v = []

abbrev pub given_words : GivenOf → List (List ℕ)
given_words g = codes "const" ∷ g.name ∷ words_of (value_text g.value)

-- the arguments of an entry
abbrev pub key_text : List ValueOf → List ℕ
key_text vs = commas (map value_text vs)

-- a function's table: its entries and its default
abbrev pub entries_text : List EntryOf → ValueOf → List ℕ
entries_text [] d = default_text (value_text d)
entries_text (e ∷ es) d = row_text (key_text e.key) (value_text e.value) (entries_text es d)

abbrev pub table_text : List EntryOf → ValueOf → List ℕ
table_text es d = codes "[" ++ entries_text es d

-- a function's line: its name and its table
abbrev pub function_words : FunctionOf → List (List ℕ)
function_words f = codes "function" ∷ f.name ∷ words_of (table_text f.entries f.default)

-- an interpretation's lines, or the one that says there is none
abbrev pub interp_lines : Option InterpOf → List (List (List ℕ))
interp_lines None = (codes "no" ∷ codes "interp" ∷ []) ∷ []
interp_lines (Some i) = (codes "interp" ∷ []) ∷ (map given_words i.constants ++ map function_words i.functions)

abbrev pub retain_words : List ℕ → List (List ℕ)
retain_words name = codes "retain" ∷ name ∷ []

abbrev pub end_words : List (List ℕ)
end_words = codes "end" ∷ []

-- the lines of a certificate
abbrev pub lines_of : CertOf → List (List (List ℕ))
lines_of c =
    version_words ∷ (interp_lines c.interp ++ map retain_words c.retained ++ flat_map section_lines c.sections ++ end_words ∷ [])

-- the text of a certificate
abbrev pub text_of : CertOf → List ℕ
text_of c = flat_map line (lines_of c)
