-- Which certificates have a text.
use Rattle.std.specs.Prelude.{◌≡◌, ℕ, zero, suc, ◌+◌, ◌^◌, Bool, true, false, not, ◌&&◌, if◌then◌else◌, ◌==◌, nat_lt, nat_le, List, [], ◌∷◌, length, ℤ, pos, negsuc, neg_ℤ, int_le, int_lt, Option, Some, None}
use Rattle.std.specs.Ordering.{int_eq}
use Rattle.std.specs.List.{list_all}
use Rattle.std.specs.Str.{bytes_eq}
use Rattle.bg_base.specs.Exact.{fits}
use Rattle.bg_rows.specs.declared.step.Step.{Step}
use Rattle.bg_rows.specs.declared.step.Step.TheVariants.{Path, Sum, Tight}
use Rattle.bg_cert.specs.declared.cert.Named.{Named}
use Rattle.bg_cert.specs.declared.cert.Named.TheVariants.{OfAtom, OfRow}
use Rattle.bg_certtext.specs.declared.text.Term.{Term}
use Rattle.bg_certtext.specs.declared.text.Stated.{Stated}
use Rattle.bg_certtext.specs.declared.text.Stated.TheVariants as said
use Rattle.bg_certtext.specs.Views.{PartOf, AtNumber, AtElement, ValueOf, Truth, Number, Element, Default, Slot, Item}
use Rattle.bg_certtext.specs.Views.{RowOf, NodeOf, Splits, Bounds, Cuts, Learns, IsClause, IsUnit, IsKnown, Derives, SectionOf, GivenOf, EntryOf, FunctionOf, InterpOf, CertOf}

-- a byte that stands in a word: no space, no newline
unfoldable pub is_inside_word : ℕ → Bool
is_inside_word b = not (b == 32) && not (b == 10)

abbrev pub is_empty : {A : Type 0} → List A → Bool
is_empty [] = true
is_empty (x ∷ xs) = false

-- a name is any word
abbrev pub is_name : List ℕ → Bool
is_name word = not (is_empty word) && list_all is_inside_word word

-- a byte that stands in the name of a value's type: no exclamation mark, no comma, no bracket
unfoldable pub is_inside_type : ℕ → Bool
is_inside_type b = not (b == 33) && (not (b == 44) && (not (b == 91) && not (b == 93)))

abbrev pub is_type : List ℕ → Bool
is_type word = is_name word && list_all is_inside_type word

-- a number that has a numeral: one of at most 2^127 - 1
abbrev pub is_number : ℕ → Bool
is_number n = nat_lt n (2 ^ 127)

abbrev pub is_zero : ℤ → Bool
is_zero (pos n) = n == 0
is_zero (negsuc n) = false

-- a factor isn't 0, and its negation has a numeral too; with these, and a bound that has one, so has the row's denial
abbrev pub is_factor : ℤ → Bool
is_factor k = not (is_zero k) && (fits k && fits (neg_ℤ k))

-- the terms rise, the first of them not below a number
abbrev pub are_terms : ℕ → List Term → Bool
are_terms low [] = true
are_terms low (t ∷ ts) = nat_le low t.term && (is_number t.term && (is_factor t.by && are_terms (t.term + 1) ts))

abbrev pub is_row : RowOf → Bool
is_row r = fits r.bound && are_terms 0 r.terms

abbrev pub is_literal : Named → Bool
is_literal (OfAtom a s) = is_number a
is_literal (OfRow r s) = is_number r

-- the step of a row's number names earlier rows alone, and no multiple is below 0
abbrev pub is_step : ℕ → Step → Bool
is_step n (Path j) = is_number j
is_step n (Sum r p s q) = nat_lt r n && (is_number r && (nat_lt s n && (is_number s && (fits p && (int_le (pos 0) p && (fits q && int_le (pos 0) q))))))
is_step n (Tight r) = nat_lt r n && is_number r

abbrev pub are_steps : ℕ → List Step → Bool
are_steps n [] = true
are_steps n (s ∷ ss) = is_step n s && are_steps (n + 1) ss

abbrev pub is_node : NodeOf → Bool
is_node (Splits a) = is_number a
is_node (Bounds x k) = is_number x && fits k
is_node (Cuts r) = is_number r
is_node (Learns ls) = list_all is_literal ls
is_node (IsClause c) = is_number c
is_node (IsUnit name) = is_name name
is_node (IsKnown i) = is_number i
is_node (Derives steps) = not (is_empty steps) && (is_number (length steps) && are_steps 0 steps)

abbrev pub children : NodeOf → ℕ
children (Splits a) = 2
children (Bounds x k) = 2
children (Cuts r) = 2
children (Learns ls) = 2
children _ = 0

-- the nodes, each before its children, are n whole trees
abbrev pub are_trees : ℕ → List NodeOf → Bool
are_trees zero [] = true
are_trees zero (x ∷ xs) = false
are_trees (suc n) [] = false
are_trees (suc n) (x ∷ xs) = are_trees (children x + n) xs

abbrev pub is_stated : Stated → Bool
is_stated (said.Pick m a) = is_number m && is_number a
is_stated (said.Names m n) = is_number m && is_number n
is_stated (said.Congruent a b) = is_number a && is_number b
is_stated (said.AtIndex u a) = is_number u && is_number a
is_stated (said.Elsewhere u a b) = is_number u && (is_number a && is_number b)
is_stated (said.Apart a b) = is_number a && is_number b
is_stated (said.Unequal a b) = is_number a && is_number b

-- the place's nodes are one whole tree, and its numbers and names have a text
abbrev pub is_section : SectionOf → Bool
is_section s =
    is_number s.implementation && (is_number s.place && (list_all is_stated s.stated && (is_number (length s.table) && (list_all is_row s.table && (list_all is_node s.nodes && are_trees 1 s.nodes)))))

-- the order of values of one kind: numbers by size, `false` before `true`, elements of one type by their numbers, maps by their slots, then by
-- their defaults
abbrev pub part_lt : PartOf → PartOf → Bool
part_lt (AtNumber x) (AtNumber y) = int_lt x y
part_lt (AtNumber x) (AtElement u y) = false
part_lt (AtElement t x) (AtNumber y) = false
part_lt (AtElement t x) (AtElement u y) = bytes_eq t u && int_lt x y

abbrev pub part_eq : PartOf → PartOf → Bool
part_eq (AtNumber x) (AtNumber y) = int_eq x y
part_eq (AtNumber x) (AtElement u y) = false
part_eq (AtElement t x) (AtNumber y) = false
part_eq (AtElement t x) (AtElement u y) = bytes_eq t u && int_eq x y

abbrev pub index_lt : List PartOf → List PartOf → Bool
index_lt [] [] = false
index_lt [] (q ∷ qs) = true
index_lt (p ∷ ps) [] = false
index_lt (p ∷ ps) (q ∷ qs) = if part_lt p q then true else part_eq p q && index_lt ps qs

abbrev pub index_eq : List PartOf → List PartOf → Bool
index_eq [] [] = true
index_eq [] (q ∷ qs) = false
index_eq (p ∷ ps) [] = false
index_eq (p ∷ ps) (q ∷ qs) = part_eq p q && index_eq ps qs

abbrev pub value_eq : ValueOf → ValueOf → Bool
value_eq (Truth true) (Truth b) = b
value_eq (Truth false) (Truth b) = not b
value_eq (Number x) (Number y) = int_eq x y
value_eq (Element t x) (Element u y) = bytes_eq t u && int_eq x y
value_eq (Default c) (Default d) = value_eq c d
value_eq (Slot k v m) (Slot l w n) = index_eq k l && (value_eq v w && value_eq m n)
value_eq _ _ = false

abbrev pub value_lt : ValueOf → ValueOf → Bool
value_lt (Truth a) (Truth b) = not a && b
value_lt (Number x) (Number y) = int_lt x y
value_lt (Element t x) (Element u y) = bytes_eq t u && int_lt x y
value_lt (Default c) (Default d) = value_lt c d
value_lt (Default c) (Slot l w n) = true
value_lt (Slot k v m) (Slot l w n) =
    if index_lt k l then true else index_eq k l && (if value_lt v w then true else value_eq v w && value_lt m n)
value_lt _ _ = false

-- what a map gives where it has no slot
abbrev pub default_of : ValueOf → ValueOf
default_of (Default d) = d
default_of (Slot k v m) = default_of m
default_of v = v

-- the index comes before each slot of a map
abbrev pub comes_before : List PartOf → ValueOf → Bool
comes_before k (Default d) = true
comes_before k (Slot l w n) = index_lt k l
comes_before k _ = false

abbrev pub is_part : PartOf → Bool
is_part (AtNumber k) = fits k
is_part (AtElement t k) = is_type t && fits k

abbrev pub is_index : List PartOf → Bool
is_index ps = not (is_empty ps) && list_all is_part ps

-- a slot has a map behind it whose slots come behind its index, and another value than the default
abbrev pub is_value : ValueOf → Bool
is_value (Truth b) = true
is_value (Number k) = fits k
is_value (Element t k) = is_type t && fits k
is_value (Default d) = is_value d
is_value (Slot k v m) =
    is_index k && (is_value v && (is_value m && (comes_before k m && not (value_eq v (default_of m)))))

abbrev pub is_given : GivenOf → Bool
is_given g = is_name g.name && is_value g.value

-- the order of keys: part by part
abbrev pub key_lt : List ValueOf → List ValueOf → Bool
key_lt [] [] = false
key_lt [] (w ∷ ws) = true
key_lt (v ∷ vs) [] = false
key_lt (v ∷ vs) (w ∷ ws) = if value_lt v w then true else value_eq v w && key_lt vs ws

abbrev pub comes_behind : Option (List ValueOf) → List ValueOf → Bool
comes_behind None k = true
comes_behind (Some j) k = key_lt j k

-- the entries are in the order of their keys, the first behind this key if there is one, and none has the default's value
abbrev pub are_entries : Option (List ValueOf) → ValueOf → List EntryOf → Bool
are_entries before d [] = true
are_entries before d (e ∷ es) =
    comes_behind before e.key && (not (value_eq e.value d) && are_entries (Some e.key) d es)

-- an index behind this one, if there is one
abbrev pub rises : Option (List PartOf) → List PartOf → Bool
rises None k = true
rises (Some j) k = index_lt j k

-- slots are in the order of their indices, the first behind this one if there is one, and none has the default's value
abbrev pub are_slots : Option (List PartOf) → ValueOf → List Item → Bool
are_slots before d [] = true
are_slots before d (e ∷ es) = rises before e.0 && (not (value_eq e.1 d) && are_slots (Some e.0) d es)

abbrev pub is_entry : EntryOf → Bool
is_entry e = list_all is_value e.key && is_value e.value

-- a function has a name, and its table is in order
abbrev pub is_function : FunctionOf → Bool
is_function f =
    is_name f.name && (list_all is_entry f.entries && (is_value f.default && are_entries None f.default f.entries))

-- constants and functions have names, and their values numerals
abbrev pub is_interp : Option InterpOf → Bool
is_interp None = true
is_interp (Some i) = list_all is_given i.constants && list_all is_function i.functions

abbrev pub is_spellable : CertOf → Bool
is_spellable c = is_interp c.interp && (list_all is_name c.retained && list_all is_section c.sections)

abbrev pub IsSpellable : CertOf → Type 0
IsSpellable c = is_spellable c ≡ true
