-- What lines bring, as the code has it.
use Rattle.std.specs.Prelude.{ℕ, zero, suc, List, [], ◌∷◌, Option, Some, None, Bool, true, false, ◌&&◌}
use Rattle.bg_ast.specs.Values.{KeyType, Ty, result_of}
use Rattle.bg_ast.specs.Syntax.{Fun, Exs, Read, Local, NoMore, More}
use Rattle.bg_sense.specs.Types.{key_types_eq}
use Rattle.bg_terms.specs.Terms.{Term}
use Rattle.bg_numbered.specs.Put.{keys_in}
use Rattle.bg_kinds.specs.Views.{keys_of, ref_in}
use Rattle.bg_numbered.specs.Lines.{parts_from, select_from, if_fits, names_at}
use Rattle.bg_term_table.specs.declared.bring.Maps.{Maps}
use Rattle.bg_term_table.specs.declared.table.Term as kept
use Rattle.bg_term_table.specs.Views.{term_of}

-- the term, if there is one
abbrev pub perhaps : List Fun → Option kept.Term → List Term
perhaps functions None = []
perhaps functions (Some t) = term_of functions t ∷ []

abbrev pub has_index : List KeyType → Bool
has_index [] = false
has_index (k ∷ ks) = true

-- the select of the map with this number, of this type, at an index of these types, if it fits
abbrev pub selects : Ty → ℕ → List KeyType → Exs → List Term
selects t m ks qs = if_fits (has_index (keys_in t) && key_types_eq (keys_in t) ks) (select_from (keys_in t) (result_of t) m qs)

-- the parts of an index at which maps differ
abbrev pub parts : List KeyType → Ty → (m o : ℕ) → List Term
parts ks t m o = parts_from ks t m o 0 ks

-- what names bring that stand from number n on, if maps have this type
abbrev pub names_of : Option Maps → (n m o : ℕ) → List Term
names_of None n m o = []
names_of (Some t) n m o = names_at (keys_of t.keys) (ref_in t.gives) n m o

-- what reads so many from this number on
abbrev pub read_list : ℕ → ℕ → Exs
read_list n zero = NoMore
read_list n (suc k) = More (Read (Local n)) (read_list (suc n) k)
