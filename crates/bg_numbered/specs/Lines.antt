-- Lines: what comes in behind the terms of a table, one after the other.
use Rattle.std.specs.Prelude.{◌≡◌, ℕ, suc, ◌+◌, nat_lt, Bool, true, false, ◌&&◌, List, [], ◌∷◌, ◌++◌, length, Option, Some, None, slice_get}
use Rattle.bg_ast.specs.Values.{KeyType, Ty, MapTy}
use Rattle.bg_ast.specs.Syntax.{Exs, Read, Local, NoMore, More}
use Rattle.bg_sense.specs.Types.{key_types_eq, ty_eq}
use Rattle.bg_sense.specs.Typing.{key_ty}
use Rattle.bg_terms.specs.Terms.{Head, Selects, Updates, Differs, Term}
use Rattle.bg_terms.specs.Typed.{types_with}
use Rattle.bg_terms.specs.Instances.{Instance, Congruent, AtIndex, Elsewhere, Apart}

-- the select of a map at the index of a term; the parts of an index at which two maps differ, with the selects of both maps there; or an
-- instance. Maps are numbered among incarnations and terms, all else among terms
pub data Line : Type 0 where
  Pick : (a_map a_term : ℕ) → Line
  Names : (a_map another : ℕ) → Line
  Says : Instance → Line

-- the select of the map with this number at an index
abbrev pub select_from : List KeyType → Ty → ℕ → Exs → Term
select_from ks t m qs = record { head = Selects ks t; args = More (Read (Local m)) qs; ty = t }

-- what stands behind a map, and behind a map and a new value
abbrev pub behind_map : Exs → Exs
behind_map NoMore = NoMore
behind_map (More m qs) = qs

abbrev pub behind_value : Exs → Exs
behind_value NoMore = NoMore
behind_value (More m qs) = behind_map qs

abbrev pub if_fits : Bool → Term → List Term
if_fits true t = t ∷ []
if_fits false t = []

-- the select of a map at the index of a select or an update, where its index types are these too
abbrev pub pick_at : List KeyType → Ty → ℕ → Head → Exs → List Term
pick_at ks t m (Selects ls u) xs = if_fits (key_types_eq ks ls) (select_from ks t m (behind_map xs))
pick_at ks t m (Updates ls u) xs = if_fits (key_types_eq ks ls) (select_from ks t m (behind_value xs))
pick_at ks t m _ xs = []

abbrev pub pick_term : List KeyType → Ty → ℕ → Option Term → List Term
pick_term ks t m None = []
pick_term ks t m (Some a) = pick_at ks t m a.head a.args

-- of a map that has an index
abbrev pub pick_by : Option Ty → ℕ → Option Term → List Term
pick_by (Some (MapTy (k ∷ ks) t)) m o = pick_term (k ∷ ks) t m o
pick_by _ m o = []

abbrev pub picked : List Ty → List Term → ℕ → ℕ → List Term
picked incs ts m a = pick_by (slice_get (types_with incs ts) m) m (slice_get ts a)

-- the parts, from number j on, of the index at which the maps with these numbers differ
abbrev pub parts_from : List KeyType → Ty → (m o j : ℕ) → List KeyType → List Term
parts_from ks t m o j [] = []
parts_from ks t m o j (l ∷ ls) =
    (record { head = Differs ks t j; args = More (Read (Local m)) (More (Read (Local o)) NoMore); ty = key_ty l })
    ∷ parts_from ks t m o (suc j) ls

-- reads of what stands from this number on, one for each of these
abbrev pub reads_from : ℕ → List KeyType → Exs
reads_from n [] = NoMore
reads_from n (l ∷ ls) = More (Read (Local n)) (reads_from (suc n) ls)

-- the parts, which stand from number n on, and behind them both selects
abbrev pub names_at : List KeyType → Ty → (n m o : ℕ) → List Term
names_at ks t n m o =
    parts_from ks t m o 0 ks ++ (select_from ks t m (reads_from n ks) ∷ select_from ks t o (reads_from n ks) ∷ [])

abbrev pub if_fit : Bool → List Term → List Term
if_fit true ts = ts
if_fit false ts = []

-- of two maps of one type that has an index
abbrev pub names_with : List KeyType → Ty → Option Ty → (n m o : ℕ) → List Term
names_with ks t (Some (MapTy ls u)) n m o = if_fit (key_types_eq ks ls && ty_eq t u) (names_at ks t n m o)
names_with ks t _ n m o = []

abbrev pub names_by : Option Ty → Option Ty → (n m o : ℕ) → List Term
names_by (Some (MapTy (k ∷ ks) t)) u n m o = names_with (k ∷ ks) t u n m o
names_by _ u n m o = []

abbrev pub named : List Ty → List Term → (m o : ℕ) → List Term
named incs ts m o =
    names_by (slice_get (types_with incs ts) m) (slice_get (types_with incs ts) o) (length incs + length ts) m o

-- the terms that a line brings, behind these; none where it names what isn't there or doesn't fit
abbrev pub brought : List Ty → List Term → Line → List Term
brought incs ts (Pick m a) = picked incs ts m a
brought incs ts (Names m o) = named incs ts m o
brought incs ts (Says e) = []

abbrev pub after_line : List Ty → List Term → Line → List Term
after_line incs ts l = ts ++ brought incs ts l

-- the terms behind lines
abbrev pub after_lines : List Ty → List Term → List Line → List Term
after_lines incs ts [] = ts
after_lines incs ts (l ∷ ls) = after_lines incs (after_line incs ts l) ls

-- the instances of lines
abbrev pub said_by : Line → List Instance
said_by (Pick m a) = []
said_by (Names m o) = []
said_by (Says e) = e ∷ []

abbrev pub instances_in : List Line → List Instance
instances_in [] = []
instances_in (l ∷ ls) = said_by l ++ instances_in ls

-- whether an instance is of the first so many terms
abbrev pub is_within : ℕ → Instance → Bool
is_within n (Congruent a b) = nat_lt a n && nat_lt b n
is_within n (AtIndex u s) = nat_lt u n && nat_lt s n
is_within n (Elsewhere u s r) = nat_lt u n && (nat_lt s n && nat_lt r n)
is_within n (Apart s r) = nat_lt s n && nat_lt r n

abbrev pub is_any : List Term → Bool
is_any [] = false
is_any (t ∷ ts) = true

-- whether a line names what is there and fits
abbrev pub is_there : List Ty → List Term → Line → Bool
is_there incs ts (Pick m a) = is_any (picked incs ts m a)
is_there incs ts (Names m o) = is_any (named incs ts m o)
is_there incs ts (Says e) = is_within (length ts) e

-- the same of each of these, where those before it came in
abbrev pub are_there : List Ty → List Term → List Line → Bool
are_there incs ts [] = true
are_there incs ts (l ∷ ls) = is_there incs ts l && are_there incs (after_line incs ts l) ls

-- whether maps have an index that such terms select from or update
abbrev pub has_index : Head → Bool
has_index (Selects [] t) = false
has_index (Updates [] t) = false
has_index _ = true

-- each map that is selected from or updated has an index
abbrev pub HaveIndices : List Term → Type 0
HaveIndices ts = (a : ℕ) (u : Term) → slice_get ts a ≡ Some u → has_index u.head ≡ true
