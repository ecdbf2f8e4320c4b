-- Tables of what each place of each implementation has.
use Rattle.std.specs.Prelude.{◌≡◌, ℕ, Bool, true, false, ◌||◌, nat_lt, List, [], ◌∷◌, map, length, Option, Some, None, Vec, slice_get}
use Rattle.std.specs.declared.alloc.Global.{Global}
use Rattle.bg_sense.specs.Clauses.{is_kept}
use Rattle.bg_places.specs.Placed.{Placed}
use Rattle.bg_places.specs.Views.{placed_in}
use Rattle.bg_places.specs.declared.place.Place.{Place}
use denote.Bor.{Bor}
use Rattle.bg_certtext.specs.declared.text.Section.{Section}
use Rattle.bg_certtext.specs.Views.{SectionOf, section_of}
use Rattle.bg_accept.specs.Sections.{section_at}

-- the places of an implementation, in a table of all
abbrev pub listed : Option (Vec Place Global) → List Placed
listed None = []
listed (Some v) = placed_in v.items

abbrev pub places_in : List (Vec Place Global) → ℕ → List Placed
places_in all k = listed (slice_get all k)

-- whether there is a place, without a candidate or with one of the set
abbrev pub needed : (ℕ → Bool) → Option Placed → Bool
needed set None = false
needed set (Some a) = is_kept set a.place.candidate

abbrev pub is_needed_at : (ℕ → Bool) → List Placed → ℕ → Bool
is_needed_at set ps i = needed set (slice_get ps i)

abbrev pub any_needed : (ℕ → Bool) → List Placed → Bool
any_needed set [] = false
any_needed set (a ∷ ps) = is_kept set a.place.candidate || any_needed set ps

-- the same of a place of an implementation
abbrev pub is_required_in : (ℕ → Bool) → List (Vec Place Global) → ℕ → ℕ → Bool
is_required_in set all k i = is_needed_at set (places_in all k) i

-- a section by reference
abbrev pub referred : Bor Section → SectionOf
referred s = section_of s.now

-- the numbers of a section
abbrev pub numbers_in : SectionOf → ℕ × ℕ
numbers_in s = (s.implementation, s.place)

-- the number of a place's section, in a table
abbrev pub number_at : Option (Option ℕ) → Option ℕ
number_at None = None
number_at (Some o) = o

abbrev pub numbers_of : Option (Vec (Option ℕ) Global) → List (Option ℕ)
numbers_of None = []
numbers_of (Some v) = v.items

abbrev pub first_at : List (Vec (Option ℕ) Global) → ℕ → ℕ → Option ℕ
first_at table k i = number_at (slice_get (numbers_of (slice_get table k)) i)

-- how many places there are of each implementation
abbrev pub widths : List (Vec (Option ℕ) Global) → List ℕ
widths table = map (λ v. length v.items) table

abbrev pub counts : List (Vec Place Global) → List ℕ
counts all = map (λ v. length v.items) all

abbrev pub or_zero : Option ℕ → ℕ
or_zero None = 0
or_zero (Some n) = n

-- whether the place is there, where there are so many
abbrev pub is_there : List ℕ → ℕ → ℕ → Bool
is_there ws k i = nat_lt i (or_zero (slice_get ws k))

abbrev pub section_of_number : List SectionOf → Option ℕ → Option SectionOf
section_of_number ss None = None
section_of_number ss (Some n) = slice_get ss n

-- each place that is there has the number of its first section
pub record AreFirsts (all : List (Vec Place Global)) (ss : List SectionOf) (table : List (Vec (Option ℕ) Global)) : Type 0 where
  pub widths : widths table ≡ counts all
  pub firsts : (k i : ℕ) → is_there (counts all) k i ≡ true → section_of_number ss (first_at table k i) ≡ section_at k i ss
