-- Spaces of names: each holds the first declaration of a name.
use Rattle.std.specs.Prelude.{ℕ, Bool, false, not, List, [], ◌∷◌, ◌++◌, Option, Some, None, if◌then◌else◌, position, slice_get}
use Rattle.std.specs.List.{list_any}
use Rattle.std.specs.Str.{bytes_eq}
use Rattle.bg_text.specs.Trees.{Id}
use Rattle.bg_names.specs.declared.error.FaultKind.TheVariants as kinds
use Rattle.bg_names.specs.declared.scope.Meaning.{Meaning}
use Rattle.bg_names.specs.declared.scope.Meaning.TheVariants as means
use Rattle.bg_names.specs.Faults.{Fault, fault, unless}

-- whether a name is among these
abbrev pub has_name : List (List ℕ) → List ℕ → Bool
has_name names x = list_any (bytes_eq x) names

-- the names with one more, unless it is there
unfoldable pub with_name : List (List ℕ) → List ℕ → List (List ℕ)
with_name names x = if has_name names x then names else names ++ x ∷ []

-- the names with these, each once
abbrev pub with_names : List (List ℕ) → List Id → List (List ℕ)
with_names names [] = names
with_names names (x ∷ xs) = with_names (with_name names x.text) xs

-- the names that these declare
abbrev pub names_of : List Id → List (List ℕ)
names_of = with_names []

-- each declaration of a name that is there already
abbrev pub repeats : List (List ℕ) → List Id → List Fault
repeats names [] = []
repeats names (x ∷ xs) =
    unless (not (has_name names x.text)) (fault kinds.Duplicate x.pos x.text) ++ repeats (with_name names x.text) xs

-- the number of a name among these, from 0
unfoldable pub place : List (List ℕ) → List ℕ → Option ℕ
place names x = position (bytes_eq x) names

abbrev pub or_zero : Option ℕ → ℕ
or_zero (Some n) = n
or_zero None = 0

-- a use of a name of one space
abbrev pub use_faults : List (List ℕ) → Id → List Fault
use_faults names x = unless (has_name names x.text) (fault kinds.UnknownName x.pos x.text)

-- what names mean in an expression
pub record Scope : Type 0 where
  -- constants, candidates and globals, and what each is
  pub values : List (List ℕ)
  pub meanings : List Meaning
  pub functions : List (List ℕ)
  -- parameters, results and locals
  pub frame : List (List ℕ)
  pub sees_globals : Bool
  pub has_old : Bool

abbrev pub seen : Bool → Meaning → Meaning
seen false (means.Global k) = means.Nothing
seen _ m = m

abbrev pub or_nothing : Option Meaning → Meaning
or_nothing (Some m) = m
or_nothing None = means.Nothing

abbrev pub value_at : List Meaning → Option ℕ → Meaning
value_at meanings (Some k) = or_nothing (slice_get meanings k)
value_at meanings None = means.Nothing

abbrev pub in_frame : Option ℕ → Meaning → Meaning
in_frame (Some k) other = means.Local k
in_frame None other = other

-- what a name means: the frame hides constants and globals
unfoldable pub meaning : Scope → List ℕ → Meaning
meaning s x = in_frame (place s.frame x) (seen s.sees_globals (value_at s.meanings (place s.values x)))
