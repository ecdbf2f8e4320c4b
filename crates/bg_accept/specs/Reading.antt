-- What is read once for all places, and what each comes to.
use Rattle.std.specs.Prelude.{◌≡◌, ◌⊎◌, ℕ, ◌<◌, Bool, true, false, List, map, Option, Some, None}
use Rattle.std.specs.List.{list_all}
use Rattle.bg_base.specs.declared.exact.OutOfRange.{OutOfRange}
use Rattle.bg_text.specs.Trees.{Id}
use Rattle.bg_text.specs.Views.{id_of}
use Rattle.bg_ast.specs.Syntax.{Prog}
use Rattle.bg_ast.specs.Resolved as r
use Rattle.bg_ast.specs.Meaning.{meaning_of}
use Rattle.bg_ast.specs.Execution.{Place}
use Rattle.bg_ast.specs.Views.{program_of}
use Rattle.bg_sense.specs.Clauses.{is_kept}
use Rattle.bg_sense.specs.Typed.{IsTyped}
use Rattle.bg_fits.specs.Valued.{is_over_values}
use Rattle.bg_blocks.specs.Callees.{IsModified}
use Rattle.bg_formula.specs.Formulas.{Formula}
use Rattle.bg_places.specs.Placed.{Placed}
use Rattle.bg_places.specs.Views.{placed_of}
use Rattle.bg_places.specs.declared.place.Place as code
use Rattle.bg_numbered.specs.Lines.{Line}
use Rattle.bg_task.specs.Cuts.{HasOwnClauses}
use Rattle.bg_task.specs.Certified.{HasOutside}
use Rattle.bg_certtext.specs.Views.{SectionOf, section_of}
use Rattle.bg_certtext.specs.Spellable.{is_section}
use Rattle.bg_accept.specs.Sections.{accepts_section}
use Rattle.bg_accept.specs.Lines.{NamesLines}
use Rattle.bg_accept.specs.Accepted.{IsShown, IsBare, IsRequired}
use Rattle.bg_accept.specs.Tables.{AreFirsts}
use Rattle.bg_accept.specs.Places.{ArePlaces}
use Rattle.bg_accept.specs.declared.reading.Reading.{Reading}
use Rattle.bg_accept.specs.declared.reading.Tables.{Tables}

-- the tables are those of a program and of sections
pub record AreTables (p : r.Program) (ss : List SectionOf) (t : Tables) : Type 0 where
  pub modified : IsModified p t.callees.items
  pub named : map id_of t.numbers.candidates.now ≡ p.candidates
  pub places : ArePlaces p t.all.items
  pub firsts : AreFirsts t.all.items ss t.firsts.items

-- a typed program over values, sections that have a text, and their tables
pub record IsReading (q : Reading) : Type 0 where
  pub typed : IsTyped (meaning_of (program_of q.program.now))
  pub scalars : is_over_values (meaning_of (program_of q.program.now)) ≡ true
  pub spelled : list_all is_section (map section_of q.sections.now) ≡ true
  pub tables : AreTables (program_of q.program.now) (map section_of q.sections.now) q.tables.now

-- whether the place's clauses behind these lines accept this section; the place may have none
abbrev pub IsSettledBehind : Prog → (ℕ → Bool) → List Id → SectionOf → Place → List Line → Bool → Type 0
IsSettledBehind p set names s t es true = (f : Formula) × (HasOwnClauses p t es f × (accepts_section f set names s ≡ true))
IsSettledBehind p set names s t es false =
    ((f : Formula) × (HasOwnClauses p t es f × (accepts_section f set names s ≡ false)))
    ⊎ ((o : OutOfRange) × HasOutside p t es o)

-- the same behind those that the section has; one of them may name what isn't there
abbrev pub IsSettled : Prog → (ℕ → Bool) → List Id → SectionOf → Place → Bool → Type 0
IsSettled p set names s t true = (es : List Line) × (NamesLines p t s.stated (Some es) × IsSettledBehind p set names s t es true)
IsSettled p set names s t false =
    NamesLines p t s.stated None
    ⊎ ((es : List Line) × (NamesLines p t s.stated (Some es) × IsSettledBehind p set names s t es false))

-- the same where there may be no section
abbrev pub IsSettledBy : Prog → (ℕ → Bool) → List Id → Option SectionOf → Place → Bool → Type 0
IsSettledBy p set names None t said = said ≡ false
IsSettledBy p set names (Some s) t said = IsSettled p set names s t said

-- whether the place doesn't need a section, or its clauses accept this one
abbrev pub IsFine : Prog → (ℕ → Bool) → List Id → Option SectionOf → Place → Bool → Type 0
IsFine p set names s t true = is_kept set t.candidate ≡ true → IsSettledBy p set names s t true
IsFine p set names s t false = (is_kept set t.candidate ≡ true) × IsSettledBy p set names s t false

-- each required place of an implementation is shown whose number is below n
abbrev pub AreShownTo : r.Program → (ℕ → Bool) → List SectionOf → ℕ → ℕ → Type 0
AreShownTo p set ss k n =
    (i : ℕ) (a : Placed) → i < n → IsRequired p set k i a → IsShown (meaning_of p) set p.candidates ss i a.place

-- each required place of an implementation is
abbrev pub AreShownOf : r.Program → (ℕ → Bool) → List SectionOf → ℕ → Type 0
AreShownOf p set ss k =
    (i : ℕ) (a : Placed) → IsRequired p set k i a → IsShown (meaning_of p) set p.candidates ss i a.place

-- this place of an implementation is its first required one that isn't shown
pub record IsBareOf (p : r.Program) (set : ℕ → Bool) (ss : List SectionOf) (k : ℕ) (a : Placed) : Type 0 where
  pub number : ℕ
  pub required : IsRequired p set k number a
  pub bare : IsBare (meaning_of p) set p.candidates ss number a.place
  pub before : AreShownTo p set ss k number

-- what an implementation's places come to
abbrev pub IsOutcomeOf : r.Program → (ℕ → Bool) → List SectionOf → ℕ → Option code.Place → Type 0
IsOutcomeOf p set ss k None = AreShownOf p set ss k
IsOutcomeOf p set ss k (Some place) = IsBareOf p set ss k (placed_of place)

-- this place is the first required one of the program that isn't shown
pub record IsFirst (p : r.Program) (set : ℕ → Bool) (ss : List SectionOf) (a : Placed) : Type 0 where
  pub implementation : ℕ
  pub bare : IsBareOf p set ss implementation a
  pub before : (j : ℕ) → j < implementation → AreShownOf p set ss j

-- what all places come to
abbrev pub IsOutcome : r.Program → (ℕ → Bool) → List SectionOf → Option code.Place → Type 0
IsOutcome p set ss None = (k : ℕ) → AreShownOf p set ss k
IsOutcome p set ss (Some place) = IsFirst p set ss (placed_of place)
