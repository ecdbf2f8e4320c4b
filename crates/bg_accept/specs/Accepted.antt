-- When a program accepts a certificate.
use Rattle.std.specs.Prelude.{◌≡◌, ◌⊎◌, ℕ, Bool, true, false, List, [], Option, Some, None, is_some, slice_get}
use Rattle.bg_base.specs.declared.exact.OutOfRange.{OutOfRange}
use Rattle.bg_text.specs.Trees.{Id}
use Rattle.bg_ast.specs.Syntax.{Prog}
use Rattle.bg_ast.specs.Resolved as r
use Rattle.bg_ast.specs.Meaning.{meaning_of}
use Rattle.bg_ast.specs.Execution.{Place}
use Rattle.bg_sense.specs.Clauses.{is_kept}
use Rattle.bg_formula.specs.Formulas.{Formula}
use Rattle.bg_cert.specs.Walks.{has}
use Rattle.bg_places.specs.Placed.{Placed, placed_impl}
use Rattle.bg_numbered.specs.Lines.{Line}
use Rattle.bg_task.specs.Cuts.{HasOwnClauses}
use Rattle.bg_task.specs.Certified.{HasOutside}
use Rattle.bg_certtext.specs.Views.{SectionOf, CertOf}
use Rattle.bg_accept.specs.Names.{marks, unplaced}
use Rattle.bg_accept.specs.Lines.{NamesLines}
use Rattle.bg_accept.specs.Sections.{section_at, accepts_section, extra_behind}

-- the candidates that the text retains
abbrev pub retained_by : r.Program → CertOf → ℕ → Bool
retained_by p c = has (marks p.candidates c.retained)

-- the places of an implementation, where it is there
abbrev pub places_of : r.Program → ℕ → Option r.Impl → List Placed
places_of p k None = []
places_of p k (Some m) = placed_impl p.procedures k m

abbrev pub places_at : r.Program → ℕ → List Placed
places_at p k = places_of p k (slice_get p.implementations k)

-- a place needs a section where it has no candidate, or one that is retained
abbrev pub is_needed : (ℕ → Bool) → Option Placed → Bool
is_needed set None = false
is_needed set (Some a) = is_kept set a.place.candidate

abbrev pub is_required : r.Program → (ℕ → Bool) → ℕ → ℕ → Bool
is_required p set k i = is_needed set (slice_get (places_at p k) i)

-- the place's clauses, behind the lines that its section has, accept the section
pub record IsShown (p : Prog) (set : ℕ → Bool) (names : List Id) (sections : List SectionOf) (i : ℕ) (t : Place) : Type 0 where
  pub section : SectionOf
  pub is_its : section_at t.implementation i sections ≡ Some section
  pub lines : List Line
  pub names_them : NamesLines p t section.stated (Some lines)
  pub formula : Formula
  pub is : HasOwnClauses p t lines formula
  pub accepted : accepts_section formula set names section ≡ true

-- they don't accept it
pub record IsRefused (p : Prog) (set : ℕ → Bool) (names : List Id) (sections : List SectionOf) (i : ℕ) (t : Place) : Type 0 where
  pub section : SectionOf
  pub is_its : section_at t.implementation i sections ≡ Some section
  pub lines : List Line
  pub names_them : NamesLines p t section.stated (Some lines)
  pub formula : Formula
  pub is : HasOwnClauses p t lines formula
  pub refused : accepts_section formula set names section ≡ false

-- a line of the place's section names what isn't there
pub record IsUnfounded (p : Prog) (sections : List SectionOf) (i : ℕ) (t : Place) : Type 0 where
  pub section : SectionOf
  pub is_its : section_at t.implementation i sections ≡ Some section
  pub names_none : NamesLines p t section.stated None

-- the place has no clauses behind the lines that its section has: this operation leaves the range
pub record IsOutside (p : Prog) (sections : List SectionOf) (i : ℕ) (t : Place) : Type 0 where
  pub section : SectionOf
  pub is_its : section_at t.implementation i sections ≡ Some section
  pub lines : List Line
  pub names_them : NamesLines p t section.stated (Some lines)
  pub operation : OutOfRange
  pub is : HasOutside p t lines operation

-- the place has no section, or one that names what isn't there, or none that its clauses accept, or it has no clauses
abbrev pub IsBare : Prog → (ℕ → Bool) → List Id → List SectionOf → ℕ → Place → Type 0
IsBare p set names sections i t =
    (section_at t.implementation i sections ≡ None)
    ⊎ (IsUnfounded p sections i t ⊎ (IsRefused p set names sections i t ⊎ IsOutside p sections i t))

-- place i of implementation k is required
pub record IsRequired (p : r.Program) (set : ℕ → Bool) (k i : ℕ) (a : Placed) : Type 0 where
  pub there : slice_get (places_at p k) i ≡ Some a
  pub kept : is_kept set a.place.candidate ≡ true

-- each required place has a section that its clauses accept
abbrev pub AreShown : r.Program → CertOf → Type 0
AreShown p c =
    (k i : ℕ) (a : Placed) → IsRequired p (retained_by p c) k i a →
    IsShown (meaning_of p) (retained_by p c) p.candidates c.sections i a.place

-- the first section that is of no required place, or out of order
abbrev pub extra : r.Program → CertOf → Option SectionOf
extra p c = extra_behind (is_required p (retained_by p c)) None c.sections

-- The axioms have an interpretation; the retained names are those of candidates, in order; each required place has a section that its
-- clauses accept; and there is no section but these, in order
pub record IsAccepted (p : r.Program) (c : CertOf) : Type 0 where
  pub axioms : is_some c.interp ≡ true
  pub retained : unplaced p.candidates c.retained ≡ None
  pub shown : AreShown p c
  pub no_other : extra p c ≡ None
