-- What a certificate of an outcome says.
use Rattle.std.specs.Prelude.{◌≡◌, ◌⊎◌, ℕ, true, false, List, map, None, Some, Contains, slice_get}
use Rattle.bg_ast.specs.Resolved as r
use Rattle.bg_ast.specs.Meaning.{meaning_of}
use Rattle.bg_words.specs.Sets.{has}
use Rattle.bg_places.specs.Placed.{Placed}
use Rattle.bg_check.specs.declared.verdict.Judged.{Judged}
use Rattle.bg_check.specs.Verdicts.{is_proved, placed_at, judged}
use Rattle.bg_houdini.specs.declared.outcome.Outcome as houdini
use Rattle.bg_inference.specs.declared.outcome.Outcome.{Outcome}
use Rattle.bg_inference.specs.Outcomes.{has_body, judged_program, IsTrueOutcome}
use Rattle.bg_tree.specs.declared.outcome.Budget.{Budget}
use Rattle.bg_certtext.specs.Views.{CertOf}
use Rattle.bg_certtext.specs.Texts.{text_of}
use Rattle.bg_certtext.specs.Spellable.{IsSpellable}
use Rattle.bg_accept.specs.Names.{unplaced}
use Rattle.bg_accept.specs.Sections.{section_at}
use Rattle.bg_accept.specs.Accepted.{retained_by, IsRequired, IsShown, extra}
use Rattle.bg_certify.specs.Given.{NamesOf, type_names, constant_names, constant_types, heads, interp_by}

-- the outcome has a verdict on this place of implementation k, which isn't that it is proved
pub record IsUnproved (o : houdini.Outcome) (k : ℕ) (a : Placed) : Type 0 where
  pub verdicts : List Judged
  pub there : slice_get (judged o.verdicts.items) k ≡ Some verdicts
  pub verdict : Judged
  pub is_one : Contains verdicts verdict
  pub is_its : placed_at verdict ≡ a
  pub not_proved : is_proved verdict.verdict ≡ false

-- of an opened program: the retained names are those of the candidates that the outcome retains, in order; the sections are those of
-- required places, in order; and each required place has a section that its clauses accept, or none where the outcome's verdict isn't
-- that it is proved
pub record HasSections (p : r.Program) (o : houdini.Outcome) (c : CertOf) : Type 0 where
  pub retained : (b : ℕ) → retained_by p c b ≡ has o.inferred.retained b
  pub placed : unplaced p.candidates c.retained ≡ None
  pub no_other : extra p c ≡ None
  pub each : (k i : ℕ) (a : Placed) → IsRequired p (retained_by p c) k i a →
      IsShown (meaning_of p) (retained_by p c) p.candidates c.sections i a.place
      ⊎ (IsUnproved o k a × (section_at k i c.sections ≡ None))

-- the names and types of a program's constants and functions
abbrev pub names_of : r.Program → NamesOf
names_of p =
    record {
      types = type_names p.types;
      constants = constant_names p.constants;
      constant_types = constant_types p.types p.constants;
      functions = heads p.types p.functions;
      bodies = map has_body p.functions;
    }

-- the interpretation gives the constants and the functions without a body the values and tables that were found to meet the axioms, and
-- there is none where none was found; the rest is of the opened program
pub record IsWritten (p : r.Program) (o : Outcome) (c : CertOf) : Type 0 where
  pub interp : c.interp ≡ interp_by (names_of p) o.axioms
  pub sections : HasSections (judged_program p) o.judged c

-- the text is that of such a certificate
pub record IsCertText (p : r.Program) (o : Outcome) (text : List ℕ) : Type 0 where
  pub cert : CertOf
  pub spellable : IsSpellable cert
  pub written : IsWritten p o cert
  pub is : text ≡ text_of cert

-- the outcome is true of the program, for some budget, and each certificate is kept
abbrev pub IsTrueOf : r.Program → Outcome → Type 0
IsTrueOf p o = (budget : Budget) × IsTrueOutcome true budget p o
