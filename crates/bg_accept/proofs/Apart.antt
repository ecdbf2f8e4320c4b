-- A certificate that is accepted isn't answered in another way.
use Rattle.std.proofs.Common.{◌≡◌, inl, inr, ℕ, Bool, true, false, List, Option, Some, None, refl, sym, ap, ◌∙◌, subst}
use Rattle.std.specs.Prelude.{is_some, length, slice_get}
use Rattle.bg_base.specs.declared.exact.OutOfRange.{OutOfRange}
use Rattle.bg_text.specs.Trees.{Id}
use Rattle.bg_ast.specs.Syntax.{Proc, Impl, Prog}
use Rattle.bg_ast.specs.Resolved as r
use Rattle.bg_ast.specs.Meaning.{meaning_of}
use Rattle.bg_ast.specs.Execution.{Place}
use Rattle.bg_formula.specs.Formulas.{Formula}
use Rattle.bg_sense.specs.Variables.{procedure_of}
use Rattle.bg_numbered.specs.Lines.{Line}
use Rattle.bg_block_types.specs.Typed.{incarnations_in}
use Rattle.bg_termed.specs.Termed.{terms_in}
use Rattle.bg_certtext.specs.declared.text.Stated.{Stated}
use Rattle.bg_task.specs.Cuts.{HasOwnClauses}
use Rattle.bg_task.specs.Certified.{HasOutside}
use Rattle.bg_certtext.specs.Views.{SectionOf, CertOf}
use Rattle.bg_accept.specs.Sections.{section_at, accepts_section}
use Rattle.bg_accept.specs.Accepted.{IsShown, IsBare, IsAccepted}
use Rattle.bg_accept.specs.Lines.{NamesLines, lines_in}
use Rattle.bg_accept.specs.Answers.{AnswerOf, Accepted, NoInterp, NotRetained, NotShown, NotRequired, IsAnswer}

-- a place has one list of clauses, or none
abbrev pub OneLaw : Type 0
OneLaw = (p : Prog) (t : Place) (es : List Line) (f g : Formula) → HasOwnClauses p t es f → HasOwnClauses p t es g → f ≡ g

abbrev pub NoneLaw : Type 0
NoneLaw = (p : Prog) (t : Place) (es : List Line) (f : Formula) (o : OutOfRange) → HasOwnClauses p t es f → HasOutside p t es o → ⊥

none_there : {A : Type 0} (o : Option A) (x : A) → o ≡ None → o ≡ Some x → ⊥
none_there None x h k = absurd (let bad : None ≡ Some x = sym h ∙ k in let b : ⊥ = cc in b)
none_there (Some y) x h k = absurd (let b : ⊥ = cc in b)

one_there : {A : Type 0} (o : Option A) (x y : A) → o ≡ Some x → o ≡ Some y → x ≡ y
one_there (Some z) x y h k = let e : x ≡ y = cc in e
one_there None x y h k = absurd cc

both_ways : (b : Bool) → b ≡ true → b ≡ false → ⊥
both_ways true h k = absurd cc
both_ways false h k = absurd cc

not_none : {A : Type 0} (o : Option A) → is_some o ≡ true → o ≡ None → ⊥
not_none None h k = absurd cc
not_none (Some x) h k = absurd (let b : ⊥ = cc in b)

-- lines name the same wherever it is told
named_once : (p : Prog) (t : Place) (ss : List Stated) (a b : Option (List Line)) → NamesLines p t ss a → NamesLines p t ss b → a ≡ b
named_once p t ss a b h g =
    let same : h.implementation ≡ g.implementation = one_there (slice_get p.implementations t.implementation) h.implementation g.implementation h.is_there g.is_there in
    let its : procedure_of p g.implementation.procedure ≡ Some h.procedure = subst (λ (i : Impl). procedure_of p i.procedure ≡ Some h.procedure) same h.is_its in
    let also : h.procedure ≡ g.procedure = one_there (procedure_of p g.implementation.procedure) h.procedure g.procedure its g.is_its in
    sym h.named
    ∙ (ap (λ (i : Impl). lines_in (incarnations_in p t.implementation i h.procedure) (terms_in p t.implementation i h.procedure) ss) same
    ∙ (ap (λ (q : Proc). lines_in (incarnations_in p t.implementation g.implementation q) (terms_in p t.implementation g.implementation q) ss) also ∙ g.named))

-- equal sections name the same lines
same_lines : (p : Prog) (t : Place) (x y : SectionOf) (es fs : List Line) → x ≡ y → NamesLines p t x.stated (Some es) → NamesLines p t y.stated (Some fs) → es ≡ fs
same_lines p t x y es fs e h g =
    let one : Some es ≡ Some fs = named_once p t y.stated (Some es) (Some fs) (subst (λ (s : SectionOf). NamesLines p t s.stated (Some es)) e h) g in
    let same : es ≡ fs = cc in
    same

shown_and_bare : OneLaw → NoneLaw → (p : Prog) (set : ℕ → Bool) (names : List Id) (sections : List SectionOf) (i : ℕ) (t : Place) → IsShown p set names sections i t → IsBare p set names sections i t → ⊥
shown_and_bare one none p set names sections i t s (inl e) =
    none_there (section_at t.implementation i sections) s.section e s.is_its
shown_and_bare one none p set names sections i t s (inr (inl b)) =
    let same : s.section ≡ b.section = one_there (section_at t.implementation i sections) s.section b.section s.is_its b.is_its in
    let bad : None ≡ Some s.lines = named_once p t b.section.stated None (Some s.lines) b.names_none (subst (λ (x : SectionOf). NamesLines p t x.stated (Some s.lines)) same s.names_them) in
    let b : ⊥ = cc in
    b
shown_and_bare one none p set names sections i t s (inr (inr (inl b))) =
    let same : s.section ≡ b.section = one_there (section_at t.implementation i sections) s.section b.section s.is_its b.is_its in
    let lines = same_lines p t s.section b.section s.lines b.lines same s.names_them b.names_them in
    let clauses : s.formula ≡ b.formula = one p t b.lines s.formula b.formula (subst (λ (es : List Line). HasOwnClauses p t es s.formula) lines s.is) b.is in
    let here : accepts_section b.formula set names b.section ≡ true =
    subst (λ (f : Formula). accepts_section f set names b.section ≡ true) clauses (subst (λ (x : SectionOf). accepts_section s.formula set names x ≡ true) same s.accepted) in
    both_ways (accepts_section b.formula set names b.section) here b.refused
shown_and_bare one none p set names sections i t s (inr (inr (inr b))) =
    let same : s.section ≡ b.section = one_there (section_at t.implementation i sections) s.section b.section s.is_its b.is_its in
    let lines = same_lines p t s.section b.section s.lines b.lines same s.names_them b.names_them in
    none p t b.lines s.formula b.operation (subst (λ (es : List Line). HasOwnClauses p t es s.formula) lines s.is) b.is

pub answered_so : OneLaw → NoneLaw → (p : r.Program) (c : CertOf) (a : AnswerOf) → IsAccepted p c → IsAnswer p c a → a ≡ Accepted
answered_so one none p c Accepted h g = refl
answered_so one none p c NoInterp h g = absurd (not_none c.interp h.axioms g)
answered_so one none p c (NotRetained name) h g = absurd (none_there _ name h.retained g.1)
answered_so one none p c (NotShown a) h g =
    let bare = g.1.1.1 in
    absurd (shown_and_bare one none (meaning_of p) _ p.candidates c.sections g.1.1.0 a.place (h.shown a.place.implementation g.1.1.0 a bare.required) bare.bare)
answered_so one none p c (NotRequired k i) h g = absurd (none_there _ g.1.1.1.0 h.no_other g.1.1.1.1.0)
