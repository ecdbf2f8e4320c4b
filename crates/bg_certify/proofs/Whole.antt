-- What is written of an outcome, whatever true program it is of.
use Rattle.std.proofs.Common.{◌≡◌, ℕ, Bool, true, List, [], ◌∷◌, ◌++◌, length, map, drop, refl, sym, ap, ◌∙◌, subst}
use Rattle.bg_ast.specs.Resolved as r
use Rattle.bg_ast.specs.Values.{Ty}
use Rattle.bg_ast.specs.Views.{program_of}
use Rattle.bg_tree.specs.declared.outcome.Budget.{Budget}
use Rattle.bg_houdini.specs.Outcomes as houdini
use Rattle.bg_opened.specs.Written.{global_for, bodiless}
use Rattle.bg_inference.specs.declared.outcome.Outcome.{Outcome}
use Rattle.bg_inference.specs.Outcomes.{has_body, judged_program, IsTrueOutcome}
use Rattle.bg_meant.specs.Once.{AreOnce}
use Rattle.bg_certtext.specs.Views.{CertOf}
use Rattle.bg_certify.specs.Names.{text_in, names_in, HasOwnNames}
use Rattle.bg_certify.specs.Spelled.{rows}
use Rattle.bg_certify.specs.Given.{NamesOf, HeadOf, interp_by, type_names, constant_names, constant_types, declared_names, declared_types, head_of, heads}
use Rattle.bg_certify.specs.Read as read
use Rattle.bg_certify.specs.Written.{HasSections, IsWritten, IsTrueOf, names_of}
use Rattle.bg_certify.proofs.Giving.{same_names, same_types}
use Rattle.bg_certify.proofs.Rightly.{PlacedLaw, InsideLaw, AboveLaw, certs_of, has_sections, verdict_count}

drop_front : {A : Type 0} (xs ys : List A) → drop (length xs) (xs ++ ys) ≡ ys
drop_front [] ys = refl
drop_front (x ∷ xs) ys = drop_front xs ys

functions_alike : (types : List r.TypeName) (fs : List r.Fun) → heads types (map bodiless fs) ≡ heads types fs
functions_alike types [] = refl
functions_alike types (f ∷ fs) = ap (λ (l : List HeadOf). head_of types f ∷ l) (functions_alike types fs)

-- the variables behind the globals stand for the constants
constants_alike : (p : r.Program) (o : Outcome) → program_of o.opened ≡ judged_program p → o.globals ≡ length p.globals → read.constants_in o ≡ map global_for p.constants
constants_alike p o e n =
    ap (λ (k : ℕ). drop k (program_of o.opened).globals) n
    ∙ (ap (λ (q : r.Program). drop (length p.globals) q.globals) e
    ∙ drop_front p.globals (map global_for p.constants))

-- names and types of what is declared
abbrev named : List r.TypeName → List r.Declared → List r.Fun → List Bool → NamesOf
named ts ds fs bs =
    record { types = type_names ts; constants = declared_names ds; constant_types = declared_types ts ds; functions = heads ts fs; bodies = bs }

abbrev made : r.Program → List (List ℕ) → List Ty → List HeadOf → NamesOf
made p ns us fs =
    record { types = type_names p.types; constants = ns; constant_types = us; functions = fs; bodies = map has_body p.functions }

-- an outcome has the names of its program
same_names_in : (keeps : Bool) (budget : Budget) (p : r.Program) (o : Outcome) → IsTrueOutcome keeps budget p o → read.names_in o ≡ names_of p
same_names_in keeps budget p o h =
    let alike = constants_alike p o h.opened h.globals in
    let types : (program_of o.opened).types ≡ p.types = ap (λ (q : r.Program). q.types) h.opened in
    let functions : (program_of o.opened).functions ≡ map bodiless p.functions = ap (λ (q : r.Program). q.functions) h.opened in
    ap (λ (ts : List r.TypeName). named ts (read.constants_in o) (program_of o.opened).functions o.bodies.items) types
    ∙ (ap (λ (ds : List r.Declared). named p.types ds (program_of o.opened).functions o.bodies.items) alike
    ∙ (ap (λ (fs : List r.Fun). named p.types (map global_for p.constants) fs o.bodies.items) functions
    ∙ (ap (λ (bs : List Bool). named p.types (map global_for p.constants) (map bodiless p.functions) bs) h.bodies
    ∙ (ap (λ (ns : List (List ℕ)). made p ns (declared_types p.types (map global_for p.constants)) (heads p.types (map bodiless p.functions))) (same_names p.constants)
    ∙ (ap (λ (us : List Ty). made p (constant_names p.constants) us (heads p.types (map bodiless p.functions))) (same_types p.types p.constants)
    ∙ ap (λ (fs : List HeadOf). made p (constant_names p.constants) (constant_types p.types p.constants) fs) (functions_alike p.types p.functions))))))

-- what is true of the opened program is true of the one that the outcome has
true_opened : (keeps : Bool) (budget : Budget) (p : r.Program) (o : Outcome) → IsTrueOutcome keeps budget p o → houdini.IsTrueOutcome keeps budget (program_of o.opened) o.judged
true_opened keeps budget p o h =
    subst (λ (q : r.Program). houdini.IsTrueOutcome keeps budget q o.judged) (sym h.opened) h.judged

pub written : PlacedLaw → InsideLaw → AboveLaw → (p : r.Program) (o : Outcome) → IsTrueOf p o → HasOwnNames p → (c : CertOf) →
    c.interp ≡ interp_by (read.names_in o) o.axioms → c.retained ≡ names_in o.judged.inferred.retained (program_of o.opened).candidates →
    c.sections ≡ rows (program_of o.opened).candidates 0 (certs_of (program_of o.opened) o.judged) → IsWritten p o c
written placed_law inside_law above_law p o h once c interp names sections =
    let same = h.1.opened in
    let own : AreOnce (map text_in (program_of o.opened).candidates) =
    subst (λ (q : r.Program). AreOnce (map text_in q.candidates)) (sym same) once in
    record {
      interp = interp ∙ ap (λ (ns : NamesOf). interp_by ns o.axioms) (same_names_in true h.0 p o h.1);
      sections =
          subst (λ (q : r.Program). HasSections q o.judged c) same
          (has_sections placed_law inside_law above_law h.0 (program_of o.opened) o.judged (true_opened true h.0 p o h.1) own c names sections);
    }

-- as many lists of verdicts as implementations, and as many marks as candidates
pub verdicts_counted : (o : Outcome) → ((p : r.Program) × IsTrueOf p o) → length o.judged.verdicts.items ≡ length (program_of o.opened).implementations
verdicts_counted o h = verdict_count true h.1.0 (program_of o.opened) o.judged (true_opened true h.1.0 h.0 o h.1.1)

pub marks_counted : (o : Outcome) → ((p : r.Program) × IsTrueOf p o) → length o.judged.inferred.retained ≡ length (program_of o.opened).candidates
marks_counted o h = (true_opened true h.1.0 h.0 o h.1.1).inferred.count
