-- A program without faults of names has the names that types rely on.
use Rattle.std.proofs.Common.{◌≡◌, ℕ, ◌+◌, false, List, [], ◌∷◌, ◌++◌, flat_map, Option, Some, None, refl, ap, ◌∙◌}
use Rattle.std.specs.Prelude.{slice_get}
use Rattle.bg_base.specs.declared.pos.Pos.{Pos}
use Rattle.bg_text.specs.Trees as t
use Rattle.bg_text.specs.Types.{All as Each, IfThere}
use Rattle.bg_text.specs.Declarations.{IsDecl, IsBody}
use Rattle.bg_text.specs.Views.{option_of}
use Rattle.bg_ast.specs.Resolved as r
use Rattle.bg_ast.specs.Meaning.{meaning_of}
use Rattle.bg_names.specs.Spaces.{place, or_zero, repeats, use_faults}
use Rattle.bg_names.specs.Exprs.{named_ex}
use Rattle.bg_names.specs.Clauses.{clause_faults, says_of}
use Rattle.bg_bodies.specs.Bodies.{changes_at, sts_faults, sts_labels}
use Rattle.bg_spaces.specs.Declarations.{Spaces, spaces_of, sig_faults, named_requires, named_ensures, specs_count}
use Rattle.bg_resolve.specs.Program.{function_scope, body_faults, vars_faults, requires_scope, ensures_scope, spec_faults, frame_ids, inside, code_faults, option_faults, procedure_faults, axiom_scope, plain_faults, named_axioms, named_function, named_functions, named_procedure, named_procedures, named_code, named_option, named_implementations, named}
use Rattle.bg_typed.specs.Naming.{IsNamed}
use Rattle.bg_typed.specs.Programs.{IsNamedPlain, IsNamedBody, IsNamedFunction, IsNamedProcedure, IsNamedImplementation, IsNamedProgram, axiom_sig, body_sig, requires_sig, ensures_sig, function_in, procedure_in, around_in}
use Rattle.bg_named.proofs.Exprs.{named_expression}
use Rattle.bg_named.proofs.ExprsOld.{plain_expression}
use Rattle.bg_named.proofs.Stmts.{named_statements}
use Rattle.bg_named.specs.Numbers.{HasNumbers}
use Rattle.bg_named.proofs.SpacesOnce.{empty_parts}
use Rattle.bg_named.proofs.SpacesNumbers.{has_numbers}
use Rattle.bg_named.proofs.SpacesPlaces.{has_place, used}
use Rattle.bg_named.proofs.ScopesSigs.{axiom_covered, function_covered, requires_covered, ensures_covered}
use Rattle.bg_named.proofs.ScopesBodies.{procedure_at, covers_body}
use Rattle.bg_named.proofs.ProgramsEach.{Known, each_all, gathered, gathered_in_turn, once_of, all_known}

module _ (spaces : Spaces) (program : r.Program) (numbers : HasNumbers spaces program) where
  axioms_named : (d : t.Decl) → Known spaces d → Each (IsNamedPlain (axiom_sig (meaning_of program))) (named_axioms spaces d)
  axioms_named (t.Types p attrs es) k = tt
  axioms_named (t.Constants c) k = tt
  axioms_named (t.Function f) k = tt
  axioms_named (t.Axiom p attrs e) k = (
    (
      named_expression (axiom_scope spaces) (axiom_sig (meaning_of program)) e (axiom_covered spaces program numbers) k.faultless,
      plain_expression (axiom_scope spaces) e refl k.faultless,
    ),
    tt,
  )
  axioms_named (t.Globals v) k = tt
  axioms_named (t.Procedure q) k = tt
  axioms_named (t.Implementation m) k = tt

  body_named : (f : t.Fun) (o : Option t.Ex) → body_faults (function_scope spaces f) o ≡ [] → IsNamedBody (body_sig (meaning_of program) (function_in program (named_function spaces f))) (option_of (named_ex (function_scope spaces f)) o)
  body_named f None h = tt
  body_named f (Some e) h = (
    named_expression
        (function_scope spaces f)
        (body_sig (meaning_of program) (function_in program (named_function spaces f)))
        e
        (function_covered spaces program numbers f)
        h,
    plain_expression (function_scope spaces f) e refl h,
  )

  functions_named : (d : t.Decl) → Known spaces d → Each (IsNamedFunction program) (named_functions spaces d)
  functions_named (t.Types p attrs es) k = tt
  functions_named (t.Constants c) k = tt
  functions_named (t.Function f) k =
      (body_named f f.body (empty_parts _ (body_faults (function_scope spaces f) f.body) k.faultless).1, tt)
  functions_named (t.Axiom p attrs e) k = tt
  functions_named (t.Globals v) k = tt
  functions_named (t.Procedure q) k = tt
  functions_named (t.Implementation m) k = tt

  requires_named : (m : ℕ) (q : t.Proc) (n : ℕ) (specs : List t.Spec) → flat_map (spec_faults spaces q.sig) specs ≡ [] → Each (λ k. IsNamedPlain (requires_sig (meaning_of program) (procedure_in program (named_procedure spaces m q))) k.says) (named_requires (requires_scope spaces q.sig) n specs)
  requires_named m q n [] h = tt
  requires_named m q n (t.Requires k ∷ specs) h =
      let s = requires_scope spaces q.sig in
      let parts = empty_parts (clause_faults s k) (flat_map (spec_faults spaces q.sig) specs) h in
      let sig = requires_sig (meaning_of program) (procedure_in program (named_procedure spaces m q)) in (
        (named_expression s sig (says_of s k) (requires_covered spaces program numbers m q) parts.0, plain_expression s (says_of s k) refl parts.0),
        requires_named m q (n + 1) specs parts.1,
      )
  requires_named m q n (t.Ensures k ∷ specs) h =
      requires_named m q (n + 1) specs (empty_parts (spec_faults spaces q.sig (t.Ensures k)) (flat_map (spec_faults spaces q.sig) specs) h).1
  requires_named m q n (t.Modifies p xs ∷ specs) h =
      requires_named m q n specs (empty_parts (spec_faults spaces q.sig (t.Modifies p xs)) (flat_map (spec_faults spaces q.sig) specs) h).1

  ensures_named : (m : ℕ) (q : t.Proc) (n : ℕ) (specs : List t.Spec) → flat_map (spec_faults spaces q.sig) specs ≡ [] → Each (λ k. IsNamed (ensures_sig (meaning_of program) (procedure_in program (named_procedure spaces m q))) k.says) (named_ensures (ensures_scope spaces q.sig) n specs)
  ensures_named m q n [] h = tt
  ensures_named m q n (t.Requires k ∷ specs) h =
      ensures_named m q (n + 1) specs (empty_parts (spec_faults spaces q.sig (t.Requires k)) (flat_map (spec_faults spaces q.sig) specs) h).1
  ensures_named m q n (t.Ensures k ∷ specs) h =
      let s = ensures_scope spaces q.sig in
      let parts = empty_parts (clause_faults s k) (flat_map (spec_faults spaces q.sig) specs) h in
      let sig = ensures_sig (meaning_of program) (procedure_in program (named_procedure spaces m q)) in
      (named_expression s sig (says_of s k) (ensures_covered spaces program numbers m q) parts.0, ensures_named m q (n + 1) specs parts.1)
  ensures_named m q n (t.Modifies p xs ∷ specs) h =
      ensures_named m q n specs (empty_parts (spec_faults spaces q.sig (t.Modifies p xs)) (flat_map (spec_faults spaces q.sig) specs) h).1

  procedure_named : (n : ℕ) (q : t.Proc) → procedure_faults spaces q ≡ [] → IsNamedProcedure program (named_procedure spaces n q)
  procedure_named n q h =
      let front = empty_parts (sig_faults spaces q.sig ++ flat_map (spec_faults spaces q.sig) q.specs) (option_faults spaces q.name q.sig q.body) h in
      let specs = (empty_parts (sig_faults spaces q.sig) (flat_map (spec_faults spaces q.sig) q.specs) front.0).1 in
      record {
        requires_ = each_all _ _ (requires_named n q n q.specs specs);
        ensures_ = each_all _ _ (ensures_named n q n q.specs specs);
      }

  procedures_named : (n : ℕ) (d : t.Decl) → Known spaces d → Each (IsNamedProcedure program) (named_procedures spaces n d)
  procedures_named n (t.Types p attrs es) k = tt
  procedures_named n (t.Constants c) k = tt
  procedures_named n (t.Function f) k = tt
  procedures_named n (t.Axiom p attrs e) k = tt
  procedures_named n (t.Globals v) k = tt
  procedures_named n (t.Procedure q) k = (procedure_named n q k.faultless, tt)
  procedures_named n (t.Implementation m) k = tt

  code_named : (n : ℕ) (p : Pos) (q : t.Id) (s : t.Sig) (b : t.Body) (k : ℕ) → place spaces.procedures q.text ≡ Some k → IsBody b → code_faults spaces q s b ≡ [] → IsNamedImplementation program (named_code spaces n p q s b)
  code_named n p q s b k at grammar h =
      let found = procedure_at spaces program numbers q.text k at in
      let locals = flat_map (vars_faults spaces) b.locals in
      let labels = repeats [] (sts_labels b.stmts) in
      let stmts = sts_faults (inside spaces q s b) [] false [] [] b.stmts in
      let last = empty_parts ((repeats [] (frame_ids s b) ++ locals) ++ labels) stmts h in
      let middle = empty_parts (repeats [] (frame_ids s b) ++ locals) labels last.0 in
      let first = empty_parts (repeats [] (frame_ids s b)) locals middle.0 in
      record {
        procedure = found.procedure;
        is_there = ap (λ (o : Option ℕ). slice_get program.procedures (or_zero o)) at ∙ found.is_there;
        body = λ hp hr.
            named_statements
            (inside spaces q s b)
            (around_in program found.procedure (named_code spaces n p q s b))
            n
            b.stmts
            (covers_body spaces program numbers n p q s b found.procedure (record { params = hp; results = hr }) first.0 (ap (changes_at spaces.changes) at ∙ found.changes))
            grammar.1
            last.1;
      }

  option_named : (n : ℕ) (q : t.Proc) (o : Option t.Body) (k : ℕ) → place spaces.procedures q.name.text ≡ Some k → IfThere IsBody o → option_faults spaces q.name q.sig o ≡ [] → Each (IsNamedImplementation program) (named_option spaces n q.pos q.name q.sig o)
  option_named n q None k at grammar h = tt
  option_named n q (Some b) k at grammar h = (code_named n q.pos q.name q.sig b k at grammar h, tt)

  implementations_named : (n : ℕ) (d : t.Decl) → Known spaces d → Each (IsNamedImplementation program) (named_implementations spaces n d)
  implementations_named n (t.Types p attrs es) k = tt
  implementations_named n (t.Constants c) k = tt
  implementations_named n (t.Function f) k = tt
  implementations_named n (t.Axiom p attrs e) k = tt
  implementations_named n (t.Globals v) k = tt
  implementations_named n (t.Procedure q) k =
      let at = has_place spaces.procedures q.name.text k.declared.0 in
      let parts = empty_parts (sig_faults spaces q.sig ++ flat_map (spec_faults spaces q.sig) q.specs) (option_faults spaces q.name q.sig q.body) k.faultless in
      option_named (n + specs_count q.specs) q q.body at.0 at.1 k.grammar.3 parts.1
  implementations_named n (t.Implementation m) k =
      let last = empty_parts (use_faults spaces.procedures m.name ++ sig_faults spaces m.sig) (code_faults spaces m.name m.sig m.body) k.faultless in
      let first = empty_parts (use_faults spaces.procedures m.name) (sig_faults spaces m.sig) last.0 in
      let at = used spaces.procedures m.name first.0 in
      (code_named n m.pos m.name m.sig m.body at.0 at.1 k.grammar.2 last.1, tt)

pub named_program : (ds : List t.Decl) → Each IsDecl ds → plain_faults ds ≡ [] → IsNamedProgram (named ds)
named_program ds grammar h =
    let g = spaces_of ds in
    let p = named ds in
    let numbers = has_numbers ds (once_of ds h) in
    let known = all_known ds grammar h in
    record {
      axioms = each_all _ _ (gathered _ (Known g) (named_axioms g) (axioms_named g p numbers) ds known);
      functions = each_all _ _ (gathered _ (Known g) (named_functions g) (functions_named g p numbers) ds known);
      procedures = each_all _ _ (gathered_in_turn _ (Known g) (named_procedures g) (procedures_named g p numbers) 0 ds known);
      implementations = each_all _ _ (gathered_in_turn _ (Known g) (named_implementations g) (implementations_named g p numbers) 0 ds known);
    }
