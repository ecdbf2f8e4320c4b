-- A program without faults of names and types is typed.
use Rattle.std.proofs.Common.{◌≡◌, ℕ, true, List, [], ◌++◌, map, Option, Some, slice_get, slice_index_or, All, refl, ap, ◌∙◌, subst}
use Rattle.std.proofs.lemmas.List.Elements.{All-map}
use Rattle.std.proofs.lemmas.Option.{slice_get-map}
use Rattle.std.specs.Option.{option_map}
use Rattle.bg_ast.specs.Values as v
use Rattle.bg_ast.specs.Syntax as x
use Rattle.bg_ast.specs.Resolved as r
use Rattle.bg_ast.specs.Meaning as m
use Rattle.bg_sense.specs.Typing.{sig_in}
use Rattle.bg_sense.specs.Typed.{sig_around, IsTypedProc, IsTypedImpl, IsTyped}
use Rattle.bg_kinds.specs.Faults.{is_none}
use Rattle.bg_kinds.specs.Kinds.{Kind, type_faults}
use Rattle.bg_typing.specs.Sides.{Shape, Scope, matched_faults}
use Rattle.bg_typing.specs.Stmts.{truths_faults, clauses_faults, sts_faults}
use Rattle.bg_types.specs.Programs.{declared_kinds, function_shape, procedure_shape, written_faults, declared_faults, shape_faults, functions_faults, two_lists_faults, procedures_faults, frame_faults, implementations_faults, frame_kinds, scope_in, with_frame, without_globals, body_faults, bodies_faults, specification_faults, specifications_faults, declared_sides, matching_faults, implementation_faults, impls_faults, types_part, bodies_part}
use Rattle.bg_types.specs.Verdicts.{IsWellTyped}
use Rattle.bg_typed.specs.Programs.{IsNamedFunction, IsNamedProcedure, IsNamedImplementation, IsNamedProgram, around_in, procedure_in, axiom_sig, requires_sig, ensures_sig}
use Rattle.bg_typed.proofs.Bits.{split_none}
use Rattle.bg_typed.proofs.Declared.{frame_is, short_frame_is, declared_are, written_are, matched_same}
use Rattle.bg_typed.proofs.Declarations.{all_at, each_at, no_wheres, plain_formulas, plain_clauses, said_clauses, IsTypedBody, function_typed}
use Rattle.bg_typed.proofs.Fitting.{HasTypes, has_types, matches_frame, matches_axioms, matches_body, matches_around}
use Rattle.bg_typed.proofs.Statements.{sts_typed}

slice_get_map : {A B : Type 0} (f : A → B) (xs : List A) (i : ℕ) (x : A) → slice_get xs i ≡ Some x → slice_get (map f xs) i ≡ Some (f x)
slice_get_map f xs i x h = slice_get-map f xs i ∙ ap (option_map f) h

module _ (named : ℕ → Kind) (p : r.Program) (t : HasTypes named p) where
  abbrev n : ℕ → v.Ty
  n = m.named_of p.types

  abbrev scope : Scope
  scope = scope_in named p

  abbrev program : x.Prog
  program = m.meaning_of p

  -- ---- functions
  function_at : (f : r.Fun) → IsNamedFunction p f → is_none (shape_faults named f) ≡ true → is_none (body_faults scope (function_shape named f) f.body) ≡ true → IsTypedBody program (m.fun_of n f)
  function_at f i h e =
      let parts = split_none (written_faults named f.params) (type_faults named f.result) h in
      let params = written_are named n t.stands f.params parts.0 in
      function_typed named n scope program f (t.stands f.result parts.1) (matches_body named p t (function_shape named f).params (m.fun_of n f) params) i e

  pub functions_typed : All (IsNamedFunction p) p.functions → is_none (bodies_faults named scope p.functions) ≡ true → All (IsTypedBody program) program.functions
  functions_typed i e =
      All-map (IsTypedBody program) (m.fun_of n) p.functions (λ k d h.
      function_at (slice_index_or p.functions k d) (i k d h)
      (each_at (functions_faults named) (shape_faults named) (λ f fs. refl) p.functions k d h t.functions)
      (each_at (bodies_faults named scope) (λ f. body_faults scope (function_shape named f) f.body) (λ f fs. refl) p.functions k d h e))

  -- ---- procedures
  procedure_at : (q : r.Proc) → IsNamedProcedure p q → is_none (two_lists_faults named q.params q.results) ≡ true → is_none (specification_faults named scope q) ≡ true → IsTypedProc program (m.proc_of n q)
  procedure_at q i h e =
      let types = split_none (declared_faults named q.params) (declared_faults named q.results) h in
      let params = declared_are named n t.stands q.params types.0 in
      let results = declared_are named n t.stands q.results types.1 in
      let before = with_frame scope (declared_kinds named q.params) in
      let behind = with_frame scope (frame_kinds named q.params q.results []) in
      let clauses = split_none (clauses_faults before q.requires_) (clauses_faults behind q.ensures_) e in
      let frame = short_frame_is (map (m.decl_of n) q.params) (map (m.decl_of n) q.results) (declared_kinds named q.params) (declared_kinds named q.results) params results in
      let first = requires_sig program (procedure_in p q) in
      let last = ensures_sig program (procedure_in p q) in
      record {
        params = no_wheres first n q.params;
        results = no_wheres last n q.results;
        requires_ = plain_clauses before first (matches_frame named p t (declared_kinds named q.params) (map (m.decl_of n) q.params) params) q.requires_ i.requires_ clauses.0;
        ensures_ = said_clauses behind last (matches_frame named p t (frame_kinds named q.params q.results []) (map (m.decl_of n) q.params ++ map (m.decl_of n) q.results) frame) q.ensures_ i.ensures_ clauses.1;
      }

  pub procedures_typed : All (IsNamedProcedure p) p.procedures → is_none (specifications_faults named scope p.procedures) ≡ true → All (IsTypedProc program) program.procedures
  procedures_typed i e =
      All-map (IsTypedProc program) (m.proc_of n) p.procedures (λ k d h.
      procedure_at (slice_index_or p.procedures k d) (i k d h)
      (each_at (procedures_faults named) (λ q. two_lists_faults named q.params q.results) (λ q qs. refl) p.procedures k d h t.procedures)
      (each_at (specifications_faults named scope) (specification_faults named scope) (λ q qs. refl) p.procedures k d h e))

  -- ---- implementations
  matching_is : (k : r.Impl) (q : r.Proc) → slice_get p.procedures k.procedure ≡ Some q → is_none (matching_faults named (slice_get scope.procedures k.procedure) k) ≡ true → is_none (matching_faults named (Some (procedure_shape named q)) k) ≡ true
  matching_is k q is e = subst (λ (o : Option Shape). is_none (matching_faults named o k) ≡ true) (slice_get_map (procedure_shape named) p.procedures k.procedure q is) e

  procedure_there : (j : ℕ) (q : r.Proc) → slice_get p.procedures j ≡ Some q → is_none (two_lists_faults named q.params q.results) ≡ true
  procedure_there j q is =
      all_at (λ (q : r.Proc). is_none (two_lists_faults named q.params q.results) ≡ true) p.procedures j q (λ k d h. each_at (procedures_faults named) (λ q. two_lists_faults named q.params q.results) (λ q qs. refl) p.procedures k d h t.procedures) is

  implementation_at : (k : r.Impl) → IsNamedImplementation p k → is_none (frame_faults named k.params k.results k.locals) ≡ true → is_none (implementation_faults named scope k) ≡ true → IsTypedImpl program (m.impl_of n k)
  implementation_at k i h e =
      let q = i.procedure in
      let two = two_lists_faults named k.params k.results in
      let types = split_none two (declared_faults named k.locals) h in
      let given = split_none (declared_faults named k.params) (declared_faults named k.results) types.0 in
      let wanted = split_none (declared_faults named q.params) (declared_faults named q.results) (procedure_there k.procedure q i.is_there) in
      let frame = frame_kinds named k.params k.results k.locals in
      let parts = split_none (matching_faults named (slice_get scope.procedures k.procedure) k) (sts_faults (with_frame scope frame) k.body) e in
      let matched = split_none (matched_faults k.name.pos (declared_kinds named q.params) (declared_sides named k.params)) (matched_faults k.name.pos (declared_kinds named q.results) (declared_sides named k.results)) (matching_is k q i.is_there parts.0) in
      let params = matched_same named n t.stands k.name.pos q.params k.params wanted.0 given.0 matched.0 in
      let results = matched_same named n t.stands k.name.pos q.results k.results wanted.1 given.1 matched.1 in
      let locals = declared_are named n t.stands k.locals types.1 in
      let w = around_in p q k in
      let whole = frame_is (map (m.decl_of n) q.params) (map (m.decl_of n) q.results) (map (m.decl_of n) k.locals) (declared_kinds named k.params) (declared_kinds named k.results) (declared_kinds named k.locals) params.kinds results.kinds locals in
      record {
        procedure = procedure_in p q;
        is_there = slice_get_map (m.proc_of n) p.procedures k.procedure q i.is_there;
        locals = no_wheres (sig_around w) n k.locals;
        body = sts_typed (with_frame scope frame) w (matches_around named p t frame w refl (matches_frame named p t frame w.variables whole)) [] [] k.body (i.body params.long results.long) parts.1;
      }

  pub implementations_typed : All (IsNamedImplementation p) p.implementations → is_none (impls_faults named scope p.implementations) ≡ true → All (IsTypedImpl program) program.implementations
  implementations_typed i e =
      All-map (IsTypedImpl program) (m.impl_of n) p.implementations (λ k d h.
      implementation_at (slice_index_or p.implementations k d) (i k d h)
      (each_at (implementations_faults named) (λ k. frame_faults named k.params k.results k.locals) (λ k ks. refl) p.implementations k d h t.implementations)
      (each_at (impls_faults named scope) (implementation_faults named scope) (λ k ks. refl) p.implementations k d h e))

pub program_typed : (p : r.Program) → IsNamedProgram p → IsWellTyped p → IsTyped (m.meaning_of p)
program_typed p i w =
    let named = w.named in
    let t = has_types p w in
    let program = m.meaning_of p in
    let scope = scope_in named p in
    let implementations = impls_faults named scope p.implementations in
    let procedures = specifications_faults named scope p.procedures ++ implementations in
    let axioms = truths_faults (without_globals scope []) p.axioms ++ procedures in
    let whole = split_none (types_part named p) (bodies_part named scope p) (ap is_none w.none) in
    let a = split_none (bodies_faults named scope p.functions) axioms whole.1 in
    let b = split_none (truths_faults (without_globals scope []) p.axioms) procedures a.1 in
    let c = split_none (specifications_faults named scope p.procedures) implementations b.1 in
    let functions = functions_typed named p t i.functions a.0 in
    record {
      globals = no_wheres (sig_in program []) (m.named_of p.types) p.globals;
      axioms = plain_formulas (without_globals scope []) (axiom_sig program) (matches_axioms named p t) p.axioms i.axioms b.0;
      bodies = λ f fn e h k. (all_at (IsTypedBody program) program.functions f fn functions h e k).0;
      plain_bodies = λ f fn e h k. (let body = all_at (IsTypedBody program) program.functions f fn functions h e k in (body.1, body.2));
      procedures = procedures_typed named p t i.procedures c.0;
      implementations = implementations_typed named p t i.implementations c.1;
    }
