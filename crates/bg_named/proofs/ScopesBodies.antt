-- What a body sees is around it, where the numbers of names are those of declarations.
use Rattle.std.proofs.Common.{◌≡◌, ℕ, true, List, [], ◌++◌, map, length, Option, Some, sym, ap, ◌∙◌, arith, length-append}
use Rattle.std.specs.Prelude.{slice_get}
use Rattle.std.specs.Option.{option_map}
use Rattle.std.proofs.lemmas.List.{length-map}
use Rattle.std.proofs.lemmas.Option.{slice_get-map}
use Rattle.bg_base.specs.declared.pos.Pos.{Pos}
use Rattle.bg_text.specs.Trees as t
use Rattle.bg_ast.specs.Syntax as x
use Rattle.bg_ast.specs.Resolved as r
use Rattle.bg_ast.specs.Meaning.{named_of, decl_of, proc_of}
use Rattle.bg_names.specs.Spaces.{Scope, names_of, place, repeats, meaning}
use Rattle.bg_names.specs.declared.scope.Meaning.TheVariants as means
use Rattle.bg_bodies.specs.Bodies.{changes_at, or_none}
use Rattle.bg_spaces.specs.Declarations.{Spaces, text_of, param_ids, result_ids, result_groups}
use Rattle.bg_resolve.specs.Program.{frame_ids, local_ids, inside, named_code}
use Rattle.bg_sense.specs.Types.{types_of}
use Rattle.bg_sense.specs.Typed.{Around, sig_around}
use Rattle.bg_typed.specs.Programs.{around_in}
use Rattle.bg_named.specs.Numbers.{HasNumbers, procedure_id, changed}
use Rattle.bg_named.specs.Covers.{Covers, CoversBody}
use Rattle.bg_named.proofs.SpacesOnce.{names_are, names_short, repeats_front}
use Rattle.bg_named.proofs.SpacesCounts.{types_long, groups_long, locals_long}
use Rattle.bg_named.proofs.SpacesNumbers.{made_from}
use Rattle.bg_named.proofs.Scopes.{meaning_local, never_local, global_is, covers}
use Rattle.bg_named.proofs.ScopesSigs.{constants_long, globals_long, functions_long}

-- a declared procedure, and what it is known to change
pub record IsProcedure (g : Spaces) (p : r.Program) (k : ℕ) : Type 0 where
  pub procedure : r.Proc
  pub is_there : slice_get p.procedures k ≡ Some procedure
  pub changes : changes_at g.changes (Some k) ≡ procedure.modifies

pub procedure_at : (g : Spaces) (p : r.Program) → HasNumbers g p → (name : List ℕ) (k : ℕ) → place g.procedures name ≡ Some k → IsProcedure g p k
procedure_at g p h name k e =
    let id = h.procedures name k e in
    let found = made_from procedure_id p.procedures k id.0 id.1 in
    record {
      procedure = found.0;
      is_there = found.1;
      changes =
          ap (λ (l : List (List ℕ)). or_none (slice_get l k)) h.changes
          ∙ (ap or_none (slice_get-map changed p.procedures k)
          ∙ ap (λ (o : Option r.Proc). or_none (option_map changed o)) found.1);
    }

module _ (g : Spaces) (p : r.Program) (h : HasNumbers g p) (n : ℕ) (at : Pos) (q : t.Id) (s : t.Sig) (b : t.Body) (pr : r.Proc) where
  abbrev pub body_of : r.Impl
  body_of = named_code g n at q s b

  abbrev pub sees : Around
  sees = around_in p pr body_of

  abbrev scope : Scope
  scope = (inside g q s b).scope

  -- the implementation has as many parameters and results as the procedure
  pub record Fits : Type 0 where
    pub params : length body_of.params ≡ length pr.params
    pub results : length body_of.results ≡ length pr.results

  -- the frame is as long as the parameters, results and locals together
  frame_long : Fits → length (frame_ids s b) ≡ length (types_of sees.variables)
  frame_long f =
      let decl = decl_of (named_of p.types) in
      let params = f.params in
      let results = f.results in
      let ids = length-append (param_ids s ++ result_ids s) (local_ids b) in
      let first_ids = length-append (param_ids s) (result_ids s) in
      let ins = groups_long g s.params in
      let outs = groups_long g (result_groups s.results) in
      let locals = locals_long g b.locals in
      let types = types_long sees.variables in
      let all = length-append (map decl pr.params) (map decl pr.results ++ map decl body_of.locals) in
      let last = length-append (map decl pr.results) (map decl body_of.locals) in
      let in_decls = length-map pr.params decl in
      let out_decls = length-map pr.results decl in
      let local_decls = length-map body_of.locals decl in
      omega (arith, params, results, ids, first_ids, ins, outs, locals, types, all, last, in_decls, out_decls, local_decls)

  body_covered : Fits → Covers scope (sig_around sees)
  body_covered f =
      let short = names_short [] (frame_ids s b) in
      let long = frame_long f in
      covers
      g
      p
      h
      (names_of (frame_ids s b))
      true
      true
      (sig_around sees)
      (record {
        constants = constants_long p;
        globals = λ e. globals_long p;
        names = omega (arith, short, long);
        functions = functions_long p;
      })

  inputs_are : Fits → repeats [] (frame_ids s b) ≡ [] → (inside g q s b).inputs ≡ length sees.procedure.params
  inputs_are f apart =
      let params = f.params in
      let front = repeats_front [] (param_ids s) (result_ids s) (repeats_front [] (param_ids s ++ result_ids s) (local_ids b) apart) in
      let names : length (names_of (param_ids s)) ≡ length (map text_of (param_ids s)) = ap length (names_are (param_ids s) front) in
      let texts = length-map (param_ids s) text_of in
      let ins = groups_long g s.params in
      let decls = length-map pr.params (decl_of (named_of p.types)) in
      omega (arith, params, names, texts, ins, decls)

  procedures_are : (name : List ℕ) (k : ℕ) → place g.procedures name ≡ Some k → (d : x.Proc) × (slice_get sees.program.procedures k ≡ Some d) × (changes_at g.changes (Some k) ≡ d.modifies)
  procedures_are name k e =
      let found = procedure_at g p h name k e in
      let proc = proc_of (named_of p.types) in
      (proc found.procedure, slice_get-map proc p.procedures k ∙ ap (option_map proc) found.is_there, found.changes)

  globals_apart : (y z : List ℕ) (k : ℕ) → meaning scope y ≡ means.Global k → meaning scope z ≡ means.Global k → y ≡ z
  globals_apart y z k hy hz =
      let one = global_is g p h (names_of (frame_ids s b)) true true y k hy in
      let other = global_is g p h (names_of (frame_ids s b)) true true z k hz in
      let same : one.0 ≡ other.0 = (let whole : Some one.0 ≡ Some other.0 = sym one.1 ∙ other.1 in cc) in
      sym one.2 ∙ (ap text_of same ∙ other.2)

  pub covers_body : Fits → repeats [] (frame_ids s b) ≡ [] → changes_at g.changes (place g.procedures q.text) ≡ pr.modifies → CoversBody (inside g q s b) sees
  covers_body f apart changes =
      record {
        names = body_covered f;
        apart = globals_apart;
        places = λ y k e. meaning_local scope y k (never_local g p h y) e;
        inputs = inputs_are f apart;
        modifies = changes;
        procedures = procedures_are;
      }
