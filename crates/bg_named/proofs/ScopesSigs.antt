-- Each scope is covered by the signature of what stands in it, where the numbers of names are those of declarations.
use Rattle.std.proofs.Common.{◌≡◌, ℕ, ◌≤◌, true, false, List, [], ◌∷◌, ◌++◌, map, flat_map, length, Option, Some, None, refl, ap, ◌∙◌, arith, length-append}
use Rattle.std.proofs.lemmas.List.{length-map}
use Rattle.bg_text.specs.Trees as t
use Rattle.bg_ast.specs.Resolved as r
use Rattle.bg_ast.specs.Meaning.{meaning_of, named_of, type_in, decl_of, const_of, fun_of}
use Rattle.bg_names.specs.Spaces.{names_of}
use Rattle.bg_spaces.specs.Declarations.{Spaces, param_ids, result_ids, result_groups, named_groups}
use Rattle.bg_resolve.specs.Program.{arg_ids, arg_type, axiom_scope, function_scope, requires_scope, ensures_scope, named_function, named_procedure}
use Rattle.bg_sense.specs.Types.{types_of, const_types}
use Rattle.bg_typed.specs.Programs.{axiom_sig, body_sig, requires_sig, ensures_sig, function_in, procedure_in}
use Rattle.bg_named.specs.Numbers.{HasNumbers}
use Rattle.bg_named.specs.Covers.{Covers}
use Rattle.bg_named.proofs.SpacesOnce.{names_short}
use Rattle.bg_named.proofs.SpacesCounts.{types_long, const_types_long, groups_long}
use Rattle.bg_named.proofs.Scopes.{covers}

one_name : (a : t.FunArg) (o : Option t.Id) → a.name ≡ o → length (arg_ids a) ≤ 1
one_name a None e =
    let none : arg_ids a ≡ arg_ids (record a { name = None }) = ap (λ (n : Option t.Id). arg_ids (record a { name = n })) e in
    let long : length (arg_ids a) ≡ 0 = ap length none in
    omega (arith, long)
one_name a (Some x) e =
    let one : arg_ids a ≡ arg_ids (record a { name = Some x }) = ap (λ (n : Option t.Id). arg_ids (record a { name = n })) e in
    let long : length (arg_ids a) ≡ 1 = ap length one in
    omega (arith, long)

-- a function has no more names of arguments than arguments
args_short : (xs : List t.FunArg) → length (flat_map arg_ids xs) ≤ length xs
args_short [] = omega arith
args_short (a ∷ xs) =
    let one = one_name a a.name refl in
    let rest = args_short xs in
    let both = length-append (arg_ids a) (flat_map arg_ids xs) in
    omega (arith, one, rest, both)

pub constants_long : (p : r.Program) → length (const_types (meaning_of p).constants) ≡ length p.constants
constants_long p = const_types_long (meaning_of p).constants ∙ length-map p.constants (const_of (named_of p.types))

pub globals_long : (p : r.Program) → length (types_of (meaning_of p).globals) ≡ length p.globals
globals_long p = types_long (meaning_of p).globals ∙ length-map p.globals (decl_of (named_of p.types))

pub functions_long : (p : r.Program) → length (meaning_of p).functions ≡ length p.functions
functions_long p = length-map p.functions (fun_of (named_of p.types))

module _ (g : Spaces) (p : r.Program) (h : HasNumbers g p) where
  pub axiom_covered : Covers (axiom_scope g) (axiom_sig (meaning_of p))
  axiom_covered =
      covers
      g
      p
      h
      []
      false
      false
      (axiom_sig (meaning_of p))
      (record {
        constants = constants_long p;
        globals = λ e. absurd (let bad : false ≡ true = e in cc);
        names = omega arith;
        functions = functions_long p;
      })

  pub function_covered : (f : t.Fun) → Covers (function_scope g f) (body_sig (meaning_of p) (function_in p (named_function g f)))
  function_covered f =
      let short = names_short [] (flat_map arg_ids f.args) in
      let args = args_short f.args in
      let types = length-map f.args (arg_type g) in
      let kinds = length-map (map (arg_type g) f.args) (type_in (named_of p.types)) in
      covers
      g
      p
      h
      (names_of (flat_map arg_ids f.args))
      false
      false
      (body_sig (meaning_of p) (function_in p (named_function g f)))
      (record {
        constants = constants_long p;
        globals = λ e. absurd (let bad : false ≡ true = e in cc);
        names = omega (arith, short, args, types, kinds);
        functions = functions_long p;
      })

  pub requires_covered : (n : ℕ) (q : t.Proc) → Covers (requires_scope g q.sig) (requires_sig (meaning_of p) (procedure_in p (named_procedure g n q)))
  requires_covered n q =
      let ins = named_groups g q.sig.params in
      let short = names_short [] (param_ids q.sig) in
      let groups = groups_long g q.sig.params in
      let decls = length-map ins (decl_of (named_of p.types)) in
      let types = types_long (map (decl_of (named_of p.types)) ins) in
      covers
      g
      p
      h
      (names_of (param_ids q.sig))
      true
      false
      (requires_sig (meaning_of p) (procedure_in p (named_procedure g n q)))
      (record {
        constants = constants_long p;
        globals = λ e. globals_long p;
        names = omega (arith, short, groups, decls, types);
        functions = functions_long p;
      })

  pub ensures_covered : (n : ℕ) (q : t.Proc) → Covers (ensures_scope g q.sig) (ensures_sig (meaning_of p) (procedure_in p (named_procedure g n q)))
  ensures_covered n q =
      let ins = named_groups g q.sig.params in
      let outs = named_groups g (result_groups q.sig.results) in
      let decl = decl_of (named_of p.types) in
      let short = names_short [] (param_ids q.sig ++ result_ids q.sig) in
      let ids = length-append (param_ids q.sig) (result_ids q.sig) in
      let in_groups = groups_long g q.sig.params in
      let out_groups = groups_long g (result_groups q.sig.results) in
      let in_decls = length-map ins decl in
      let out_decls = length-map outs decl in
      let both = length-append (map decl ins) (map decl outs) in
      let types = types_long (map decl ins ++ map decl outs) in
      covers
      g
      p
      h
      (names_of (param_ids q.sig ++ result_ids q.sig))
      true
      true
      (ensures_sig (meaning_of p) (procedure_in p (named_procedure g n q)))
      (record {
        constants = constants_long p;
        globals = λ e. globals_long p;
        names = omega (arith, short, ids, in_groups, out_groups, in_decls, out_decls, both, types);
        functions = functions_long p;
      })
