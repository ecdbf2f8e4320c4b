-- The types of the program that declarations mean: each of their maps has an index.
use Rattle.std.proofs.Common.{◌≡◌, ℕ, zero, suc, ◌+◌, Bool, true, false, List, [], ◌∷◌, ◌++◌, map, flat_map, length, Option, Some, None, refl, if◌then◌else◌}
use Rattle.std.specs.List.{list_all}
use Rattle.std.specs.Prelude.{◌&&◌, slice_get}
use Rattle.bg_base.specs.declared.pos.Pos.{Pos}
use Rattle.bg_text.specs.Trees as t
use Rattle.bg_text.specs.Views.{option_of}
use Rattle.bg_text.specs.Types.{All as Each, IfThere, IsType, IsGroup}
use Rattle.bg_text.specs.Declarations.{IsNewType, IsFunArg, IsFunResult, IsSig, IsVars, IsBody, IsDecl}
use Rattle.bg_ast.specs.Values as v
use Rattle.bg_ast.specs.Resolved as r
use Rattle.bg_ast.specs.Syntax as s
use Rattle.bg_ast.specs.Meaning as m
use Rattle.bg_names.specs.Exprs.{named_ty}
use Rattle.bg_spaces.specs.Declarations.{Spaces, spaces_of, are_candidates, result_groups, declared_as, named_group, named_groups, specs_count}
use Rattle.bg_resolve.specs.Program.{result_type, arg_type, named_function, named_vars, named_new, named_types, named_globals, constant_as, named_constants, named_functions, named_procedures, named_code, named_option, named_implementations, in_turn, named}
use Rattle.bg_named.proofs.SpacesEntries.{each_append}
use Rattle.bg_named.proofs.ProgramsEach.{gathered, gathered_in_turn}
use Rattle.bg_sense.proofs.Bools.{both}
use Rattle.bg_fits.specs.Valued.{decl_passes, decls_pass, is_value_type, any_ex}
use Rattle.bg_opened.specs.Judged.{const_judged, fun_judged}
use Rattle.bg_guess.proofs.Passing.{ProcTyped, ImplTyped}
use Rattle.bg_judged.proofs.Types.{AreGood, type_good}

pass_map : {A B : Type 0} (p : B → Bool) (f : A → B) (xs : List A) → Each (λ y. p (f y) ≡ true) xs → list_all p (map f xs) ≡ true
pass_map p f [] h = refl
pass_map p f (y ∷ ys) h = both (p (f y)) (list_all p (map f ys)) h.0 (pass_map p f ys h.1)

each_map : {A B : Type 0} (P : B → Type 0) (f : A → B) (xs : List A) → Each (λ y. P (f y)) xs → Each P (map f xs)
each_map P f [] h = tt
each_map P f (y ∷ ys) h = (h.0, each_map P f ys h.1)

-- ---- declared types

-- what a declared type stands for has an index for each map, where each declared one has
abbrev NewGood : r.TypeName → Type 0
NewGood d = (k : ℕ) (known : ℕ → v.Ty) → AreGood known → is_value_type (m.synonym_by (v.UserTy k) (m.type_in known) d.synonym) ≡ true

new_good : (g : Spaces) (d : t.NewType) → IsNewType d → NewGood (named_new g d)
new_good g d good k known all = by d.synonym good
  where
    by : (o : Option t.Ty) → IfThere IsType o → is_value_type (m.synonym_by (v.UserTy k) (m.type_in known) (option_of (named_ty g.types) o)) ≡ true
    by None h = refl
    by (Some e) h = type_good e h g.types known all

news_good : (g : Spaces) (ds : List t.NewType) → Each IsNewType ds → Each NewGood (map (named_new g) ds)
news_good g [] good = tt
news_good g (d ∷ ds) good = (new_good g d good.0, news_good g ds good.1)

types_good : (g : Spaces) (d : t.Decl) → IsDecl d → Each NewGood (named_types g d)
types_good g (t.Types p attrs ds) good = news_good g ds good.2
types_good g (t.Constants c) good = tt
types_good g (t.Function f) good = tt
types_good g (t.Axiom p attrs e) good = tt
types_good g (t.Globals x) good = tt
types_good g (t.Procedure q) good = tt
types_good g (t.Implementation q) good = tt

at_good : (known : ℕ → v.Ty) → AreGood known → (j : ℕ) (ds : List r.TypeName) → Each NewGood ds → (k : ℕ) → is_value_type (m.synonym_or (v.UserTy j) (m.type_in known) (slice_get ds k)) ≡ true
at_good known all j [] good k = refl
at_good known all j (d ∷ ds) good zero = good.0 j known all
at_good known all j (d ∷ ds) good (suc k) = at_good known all j ds good.1 k

-- with synonyms unfolded as often as one likes
within_good : (n : ℕ) (ds : List r.TypeName) → Each NewGood ds → AreGood (m.named_within n ds)
within_good zero ds good k = refl
within_good (suc n) ds good k = at_good (m.named_within n ds) (within_good n ds good) k ds good k

-- ---- the other parts

module _ (g : Spaces) (types : ℕ → v.Ty) (all : AreGood types) where
  abbrev pub DeclaredGood : r.Declared → Type 0
  DeclaredGood d = decl_passes is_value_type any_ex (m.decl_of types d) ≡ true

  names_good : (e : t.Ty) → IsType e → (xs : List t.Id) → Each DeclaredGood (map (declared_as g e) xs)
  names_good e good [] = tt
  names_good e good (y ∷ ys) =
      (both (is_value_type (m.type_in types (declared_as g e y).ty)) true (type_good e good g.types types all) refl, names_good e good ys)

  groups_good : (gs : List t.Group) → Each IsGroup gs → Each DeclaredGood (named_groups g gs)
  groups_good [] good = tt
  groups_good (x ∷ xs) good =
      each_append DeclaredGood (named_group g x) (named_groups g xs) (names_good x.ty good.0.2 x.names) (groups_good xs good.1)

  results_good : (o : Option (List t.Group)) → IfThere (Each IsGroup) o → Each DeclaredGood (named_groups g (result_groups o))
  results_good None good = tt
  results_good (Some gs) good = groups_good gs good

  vars_good : (vs : List t.Vars) → Each IsVars vs → Each DeclaredGood (flat_map (named_vars g) vs)
  vars_good [] good = tt
  vars_good (x ∷ xs) good =
      each_append DeclaredGood (named_vars g x) (flat_map (named_vars g) xs) (groups_good x.groups good.0.1) (vars_good xs good.1)

  abbrev pub ProcGood : r.Proc → Type 0
  ProcGood q = ProcTyped (m.proc_of types q)

  abbrev pub ImplGood : r.Impl → Type 0
  ImplGood q = ImplTyped (m.impl_of types q)

  declared_pass : (ds : List r.Declared) → Each DeclaredGood ds → decls_pass is_value_type any_ex (map (m.decl_of types) ds) ≡ true
  declared_pass ds good = pass_map (decl_passes is_value_type any_ex) (m.decl_of types) ds good

  code_good : (n : ℕ) (p : Pos) (q : t.Id) (s : t.Sig) (b : t.Body) → IsBody b → ImplGood (named_code g n p q s b)
  code_good n p q s b good = declared_pass (flat_map (named_vars g) b.locals) (vars_good b.locals good.0)

  option_good : (n : ℕ) (p : Pos) (q : t.Id) (s : t.Sig) (o : Option t.Body) → IfThere IsBody o → Each ImplGood (named_option g n p q s o)
  option_good n p q s None good = tt
  option_good n p q s (Some b) good = (code_good n p q s b good, tt)

  abbrev pub ConstGood : r.Const → Type 0
  ConstGood c = const_judged (m.const_of types c) ≡ true

  abbrev pub FunGood : r.Fun → Type 0
  FunGood f = fun_judged (m.fun_of types f) ≡ true

  constants_good : (c : t.Consts) → IsType c.group.ty → (xs : List t.Id) → Each ConstGood (map (constant_as g c) xs)
  constants_good c good [] = tt
  constants_good c good (y ∷ ys) = (type_good c.group.ty good g.types types all, constants_good c good ys)

  unless_candidates : (c : t.Consts) → Each ConstGood (map (constant_as g c) c.group.names) → (b : Bool) → Each ConstGood (if b then [] else map (constant_as g c) c.group.names)
  unless_candidates c good true = tt
  unless_candidates c good false = good

  args_good : (xs : List t.FunArg) → Each IsFunArg xs → list_all is_value_type (map (m.type_in types) (map (arg_type g) xs)) ≡ true
  args_good [] good = refl
  args_good (x ∷ xs) good =
      both (is_value_type (m.type_in types (arg_type g x))) _ (type_good x.ty good.0 g.types types all) (args_good xs good.1)

  result_good : (e : t.FunResult) → IsFunResult e → is_value_type (m.type_in types (named_ty g.types (result_type e))) ≡ true
  result_good (t.Returns a) good = type_good a.ty good g.types types all
  result_good (t.Colon e) good = type_good e good g.types types all

  function_good : (f : t.Fun) → IsDecl (t.Function f) → FunGood (named_function g f)
  function_good f good =
      both (list_all is_value_type (map (m.type_in types) (map (arg_type g) f.args))) (is_value_type (m.type_in types (named_ty g.types (result_type f.result)))) (args_good f.args good.1) (result_good f.result good.2)

  constants_kept : (d : t.Decl) → IsDecl d → Each ConstGood (named_constants g d)
  constants_kept (t.Types p attrs ds) k = tt
  constants_kept (t.Constants c) k =
      unless_candidates c (constants_good c k.2 c.group.names) (are_candidates c)
  constants_kept (t.Function f) k = tt
  constants_kept (t.Axiom p attrs e) k = tt
  constants_kept (t.Globals x) k = tt
  constants_kept (t.Procedure q) k = tt
  constants_kept (t.Implementation q) k = tt

  functions_kept : (d : t.Decl) → IsDecl d → Each FunGood (named_functions g d)
  functions_kept (t.Types p attrs ds) k = tt
  functions_kept (t.Constants c) k = tt
  functions_kept (t.Function f) k = (function_good f k, tt)
  functions_kept (t.Axiom p attrs e) k = tt
  functions_kept (t.Globals x) k = tt
  functions_kept (t.Procedure q) k = tt
  functions_kept (t.Implementation q) k = tt

  globals_kept : (d : t.Decl) → IsDecl d → Each DeclaredGood (named_globals g d)
  globals_kept (t.Types p attrs ds) k = tt
  globals_kept (t.Constants c) k = tt
  globals_kept (t.Function f) k = tt
  globals_kept (t.Axiom p attrs e) k = tt
  globals_kept (t.Globals x) k = groups_good x.groups k.1
  globals_kept (t.Procedure q) k = tt
  globals_kept (t.Implementation q) k = tt

  procedures_kept : (n : ℕ) (d : t.Decl) → IsDecl d → Each ProcGood (named_procedures g n d)
  procedures_kept n (t.Types p attrs ds) k = tt
  procedures_kept n (t.Constants c) k = tt
  procedures_kept n (t.Function f) k = tt
  procedures_kept n (t.Axiom p attrs e) k = tt
  procedures_kept n (t.Globals x) k = tt
  procedures_kept n (t.Procedure q) k =
      ((declared_pass (named_groups g q.sig.params) (groups_good q.sig.params k.1.0), declared_pass (named_groups g (result_groups q.sig.results)) (results_good q.sig.results k.1.1)), tt)
  procedures_kept n (t.Implementation q) k = tt

  implementations_kept : (n : ℕ) (d : t.Decl) → IsDecl d → Each ImplGood (named_implementations g n d)
  implementations_kept n (t.Types p attrs ds) k = tt
  implementations_kept n (t.Constants c) k = tt
  implementations_kept n (t.Function f) k = tt
  implementations_kept n (t.Axiom p attrs e) k = tt
  implementations_kept n (t.Globals x) k = tt
  implementations_kept n (t.Procedure q) k =
      option_good (n + specs_count q.specs) q.pos q.name q.sig q.body k.3
  implementations_kept n (t.Implementation q) k = (code_good n q.pos q.name q.sig q.body k.2, tt)

-- the parts of a meaning in which each map has an index
pub record HasIndices (p : s.Prog) : Type 0 where
  pub globals : decls_pass is_value_type any_ex p.globals ≡ true
  pub constants : list_all const_judged p.constants ≡ true
  pub functions : list_all fun_judged p.functions ≡ true
  pub procedures : Each ProcTyped p.procedures
  pub implementations : Each ImplTyped p.implementations

-- declarations of the grammar mean such a program
pub declared_indices : (ds : List t.Decl) → Each IsDecl ds → HasIndices (m.meaning_of (named ds))
declared_indices ds good =
    let g = spaces_of ds in
    let news = flat_map (named_types g) ds in
    let types = m.named_of news in
    let all : AreGood types = within_good (suc (length news)) news (gathered NewGood IsDecl (named_types g) (types_good g) ds good) in
    record {
      globals = declared_pass g types all (flat_map (named_globals g) ds) (gathered (DeclaredGood g types all) IsDecl (named_globals g) (globals_kept g types all) ds good);
      constants = pass_map const_judged (m.const_of types) (flat_map (named_constants g) ds) (gathered (ConstGood g types all) IsDecl (named_constants g) (constants_kept g types all) ds good);
      functions = pass_map fun_judged (m.fun_of types) (flat_map (named_functions g) ds) (gathered (FunGood g types all) IsDecl (named_functions g) (functions_kept g types all) ds good);
      procedures = each_map ProcTyped (m.proc_of types) (in_turn (named_procedures g) 0 ds) (gathered_in_turn (ProcGood g types all) IsDecl (named_procedures g) (procedures_kept g types all) 0 ds good);
      implementations = each_map ImplTyped (m.impl_of types) (in_turn (named_implementations g) 0 ds) (gathered_in_turn (ImplGood g types all) IsDecl (named_implementations g) (implementations_kept g types all) 0 ds good);
    }
