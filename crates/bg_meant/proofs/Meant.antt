-- Declarations mean a program exactly where they have no fault of names; it is the one with numbers for names.
use Rattle.std.proofs.Common.{◌≡◌, List, [], ◌++◌, flat_map, sym, ◌∙◌, subst}
use Rattle.bg_text.specs.Trees as t
use Rattle.bg_ast.specs.Resolved as r
use Rattle.bg_ast.specs.Meaning.{meaning_of}
use Rattle.bg_names.specs.Spaces.{repeats}
use Rattle.bg_spaces.specs.Declarations.{type_ids, value_ids, function_ids, procedure_ids, repeated, spaces_of}
use Rattle.bg_resolve.specs.Program.{decl_faults, plain_faults, named}
use Rattle.bg_resolve.specs.Resolves.{Recursion}
use Rattle.bg_resolve.specs.Calls.IsRecursion.{never}
use Rattle.bg_resolve.proofs.Programs.{parts-are}
use Rattle.bg_sense.specs.Recursion.{HasNoRecursion}
use Rattle.bg_named.proofs.SpacesOnce.{empty_parts}
use Rattle.bg_meant.specs.Declared.{MeanDecls, MeansProgram}
use Rattle.bg_meant.proofs.Meanings.{both}
use Rattle.bg_meant.proofs.Once.{once_fine, once_mean}
use Rattle.bg_meant.proofs.DeclMeanings.{decls_fine, decls_mean}
use Rattle.bg_meant.proofs.Applied.{has_no_cycle}

pub program_fine : (ds : List t.Decl) (p : r.Program) → MeansProgram ds p → (plain_faults ds ≡ []) × Recursion ds [] × (p ≡ named ds)
program_fine ds p h =
    let w = decls_fine (spaces_of ds) 0 ds p h.decls in
    let same : p ≡ named ds = sym w.1 ∙ parts-are (spaces_of ds) 0 ds in
    let functions = once_fine (function_ids ds) h.functions in (
      both
          (repeated ds)
          (flat_map (decl_faults (spaces_of ds)) ds)
          (both
          ((repeats [] (type_ids ds) ++ repeats [] (value_ids ds)) ++ repeats [] (function_ids ds))
          (repeats [] (procedure_ids ds))
          (both
          (repeats [] (type_ids ds) ++ repeats [] (value_ids ds))
          (repeats [] (function_ids ds))
          (both (repeats [] (type_ids ds)) (repeats [] (value_ids ds)) (once_fine (type_ids ds) h.types) (once_fine (value_ids ds) h.values))
          functions)
          (once_fine (procedure_ids ds) h.procedures))
          w.0,
      never (has_no_cycle ds functions (subst (λ (q : r.Program). HasNoRecursion (meaning_of q)) same h.no_recursion)),
      same,
    )

pub program_means : ((ds : List t.Decl) → plain_faults ds ≡ [] → Recursion ds [] → HasNoRecursion (meaning_of (named ds))) → (ds : List t.Decl) → plain_faults ds ≡ [] → Recursion ds [] → MeansProgram ds (named ds)
program_means orders ds h rec =
    let w = empty_parts (repeated ds) (flat_map (decl_faults (spaces_of ds)) ds) h in
    let last = empty_parts ((repeats [] (type_ids ds) ++ repeats [] (value_ids ds)) ++ repeats [] (function_ids ds)) (repeats [] (procedure_ids ds)) w.0 in
    let more = empty_parts (repeats [] (type_ids ds) ++ repeats [] (value_ids ds)) (repeats [] (function_ids ds)) last.0 in
    let one = empty_parts (repeats [] (type_ids ds)) (repeats [] (value_ids ds)) more.0 in
    record {
      types = once_mean (type_ids ds) one.0;
      values = once_mean (value_ids ds) one.1;
      functions = once_mean (function_ids ds) more.1;
      procedures = once_mean (procedure_ids ds) last.1;
      decls = subst (MeanDecls (spaces_of ds) 0 ds) (parts-are (spaces_of ds) 0 ds) (decls_mean (spaces_of ds) 0 ds w.1);
      no_recursion = orders ds h rec;
    }
