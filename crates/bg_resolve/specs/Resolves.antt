-- What resolving a program answers.
use Rattle.std.specs.Prelude.{◌≡◌, List, [], ◌++◌, Some, None, Result, Ok, Err}
use Rattle.bg_text.specs.Trees as t
use Rattle.bg_ast.specs.declared.resolved.Resolved.{Resolved}
use Rattle.bg_ast.specs.Views.{program_of}
use Rattle.bg_names.specs.declared.error.ResolveError.{ResolveError}
use Rattle.bg_names.specs.declared.error.ResolveError.TheVariants as errors
use Rattle.bg_names.specs.declared.error.NameFault.{NameFault}
use Rattle.bg_names.specs.Faults.{Fault, better}
use Rattle.bg_names.specs.Spaces.{names_of}
use Rattle.bg_spaces.specs.Declarations.{function_ids}
use Rattle.bg_resolve.specs.Program.{plain_faults, named}
use Rattle.bg_resolve.specs.Calls.{IsRecursion}

abbrev pub fault_of : NameFault → Fault
fault_of f = record { kind = f.kind; pos = f.pos; name = f.name.items }

abbrev pub Recursion : List t.Decl → List Fault → Type 0
Recursion ds = IsRecursion (names_of (function_ids ds)) ds

-- the first fault by position, then by rule, then in the order in which the declarations are judged
abbrev pub IsToldFault : List t.Decl → Fault → Type 0
IsToldFault ds f = (rs : List Fault) × Recursion ds rs × (better None (plain_faults ds ++ rs) ≡ Some f)

-- where there is no fault, the program with numbers for names; else the first fault, its name too; want of memory says nothing
abbrev pub Resolves : List t.Decl → Result Resolved ResolveError → Type 0
Resolves ds (Ok p) = (plain_faults ds ≡ []) × Recursion ds [] × (program_of p ≡ named ds)
Resolves ds (Err (errors.Fault f)) = IsToldFault ds (fault_of f)
Resolves ds (Err errors.Memory) = Unit {0}
