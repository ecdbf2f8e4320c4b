-- What each procedure modifies, once for all calls.
use Rattle.std.specs.Prelude.{◌≡◌, List, map, Vec}
use Rattle.std.specs.declared.alloc.Global.{Global}
use Rattle.bg_ast.specs.Syntax.{Var}
use Rattle.bg_ast.specs.Resolved as r
use Rattle.bg_ast.specs.Meaning.{meaning_of, named_of, proc_of}
use Rattle.bg_ast.specs.Views.{var_of}
use Rattle.bg_ast.specs.declared.resolved.Variable.{Variable}
use Rattle.bg_sense.specs.Variables.{modified}

abbrev pub list_of : Vec Variable Global → List Var
list_of xs = map var_of xs.items

abbrev pub modified_in : r.Program → r.Proc → List Var
modified_in p q = modified (meaning_of p) (proc_of (named_of p.types) q)

-- for each procedure what it modifies
abbrev pub IsModified : r.Program → List (Vec Variable Global) → Type 0
IsModified p lists = map list_of lists ≡ map (modified_in p) p.procedures
