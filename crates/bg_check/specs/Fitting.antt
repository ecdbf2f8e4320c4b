-- When entries are those of a function's table, and what comes of a run that is tried.
use Rattle.std.specs.Prelude.{ℕ, Bool, true, not, ◌&&◌, List, [], ◌∷◌, map, Option, Some, None, Vec}
use Rattle.std.specs.declared.alloc.Global.{Global}
use Rattle.std.specs.List.Sorted.{IsStrictlySortedBy}
use Rattle.std.specs.BTreeMap.{keys}
use Rattle.bg_ast.specs.Values.{Val, Ty, is_of, val_eq}
use Rattle.bg_ast.specs.Syntax.{Prog, Fun}
use Rattle.bg_ast.specs.Meaning as m
use Rattle.bg_ast.specs.Meaning.{named_of}
use Rattle.bg_ast.specs.Views.{fun_of, type_name_of}
use Rattle.bg_ast.specs.declared.resolved.Function.{Function}
use Rattle.bg_ast.specs.declared.resolved.TypeName.{TypeName}
use Rattle.bg_ast.specs.Execution.{Place}
use Rattle.bg_sense.specs.Types.{are_of}
use Rattle.bg_scalar.specs.declared.table.Table.{Table}
use Rattle.bg_scalar.specs.declared.value.Value.{Value}
use Rattle.bg_finish.specs.Filled.{args_cmp}
use Rattle.bg_model.specs.declared.failure.Counterexample.{Counterexample}
use Rattle.bg_check.specs.Verdicts.{IsRefuted}

-- what a function means, where these types are declared
abbrev pub meant : List TypeName → Function → Fun
meant types f = m.fun_of (named_of (map type_name_of types)) (fun_of f)

-- whether arguments and a value are of these types, and the value isn't the default
abbrev pub entry_fits : List Ty → Ty → Val → List Val × Val → Bool
entry_fits ps t d e = are_of ps e.0 && (is_of t e.1 && not (val_eq e.1 d))

abbrev pub entries_fit : List Ty → Ty → Val → List (List Val × Val) → Bool
entries_fit ps t d [] = true
entries_fit ps t d (e ∷ es) = entry_fits ps t d e && entries_fit ps t d es

-- a table's arguments rise
abbrev pub EntriesRise : Table → Type 0
EntriesRise t = IsStrictlySortedBy (λ (a b : Vec Value Global). args_cmp a.items b.items) (keys t.entries)

-- a counterexample that is found refutes the place
abbrev pub MayRefute : Prog → (ℕ → Bool) → Place → Option Counterexample → Type 0
MayRefute p set t None = Unit {0}
MayRefute p set t (Some cex) = IsRefuted p set t cex
