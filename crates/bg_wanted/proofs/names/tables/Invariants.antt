use Rattle.std.proofs.Common.{◌≡◌, ◌≤◌, ◌-◌, List, length, map, take}
use Rattle.bg_ast.specs.Values.{Ty, MapTy}
use Rattle.bg_ast.specs.Syntax.{Fun}
use Rattle.bg_sense.specs.Eval.{value_at}
use Rattle.bg_terms.specs.Built.{built}
use Rattle.bg_kinds.specs.Views.{keys_of, ref_of}
use Rattle.bg_term_table.specs.Views.{terms_in}
use Rattle.bg_wanted.specs.Scalars.{scalars_in}
use Rattle.bg_scalar.specs.Values.{value_of}
use Rattle.bg_wanted.specs.Asked.{IsLooked}
use Rattle.bg_wanted.proofs.names.tables.Given as goal

abbrev pub invariant-loop-i : goal.invariant-loop-i
invariant-loop-i l =
    ((l.i ≤ length l.group.numbers.items) × (length l.made.items ≡ l.i))
    × ((fs : List Fun) (incs : List Ty) → IsLooked fs incs l.values l.looked → map value_of l.made.items ≡ map (λ j. built (scalars_in l.values) (length incs) (terms_in fs l.looked.terms.now) (MapTy (keys_of l.group.keys.now) (ref_of l.group.gives)) (value_at (scalars_in l.values) j)) (take l.i l.group.numbers.items))

abbrev pub decreases-loop-i : goal.decreases-loop-i
decreases-loop-i l = length l.group.numbers.items - l.i
