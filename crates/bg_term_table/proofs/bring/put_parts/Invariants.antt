use Rattle.std.proofs.Common.{◌≡◌, ◌++◌, List, drop}
use Rattle.bg_ast.specs.Syntax.{Fun}
use Rattle.bg_kinds.specs.Views.{keys_of, ref_in}
use Rattle.bg_numbered.specs.Lines.{parts_from}
use Rattle.bg_term_table.specs.Views.{terms_in}
use Rattle.bg_term_table.proofs.bring.put_parts.Given as goal

abbrev pub invariant-loop-j : goal.invariant-loop-j
invariant-loop-j l =
    (fs : List Fun) → terms_in fs l.terms.items ++ parts_from (keys_of l.maps.keys) (ref_in l.maps.gives) l.m l.o l.j (drop l.j (keys_of l.maps.keys)) ≡ terms_in fs l.initial.terms.items ++ parts_from (keys_of l.maps.keys) (ref_in l.maps.gives) l.m l.o 0 (keys_of l.maps.keys)
