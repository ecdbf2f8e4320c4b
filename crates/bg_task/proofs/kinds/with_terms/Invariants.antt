use Rattle.std.proofs.Common.{◌≡◌, ◌++◌, List, map, drop}
use Rattle.bg_ast.specs.Syntax.{Fun}
use Rattle.bg_kinds.specs.Views.{ref_in}
use Rattle.bg_terms.specs.Typed.{type_of}
use Rattle.bg_term_table.specs.Views.{terms_in}
use Rattle.bg_term_table.specs.Views.{result_ty}
use Rattle.bg_task.proofs.kinds.with_terms.Given as goal

abbrev pub invariant-loop-t : goal.invariant-loop-t
invariant-loop-t l =
    (fs : List Fun) → map ref_in l.results ≡ map result_ty fs →
    map ref_in l.made.items ++ map type_of (terms_in fs (drop l.t-index l.terms)) ≡ map ref_in l.fn.kinds.items ++ map type_of (terms_in fs l.terms)
