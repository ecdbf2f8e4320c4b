use Rattle.std.proofs.Common.{◌≡◌, ◌++◌, map, drop}
use Rattle.bg_ast.specs.Meaning.{named_of, decl_of}
use Rattle.bg_ast.specs.Views.{type_name_of, declared_of}
use Rattle.bg_sense.specs.Types.{types_of}
use Rattle.bg_kinds.specs.Views.{ref_in}
use Rattle.bg_fits.proofs.written.push_kinds.Given as goal

abbrev pub invariant-loop-d : goal.invariant-loop-d
invariant-loop-d l =
    map ref_in l.made.items ++ types_of (map (decl_of (named_of (map type_name_of l.types))) (map declared_of (drop l.d-index l.declared)))
    ≡ map ref_in l.fn.made.items ++ types_of (map (decl_of (named_of (map type_name_of l.types))) (map declared_of l.declared))
