use Rattle.std.proofs.Common.{◌≡◌, ◌++◌, map, drop}
use Rattle.bg_ast.specs.Meaning.{type_in, named_of}
use Rattle.bg_ast.specs.Views.{type_of, type_name_of}
use Rattle.bg_kinds.specs.Views.{ref_in}
use Rattle.bg_fits.proofs.written.written_kinds.Given as goal

abbrev pub invariant-loop-ty : goal.invariant-loop-ty
invariant-loop-ty l =
    map ref_in l.made.items ++ map (type_in (named_of (map type_name_of l.types))) (map type_of (drop l.ty-index l.written))
    ≡ map (type_in (named_of (map type_name_of l.types))) (map type_of l.written)
