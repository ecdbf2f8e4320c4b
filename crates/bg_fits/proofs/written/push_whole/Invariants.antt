use Rattle.std.proofs.Common.{◌≡◌, ◌+◌, ◌-◌, map}
use Rattle.bg_ast.specs.Meaning.{type_in, named_of, named_within}
use Rattle.bg_ast.specs.Views.{type_of, type_name_of}
use Rattle.bg_kinds.specs.Views.{tower}
use Rattle.bg_fits.specs.Bases.{end_in}
use Rattle.bg_fits.proofs.written.push_whole.Given as goal

abbrev pub invariant-loop-i : goal.invariant-loop-i
invariant-loop-i l =
    tower l.maps.items (end_in (named_within ((l.count + 1) - l.i) (map type_name_of l.types)) l.end)
    ≡ tower l.fn.maps.items (type_in (named_of (map type_name_of l.types)) (type_of l.ty))
