use Rattle.std.proofs.Common.{◌≡◌, ◌++◌, map, drop}
use Rattle.bg_ast.specs.Meaning.{keys_in, named_within}
use Rattle.bg_ast.specs.Views.{type_of, tys_of, type_name_of}
use Rattle.bg_kinds.specs.Views.{key_of}
use Rattle.bg_fits.proofs.written.keys_within.Given as goal

abbrev pub invariant-loop-t : goal.invariant-loop-t
invariant-loop-t l =
    map key_of l.keys.items ++ keys_in (named_within l.left (map type_name_of l.types)) (tys_of (map type_of (drop l.t-index l.ts)))
    ≡ keys_in (named_within l.left (map type_name_of l.types)) (tys_of (map type_of l.ts))
