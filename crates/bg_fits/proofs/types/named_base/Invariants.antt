use Rattle.std.proofs.Common.{◌≡◌, ◌-◌, map}
use Rattle.bg_ast.specs.Meaning.{named_within}
use Rattle.bg_ast.specs.Views.{type_name_of}
use Rattle.bg_fits.specs.Bases.{base_in}
use Rattle.bg_fits.proofs.types.named_base.Given as goal

abbrev pub invariant-loop : goal.invariant-loop
invariant-loop l =
    base_in (named_within (l.left - l.counter) (map type_name_of l.types) l.at) ≡ base_in (named_within l.left (map type_name_of l.types) l.k)
