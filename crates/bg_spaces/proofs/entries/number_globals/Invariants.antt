use Rattle.std.proofs.Common.{◌≡◌, ◌+◌, ◌++◌, map, drop, length}
use Rattle.bg_names.specs.declared.scope.Meaning.TheVariants as means
use Rattle.bg_spaces.specs.Declarations.{numbered}
use Rattle.bg_spaces.specs.Views.{entry_of}
use Rattle.bg_names.specs.Views.{id_in}
use Rattle.bg_spaces.proofs.entries.number_globals.Given as goal

abbrev pub invariant-loop-name : goal.invariant-loop-name
invariant-loop-name l =
    (map entry_of l.out.items ++ numbered (λ n. means.Global n) l.next (map id_in (drop l.name-index l.names)) ≡ map entry_of l.fn.out.items ++ numbered (λ n. means.Global n) l.first (map id_in l.names))
    × (l.next + length (map id_in (drop l.name-index l.names)) ≡ l.first + length (map id_in l.names))
