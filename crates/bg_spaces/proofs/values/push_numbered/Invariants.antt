use Rattle.std.proofs.Common.{◌≡◌, ◌+◌, ◌++◌, map, drop, length}
use Rattle.bg_text.specs.Views as v
use Rattle.bg_spaces.specs.Declarations.{numbered}
use Rattle.bg_spaces.specs.Views.{entry_of, meaning_as}
use Rattle.bg_spaces.proofs.values.push_numbered.Given as goal

abbrev pub invariant-loop-name : goal.invariant-loop-name
invariant-loop-name l =
    (map entry_of l.out.items ++ numbered (meaning_as l.sort) l.next (map v.id_of (drop l.name-index l.names)) ≡ map entry_of l.fn.out.items ++ numbered (meaning_as l.sort) l.first (map v.id_of l.names))
    × (l.next + length (drop l.name-index l.names) ≡ l.first + length l.names)
