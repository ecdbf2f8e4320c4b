use Rattle.std.proofs.Common.{◌≡◌, map, drop}
use Rattle.bg_kinds.specs.Views.{key_of, keys_of}
use Rattle.bg_opening.specs.Nexts.{keys_code}
use Rattle.bg_opening.proofs.nexts.keys_code.Given as goal

abbrev pub invariant-loop-key : goal.invariant-loop-key
invariant-loop-key l = keys_code l.made (map key_of (drop l.key-index l.row.keys.items)) ≡ keys_code l.code (keys_of l.row)
