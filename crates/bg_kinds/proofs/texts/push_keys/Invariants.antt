use Rattle.std.proofs.Common.{◌≡◌, ◌++◌, map, drop, false}
use Rattle.bg_ast.specs.Views.{type_name_of}
use Rattle.bg_kinds.specs.Views.{key_of}
use Rattle.bg_kinds.specs.Texts.{keys_from}
use Rattle.bg_kinds.proofs.texts.push_keys.Given as goal

abbrev pub invariant-loop-key : goal.invariant-loop-key
invariant-loop-key l = (l.out.items ++ keys_from (map type_name_of l.types) l.behind (map key_of (drop l.key-index l.keys))) ≡ l.fn.out.items ++ keys_from (map type_name_of l.types) false (map key_of l.keys)
