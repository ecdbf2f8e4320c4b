use Rattle.std.proofs.Common.{◌≡◌, ◌++◌, map, drop}
use Rattle.bg_spaces.specs.Declarations.{text_of}
use Rattle.bg_names.specs.Views.{id_in}
use Rattle.bg_spaces.proofs.entries.texts.Given as goal

abbrev pub invariant-loop-name : goal.invariant-loop-name
invariant-loop-name l = map (λ x. x.now) l.out.items ++ map text_of (map id_in (drop l.name-index l.names)) ≡ map text_of (map id_in l.names)
