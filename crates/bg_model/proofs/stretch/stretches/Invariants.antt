use Rattle.std.proofs.Common.{◌≡◌, ◌++◌, map, drop}
use Rattle.bg_formed.specs.Views.{form_block_of}
use Rattle.bg_model.specs.Behind.{behind_front, stretch_of}
use Rattle.bg_model.proofs.stretch.stretches.Given as goal

abbrev pub invariant-loop-b : goal.invariant-loop-b
invariant-loop-b l =
    map stretch_of l.made.items ++ map form_block_of (drop l.b-index l.rest) ≡ behind_front l.front (map form_block_of l.forms)
