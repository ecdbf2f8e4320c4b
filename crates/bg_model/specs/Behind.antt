-- Blocks of forms behind what stands in front of the first one's commands.
use Rattle.std.specs.Prelude.{ℕ, List, [], ◌∷◌, drop, map}
use Rattle.bg_formed.specs.Formed.{FormBlock}
use Rattle.bg_formed.specs.Views.{form_cmds_of, form_edge_of}
use Rattle.bg_model.specs.declared.stretch.Stretch.{Stretch}

-- the first block without its first commands, which are so many
abbrev pub behind_front : ℕ → List FormBlock → List FormBlock
behind_front n [] = []
behind_front n (b ∷ bs) = record { cmds = drop n b.cmds; next = b.next } ∷ bs

-- what is walked of a block, as a block
abbrev pub stretch_of : Stretch → FormBlock
stretch_of s = record { cmds = form_cmds_of s.cmds.now; next = map form_edge_of s.next.now }
