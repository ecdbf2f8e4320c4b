use Rattle.std.proofs.Common.{◌≡◌, map, drop}
use Rattle.bg_certtext.specs.Views.{part_of}
use Rattle.bg_certtext.specs.Machine.{index_in}
use Rattle.bg_certtext.proofs.Lists.{front}
use Rattle.bg_certtext.proofs.keys.index_in.Given as goal

abbrev pub invariant-loop-word : goal.invariant-loop-word
invariant-loop-word l = front (map part_of l.made.items) (index_in (map (λ w. w.now) (drop l.word-index l.words))) ≡ index_in (map (λ w. w.now) l.words)
