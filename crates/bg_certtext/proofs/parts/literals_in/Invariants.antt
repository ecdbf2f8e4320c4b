use Rattle.std.proofs.Common.{◌≡◌, map, drop}
use Rattle.bg_certtext.specs.Machine.{literals_in}
use Rattle.bg_certtext.proofs.Lists.{front}
use Rattle.bg_certtext.proofs.parts.literals_in.Given as goal

abbrev pub invariant-loop-word : goal.invariant-loop-word
invariant-loop-word l = front l.made.items (literals_in (map (λ w. w.now) (drop l.word-index l.words))) ≡ literals_in (map (λ w. w.now) l.words)
