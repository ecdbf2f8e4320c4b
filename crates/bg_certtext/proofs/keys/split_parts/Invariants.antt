use Rattle.std.proofs.Common.{◌≡◌, ◌++◌, length, map}
use Rattle.bg_certtext.specs.Words.{part_in, parts_of}
use Rattle.bg_certtext.proofs.keys.split_parts.Given as goal

abbrev pub invariant-loop-end : goal.invariant-loop-end
invariant-loop-end l = record {
  so_far : map (λ w. w.now) l.parts.items ++ parts_of l.rest ≡ parts_of l.word;
  part : l.end ≡ part_in l.rest;
}

abbrev pub decreases-loop-end : goal.decreases-loop-end
decreases-loop-end l = length l.rest
