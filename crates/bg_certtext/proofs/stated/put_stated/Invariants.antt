use Rattle.std.proofs.Common.{◌≡◌, ◌++◌, map, drop, flat_map}
use Rattle.bg_certtext.specs.Lines.{line}
use Rattle.bg_certtext.specs.Texts.{stated_words}
use Rattle.bg_certtext.proofs.stated.put_stated.Given as goal

abbrev pub invariant-loop-one : goal.invariant-loop-one
invariant-loop-one l = l.out.items ++ flat_map line (map stated_words (drop l.one-index l.stated)) ≡ l.initial.out.items ++ flat_map line (map stated_words l.stated)
