use Rattle.std.proofs.Common.{◌≡◌, ◌++◌, map, drop, flat_map}
use Rattle.bg_certtext.specs.Lines.{line}
use Rattle.bg_certtext.specs.Texts.{given_words}
use Rattle.bg_certtext.specs.Views.{given_of}
use Rattle.bg_certtext.proofs.front.put_givens.Given as goal

abbrev pub invariant-loop-given : goal.invariant-loop-given
invariant-loop-given l = l.out.items ++ flat_map line (map given_words (map given_of (drop l.given-index l.givens))) ≡ l.initial.out.items ++ flat_map line (map given_words (map given_of l.givens))
