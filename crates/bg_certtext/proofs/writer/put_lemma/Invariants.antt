use Rattle.std.proofs.Common.{◌≡◌, ◌++◌, map, drop, flat_map}
use Rattle.bg_certtext.specs.Lines.{behind_space}
use Rattle.bg_certtext.specs.Texts.{literal_word}
use Rattle.bg_certtext.proofs.writer.put_lemma.Given as goal

abbrev pub invariant-loop-literal : goal.invariant-loop-literal
invariant-loop-literal l = l.out.items ++ flat_map behind_space (map literal_word (drop l.literal-index l.literals)) ≡ l.initial.out.items ++ flat_map behind_space (map literal_word l.literals)
