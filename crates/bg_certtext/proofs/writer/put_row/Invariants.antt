use Rattle.std.proofs.Common.{◌≡◌, ◌++◌, drop, flat_map}
use Rattle.bg_certtext.specs.Lines.{behind_space}
use Rattle.bg_certtext.specs.Texts.{term_words}
use Rattle.bg_certtext.proofs.writer.put_row.Given as goal

abbrev pub invariant-loop-t : goal.invariant-loop-t
invariant-loop-t l = l.out.items ++ flat_map behind_space (flat_map term_words (drop l.t-index l.row.terms.items)) ≡ l.initial.out.items ++ flat_map behind_space (flat_map term_words l.row.terms.items)
