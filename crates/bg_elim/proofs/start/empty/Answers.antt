use Rattle.std.proofs.Common.{rules, sym, ap, ◌∙◌, length}
use Rattle.bg_elim.proofs.Begins.{no_row}
use Rattle.bg_elim.proofs.start.empty.Goals as goal

pub returns-clause-indexed : goal.returns-clause-indexed
returns-clause-indexed c = record {
  keys = λ k. search rules;
  sized = ap length c.new-5.ensures.items ∙ sym (ap length c.new-3.ensures.items);
  listed = λ n r x l at m. absurd (no_row c.new-3.result.items n r c.new-3.ensures.items at);
}
