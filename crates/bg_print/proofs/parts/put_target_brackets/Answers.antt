use Rattle.std.proofs.Common.{refl, map}
use Rattle.bg_text.specs.Views.{bracket_of}
use Rattle.bg_print.specs.Parts.{bracket_doc}
use Rattle.bg_print.specs.Docs.{text, each}
use Rattle.bg_print.proofs.Loops.{one_more, none_left}
use Rattle.bg_print.proofs.parts.put_target_brackets.Goals as goal

pub loop-bracket-preserved : goal.loop-bracket-preserved
loop-bracket-preserved c = one_more (λ l. text (each bracket_doc (map bracket_of l))) (λ l. text (each bracket_doc (map bracket_of l))) c.args.brackets.now c.loop-bracket.bracket-index c.bracket-item.result (text (bracket_doc (bracket_of c.bracket-item.result))) _ _ _ (λ ys. refl) c.loop-bracket-test.true c.bracket-item.is c.in_ok-put_target_bracket.ensures c.loop-bracket.invariant

pub returns : goal.returns
returns c = none_left (λ l. text (each bracket_doc (map bracket_of l))) c.args.brackets.now c.loop-bracket.bracket-index _ _ refl c.loop-bracket-test.false c.loop-bracket.invariant
