use Rattle.std.proofs.Common.{refl, map}
use Rattle.bg_text.specs.Views.{spec_of}
use Rattle.bg_print.specs.Printed.{spec_doc}
use Rattle.bg_print.specs.Docs.{text, each}
use Rattle.bg_print.proofs.Loops.{one_more, none_left}
use Rattle.bg_print.proofs.decls.put_specs.Goals as goal

pub loop-spec-preserved : goal.loop-spec-preserved
loop-spec-preserved c = one_more (λ l. text (each spec_doc (map spec_of l))) (λ l. text (each spec_doc (map spec_of l))) c.args.specs.now c.loop-spec.spec-index c.spec-item.result (text (spec_doc (spec_of c.spec-item.result))) _ _ _ (λ ys. refl) c.loop-spec-test.true c.spec-item.is c.in_ok-put_spec.ensures c.loop-spec.invariant

pub returns : goal.returns
returns c = none_left (λ l. text (each spec_doc (map spec_of l))) c.args.specs.now c.loop-spec.spec-index _ _ refl c.loop-spec-test.false c.loop-spec.invariant
