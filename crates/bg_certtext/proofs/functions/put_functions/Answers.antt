use Rattle.std.proofs.Common.{List, map, flat_map, refl}
use Rattle.bg_certtext.specs.declared.text.Function.{Function}
use Rattle.bg_certtext.specs.Lines.{line}
use Rattle.bg_certtext.specs.Texts.{function_words}
use Rattle.bg_certtext.specs.Views.{function_of}
use Rattle.bg_certtext.proofs.Written.{written_more}
use Rattle.bg_certtext.proofs.functions.put_functions.Goals as goal

pub loop-function-preserved : goal.loop-function-preserved
loop-function-preserved c =
    written_more (λ (fs : List Function). flat_map line (map function_words (map function_of fs))) (λ (f : Function). line (function_words (function_of f))) (λ f fs. refl)
    c.args.functions.now c.loop-function.function-index c.function-item.result c.loop-function.out.items c.put_function.new.out.items _ c.loop-function-test.true c.function-item.is c.in_ok-put_function.ensures c.loop-function.invariant
