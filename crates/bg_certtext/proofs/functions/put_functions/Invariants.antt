use Rattle.std.proofs.Common.{◌≡◌, ◌++◌, map, drop, flat_map}
use Rattle.bg_certtext.specs.Lines.{line}
use Rattle.bg_certtext.specs.Texts.{function_words}
use Rattle.bg_certtext.specs.Views.{function_of}
use Rattle.bg_certtext.proofs.functions.put_functions.Given as goal

abbrev pub invariant-loop-function : goal.invariant-loop-function
invariant-loop-function l = l.out.items ++ flat_map line (map function_words (map function_of (drop l.function-index l.functions))) ≡ l.initial.out.items ++ flat_map line (map function_words (map function_of l.functions))
