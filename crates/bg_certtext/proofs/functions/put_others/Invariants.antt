use Rattle.std.proofs.Common.{◌≡◌, ◌++◌, map, drop, flat_map}
use Rattle.bg_certtext.specs.Lines.{behind_comma}
use Rattle.bg_certtext.specs.Views.{value_of}
use Rattle.bg_certtext.specs.Texts.{value_text}
use Rattle.bg_certtext.proofs.functions.put_others.Given as goal

abbrev pub invariant-loop-value : goal.invariant-loop-value
invariant-loop-value l = l.out.items ++ flat_map behind_comma (map value_text (map value_of (drop l.value-index l.values))) ≡ l.initial.out.items ++ flat_map behind_comma (map value_text (map value_of l.values))
