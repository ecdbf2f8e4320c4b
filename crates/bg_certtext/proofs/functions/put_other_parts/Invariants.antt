use Rattle.std.proofs.Common.{◌≡◌, ◌++◌, map, drop, flat_map}
use Rattle.bg_certtext.specs.Lines.{behind_comma}
use Rattle.bg_certtext.specs.Views.{part_of}
use Rattle.bg_certtext.specs.Texts.{part_word}
use Rattle.bg_certtext.proofs.functions.put_other_parts.Given as goal

abbrev pub invariant-loop-part : goal.invariant-loop-part
invariant-loop-part l = l.out.items ++ flat_map behind_comma (map part_word (map part_of (drop l.part-index l.parts))) ≡ l.initial.out.items ++ flat_map behind_comma (map part_word (map part_of l.parts))
