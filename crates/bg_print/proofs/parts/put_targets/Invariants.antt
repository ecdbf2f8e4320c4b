use Rattle.std.proofs.Common.{◌≡◌, ◌++◌, drop, map}
use Rattle.bg_text.specs.Views.{target_of}
use Rattle.bg_print.specs.Docs.{text, commas, commas_from}
use Rattle.bg_print.specs.Parts.{target_doc}
use Rattle.bg_print.proofs.parts.put_targets.Given as goal

abbrev pub invariant-loop-target : goal.invariant-loop-target
invariant-loop-target l = l.out.items ++ text (commas_from l.behind target_doc (map target_of (drop l.target-index l.targets))) ≡ l.fn.out.items ++ text (commas target_doc (map target_of l.targets))
