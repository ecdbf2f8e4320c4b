use Rattle.std.proofs.Common.{◌≡◌, ◌++◌, drop, map}
use Rattle.bg_text.specs.Views.{group_of}
use Rattle.bg_print.specs.Docs.{text, commas, commas_from}
use Rattle.bg_print.specs.Parts.{group_doc}
use Rattle.bg_print.proofs.parts.put_groups.Given as goal

abbrev pub invariant-loop-group : goal.invariant-loop-group
invariant-loop-group l = l.out.items ++ text (commas_from l.behind group_doc (map group_of (drop l.group-index l.groups))) ≡ l.fn.out.items ++ text (commas group_doc (map group_of l.groups))
