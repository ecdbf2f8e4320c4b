use Rattle.std.proofs.Common.{◌≡◌, ◌++◌, drop, map}
use Rattle.bg_text.specs.Views.{bracket_of}
use Rattle.bg_print.specs.Docs.{text, each}
use Rattle.bg_print.specs.Parts.{bracket_doc}
use Rattle.bg_print.proofs.parts.put_target_brackets.Given as goal

abbrev pub invariant-loop-bracket : goal.invariant-loop-bracket
invariant-loop-bracket l = l.out.items ++ text (each bracket_doc (map bracket_of (drop l.bracket-index l.brackets))) ≡ l.fn.out.items ++ text (each bracket_doc (map bracket_of l.brackets))
