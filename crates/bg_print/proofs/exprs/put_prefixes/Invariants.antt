use Rattle.std.proofs.Common.{◌≡◌, ◌++◌, drop}
use Rattle.bg_print.specs.Docs.{text, each}
use Rattle.bg_print.specs.Exprs.{prefix_doc}
use Rattle.bg_print.proofs.exprs.put_prefixes.Given as goal

abbrev pub invariant-loop-sign : goal.invariant-loop-sign
invariant-loop-sign l = l.out.items ++ text (each prefix_doc (drop l.sign-index l.signs)) ≡ l.fn.out.items ++ text (each prefix_doc l.signs)
