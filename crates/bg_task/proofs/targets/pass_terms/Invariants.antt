use Rattle.std.proofs.Common.{◌≡◌, List, drop}
use Rattle.bg_ast.specs.Syntax.{Fun}
use Rattle.bg_term_table.specs.Views.{terms_in}
use Rattle.bg_task.specs.Targets.{past_all}
use Rattle.bg_task.proofs.targets.pass_terms.Given as goal

abbrev pub invariant-loop-t : goal.invariant-loop-t
invariant-loop-t l = record {
  made : l.s.made.items ≡ l.fn.s.made.items;
  next : (fs : List Fun) → past_all l.s.next (terms_in fs (drop l.t-index l.terms)) ≡ past_all l.fn.s.next (terms_in fs l.terms);
}
