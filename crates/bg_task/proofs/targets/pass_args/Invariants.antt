use Rattle.std.proofs.Common.{◌≡◌, drop}
use Rattle.bg_term_table.specs.Views.{meanings, listed}
use Rattle.bg_task.specs.Targets.{past}
use Rattle.bg_task.proofs.targets.pass_args.Given as goal

abbrev pub invariant-loop-e : goal.invariant-loop-e
invariant-loop-e l = record {
  made : l.s.made.items ≡ l.fn.s.made.items;
  next : past l.s.next (listed (meanings (drop l.e-index l.es))) ≡ past l.fn.s.next (listed (meanings l.es));
}
