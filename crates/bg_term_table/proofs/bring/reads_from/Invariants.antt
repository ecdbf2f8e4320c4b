use Rattle.std.proofs.Common.{◌≡◌}
use Rattle.bg_term_table.specs.Views.{listed, meanings}
use Rattle.bg_term_table.specs.Brought.{read_list}
use Rattle.bg_term_table.proofs.bring.reads_from.Given as goal

abbrev pub invariant-loop-j : goal.invariant-loop-j
invariant-loop-j l = listed (meanings l.made.items) ≡ read_list l.from l.j
