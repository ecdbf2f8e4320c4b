use Rattle.std.proofs.Common.{◌≡◌, ◌+◌, length}
use Rattle.bg_formula.specs.Formulas.{formula_of}
use Rattle.bg_cert.specs.Walks.{has}
use Rattle.bg_cert.specs.Tours.{IsTour, atoms_on}
use Rattle.bg_cert.specs.Written.{KnowsBelow, Seen}
use Rattle.bg_cert.proofs.written.accepts_written.Given as goal

abbrev pub invariant-loop : goal.invariant-loop
invariant-loop g l =
    record {
      tours : IsTour l.tour;
      sized : atoms_on l.tour ≡ length l.f.atoms.items + length l.kept.table.items;
      table : l.kept.table ≡ l.fn.table;
      known : KnowsBelow (length l.kept.nodes.items) l.tour;
      seen : Seen (formula_of l.f) (has l.set) l.kept l.tour;
    }
