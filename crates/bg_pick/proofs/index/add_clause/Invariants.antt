use Rattle.std.proofs.Common.{◌≡◌, length, true, drop}
use Rattle.bg_formula.specs.Formulas.{literals_below}
use Rattle.bg_pick.specs.Index.{Names, Grows}
use Rattle.bg_pick.proofs.Indexes.{NamedSoFar}
use Rattle.bg_pick.proofs.index.add_clause.Given as goal

abbrev pub invariant-loop-l : goal.invariant-loop-l
invariant-loop-l l =
    record {
      yes : length l.i.yes.items ≡ l.atoms;
      no : length l.i.no.items ≡ l.atoms;
      grows : Grows l.fn.i l.i;
      start : Names l.i.start.items l.x;
      low : literals_below l.atoms (drop l.l-index l.clause) ≡ true;
      named : NamedSoFar l.i l.x l.clause (drop l.l-index l.clause);
    }
