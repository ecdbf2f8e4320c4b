use Rattle.std.proofs.Common.{◌≡◌, length}
use Rattle.bg_formula.specs.Formulas.{formula_of}
use Rattle.bg_cert.specs.Walks.{has}
use Rattle.bg_pick.proofs.Indexes.{ClausesNamed, MembersNamed}
use Rattle.bg_pick.proofs.index.index_of.Given as goal

abbrev pub invariant-loop-k : goal.invariant-loop-k
invariant-loop-k l =
    record {
      yes : length l.i.yes.items ≡ l.atoms;
      no : length l.i.no.items ≡ l.atoms;
      clauses : ClausesNamed (formula_of l.f) l.i l.k;
    }

abbrev pub invariant-loop-c : goal.invariant-loop-c
invariant-loop-c l =
    record {
      yes : length l.i.yes.items ≡ l.atoms;
      no : length l.i.no.items ≡ l.atoms;
      clauses : ClausesNamed (formula_of l.f) l.i (length l.f.clauses.items);
      members : MembersNamed (formula_of l.f) (has l.set) l.i l.c;
    }
