use Rattle.std.proofs.Common.{sym}
use Rattle.bg_formula.specs.Formulas.{formula_of}
use Rattle.bg_cert.specs.Walks.{has}
use Rattle.bg_pick.proofs.Members.{member_low}
use Rattle.bg_pick.proofs.index.add_member.Goals as goal

pub add_clause-requires-clause-low : goal.add_clause-requires-clause-low
add_clause-requires-clause-low c =
    member_low (formula_of c.args.f.now) (has c.args.set.now) c.args.c c.in-Some.a c.args.atoms c.requires.whole c.requires.sized (sym c.in-Some.ensures)
