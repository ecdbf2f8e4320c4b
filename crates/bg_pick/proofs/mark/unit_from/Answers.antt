use Rattle.std.proofs.Common.{sym, get_or}
use Rattle.bg_formula.specs.Formulas.{formula_of}
use Rattle.bg_cert.specs.Walks.{has}
use Rattle.bg_cert.proofs.Places.{at_there}
use Rattle.bg_pick.specs.declared.hint.Hint.TheVariants.{Nth}
use Rattle.bg_pick.proofs.Marked.{unit_next}
use Rattle.bg_pick.proofs.mark.unit_from.Goals as goal

pub loop-k-preserved : goal.loop-k-preserved
loop-k-preserved c =
    let xs = c.args.hints.now in
    let k = c.loop-k.k in
    unit_next (formula_of c.args.f.now) (has c.args.set.now) c.args.trail.now.decisions.items xs c.args.from k (get_or xs k (Nth 0)) (at_there xs k (Nth 0) c.loop-k-test.true) (sym c.in_default.ensures) c.loop-k.invariant
