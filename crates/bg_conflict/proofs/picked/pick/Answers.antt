use Rattle.std.proofs.Common.{◌<◌, ◌+◌, [], false, length, map, take, get_or, ap, sym, ◌∙◌, arith}
use Rattle.std.proofs.lemmas.List.{length-append}
use Rattle.bg_formula.specs.Atoms.{atom_of}
use Rattle.bg_cert.specs.declared.cert.Decision.TheVariants.{Atom}
use Rattle.bg_cert.specs.Paths.{row_of_decision, in_front, rows_on}
use Rattle.bg_conflict.proofs.Places.{one_at_most, rows_more}
use Rattle.bg_conflict.proofs.picked.pick.Goals as goal
use Rattle.bg_conflict.proofs.picked.pick.Goals.{then-wants, else-wants}

pub loop-i-preserved : goal.loop-i-preserved
loop-i-preserved c =
    let atoms = map atom_of c.args.atoms.now in
    let ds = c.args.decisions.now in
    let given = rows_on atoms (take c.loop-i.i ds) in
    let more = in_front (row_of_decision atoms (get_or ds c.loop-i.i (Atom 0 false))) [] in
    let i = c.loop-i.invariant in
    let n = c.in_ok-number.ensures.number in
    let lt : c.loop-i.i < length ds = omega arith in
    let one = one_at_most (row_of_decision atoms (get_or ds c.loop-i.i (Atom 0 false))) in
    let e = rows_more atoms ds c.loop-i.i (Atom 0 false) lt in
    let l = length-append given more in
    record {
      counted = ap length e ∙ l ∙ ap (λ z. z + length more) i.counted ∙ sym n;
      below = omega (arith, n, one, i.below);
      placed = elim c.if-wants.branch [ then-wants w ↦ omega (arith, w.place-is, i.placed) | else-wants w ↦ omega (arith, w.place-is, i.placed) ];
      picked = rw e (c.in_ok-number.ensures.picked given i.counted i.picked);
    }
