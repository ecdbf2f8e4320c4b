use Rattle.std.proofs.Common.{◌≡◌, length, arith}
use Rattle.bg_formula.specs.Atoms.{atom_of}
use Rattle.bg_formula.specs.Formulas.{formula_of}
use Rattle.bg_cert.proofs.Literals.{length_map, known_told}
use Rattle.bg_cert.proofs.check.closes.Goals as goal

pub returns-then-i-len : goal.returns-then-i-len
returns-then-i-len c =
    let i = c.in-Known.is in
    let n : c.len-then-i-len.result ≡ length (formula_of c.args.f.now).atoms = let m = length_map atom_of c.args.f.now.atoms.items in let o = c.args.f.now.atoms.ok in omega (arith, c.len-then-i-len.ensures, m, o) in
    let t = c.if-i-len.true in
    let l = c.len.ensures in
    rw i (known_told c.args.tour.now.trail.decisions.items c.len-then-i-len.result _ c.deref-then-i-len.result.now c.args.cert.now.nodes.items c.args.tour.now.lemmas.items c.in-Known.i c.index-k.result.now c.known_false.result (omega (arith, t, l)) c.index-k.ensures n c.deref-then-i-len.ensures.value c.known_false.ensures)
