use Rattle.std.proofs.Common.{◌∙◌, arith, sym, not}
use Rattle.bg_cert.specs.Certs.{literal_of}
use Rattle.bg_cert.proofs.Counts.{decides_past}
use Rattle.bg_cert.proofs.Literals.{none_past}
use Rattle.bg_cert.proofs.lemma.denied.Goals as goal

pub returns-in-None : goal.returns-in-None
returns-in-None c =
    let t = c.args.trail.now in
    let l = literal_of c.args.atoms c.args.l.now in
    let p = none_past c.len.result l (sym c.place_of.ensures ∙ c.in-None.is) in
    decides_past t.counts.items t.decisions.items l.atom (not l.sign) t.counted (omega (arith, p, c.len.ensures))
