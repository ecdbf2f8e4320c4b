use Rattle.std.proofs.Common.{map, ap, subst}
use Rattle.bg_ast.specs.Views.{program_of}
use Rattle.bg_cert.specs.Walks.{has}
use Rattle.bg_places.specs.Views.{placed_of}
use Rattle.bg_certtext.specs.Views.{section_of, cert_of}
use Rattle.bg_accept.specs.Reading.{IsOutcome}
use Rattle.bg_accept.proofs.Answering.{unshown}
use Rattle.bg_accept.proofs.program.answer.Goals as goal

pub returns-in-Some : goal.returns-in-Some
returns-in-Some c =
    let p = program_of c.args.program.now in
    let d = cert_of c.args.cert.now in
    let first = subst (IsOutcome p (has c.args.set.now) (map section_of c.deref.result.now)) c.in-Some.is c.in_ok-place.ensures in
    (c.requires.interp, (c.requires.retained, unshown p d c.args.set.now (map section_of c.deref.result.now) (placed_of c.in-Some.place) c.requires.marked (ap (map section_of) c.deref.ensures.value) first))
