use Rattle.std.proofs.Common.{◌≡◌, true, sym, ap, subst, ◌∙◌}
use Rattle.std.specs.Prelude.{◌↔◌, Option, option_map}
use Rattle.std.proofs.lemmas.Result.{IfOk-weaker}
use Rattle.bg_sense.proofs.Bools.{and_left}
use Rattle.bg_ast.specs.Views.{program_of}
use Rattle.bg_certtext.specs.declared.text.Interp.{Interp}
use Rattle.bg_certtext.specs.Views.{interp_of, cert_of}
use Rattle.bg_certtext.specs.Spellable.{is_interp}
use Rattle.bg_confirm.specs.Accepted.{AreMet}
use Rattle.bg_confirm.proofs.met.is_interp_met.Goals as goal

pub are_met-requires-clause-spelled : goal.are_met-requires-clause-spelled
are_met-requires-clause-spelled c =
    let d = cert_of c.args.cert.now in
    ap (λ (o : Option Interp). is_interp (option_map interp_of o)) (sym c.in-Some.is) ∙ and_left (is_interp d.interp) _ c.requires.spellable

pub returns-in-Some : goal.returns-in-Some
returns-in-Some c =
    let p = program_of c.args.program.now in
    IfOk-weaker c.are_met.result _ _
    (λ yes h. subst (λ (o : Option Interp). yes ≡ true ↔ AreMet p (option_map interp_of o)) (sym c.in-Some.is) h)
    c.are_met.ensures
