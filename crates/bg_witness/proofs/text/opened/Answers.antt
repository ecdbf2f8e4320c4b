use Rattle.std.proofs.Common.{◌≡◌, true, Some, sym, ap, ◌∙◌, subst}
use Rattle.bg_ast.specs.Syntax.{Prog}
use Rattle.bg_ast.specs.declared.resolved.Resolved.{Resolved}
use Rattle.bg_ast.specs.Meaning.{meaning_of}
use Rattle.bg_ast.specs.Views.{program_of}
use Rattle.bg_sense.specs.Typed.{IsTyped}
use Rattle.bg_sense.specs.Resolved.{IsResolved}
use Rattle.bg_fits.specs.Valued.{is_over_values}
use Rattle.bg_witness.proofs.text.opened.Goals as goal

pub returns-in-Ok-clause-typed : goal.returns-in-Ok-clause-typed
returns-in-Ok-clause-typed c = λ q is.
    let p = program_of c.args.typed.program in
    let same : c.in-Ok.opened ≡ q = cc in
    let means = ap meaning_of c.in-Ok.ensures ∙ c.written_programs_are_opened.ensures 16 p in
    subst (λ (r : Resolved). IsTyped (meaning_of (program_of r))) same (subst IsTyped (sym means) (c.opened_programs_are_over_values.ensures.typed 16 (meaning_of p) c.requires))

pub returns-in-Ok-clause-resolved : goal.returns-in-Ok-clause-resolved
returns-in-Ok-clause-resolved c = λ q is.
    let p = program_of c.args.typed.program in
    let same : c.in-Ok.opened ≡ q = cc in
    let means = ap meaning_of c.in-Ok.ensures ∙ c.written_programs_are_opened.ensures 16 p in
    subst (λ (r : Resolved). IsResolved (meaning_of (program_of r))) same (subst IsResolved (sym means) (c.opened_programs_are_over_values.ensures.resolved 16 (meaning_of p) c.requires))

pub returns-in-Ok-clause-scalars : goal.returns-in-Ok-clause-scalars
returns-in-Ok-clause-scalars c = λ q is.
    let p = program_of c.args.typed.program in
    let same : c.in-Ok.opened ≡ q = cc in
    let means = ap meaning_of c.in-Ok.ensures ∙ c.written_programs_are_opened.ensures 16 p in
    subst (λ (r : Resolved). is_over_values (meaning_of (program_of r)) ≡ true) same (subst (λ (x : Prog). is_over_values x ≡ true) (sym means) (c.opened_programs_are_over_values.ensures.scalars 16 (meaning_of p) c.requires))
