use Rattle.std.proofs.Common.{rules, ◌≡◌, true, map, sym, ap, ◌∙◌, subst}
use Rattle.bg_ast.specs.Syntax.{Prog}
use Rattle.bg_ast.specs.Resolved as r
use Rattle.bg_ast.specs.Meaning.{meaning_of}
use Rattle.bg_ast.specs.Views.{program_of, declared_of, fun_of}
use Rattle.bg_sense.specs.Typed.{IsTyped}
use Rattle.bg_sense.specs.Resolved.{IsResolved}
use Rattle.bg_fits.specs.Valued.{is_over_values}
use Rattle.std.proofs.lemmas.List.{length-map}
use Rattle.bg_houdini.specs.Outcomes as houdini
use Rattle.bg_expanded.specs.Chains.{most_bodies}
use Rattle.bg_inference.specs.Outcomes.{has_body}
use Rattle.bg_inference.proofs.inference.infer.Goals as goal

pub infer-requires-clause-typed : goal.infer-requires-clause-typed
infer-requires-clause-typed g c κs within =
    let p = program_of c.args.program in
    subst IsTyped (sym (ap meaning_of c.in_ok-opened.ensures ∙ c.written_programs_are_opened.ensures most_bodies p)) (c.opened_programs_are_over_values.ensures.typed most_bodies (meaning_of p) c.requires.openable)

pub infer-requires-clause-scalars : goal.infer-requires-clause-scalars
infer-requires-clause-scalars g c κs within =
    let p = program_of c.args.program in
    subst (λ (x : Prog). is_over_values x ≡ true) (sym (ap meaning_of c.in_ok-opened.ensures ∙ c.written_programs_are_opened.ensures most_bodies p)) (c.opened_programs_are_over_values.ensures.scalars most_bodies (meaning_of p) c.requires.openable)

pub infer-requires-clause-resolved : goal.infer-requires-clause-resolved
infer-requires-clause-resolved g c κs within =
    let p = program_of c.args.program in
    subst IsResolved (sym (ap meaning_of c.in_ok-opened.ensures ∙ c.written_programs_are_opened.ensures most_bodies p)) (c.opened_programs_are_over_values.ensures.resolved most_bodies (meaning_of p) c.requires.openable)

pub returns : goal.returns
returns g c =
    let p = program_of c.args.program in
    record {
      opened = c.in_ok-opened.ensures;
      globals = search (rules, c.len-globals.ensures, length-map c.args.program.globals.items declared_of);
      bodies = c.in_ok-bodies.ensures ∙ ap (λ fs. map has_body (map fun_of fs)) c.deref.ensures.value;
      set = c.in_ok-axioms.ensures.0;
      axioms = c.in_ok-axioms.ensures.1;
      judged = subst (λ (q : r.Program). houdini.IsTrueOutcome c.args.effort.keeps c.args.effort.budget q c.in_ok-judged.judged) c.in_ok-opened.ensures c.in_ok-judged.ensures;
    }
