use Rattle.std.proofs.Common.{Option, take, map, sym, ap, ◌∙◌, subst}
use Rattle.bg_ast.specs.Meaning.{meaning_of}
use Rattle.bg_ast.specs.Views.{program_of}
use Rattle.bg_places.specs.Views.{spot_of}
use Rattle.bg_forms.specs.Worth.{bools_at}
use Rattle.bg_formed.specs.Views.{form_block_of}
use Rattle.bg_blocks.specs.Views.{block_of}
use Rattle.bg_scalar.specs.Values.{value_of}
use Rattle.bg_scalar.specs.Views.{tables_in}
use Rattle.bg_model.specs.Behind.{behind_front}
use Rattle.bg_model.specs.Views.{set_of}
use Rattle.bg_model.specs.Counterexamples.{is_denied, IsCounterexample, IsTold, AreTyped}
use Rattle.bg_model.specs.declared.failure.Counterexample.{Counterexample}
use Rattle.bg_check.proofs.Attempting.{begins}
use Rattle.bg_check.proofs.attempt.attempt.Goals as goal

pub tried-requires-clause-state : goal.tried-requires-clause-state
tried-requires-clause-state c =
    let p = program_of c.args.question.program.now in
    let place = c.args.question.place.now in
    let w = c.args.question.prepared.now in
    let vs = map value_of c.first-values.result.now in
    let forms = behind_front c.in_ok-front.front (map form_block_of c.deref-4.result.now) in
    let set = set_of c.args.question.set.now in
    let truths = bools_at c.args.met.truths.now in
    let tables = tables_in c.args.tables.items in
    let told = subst (λ (x : Option Counterexample). IsTold (is_denied set (spot_of place.spot) truths forms) x (IsCounterexample (meaning_of p) (map (block_of p) c.deref-2.result.now) w.frame c.deref-3.result.now forms set (spot_of place.spot) truths vs tables)) c.in-Some.is c.in_ok-counterexample.ensures.told in
    begins c.typed_programs_have_typed_bodies.ensures.implementations c.arrivals_fit.ensures c.typed_values_begin_with_a_state.ensures p place.implementation w c.requires.prepared c.requires.typed c.requires.scalars c.first_kinds-kinds.result.now c.deref-2.result.now c.deref-3.result.now vs forms set (spot_of place.spot) truths tables c.in-Some.cex
    (c.first_kinds-kinds.ensures ∙ ap (take w.count) c.deref.ensures.value) c.deref-2.ensures.value c.deref-3.ensures.value (sym c.fit.ensures ∙ c.if-not-fit.false) told.1

pub tried-requires-clause-types : goal.tried-requires-clause-types
tried-requires-clause-types c =
    subst AreTyped c.in-Some.is (c.in_ok-counterexample.ensures.typed (sym c.fit.ensures ∙ c.if-not-fit.false))
