use Rattle.std.proofs.Common.{◌≡◌, refl, sym, ◌∙◌}
use Rattle.bg_ast.specs.Meaning.{meaning_of}
use Rattle.bg_ast.specs.Views.{program_of}
use Rattle.bg_places.specs.Views.{placed_of}
use Rattle.bg_model.specs.declared.failure.Counterexample.{Counterexample}
use Rattle.bg_check.proofs.Fewer.{popped, fewer, kinds_left, used_here, still_here}
use Rattle.bg_check.proofs.dropping.drop_last.Goals as goal

pub returns-in-Failed : goal.returns-in-Failed
returns-in-Failed c =
    let p = program_of c.args.question.program.now in
    let t = (placed_of c.args.question.place.now).place in
    let old = c.args.cex.now in
    let cut = c.in-Some.ensures.cases.0 in
    let new : Counterexample = record { tables = old.tables; globals = old.globals; frame = old.frame; kinds = c.pop-in-Failed.new.self; choices = c.pop.new.self } in
    let whole = sym c.deref.ensures.value ∙ cut in
    let is : c.pop.new.self.items ≡ c.in-Some.front.now = popped old.choices.items c.in-Some.front.now c.pop.new.self.items c.in-Some.field-0-0.now old.choices.len whole old.choices.ok.0 c.pop.ensures.rest in
    let kinds = kinds_left old c.in-Some.front.now c.in-Some.field-0-0.now old.kinds.len c.pop-in-Failed.new.self.items whole c.requires.fails.1.1 old.kinds.ok.0 c.pop-in-Failed.ensures.rest in (
      still_here c.replays_are_induction_runs.ensures p (c.programs_over_values_are_tabled.ensures (meaning_of p) c.requires.typed c.requires.scalars).bodies c.args.question.set.now t old c.args.question.prepared.now c.requires.prepared c.deref-2.result.now c.deref-3.result.now c.deref-4.result.now c.deref-5.result.now c.deref.result.now c.in-Some.front.now c.in-Some.field-0-0.now c.in_ok-ending.ending c.deref-2.ensures.value c.deref-3.ensures.value c.deref-4.ensures.value c.deref-5.ensures.value c.deref.ensures.value cut c.requires.fails c.in_ok-ending.ensures c.in-Failed.field-0 c.in-Failed.is new refl refl refl kinds is,
      fewer old.choices.items c.in-Some.front.now c.pop.new.self.items c.in-Some.field-0-0.now whole is,
    )

pub returns-in_default-ending : goal.returns-in_default-ending
returns-in_default-ending c =
    let p = program_of c.args.question.program.now in
    let t = (placed_of c.args.question.place.now).place in (
      c.requires.fails,
      used_here c.replays_are_induction_runs.ensures p (c.programs_over_values_are_tabled.ensures (meaning_of p) c.requires.typed c.requires.scalars).bodies c.args.question.set.now t c.args.cex.now c.args.question.prepared.now c.requires.prepared c.deref-2.result.now c.deref-3.result.now c.deref-4.result.now c.deref-5.result.now c.deref.result.now c.in-Some.front.now c.in-Some.field-0-0.now c.in_ok-ending.ending c.deref-2.ensures.value c.deref-3.ensures.value c.deref-4.ensures.value c.deref-5.ensures.value c.deref.ensures.value c.in-Some.ensures.cases.0 c.requires.fails c.in_ok-ending.ensures c.in_default-ending.not-Failed,
    )
