use Rattle.std.proofs.Common.{List, sym, subst}
use Rattle.bg_ast.specs.Views.{program_of}
use Rattle.bg_places.specs.declared.place.Place.{Place}
use Rattle.bg_places.specs.Placed.{Placed, placed_impl}
use Rattle.bg_places.specs.Views.{placed_in}
use Rattle.bg_cert.specs.Walks.{has}
use Rattle.bg_ast.specs.Meaning.{meaning_of}
use Rattle.bg_task.specs.Asked.{AreAsked}
use Rattle.bg_task.specs.Prepared.{ArePrepared}
use Rattle.bg_task.proofs.Numbered.{number_impl, number_ordinary}
use Rattle.bg_check.proofs.Judging.{are_prepared, its_asked}
use Rattle.bg_check.proofs.implementation.judge_ordinary.Goals as goal

pub judge_places-requires-clause-prepared : goal.judge_places-requires-clause-prepared
judge_places-requires-clause-prepared c =
    let p = program_of c.args.program.now in
    let h = c.requires.prepared in
    let w = c.args.prepared.now in
    let P : List Place → Type 0 = λ ps. ArePrepared p w (placed_in ps) in
    subst P (sym c.deref.ensures.value)
    (subst (ArePrepared p w) (sym (c.in_ok-places.ensures h.implementation h.impl_there)) (are_prepared p w c.args.number _ h (number_ordinary c.args.number (placed_impl p.procedures c.args.number h.implementation) (number_impl p.procedures c.args.number h.implementation))))

pub judge_places-requires-clause-asked : goal.judge_places-requires-clause-asked
judge_places-requires-clause-asked c =
    let p = program_of c.args.program.now in
    let h = c.requires.prepared in
    let P : List Placed → Type 0 = AreAsked (meaning_of p) (has c.args.set.now) in
    subst (λ ps. P (placed_in ps)) (sym c.deref.ensures.value)
    (subst P (sym (c.in_ok-places.ensures h.implementation h.impl_there)) (its_asked p (c.placed_are_places.ensures p) (has c.args.set.now) c.args.number h.implementation c.requires.resolved h.impl_there))
