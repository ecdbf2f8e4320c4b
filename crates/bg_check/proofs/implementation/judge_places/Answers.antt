use Rattle.std.proofs.Common.{◌≡◌, ◌<◌, true, List, length, map, sym, ap, ◌∙◌, subst, arith}
use Rattle.bg_ast.specs.Meaning.{meaning_of}
use Rattle.bg_ast.specs.Views.{program_of}
use Rattle.bg_cert.specs.Walks.{has}
use Rattle.bg_check.specs.declared.verdict.Judged.{Judged}
use Rattle.bg_check.specs.Verdicts.{placed_at, AreRightAt, have_all}
use Rattle.bg_check.proofs.Judging.{one_more, places_more, prepared_at, asked_at}
use Rattle.bg_check.proofs.Shown.{all_more}
use Rattle.bg_check.proofs.implementation.judge_places.Goals as goal

pub judge-requires-clause-prepared : goal.judge-requires-clause-prepared
judge-requires-clause-prepared c =
    let l : c.loop-place.place-index < length c.args.places.now = omega arith in
    prepared_at (program_of c.args.program.now) c.args.prepared.now c.args.places.now c.loop-place.place-index _ c.requires.prepared l

pub judge-requires-clause-asked : goal.judge-requires-clause-asked
judge-requires-clause-asked c =
    let l : c.loop-place.place-index < length c.args.places.now = omega arith in
    asked_at (meaning_of (program_of c.args.program.now)) (has c.args.set.now) c.args.places.now c.loop-place.place-index _ c.requires.asked l

pub loop-place-preserved : goal.loop-place-preserved
loop-place-preserved c =
    let l : c.loop-place.place-index < length c.args.places.now = omega arith in
    let p = meaning_of (program_of c.args.program.now) in
    let P : List Judged → Type 0 = AreRightAt c.args.effort.budget p (has c.args.set.now) in
    record {
      places =
          ap (map placed_at) c.in_ok-push.ensures.items
          ∙ places_more c.loop-place.made.items c.in_ok-one.one c.args.places.now c.loop-place.place-index _ c.loop-place.invariant.places l c.in_ok-one.ensures.place;
      right =
          subst P (sym c.in_ok-push.ensures.items) (one_more c.args.effort.budget p (has c.args.set.now) c.loop-place.made.items c.in_ok-one.one c.loop-place.invariant.right c.in_ok-one.ensures.right);
      whole = λ keeps.
          subst (λ (js : List Judged). have_all js ≡ true) (sym c.in_ok-push.ensures.items) (all_more c.loop-place.made.items c.in_ok-one.one (c.loop-place.invariant.whole keeps) (c.in_ok-one.ensures.whole keeps));
    }
