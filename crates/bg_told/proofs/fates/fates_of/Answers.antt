use Rattle.std.proofs.Common.{ap, ◌∙◌, ◌<◌, map, length, false, None, arith}
use Rattle.std.proofs.lemmas.List.{get_or_default}
use Rattle.bg_ast.specs.Meaning.{meaning_of}
use Rattle.bg_ast.specs.Views.{program_of}
use Rattle.bg_houdini.specs.Told.{first_of}
use Rattle.bg_told.specs.Fates.{told_fate, removal_of}
use Rattle.bg_told.proofs.Marks.{fate_more}
use Rattle.bg_told.proofs.fates.fates_of.Goals as goal

pub loop-b-preserved : goal.loop-b-preserved
loop-b-preserved c =
    let p = meaning_of (program_of c.args.program.now) in
    let below = c.loop-b-test.true in
    let checked_many = c.in_ok-checked.ensures.count in
    let first_many = c.in_ok-firsts.ensures.count in
    let checked_in : c.loop-b.b < length c.in_ok-checked.checked.items = omega (arith, below, checked_many) in
    let first_in : c.loop-b.b < length c.in_ok-firsts.firsts.items = omega (arith, below, first_many) in
    ap (map told_fate) c.in_ok-push.ensures.items
    ∙ fate_more p c.args.outcome.now c.loop-b.made.items c.fate_of.result c.loop-b.b c.is_in-kept.result c.index.result.now c.index-in-loop-b.result.now
    c.loop-b.invariant c.fate_of.ensures c.is_in-kept.ensures
    (c.index.ensures ∙ get_or_default c.in_ok-checked.checked.items c.loop-b.b c.index.result.now false checked_in ∙ c.in_ok-checked.ensures.each c.loop-b.b c.loop-b-test.true)
    (ap removal_of (c.index-in-loop-b.ensures ∙ get_or_default c.in_ok-firsts.firsts.items c.loop-b.b c.index-in-loop-b.result.now None first_in) ∙ c.in_ok-firsts.ensures.each c.loop-b.b c.loop-b-test.true ∙ ap (first_of c.loop-b.b) c.deref.ensures.value)
