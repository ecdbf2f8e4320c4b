use Rattle.std.proofs.Common.{◌≡◌, true, ◌∙◌, refl, sym, subst, arith}
use Rattle.bg_ast.specs.Meaning.{meaning_of}
use Rattle.bg_ast.specs.Views.{program_of}
use Rattle.bg_cert.specs.Walks.{has}
use Rattle.bg_places.specs.Views.{placed_of}
use Rattle.bg_term_table.specs.Lines.{lines_of}
use Rattle.bg_task.specs.Lines.{AreThere}
use Rattle.bg_check.specs.declared.verdict.Cause.TheVariants.{Rounds}
use Rattle.bg_check.specs.Rounds.{IsRound}
use Rattle.bg_check.specs.Verdicts.{IsUnknown}
use Rattle.bg_check.specs.Found.{IsFound, IsShownBehind, has_cert}
use Rattle.bg_check.proofs.Standing.{none_yet, stand_more, unknown_right}
use Rattle.bg_check.proofs.rounds.in_rounds.Goals as goal

pub loop-stand-init : goal.loop-stand-init
loop-stand-init c =
    none_yet (program_of c.args.question.program.now) (has c.args.question.set.now) (placed_of c.args.question.place.now).place c.args.question.prepared.now c.args.effort.budget _ c.new.ensures.items c.new-2.ensures.items refl

pub search_place-requires-clause-there : goal.search_place-requires-clause-there
search_place-requires-clause-there c =
    subst (λ xs. AreThere (program_of c.args.question.program.now) c.args.question.place.now.implementation c.args.question.prepared.now (lines_of xs)) (sym c.deref.ensures.value) c.loop-stand.invariant.there

pub returns-in-Proved-clause-whole : goal.returns-in-Proved-clause-whole
returns-in-Proved-clause-whole c keeps =
    c.proof_of.ensures.kept ∙ subst (λ found. has_cert found ≡ true) c.in-Proved.is (c.in_ok-cert.ensures.kept keeps)

pub returns-in-Proved-clause-right : goal.returns-in-Proved-clause-right
returns-in-Proved-clause-right c =
    let p = meaning_of (program_of c.args.question.program.now) in
    let set = has c.args.question.set.now in
    let t = (placed_of c.args.question.place.now).place in
    let found = subst (IsFound (record c.args.effort.budget { nodes = c.loop-stand.stand.left }) p set t (lines_of c.deref.result.now)) c.in-Proved.is c.in_ok-cert.ensures.found in
    c.proof_of.ensures.shown p set t (subst (λ xs. IsShownBehind p set t (lines_of xs) c.in-Proved.cert) c.deref.ensures.value found)

pub returns-in-Refuted-clause-right : goal.returns-in-Refuted-clause-right
returns-in-Refuted-clause-right c =
    let p = meaning_of (program_of c.args.question.program.now) in
    let set = has c.args.question.set.now in
    let t = (placed_of c.args.question.place.now).place in
    subst (IsFound (record c.args.effort.budget { nodes = c.loop-stand.stand.left }) p set t (lines_of c.deref.result.now)) c.in-Refuted.is c.in_ok-cert.ensures.found

pub returns-in-Unknown-clause-right : goal.returns-in-Unknown-clause-right
returns-in-Unknown-clause-right c =
    let p = meaning_of (program_of c.args.question.program.now) in
    let set = has c.args.question.set.now in
    let t = (placed_of c.args.question.place.now).place in
    let found = subst (IsFound (record c.args.effort.budget { nodes = c.loop-stand.stand.left }) p set t (lines_of c.deref.result.now)) c.in-Unknown.is c.in_ok-cert.ensures.found in
    unknown_right (program_of c.args.question.program.now) set t c.args.question.prepared.now c.args.effort.budget c.loop-stand.stand c.in-Unknown.cause c.loop-stand.invariant (subst (λ xs. IsUnknown (record c.args.effort.budget { nodes = c.loop-stand.stand.left }) p set t (lines_of xs) c.in-Unknown.cause) c.deref.ensures.value found)

pub returns-then-stand-eq0-clause-right : goal.returns-then-stand-eq0-clause-right
returns-then-stand-eq0-clause-right c =
    let p = meaning_of (program_of c.args.question.program.now) in
    let set = has c.args.question.set.now in
    let t = (placed_of c.args.question.place.now).place in
    unknown_right (program_of c.args.question.program.now) set t c.args.question.prepared.now c.args.effort.budget c.loop-stand.stand Rounds c.loop-stand.invariant c.if-stand-eq0.true

pub loop-stand-preserved : goal.loop-stand-preserved
loop-stand-preserved c =
    let r = program_of c.args.question.program.now in
    let p = meaning_of r in
    let set = has c.args.question.set.now in
    let t = (placed_of c.args.question.place.now).place in
    let w = c.args.question.prepared.now in
    let found = subst (IsFound (record c.args.effort.budget { nodes = c.loop-stand.stand.left }) p set t (lines_of c.deref.result.now)) c.in-Wanted.is c.in_ok-cert.ensures.found in
    let wanted = subst (λ xs. IsRound p set t (lines_of xs) c.in-Wanted.round) c.deref.ensures.value found in
    stand_more r set t w c.args.effort.budget c.loop-stand.stand c.add.new.stand c.in-Wanted.round c.loop-stand.invariant wanted c.in_ok-add-in-Wanted.ensures

pub loop-stand-smaller : goal.loop-stand-smaller
loop-stand-smaller c = let l = c.in_ok-add-in-Wanted.ensures.left in omega (arith, l)
