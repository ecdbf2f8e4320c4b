use Rattle.std.proofs.Common.{◌≡◌, true, ◌++◌, ap, ◌∙◌, subst}
use Rattle.bg_ast.specs.Meaning.{meaning_of}
use Rattle.bg_ast.specs.Views.{program_of}
use Rattle.bg_cert.specs.Walks.{has}
use Rattle.bg_places.specs.Views.{placed_of}
use Rattle.bg_term_table.specs.Lines.{lines_of}
use Rattle.bg_check.specs.Rounds.{IsRound}
use Rattle.bg_check.specs.Found.{IsFound, IsShownBehind, has_cert}
use Rattle.bg_check.proofs.Standing.{round_there, more_there}
use Rattle.bg_check.proofs.first.first_try.Goals as goal

pub loop-preserved : goal.loop-preserved
loop-preserved c =
    let p = program_of c.args.question.program.now in
    let set = has c.args.question.set.now in
    let t = (placed_of c.args.question.place.now).place in
    let w = c.args.question.prepared.now in
    let found = subst (IsFound c.args.effort.budget (meaning_of p) set t (lines_of c.deref.result.now)) c.in-Wanted.is c.in_ok-cert.ensures.found in
    let wanted = subst (λ xs. IsRound (meaning_of p) set t (lines_of xs) c.in-Wanted.round) c.deref.ensures.value found in
    more_there p t.implementation w c.loop.lines.items c.in-Wanted.round.lines.items c.push_all.new.made.items (round_there p set t w (lines_of c.loop.lines.items) c.in-Wanted.round c.loop.invariant wanted) (c.in_ok-push_all-in-Wanted.ensures ∙ ap (λ xs. c.loop.lines.items ++ xs) c.deref-in-Wanted.ensures.value)

pub returns-in-Proved-clause-whole : goal.returns-in-Proved-clause-whole
returns-in-Proved-clause-whole c keeps =
    c.proof_of.ensures.kept ∙ subst (λ found. has_cert found ≡ true) c.in-Proved.is (c.in_ok-cert.ensures.kept keeps)

pub returns-in-Proved-clause-right : goal.returns-in-Proved-clause-right
returns-in-Proved-clause-right c =
    let p = meaning_of (program_of c.args.question.program.now) in
    let set = has c.args.question.set.now in
    let t = (placed_of c.args.question.place.now).place in
    let found = subst (IsFound c.args.effort.budget p set t (lines_of c.deref.result.now)) c.in-Proved.is c.in_ok-cert.ensures.found in
    c.proof_of.ensures.shown p set t (subst (λ xs. IsShownBehind p set t (lines_of xs) c.in-Proved.cert) c.deref.ensures.value found)
