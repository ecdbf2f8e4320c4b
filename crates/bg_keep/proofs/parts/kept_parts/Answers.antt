use Rattle.std.proofs.Common.{map, arith}
use Rattle.bg_text.specs.Views.{spec_of}
use Rattle.bg_ast.specs.Views.{clause_of}
use Rattle.bg_keep.specs.Guesses.{names_of}
use Rattle.bg_keep.proofs.Rows.{at_place}
use Rattle.bg_keep.proofs.Turns.{specs_turn}
use Rattle.bg_keep.proofs.parts.kept_parts.Goals as goal

pub loop-i-preserved : goal.loop-i-preserved
loop-i-preserved c =
    let long = c.loop-i.auto.parts in
    let lt = c.loop-i-test.true in
    let at = c.loop-i.at in
    specs_turn
    c.args.set.now
    (names_of c.args.names.now)
    (map clause_of c.args.clauses.now.requires_.now)
    (map clause_of c.args.clauses.now.ensures_.now)
    (map spec_of c.loop-i.made.items)
    (map spec_of c.push_part.new.out.items)
    c.loop-i.parts
    c.loop-i.i
    at.requires_
    at.ensures_
    c.passed-after.result.requires_
    c.passed-after.result.ensures_
    c.replace-part.result
    c.replace-part.new.dest
    _
    (omega (arith, lt, long))
    (at_place c.loop-i.parts c.loop-i.i c.replace-part.result c.index-parts-i.result c.replace-part.ensures.value c.index-parts-i.is)
    c.passed-after.ensures.requires_
    c.passed-after.ensures.ensures_
    c.loop-i.invariant
    c.in_ok-push_part.ensures
