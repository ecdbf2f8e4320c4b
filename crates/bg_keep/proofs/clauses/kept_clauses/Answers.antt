use Rattle.std.proofs.Common.{◌++◌, map, ap, sym, ◌∙◌, arith}
use Rattle.bg_text.specs.Views as v
use Rattle.bg_text.specs.Views.{option_of as optional}
use Rattle.bg_ast.specs.Views.{candidate_of, clause_of}
use Rattle.bg_keep.specs.Guesses.{names_of}
use Rattle.bg_keep.specs.Told as s
use Rattle.bg_keep.proofs.Turns.{clauses_turn}
use Rattle.bg_keep.proofs.clauses.kept_clauses.Goals as goal

pub loop-i-preserved : goal.loop-i-preserved
loop-i-preserved c =
    let made = map v.clause_of c.loop-i.made.items in
    let k = optional candidate_of c.candidate_at.result in
    let long = c.loop-i.auto.ks in
    let lt = c.loop-i-test.true in
    clauses_turn c.args.set.now (names_of c.args.names.now) (map clause_of c.args.told.now) made (map v.clause_of c.push_clause.new.out.items) c.loop-i.ks c.loop-i.i c.index-ks-i.result c.replace-k.new.dest k _ (omega (arith, lt, long)) c.index-ks-i.is c.candidate_at.ensures c.loop-i.invariant (c.in_ok-push_clause.ensures ∙ ap (λ x. made ++ s.told_clause c.args.set.now k (v.clause_of x)) (c.replace-k.ensures.value ∙ sym c.index-ks-i.is))
