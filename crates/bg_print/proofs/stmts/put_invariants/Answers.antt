use Rattle.std.proofs.Common.{refl, map}
use Rattle.bg_text.specs.declared.token.Kind.TheVariants as kinds
use Rattle.bg_text.specs.Trees.{Clause}
use Rattle.bg_text.specs.Views.{clause_of}
use Rattle.bg_print.specs.Parts.{clause_doc}
use Rattle.bg_print.specs.Docs.{text, each, line}
use Rattle.bg_print.proofs.Loops.{one_more, none_left}
use Rattle.bg_print.proofs.stmts.put_invariants.Goals as goal

pub loop-clause-preserved : goal.loop-clause-preserved
loop-clause-preserved c = one_more (λ l. text (each (λ (k : Clause). line c.args.n (clause_doc kinds.Invariant k)) (map clause_of l))) (λ l. text (each (λ (k : Clause). line c.args.n (clause_doc kinds.Invariant k)) (map clause_of l))) c.args.clauses.now c.loop-clause.clause-index c.clause-item.result (text ((λ (k : Clause). line c.args.n (clause_doc kinds.Invariant k)) (clause_of c.clause-item.result))) _ _ _ (λ ys. refl) c.loop-clause-test.true c.clause-item.is c.in_ok-put_invariant.ensures c.loop-clause.invariant

pub returns : goal.returns
returns c = none_left (λ l. text (each (λ (k : Clause). line c.args.n (clause_doc kinds.Invariant k)) (map clause_of l))) c.args.clauses.now c.loop-clause.clause-index _ _ refl c.loop-clause-test.false c.loop-clause.invariant
