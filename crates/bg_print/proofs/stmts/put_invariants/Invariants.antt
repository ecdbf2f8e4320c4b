use Rattle.std.proofs.Common.{◌≡◌, ◌++◌, drop, map}
use Rattle.bg_text.specs.declared.token.Kind.TheVariants as kinds
use Rattle.bg_text.specs.Views.{clause_of}
use Rattle.bg_print.specs.Docs.{text, each, line}
use Rattle.bg_print.specs.Parts.{clause_doc}
use Rattle.bg_print.proofs.stmts.put_invariants.Given as goal

abbrev pub invariant-loop-clause : goal.invariant-loop-clause
invariant-loop-clause l = l.out.items ++ text (each (λ c. line l.n (clause_doc kinds.Invariant c)) (map clause_of (drop l.clause-index l.clauses))) ≡ l.fn.out.items ++ text (each (λ c. line l.n (clause_doc kinds.Invariant c)) (map clause_of l.clauses))
