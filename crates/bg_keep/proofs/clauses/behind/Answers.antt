use Rattle.bg_ast.specs.Views.{clause_of}
use Rattle.bg_keep.proofs.Framed.{seen_behind}
use Rattle.bg_keep.proofs.clauses.behind.Goals as goal

pub returns-then-at-clauses : goal.returns-then-at-clauses
returns-then-at-clauses c = seen_behind clause_of c.args.clauses.now c.args.at
