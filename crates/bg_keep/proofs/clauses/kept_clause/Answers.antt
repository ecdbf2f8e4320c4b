use Rattle.bg_text.specs.Views.{clause_of}
use Rattle.bg_keep.proofs.Forms.{left_out}
use Rattle.bg_keep.proofs.clauses.kept_clause.Goals as goal

pub returns-then-not-is_in : goal.returns-then-not-is_in
returns-then-not-is_in c =
    left_out c.args.set.now c.args.candidate c.in-Some.c c.is_in.result (clause_of c.args.k) c.in-Some.is c.is_in.ensures c.if-not-is_in.true
