use Rattle.std.proofs.Common.{map, append-nil, append_assoc, sym, None}
use Rattle.bg_ast.specs.Execution.{AtReturn}
use Rattle.bg_ast.specs.Views.{proc_of, clause_of, sts_in}
use Rattle.bg_places.specs.Placed.{placed_sts, placed_clauses}
use Rattle.bg_places.specs.Views.{placed_in}
use Rattle.bg_places.proofs.There.{ensures-None, ensures-Some}
use Rattle.bg_places.proofs.program.push_implementation.Goals as goal

pub returns-in-None : goal.returns-in-None
returns-in-None c =
    let body = placed_sts (map proc_of c.args.procedures.now) c.args.number (sts_in c.args.m.now.body.items) in
    rw (ensures-None c.args.procedures.now c.args.m.now.procedure c.in-None.ensures.lookup.3, append-nil body, sym c.deref.ensures.value) c.in_ok-push_stmts.ensures

pub returns-in-Some : goal.returns-in-Some
returns-in-Some c =
    let body = placed_sts (map proc_of c.args.procedures.now) c.args.number (sts_in c.deref.result.now) in
    rw (
      ensures-Some c.args.procedures.now c.args.m.now.procedure c.in-Some.q.now c.in-Some.ensures.lookup.3.0 c.in-Some.ensures.lookup.1,
      sym c.deref.ensures.value,
      sym (append_assoc (placed_in c.args.out.now.items) body (placed_clauses c.args.number (AtReturn c.args.number) None (map clause_of c.in-Some.q.now.ensures_.items))),
      sym c.in_ok-push_stmts.ensures,
      sym c.deref-in-Some.ensures.value,
    )
    c.push_checks.ensures
