-- What a call does: it means its procedure's specification.
use Rattle.std.specs.Prelude.{Option, Some, None, ◌++◌}
use Rattle.bg_ast.specs.Syntax.{Proc}
use Rattle.bg_ast.specs.Execution.{AtCall}
use Rattle.bg_sense.specs.Eval.{evs}
use Rattle.bg_sense.specs.Flow.{Next, and_then}
use Rattle.bg_sense.specs.Context.{Calls, scope, callee_scope}
use Rattle.bg_sense.specs.Clauses.{check_all, suppose_all, is_there, says_of}
use Rattle.bg_sense.specs.Variables.{put_all, wheres_of, wheres_at, procedure_of, modified}
use Rattle.bg_sense.specs.Choices.{forget_all, choose_all}

-- a call means its procedure's specification: the preconditions are checked, the modified globals and the results get chosen values,
-- what their declarations and the postconditions say is assumed, and the results are stored
abbrev pub call_of : Option Proc → Calls
call_of None c k w = Next w
call_of (Some q) c k w =
    let args = evs k.args (scope c w) in
    and_then
    (check_all c (AtCall k.site) (callee_scope c w.globals args) q.requires_ w)
    (λ v. and_then
    (forget_all c (modified c.program q) v)
    (λ u. choose_all q.results u
    (λ results t. and_then
    (suppose_all
    c
    (callee_scope c v.globals (args ++ results))
    (wheres_at c (modified c.program q) ++ (wheres_of q.results ++ says_of (is_there c.set) q.ensures_))
    t)
    (λ s. Next (put_all k.takes results s)))))

-- a call means the specification of the procedure that it names
abbrev pub by_specification : Calls
by_specification c k w = call_of (procedure_of c.program k.procedure) c k w
