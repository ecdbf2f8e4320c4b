use Rattle.std.proofs.Common.{map, ap, ◌∙◌}
use Rattle.std.proofs.lemmas.Result.{IfOk-weaker}
use Rattle.bg_ast.specs.Meaning as m
use Rattle.bg_ast.specs.Execution.{AtCall}
use Rattle.bg_ast.specs.Views.{placed_of, var_of}
use Rattle.bg_kinds.specs.Views.{ref_in}
use Rattle.bg_flow.specs.Core.{demands, sayings, each_one}
use Rattle.bg_blocks.specs.Views.{clauses_in}
use Rattle.bg_scalar.specs.Views.{vals_in}
use Rattle.bg_replay.specs.Views.{moment_of, around_of, said_of}
use Rattle.bg_replay.proofs.Plans.{call_goes, call_stops}
use Rattle.bg_replay.proofs.call.call_with.Goals as goal

pub returns : goal.returns
returns c =
    let k = c.args.callee in
    let checked = rw (c.deref.ensures.value, c.deref-2.ensures.value, c.deref-3.ensures.value, c.deref-4.ensures.value) at c.in_ok-e.ensures in
    let goes = call_goes (around_of c.args.around) (vals_in c.args.args.items) (vals_in c.deref-6.result.now) (demands (AtCall k.call.now.site) (clauses_in k.procedure.now.requires_.items)) (map var_of k.modifies.now) (map ref_in k.results.now) (sayings each_one (clauses_in k.procedure.now.ensures_.items)) (map m.variable_of (map placed_of k.call.now.takes.items)) (moment_of c.args.moment.now) (moment_of c.forget.new.moment) (said_of c.in_ok-e.field-0) (said_of c.in_ok-e-2.field-0) checked (ap said_of c.in-Goes.is) c.in_ok-e-2.ensures (ap said_of c.in-Goes-2.is) (ap vals_in c.deref-6.ensures.value ∙ (c.in_ok-was.ensures ∙ ap vals_in c.deref-5.ensures.value)) in
    IfOk-weaker c.give_back.result _ _ (λ step h. h ∙ goes) c.give_back.ensures

pub returns-in-Over : goal.returns-in-Over
returns-in-Over c =
    let k = c.args.callee in
    let checked = rw (c.deref.ensures.value, c.deref-2.ensures.value, c.deref-3.ensures.value, c.deref-4.ensures.value) at c.in_ok-e.ensures in
    call_stops (around_of c.args.around) (vals_in c.args.args.items) (demands (AtCall k.call.now.site) (clauses_in k.procedure.now.requires_.items)) (map var_of k.modifies.now) (map ref_in k.results.now) (sayings each_one (clauses_in k.procedure.now.ensures_.items)) (map m.variable_of (map placed_of k.call.now.takes.items)) (moment_of c.args.moment.now) c.in-Over.e (said_of c.in_ok-e.field-0) checked (ap said_of c.in-Over.is)
