use Rattle.std.proofs.Common.{◌+◌, drop, ap}
use Rattle.bg_ast.specs.Meaning as m
use Rattle.bg_ast.specs.Views.{ex_of, exs_in}
use Rattle.bg_blocks.proofs.Undoing.{drop_whole}
use Rattle.bg_renamed.specs.Views.{env_of}
use Rattle.bg_incarnate.proofs.Passing.{drop_item}
use Rattle.bg_incarnate.proofs.Worths.{worth_step, worth_end}
use Rattle.bg_incarnate.proofs.worth.arguments.Goals as goal

pub loop-e-preserved : goal.loop-e-preserved
loop-e-preserved c =
    let i = c.loop-e.e-index in
    let e = c.e-item.result in
    let d = drop_item c.args.es.now i e c.loop-e-test.true c.e-item.is in
    worth_step (env_of c.args.env.now) (m.exs_of (exs_in (drop (i + 1) c.args.es.now))) (m.ex_of (ex_of e)) (m.ex_of (ex_of c.in_ok-value.value)) _ _ _ _ _ _ _ _ _ c.in_ok-value.ensures c.in_ok-worth.ensures.cmds c.in_ok-worth.ensures.made c.in_ok-worth.ensures.more (rw d at c.loop-e.invariant)

pub returns : goal.returns
returns c =
    let i = c.loop-e.e-index in
    let none = ap (λ l. m.exs_of (exs_in l)) (drop_whole i c.args.es.now c.loop-e-test.false) in
    let w = worth_end (env_of c.args.env.now) (m.exs_of (exs_in (drop i c.args.es.now))) _ _ _ _ _ _ none c.loop-e.invariant in
    record { cmds = w.0; made = w.1; more = w.2 }
