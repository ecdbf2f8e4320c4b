use Rattle.std.proofs.Common.{◌+◌, map, drop, ap, arith}
use Rattle.bg_ast.specs.Syntax as s
use Rattle.bg_ast.specs.Meaning as m
use Rattle.bg_ast.specs.Views.{ex_of, exs_in, target_of}
use Rattle.bg_blocks.proofs.Undoing.{drop_whole}
use Rattle.bg_renamed.specs.Views.{env_of}
use Rattle.bg_incarnate.proofs.Holds.{values_past}
use Rattle.bg_incarnate.proofs.Passing.{drop_item}
use Rattle.bg_incarnate.proofs.Worths.{worth_step, worth_end}
use Rattle.bg_incarnate.proofs.worth.values.Goals as goal

pub loop-i-preserved : goal.loop-i-preserved
loop-i-preserved c =
    let i = c.loop-i.i in
    let t = c.index-targets-i.result in
    let e = c.index-es-i.result in
    let dt = drop_item c.args.targets.now i t c.loop-i-test.true c.index-targets-i.is in
    let de = drop_item c.args.es.now i e (omega (arith, c.if-i-es.false)) c.index-es-i.is in
    worth_step (env_of c.args.env.now) (m.values_of (map target_of (drop (i + 1) c.args.targets.now)) (exs_in (drop (i + 1) c.args.es.now))) (m.written (s.Read (target_of t).placed.variable) (target_of t).brackets (m.ex_of (ex_of e))) (m.ex_of (ex_of c.in_ok-value.value)) _ _ _ _ _ _ _ _ _ c.in_ok-value.ensures c.in_ok-worth.ensures.cmds c.in_ok-worth.ensures.made c.in_ok-worth.ensures.more (rw (dt, de) at c.loop-i.invariant)

pub returns-then-i-es : goal.returns-then-i-es
returns-then-i-es c =
    let i = c.loop-i.i in
    let ts = map target_of (drop i c.args.targets.now) in
    let w = worth_end (env_of c.args.env.now) (m.values_of ts (exs_in (drop i c.args.es.now))) _ _ _ _ _ _ (values_past ts c.args.es.now i c.if-i-es.true) c.loop-i.invariant in
    record { cmds = w.0; made = w.1; more = w.2 }

pub returns : goal.returns
returns c =
    let i = c.loop-i.i in
    let none = ap (λ l. m.values_of (map target_of l) (exs_in (drop i c.args.es.now))) (drop_whole i c.args.targets.now c.loop-i-test.false) in
    let w = worth_end (env_of c.args.env.now) (m.values_of (map target_of (drop i c.args.targets.now)) (exs_in (drop i c.args.es.now))) _ _ _ _ _ _ none c.loop-i.invariant in
    record { cmds = w.0; made = w.1; more = w.2 }
