use Rattle.std.proofs.Common.{◌<◌, length, drop, arith}
use Rattle.std.proofs.lemmas.List.{length-map}
use Rattle.bg_ast.specs.Views.{program_of, impl_of}
use Rattle.bg_words.specs.Sets.{has}
use Rattle.bg_check.specs.Verdicts.{judged}
use Rattle.bg_certify.proofs.Walks.{there, impl_step}
use Rattle.bg_certify.proofs.sections.sections.Goals as goal

pub loop-k-preserved : goal.loop-k-preserved
loop-k-preserved c =
    let p = program_of c.args.program.now in
    let k = c.loop-k.k in
    let ms = p.implementations in
    let vs = c.args.outcome.now.verdicts.items in
    let jss = judged vs in
    let kept = c.args.outcome.now.inferred.kept.items in
    let here : k < length c.args.program.now.implementations.items =
    omega (arith, c.loop-k-test.true, c.len-k-end.ensures, c.args.program.now.implementations.ok.0) in
    let in_ms : k < length ms = omega (arith, here, length-map c.args.program.now.implementations.items impl_of) in
    let in_jss : k < length jss = omega (arith, in_ms, c.requires, length-map vs (λ v. v.items)) in
    let m = there ms k in_ms in
    let js = there jss k in_jss in
    impl_step p.candidates p.procedures (has c.args.outcome.now.inferred.retained) (drop c.loop-k.task kept) (drop c.in_ok-task.task kept) k ms jss m.0 js.0 _ _ _
    m.1 js.1 (c.in_ok-task.ensures.made m.0 js.0 m.1 js.1) (c.in_ok-task.ensures.next m.0 m.1) c.loop-k.invariant
