use Rattle.std.proofs.Common.{◌≡◌, [], drop, length, map, ap, ◌∙◌, sym, arith}
use Rattle.std.proofs.lemmas.List.{drop_all, at_drop_all}
use Rattle.bg_ast.specs.Views.{impl_of}
use Rattle.bg_guess.specs.Calls.{mark_called, mark_implemented, above_impls}
use Rattle.bg_guess.proofs.Marks.{called_are, implemented_are}
use Rattle.bg_guess.proofs.calls.search_all.Goals as goal

pub returns-clause-called : goal.returns-clause-called
returns-clause-called c =
    let ms = c.args.implementations.now in
    let none : drop c.loop-m.m-index ms ≡ [] = drop_all c.loop-m.m-index ms (omega (arith, c.loop-m-test.false)) in
    sym (ap (λ l. mark_called (map impl_of l) c.loop-m.called.items) none) ∙ c.loop-m.invariant.called ∙ called_are (map impl_of ms) (length c.args.procedures.now)

pub returns-clause-implemented : goal.returns-clause-implemented
returns-clause-implemented c =
    let ms = c.args.implementations.now in
    let none : drop c.loop-m.m-index ms ≡ [] = drop_all c.loop-m.m-index ms (omega (arith, c.loop-m-test.false)) in
    sym (ap (λ l. mark_implemented (map impl_of l) c.loop-m.implemented.items) none) ∙ c.loop-m.invariant.implemented ∙ implemented_are (map impl_of ms) (length c.args.procedures.now)

pub returns-clause-above : goal.returns-clause-above
returns-clause-above c =
    sym (at_drop_all (λ l. above_impls c.loop-m.above (map impl_of l)) c.args.implementations.now c.loop-m.m-index c.loop-m-test.false) ∙ c.loop-m.invariant.above
