-- After one more piece, a longer front is written.
use Rattle.std.proofs.Common.{◌≡◌, ◌∙◌, ap, arith, drop, take, length, ◌-◌, length-drop}
use Rattle.std.proofs.lemmas.List.{take_all}
use Rattle.bg_io.specs.Causes.{joined}
use Rattle.bg_io.proofs.Pieces.{joined_more}
use Rattle.bg_io.proofs.writing.write_all.Goals as goal

pub loop-done-preserved : goal.loop-done-preserved
loop-done-preserved g c =
    let bytes = c.args.bytes.now in
    let rest : take (length bytes - c.loop-done.done) (drop c.loop-done.done bytes) ≡ drop c.loop-done.done bytes = take_all _ _ (omega (arith, length-drop c.loop-done.done bytes)) in
    let written = rw rest at c.in-Ok.ensures.ok in
    let some = rw rest at c.in-Ok.ensures.some in
    record {
      written = written ∙ ap (λ w. joined w (take c.in-Ok.n (drop c.loop-done.done bytes))) c.loop-done.invariant.written ∙ joined_more _ bytes c.loop-done.done c.in-Ok.n;
      within = omega (arith, some.1, length-drop c.loop-done.done bytes);
      later = omega (arith, c.in-Ok.ensures.cause.later, c.loop-done.invariant.later);
    }
