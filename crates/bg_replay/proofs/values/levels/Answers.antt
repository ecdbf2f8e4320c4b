use Rattle.std.proofs.Common.{refl, ap, ◌∙◌}
use Rattle.bg_ast.specs.Meaning.{exs_of}
use Rattle.bg_ast.specs.Views.{exs_in}
use Rattle.bg_scalar.specs.Lists.{worths}
use Rattle.bg_scalar.specs.Views.{seen_of, found_in}
use Rattle.bg_replay.proofs.Levels.{level_step}
use Rattle.bg_replay.proofs.values.levels.Goals as goal

pub loop-b-preserved : goal.loop-b-preserved
loop-b-preserved c =
    let s = seen_of c.args.sight in
    level_step c.args.target.now.brackets.items c.loop-b.b-index c.b-item.result s c.loop-b.made.items c.push.new.self.items (record { map = c.loop-b.map; index = c.in_ok-index.index }) (found_in c.loop-b.map) (found_in c.in_ok-inner.inner) _ (rw c.deref-b-items.ensures.value at c.loop-b-test.true) (rw c.deref-b-items.ensures.value at c.b-item.is) refl (c.in_ok-index.ensures ∙ ap (λ es. worths (exs_of (exs_in es)) s) c.deref.ensures.value) c.in_ok-inner.ensures c.in_ok-push.ensures.items c.loop-b.invariant
