use Rattle.std.proofs.Common.{◌≡◌, ◌∙◌, ◌+◌, ◌-◌, suc, sym, refl, arith}
use Rattle.bg_reader.specs.Reading.{nothing}
use Rattle.bg_expr.specs.Exprs.{a_prefix}
use Rattle.bg_reader.proofs.Loops.{many_more, many_stop}
use Rattle.bg_expr.proofs.parse.prefixes.Goals as goal

pub returns-in-None : goal.returns-in-None
returns-in-None c = sym c.loop.invariant ∙ many_stop a_prefix nothing c.loop.made.items _ (c.args.limit - c.loop.counter) (sym c.in-None.ensures)

pub loop-preserved : goal.loop-preserved
loop-preserved c =
    let m : c.args.limit - c.loop.counter ≡ suc (c.args.limit - (c.loop.counter + 1)) = omega arith in
    rw c.in_ok-push-in-Some.ensures.items (sym (many_more a_prefix nothing c.loop.made.items _ _ _ c.in-Some.sign _ c.in-Some.sign _ m (sym c.in-Some.ensures) refl) ∙ c.loop.invariant)
