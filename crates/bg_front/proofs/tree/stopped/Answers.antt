use Rattle.std.proofs.Common.{drop, ap, ◌∙◌}
use Rattle.bg_text.specs.Tokens.{views}
use Rattle.bg_front.specs.Trees.{position_of}
use Rattle.bg_front.proofs.tree.stopped.Goals as goal

pub returns : goal.returns
returns c = (
  views c.args.tokens.now,
  views (drop c.args.i c.args.tokens.now),
  c.requires.text,
  c.requires.stops,
  c.position.ensures ∙ ap (λ p. position_of p (views (drop c.args.i c.args.tokens.now))) c.requires.end,
)
