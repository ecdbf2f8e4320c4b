use Rattle.std.proofs.Common.{ℕ, true, ap, ◌∙◌, subst, arith}
use Rattle.bg_words.specs.Sets.{Numbers, has}
use Rattle.bg_words.proofs.Sets.{has-tabulate}
use Rattle.bg_houdini.specs.Begun.{IsBegun}
use Rattle.bg_houdini.proofs.Truths.{begun, whole}
use Rattle.bg_houdini.proofs.sets.set_of.Goals as goal

pub loop-i-init : goal.loop-i-init
loop-i-init c =
    let h = c.in_ok-made.ensures in
    subst (λ (k : ℕ). IsBegun c.args.candidates k c.args.truths.now c.in_ok-made.made) (omega arith)
    (begun c.args.candidates c.args.truths.now c.in_ok-made.made h.count (λ d l. ap (λ (s : Numbers). has s d) h.members ∙ has-tabulate c.args.candidates (λ _. true) d l))

pub returns : goal.returns
returns c =
    whole c.args.candidates c.args.truths.now c.loop-i.made c.requires (subst (λ (k : ℕ). IsBegun c.args.candidates k c.args.truths.now c.loop-i.made) (let n = c.in_ok-made.ensures.count in omega arith) c.loop-i.invariant)
