use Rattle.std.proofs.Common.{ap, ◌∙◌}
use Rattle.bg_wanted.specs.declared.class.Class.TheVariants as class
use Rattle.bg_wanted.specs.Firsts.{first_row}
use Rattle.bg_wanted.proofs.updates.first.Goals as goal

pub returns : goal.returns
returns c =
    let k = c.in_ok-key.key in
    λ rs has.
    (c.copied.ensures ∙ c.get.ensures.value)
    ∙ (has k
    ∙ (ap (λ d. first_row (d, k.1.items) 0 rs) c.in_ok-key.ensures.class
    ∙ ap (λ i. first_row (class.Select c.args.maps, i) 0 rs) c.in_ok-key.ensures.args))
