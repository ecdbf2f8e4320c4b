use Rattle.std.proofs.Common.{◌≡◌, false, true, ap, ◌∙◌, rules}
use Rattle.bg_blocks.specs.Views.{exit_of}
use Rattle.bg_model.specs.Turns.{turn_choices}
use Rattle.bg_model.specs.Views.{made_by, if_goes}
use Rattle.bg_model.proofs.choices.block.Goals as goal

pub returns-then-not-branch : goal.returns-then-not-branch
returns-then-not-branch c =
    let e : c.in_ok-commands.field-0 ≡ false = search rules in
    λ vs p behind. (let rest = turn_choices c.args.turn (exit_of c.args.b.now.exit) behind in
    rw (← c.deref.ensures.value) (c.in_ok-commands.ensures vs p rest ∙ ap (λ x. made_by vs c.commands.new.front (if_goes x rest)) e))

pub returns : goal.returns
returns c =
    let e : c.in_ok-commands.field-0 ≡ true = search rules in
    λ vs p behind. (let rest = turn_choices c.args.turn (exit_of c.args.b.now.exit) behind in
    rw (← c.deref.ensures.value) (c.in_ok-commands.ensures vs p rest ∙ (ap (λ x. made_by vs c.commands.new.front (if_goes x rest)) e ∙ c.in_ok-to.ensures vs behind)))
