use Rattle.std.proofs.Common.{◌++◌, map, sym, ap, ◌∙◌, append_assoc}
use Rattle.std.specs.Prelude.{slice_get}
use Rattle.bg_passive.specs.Incarnations.{targets_of}
use Rattle.bg_passive.specs.ReadBack.{exit_choices}
use Rattle.bg_blocks.specs.Views.{exit_of}
use Rattle.bg_model.specs.Picks.{choice_by}
use Rattle.bg_model.specs.Turns.{turn_choices, choices_on}
use Rattle.bg_model.proofs.choices.turned.Goals as goal

pub returns-in_ok-to-in-Leads : goal.returns-in_ok-to-in-Leads
returns-in_ok-to-in-Leads c = λ vs behind.
    let x = exit_of c.args.x.now in
    let j = c.in-Leads.j in
    let old = map (choice_by vs) c.args.made.now.items in
    ap (λ t. old ++ turn_choices t x behind) c.in-Leads.is
    ∙ (sym (append_assoc old (exit_choices x j) (choices_on (slice_get (targets_of x) j) behind))
    ∙ (ap (λ l. l ++ choices_on (slice_get (targets_of x) j) behind) (sym (c.in_ok-to-in-Leads.ensures.made vs))
    ∙ ap (λ o. map (choice_by vs) c.exit.new.made.items ++ choices_on o behind) (sym c.in_ok-to-in-Leads.ensures.to)))
