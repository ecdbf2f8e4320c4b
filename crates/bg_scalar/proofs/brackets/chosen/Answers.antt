use Rattle.std.proofs.Common.{sym, ap, ◌∙◌, Some}
use Rattle.bg_scalar.specs.Values.{value_of}
use Rattle.bg_scalar.specs.Indices.{key_made, kept_at}
use Rattle.bg_scalar.specs.Views.{vals_in, lent_at}
use Rattle.bg_scalar.proofs.Keyed.{none_chosen, chosen_at}
use Rattle.bg_scalar.proofs.brackets.chosen.Goals as goal

pub returns-in-None : goal.returns-in-None
returns-in-None c =
    none_chosen (value_of c.args.map.now) (vals_in c.args.index.now) (ap key_made (sym c.in-None.is) ∙ c.in_ok-key.ensures)

pub returns-in-Some : goal.returns-in-Some
returns-in-Some c =
    chosen_at (value_of c.args.map.now) (vals_in c.args.index.now) c.in-Some.key.items (lent_at c.at.result) (ap key_made (sym c.in-Some.is) ∙ c.in_ok-key.ensures) (c.at.ensures ∙ ap (kept_at (value_of c.args.map.now)) c.deref.ensures.value)
