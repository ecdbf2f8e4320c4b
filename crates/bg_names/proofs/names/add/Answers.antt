use Rattle.std.proofs.Common.{sym, ap, ◌∙◌, refl, not}
use Rattle.bg_names.proofs.Scopes.{name_added, any_map}
use Rattle.bg_names.proofs.names.add.Goals as goal

pub returns-clause-names : goal.returns-clause-names
returns-clause-names c = name_added c.args.name.now _ _ _ refl c.in_ok-is_new.ensures.keys

pub returns-clause-is_new : goal.returns-clause-is_new
returns-clause-is_new c = c.in_ok-is_new.ensures.added ∙ sym (ap not (any_map c.args.name.now _))
