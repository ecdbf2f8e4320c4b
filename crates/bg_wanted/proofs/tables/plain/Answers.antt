use Rattle.std.proofs.Common.{sym, ap, ◌∙◌}
use Rattle.bg_ast.specs.Values.{Truth}
use Rattle.bg_kinds.specs.Views.{base_of}
use Rattle.bg_scalar.specs.Values.{val_of}
use Rattle.bg_wanted.specs.Behind.{behind_base}
use Rattle.bg_wanted.proofs.tables.plain.Goals as goal

pub returns-in-Int : goal.returns-in-Int
returns-in-Int c = ap val_of c.as_number.ensures ∙ sym (ap (λ b. behind_base (base_of b) (val_of c.args.s)) c.in-Int.is)

pub returns-in-Bool : goal.returns-in-Bool
returns-in-Bool c = ap Truth c.truth_in.ensures ∙ sym (ap (λ b. behind_base (base_of b) (val_of c.args.s)) c.in-Bool.is)

pub returns-in-User : goal.returns-in-User
returns-in-User c =
    ap val_of c.as_element.ensures ∙ sym (ap (λ b. behind_base (base_of b) (val_of c.args.s)) c.in-User.is)
