use Rattle.bg_ast.specs.Meaning as m
use Rattle.bg_ast.specs.Views.{ex_of}
use Rattle.bg_forms.specs.Views.{form_in}
use Rattle.bg_atoms.proofs.Telling.{tells_form}
use Rattle.bg_atoms.proofs.blocks.told.Goals as goal

pub returns-clause-told : goal.returns-clause-told
returns-clause-told c =
    λ all b. tells_form c.args.names.now.sorts.items c.args.names.now.base all (m.ex_of (ex_of c.args.e.now)) c.in_ok-x.x (form_in c.in_ok-form_ex-in-None.field-0) c.in-None.is c.in_ok-form_ex-in-None.ensures (c.in_ok-x.ensures.made all b)
