use Rattle.std.proofs.Common.{sym, ap, ◌∙◌}
use Rattle.bg_wanted.specs.Behind.{parts_by}
use Rattle.bg_wanted.proofs.Building.{parts_none}
use Rattle.bg_wanted.proofs.tables.parts_of.Goals as goal

pub returns-in-None : goal.returns-in-None
returns-in-None c =
    ap (λ l. parts_by l c.args.row.now.value) (sym c.deref.ensures.value) ∙ parts_none c.deref.result.now c.args.row.now.value c.in-None.ensures.cases

pub returns-in-Some : goal.returns-in-Some
returns-in-Some c =
    ap (λ l. parts_by l c.args.row.now.value) (sym c.deref.ensures.value ∙ c.in-Some.ensures.cases.0)
