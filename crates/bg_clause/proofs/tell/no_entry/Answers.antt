use Rattle.std.proofs.Common.{false, ap, ◌∙◌}
use Rattle.bg_forms.specs.Forms.{Plain}
use Rattle.bg_clause.specs.Told.{with_entry}
use Rattle.bg_clause.specs.Cutting.{CutTold}
use Rattle.bg_clause.proofs.tell.no_entry.Goals as goal

pub returns-clause-told : goal.returns-clause-told
returns-clause-told c =
    c.in_ok-told.ensures ∙ ap (λ (z : CutTold). with_entry (Plain false) z.told) c.nothing.ensures
