use Rattle.std.proofs.Common.{ap, ◌∙◌}
use Rattle.bg_rows.specs.Rows.{row_of}
use Rattle.bg_atoms.specs.Tables.{literal_by}
use Rattle.bg_ahead.proofs.Knowing.{by_key}
use Rattle.bg_ahead.proofs.known.found.Goals as goal

pub returns : goal.returns
returns c =
    λ n rows h. c.copied.ensures ∙ (c.get.ensures.value ∙ h c.in_ok-at.at) ∙ ap (λ k. literal_by k n rows) c.in_ok-at.ensures ∙ by_key (row_of c.args.a.now.row) n rows
