use Rattle.std.proofs.Common.{ap, ◌∙◌}
use Rattle.std.proofs.lemmas.Result.{on_ok_weaker}
use Rattle.bg_clause.specs.Told.{is_short}
use Rattle.bg_clause.specs.Cutting.{Ahead, cut_by}
use Rattle.bg_clause.specs.Telling.{telling_of}
use Rattle.bg_clause.proofs.tell.tell_block.Goals as goal

pub returns : goal.returns
returns c =
    on_ok_weaker c.tell.result (λ h. h ∙ ap (λ (a : Ahead). cut_by (is_short a.form) a (telling_of c.args.s.now)) c.in_ok-ahead.ensures) c.tell.ensures
