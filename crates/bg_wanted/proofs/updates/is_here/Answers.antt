use Rattle.std.proofs.Common.{sym, ◌∙◌}
use Rattle.bg_wanted.specs.Asked.{looked_rows}
use Rattle.bg_wanted.proofs.Asking.{here_by, not_here}
use Rattle.bg_wanted.proofs.updates.is_here.Goals as goal

pub returns : goal.returns
returns c =
    record {
      so =
          λ has e.
          here_by (looked_rows c.args.looked) c.args.update c.in_ok-found.found (sym (c.in_ok-found.ensures (looked_rows c.args.looked) has)) (sym c.has_scalar.ensures ∙ e);
      not =
          λ has e is done.
          not_here (looked_rows c.args.looked) c.args.update c.in_ok-found.found (sym (c.in_ok-found.ensures (looked_rows c.args.looked) has)) (sym c.has_scalar.ensures ∙ e) is done;
    }
