use Rattle.std.proofs.Common.{length, sym, ap, ◌∙◌}
use Rattle.bg_check.specs.Kept.{why_of}
use Rattle.bg_houdini.proofs.answer.reason_for.Goals as goal

pub returns-else-keeps : goal.returns-else-keeps
returns-else-keeps c = λ budget p set t h.
    record {
      rounds = c.args.rounds.items;
      cause = c.args.cause;
      right = h;
      told = sym (c.kept_of.ensures ∙ ap (λ rs. why_of (length rs) c.args.cause) c.deref.ensures.value);
    }
