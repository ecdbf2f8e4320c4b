use Rattle.std.proofs.Common.{length, sym, ap, ◌∙◌, subst}
use Rattle.bg_check.specs.Kept.{why_of}
use Rattle.bg_check.specs.Verdicts.{IsRight}
use Rattle.bg_check.proofs.Shown.{certified}
use Rattle.bg_check.proofs.brief.in_brief.Goals as goal

pub returns-in-Proved : goal.returns-in-Proved
returns-in-Proved c = λ budget p set t h.
    certified p set t c.in-Proved.field-0 (subst (IsRight budget p set t) c.in-Proved.is h)

pub returns-in-Unknown : goal.returns-in-Unknown
returns-in-Unknown c = λ budget p set t h.
    record {
      rounds = c.in-Unknown.rounds.items;
      cause = c.in-Unknown.cause;
      right = subst (IsRight budget p set t) c.in-Unknown.is h;
      told = sym (c.kept_of.ensures ∙ ap (λ rs. why_of (length rs) c.in-Unknown.cause) c.deref.ensures.value);
    }
