use Rattle.std.proofs.Common.{ℕ, sym, subst}
use Rattle.bg_words.specs.Sets.{has}
use Rattle.bg_check.specs.Verdicts.{IsShown, IsRight}
use Rattle.bg_houdini.specs.Checks.{AreUsed}
use Rattle.bg_houdini.proofs.Answering.{passes_by}
use Rattle.bg_houdini.proofs.answer.answer.Goals as goal

pub returns-in_ok-kept-in-Proved-Some : goal.returns-in_ok-kept-in-Proved-Some
returns-in_ok-kept-in-Proved-Some c budget p k task set there long right =
    let proof = c.in-Proved-Some.proof in
    let made = c.in_ok-kept-in-Proved-Some.field-0 in
    passes_by c.args.keeps p k task set made.used proof made.proof there (subst (IsShown p (has set) task) c.in-Proved-Some.field-0-is (subst (IsRight budget p (has set) task) c.in-Proved-Some.is right)) c.in_ok-kept-in-Proved-Some.ensures.shown c.in_ok-kept-in-Proved-Some.ensures.there (subst (λ (n : ℕ). AreUsed n proof.cert made.used) (sym long) c.in_ok-kept-in-Proved-Some.ensures.used)

pub returns-in-Refuted : goal.returns-in-Refuted
returns-in-Refuted c = λ budget p k task set there long right.
    record { task = task; is_there = there; so = subst (IsRight budget p (has set) task) c.in-Refuted.is right }

pub returns-in-Unknown : goal.returns-in-Unknown
returns-in-Unknown c = λ budget p k task set there long right.
    record {
      task = task;
      is_there = there;
      so = c.reason_for.ensures budget p (has set) task (subst (IsRight budget p (has set) task) c.in-Unknown.is right);
    }
