use Rattle.std.proofs.Common.{◌∙◌, List, ℕ, subst}
use Rattle.bg_ends.specs.Refused.{RefusedFor}
use Rattle.bg_tool.specs.Answers.{Answered, AnsweredSome, JudgesText}
use Rattle.bg_tool.proofs.Ends.{Known, judges_text, said}
use Rattle.bg_tool.proofs.made.bench.Goals as goal

pub returns-in-Ok-clause-answer : goal.returns-in-Ok-clause-answer
returns-in-Ok-clause-answer g c = λ is.
    subst (λ (bytes : List ℕ). Answered c.args.how.now.asked bytes c.judge_text.result (g.S.Sink.written c.args.out.now) (g.S.Sink.written c.judge_text.new.out)) (c.deref.ensures.value ∙ c.in-Ok.ensures) (c.judge_text.ensures.answer is)

pub returns-in-Ok-clause-refused : goal.returns-in-Ok-clause-refused
returns-in-Ok-clause-refused g c = λ is.
    subst (λ (bytes : List ℕ). RefusedFor c.args.how.now.asked.guess bytes c.judge_text.result (g.E.Sink.written c.args.err.now) (g.E.Sink.written c.judge_text.new.err)) (c.deref.ensures.value ∙ c.in-Ok.ensures) (c.judge_text.ensures.refused is)

pub returns-in-Ok-clause-part : goal.returns-in-Ok-clause-part
returns-in-Ok-clause-part g c = λ is.
    subst (λ (bytes : List ℕ). AnsweredSome c.args.how.now.asked bytes (g.S.Sink.written c.args.out.now) (g.S.Sink.written c.judge_text.new.out)) (c.deref.ensures.value ∙ c.in-Ok.ensures) (c.judge_text.ensures.part is)

pub returns-in-Ok-clause-complete : goal.returns-in-Ok-clause-complete
returns-in-Ok-clause-complete g c = λ quiet_out quiet_err.
    let known : Known = record { both = c.a_text_has_one_program_or_one_refusal.ensures.both; refusal = c.a_text_has_one_program_or_one_refusal.ensures.refusal } in
    subst (λ (bytes : List ℕ). JudgesText c.args.how.now.asked.guess bytes c.judge_text.result) (c.deref.ensures.value ∙ c.in-Ok.ensures)
    (judges_text known c.args.how.now.asked.guess c.deref.result.now c.judge_text.result
    (said c.args.how.now.asked c.deref.result.now _ _ _ _ c.judge_text.result c.judge_text.ensures.answer c.judge_text.ensures.refused c.judge_text.ensures.cause quiet_out quiet_err c.judge_text.ensures.others))
