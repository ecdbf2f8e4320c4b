use Rattle.std.proofs.Common.{◌∙◌, ap, List, ℕ, inr, subst}
use Rattle.bg_io.specs.Causes.{joined, WroteFront}
use Rattle.bg_tool.proofs.judge.judge_text.Goals as goal

pub returns-in-Ok-write_all-clause-answer : goal.returns-in-Ok-write_all-clause-answer
returns-in-Ok-write_all-clause-answer g c = λ _. record {
  text = c.in-Ok.text.items;
  answer = c.in-Ok.ensures.answer;
  written = c.in-Ok-write_all.ensures.ok ∙ ap (λ (t : List ℕ). joined (g.S.Sink.written c.args.out.now) t) c.deref.ensures.value;
}

pub returns-clause-part : goal.returns-clause-part
returns-clause-part g c = λ _.
    let front = subst (λ (t : List ℕ). WroteFront t (g.S.Sink.written c.args.out.now) (g.S.Sink.written c.write_all.new.sink)) c.deref.ensures.value c.in-Err.ensures.err in
    inr (record {
      ends = c.in-Ok.ends;
      text = c.in-Ok.text.items;
      answer = c.in-Ok.ensures.answer;
      count = front.0;
      written = front.2;
    })
