use Rattle.std.proofs.Common.{ℕ, List, Option, map, Err, Vec, subst}
use Rattle.std.specs.Prelude.{string_bytes}
use Rattle.std.specs.declared.alloc.Global.{Global}
use Rattle.bg_io.specs.declared.errors.ReadError.{ReadError}
use Rattle.bg_io.specs.Causes.{IsTextOver}
use Rattle.bg_io.specs.Errors.{IfTooLong}
use Rattle.bg_front.specs.declared.limits.TheConstants.{MOST_BYTES}
use Rattle.bg_tool.proofs.Ends.{Known, long_text, judges, said, said_refusal, wrote_some}
use Rattle.bg_tool.proofs.judge.judge.Goals as goal

pub returns-in-Err-TooLong-clause-refused : goal.returns-in-Err-TooLong-clause-refused
returns-in-Err-TooLong-clause-refused g c = λ is.
    let contents : Option (List ℕ → List ℕ) = g.F.Files.contents c.args.files.now in
    let names : List (List ℕ) = map string_bytes c.args.names.now in
    let over : IsTextOver contents names MOST_BYTES = subst (λ (e : ReadError). IfTooLong {T = Vec ℕ Global} (Err e) (λ _. IsTextOver contents names MOST_BYTES)) c.in-Err-TooLong.field-0-is c.in-Err-TooLong.ensures.longer in
    let long = long_text contents names MOST_BYTES over in
    record { bytes = long.0; read = long.1.0; refused = c.refuse_text.ensures.refused is c.args.how.now.asked.guess long.0 long.1.1 }

pub returns-in-Err-TooLong-clause-complete : goal.returns-in-Err-TooLong-clause-complete
returns-in-Err-TooLong-clause-complete g c = λ quiet_files quiet_out quiet_err.
    let contents : Option (List ℕ → List ℕ) = g.F.Files.contents c.args.files.now in
    let names : List (List ℕ) = map string_bytes c.args.names.now in
    let over : IsTextOver contents names MOST_BYTES = subst (λ (e : ReadError). IfTooLong {T = Vec ℕ Global} (Err e) (λ _. IsTextOver contents names MOST_BYTES)) c.in-Err-TooLong.field-0-is c.in-Err-TooLong.ensures.longer in
    let long = long_text contents names MOST_BYTES over in
    let known : Known = record { both = c.a_text_has_one_program_or_one_refusal.ensures.both; refusal = c.a_text_has_one_program_or_one_refusal.ensures.refusal } in
    judges known c.args.how.now.asked.guess contents names long.0 c.refuse_text.result long.1.0
    (said_refusal c.args.how.now.asked.guess long.0 c.refuse_text.result _ _ (λ is. c.refuse_text.ensures.refused is c.args.how.now.asked.guess long.0 long.1.1) c.refuse_text.ensures.ends c.refuse_text.ensures.cause quiet_err)

pub returns-in-Ok-clause-prefix : goal.returns-in-Ok-clause-prefix
returns-in-Ok-clause-prefix g c = λ is.
    let part = rw c.deref.ensures.value at (c.judge_text.ensures.part is) in
    wrote_some c.args.how.now.asked _ _ _ _ _ c.in-Ok.ensures.text part

pub returns-in-Ok-clause-complete : goal.returns-in-Ok-clause-complete
returns-in-Ok-clause-complete g c = λ quiet_files quiet_out quiet_err.
    let known : Known = record { both = c.a_text_has_one_program_or_one_refusal.ensures.both; refusal = c.a_text_has_one_program_or_one_refusal.ensures.refusal } in
    let report = rw c.deref.ensures.value at c.judge_text.ensures.answer in
    let refused = rw c.deref.ensures.value at c.judge_text.ensures.refused in
    judges known c.args.how.now.asked.guess (g.F.Files.contents c.args.files.now) (map string_bytes c.args.names.now) c.in-Ok.bytes.items c.judge_text.result c.in-Ok.ensures.text
    (said c.args.how.now.asked c.in-Ok.bytes.items _ _ _ _ c.judge_text.result report refused c.judge_text.ensures.cause quiet_out quiet_err c.judge_text.ensures.others)
