use Rattle.std.proofs.Common.{ℕ, ◌<◌, List, Option, map, length, false, inl, inr, Err, Vec, sym, subst}
use Rattle.std.specs.Prelude.{string_bytes}
use Rattle.std.proofs.lemmas.List.{length-map}
use Rattle.std.specs.declared.alloc.Global.{Global}
use Rattle.bg_io.specs.declared.errors.ReadError.{ReadError}
use Rattle.bg_io.specs.Causes.{IsTextOf, IsTextOver}
use Rattle.bg_io.specs.Errors.{IfTooLong}
use Rattle.bg_front.specs.declared.limits.TheConstants.{MOST_BYTES}
use Rattle.bg_recheck.specs.Refusals.{TooLong, most_bytes}
use Rattle.bg_recheck.proofs.Checked.{line_written, long_line}
use Rattle.bg_recheck.proofs.Ends.{Known, long_text, rechecks, said, tells_some}
use Rattle.bg_recheck.proofs.Unread.{name_at, names_behind}
use Rattle.bg_recheck.proofs.files.recheck.Goals as goal

pub returns-in-Err-TooLong-clause-refused : goal.returns-in-Err-TooLong-clause-refused
returns-in-Err-TooLong-clause-refused g c = λ is.
    let contents : Option (List ℕ → List ℕ) = g.F.Files.contents c.args.files.now in
    let names : List (List ℕ) = map string_bytes c.args.names.files.now in
    let over : IsTextOver contents names MOST_BYTES = subst (λ (e : ReadError). IfTooLong {T = Vec ℕ Global} (Err e) (λ _. IsTextOver contents names MOST_BYTES)) c.in-Err-TooLong.field-0-is c.in-Err-TooLong.ensures.longer in
    let long = long_text contents names MOST_BYTES over in
    inl (record { bytes = long.0; read = long.1.0; refused = c.refuse_text.ensures.refused is false long.0 long.1.1 })

pub returns-in-Err-ReadFault-read_all-clause-file :
    goal.returns-in-Err-ReadFault-read_all-clause-file
returns-in-Err-ReadFault-read_all-clause-file g c = λ is.
    let here = c.in-Err-ReadFault-read_all in
    let name = c.as_str-in-Err-ReadFault-read_all in
    let files : List (List ℕ) = map string_bytes c.args.names.files.now in
    let cert : List (List ℕ) = map string_bytes c.args.names.cert.now in
    let within : here.file < length c.args.names.cert.now = rw here.field-0-is at here.ensures.named in
    let started = rw here.field-0-is at here.ensures.file in
    let there = name_at string_bytes c.args.names.cert.now here.file c.index-names-file-in-Err-ReadFault-read_all.result name.result.now within (rw here.file-is at name.ensures.value) in
    names_behind files cert here.file name.result.now _ _ _ _ _ (length c.args.names.files.now) (sym (length-map c.args.names.files.now string_bytes)) there c.in-Ok.ensures.starts started (c.refuse_file-in-Err-ReadFault-read_all.ensures.wrote is)

pub returns-in-Err-TooLong-read_all-clause-refused :
    goal.returns-in-Err-TooLong-read_all-clause-refused
returns-in-Err-TooLong-read_all-clause-refused g c = λ is.
    let between : Option (List ℕ → List ℕ) = g.F.Files.contents c.read_all.new.files in
    let names : List (List ℕ) = map string_bytes c.args.names.cert.now in
    let over : IsTextOver between names most_bytes = subst (λ (e : ReadError). IfTooLong {T = Vec ℕ Global} (Err e) (λ _. IsTextOver between names most_bytes)) c.in-Err-TooLong-read_all.field-0-is c.in-Err-TooLong-read_all.ensures.longer in
    let long = long_text between names most_bytes over in
    let told = line_written TooLong c.refuse.result (g.E.Sink.written c.args.err.now) (g.E.Sink.written c.refuse.new.err) _ is c.refuse.ensures.ends c.refuse.ensures.wrote long_line in
    inr (record {
      certificate = long.0;
      read = subst (λ (contents : Option (List ℕ → List ℕ)). IsTextOf contents names long.0) c.read_all.ensures.same long.1.0;
      reason = TooLong;
      refused = long.1.1;
      behind = tt;
      gives = told.0;
      written = told.1;
    })

pub returns-clause-prefix : goal.returns-clause-prefix
returns-clause-prefix g c = λ is.
    let cert : List (List ℕ) = map string_bytes c.args.names.cert.now in
    let cert_read = subst (λ (contents : Option (List ℕ → List ℕ)). IsTextOf contents cert c.in-Ok-read_all.certificate.items) c.read_all.ensures.same c.in-Ok-read_all.ensures.text in
    let part = rw (c.deref.ensures.value, c.deref-2.ensures.value) at (c.tell.ensures.part is) in
    tells_some _ _ cert _ _ _ _ c.in-Ok.ensures.text cert_read part

pub returns-clause-complete : goal.returns-clause-complete
returns-clause-complete g c = λ quiet_files quiet_out quiet_err.
    let texts = c.a_text_has_one_program_or_one_refusal.ensures in
    let known : Known = record {
      program = texts.program;
      both = texts.both;
      reads = c.written_certificates_are_read.ensures;
      front = c.no_text_is_in_front_of_another.ensures;
      accepted = c.accepted_certificates_are_answered_so.ensures;
    } in
    let cert : List (List ℕ) = map string_bytes c.args.names.cert.now in
    let cert_read = subst (λ (contents : Option (List ℕ → List ℕ)). IsTextOf contents cert c.in-Ok-read_all.certificate.items) c.read_all.ensures.same c.in-Ok-read_all.ensures.text in
    let answer = rw (c.deref.ensures.value, c.deref-2.ensures.value) at c.tell.ensures.answer in
    let refused = rw (c.deref.ensures.value, c.deref-2.ensures.value) at c.tell.ensures.refused in
    rechecks (g.F.Files.contents c.args.files.now) (map string_bytes c.args.names.files.now) cert c.tell.result known c.in-Ok.bytes.items c.in-Ok-read_all.certificate.items c.in-Ok.ensures.text cert_read
    (said c.in-Ok.bytes.items c.in-Ok-read_all.certificate.items _ _ _ _ c.tell.result answer refused c.tell.ensures.cause quiet_out quiet_err c.tell.ensures.others)
