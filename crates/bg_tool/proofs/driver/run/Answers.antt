use Rattle.std.proofs.Common.{rules, ◌≡◌, ℕ, List, ◌∙◌, ap, sym, subst}
use Rattle.bg_cli.specs.Cli.{texts_of, files_in, cert_in, job_in, guess_in, seed_in}
use Rattle.bg_cli.specs.declared.job.Job.{Job}
use Rattle.bg_cli.specs.declared.job.Job.TheVariants as job
use Rattle.bg_io.specs.Causes.{joined}
use Rattle.bg_gen.specs.Generated.{generated}
use Rattle.bg_ends.specs.Wrote.{Wrote}
use Rattle.bg_ends.specs.Refused.{RefusedFor, NamesFile}
use Rattle.bg_tool.specs.declared.asked.Asked.{Asked}
use Rattle.bg_tool.specs.Answers.{IsAnswer, asked_in, guess_for, Answered, AnsweredSome, JudgesText}
use Rattle.bg_tool.proofs.Ends.{wrote_for, wrote_plain, wrote_guessed, names_of_rest}
use Rattle.bg_tool.proofs.Benched.{asked_is, bench_completes}
use Rattle.bg_tool.proofs.driver.run.Goals as goal

pub returns-in-Generate-clause-generation : goal.returns-in-Generate-clause-generation
returns-in-Generate-clause-generation g c = λ made is.
    let e = c.make.ensures.made is in
    let text = λ (seed size : ℕ). joined (g.S.Sink.written c.args.out.now) (generated seed size) in
    (e.0, e.1 ∙ (ap (λ (seed : ℕ). text seed c.in-Ok.line.size) c.in-Ok.ensures.seed ∙ ap (text (seed_in (texts_of c.args.words.now))) c.in-Ok.ensures.size))

pub returns-clause-sound : goal.returns-clause-sound
returns-clause-sound g c = λ verify plain is.
    let words = texts_of c.args.words.now in
    let asked = asked_in words in
    let answer : Wrote (IsAnswer asked) (g.F.Files.contents c.args.files.now) (files_in words) c.judge.result (g.S.Sink.written c.args.out.now) (g.S.Sink.written c.judge.new.out) = search (rules, c.judge.ensures.answer is) in
    wrote_plain asked _ _ _ _ _ (ap (λ (j : Job). guess_for j (guess_in words)) verify ∙ plain) (wrote_for job.Verify asked _ _ _ _ _ verify answer)

pub returns-clause-guessed : goal.returns-clause-guessed
returns-clause-guessed g c = λ verify guesses is.
    let words = texts_of c.args.words.now in
    let asked = asked_in words in
    let answer : Wrote (IsAnswer asked) (g.F.Files.contents c.args.files.now) (files_in words) c.judge.result (g.S.Sink.written c.args.out.now) (g.S.Sink.written c.judge.new.out) = search (rules, c.judge.ensures.answer is) in
    wrote_guessed asked _ _ _ _ _ (ap (λ (j : Job). guess_for j (guess_in words)) verify ∙ guesses) (wrote_for job.Verify asked _ _ _ _ _ verify answer)

pub returns-clause-report : goal.returns-clause-report
returns-clause-report g c = λ verify is.
    let asked = asked_in (texts_of c.args.words.now) in
    let answer : Wrote (IsAnswer asked) (g.F.Files.contents c.args.files.now) (files_in (texts_of c.args.words.now)) c.judge.result (g.S.Sink.written c.args.out.now) (g.S.Sink.written c.judge.new.out) = search (rules, c.judge.ensures.answer is) in
    wrote_for job.Verify asked _ _ _ _ _ verify answer

pub returns-clause-annotation : goal.returns-clause-annotation
returns-clause-annotation g c = λ annotate is.
    let asked = asked_in (texts_of c.args.words.now) in
    let answer : Wrote (IsAnswer asked) (g.F.Files.contents c.args.files.now) (files_in (texts_of c.args.words.now)) c.judge.result (g.S.Sink.written c.args.out.now) (g.S.Sink.written c.judge.new.out) = search (rules, c.judge.ensures.answer is) in
    wrote_for job.Annotate asked _ _ _ _ _ annotate answer

pub returns-clause-certification : goal.returns-clause-certification
returns-clause-certification g c = λ certify is.
    let asked = asked_in (texts_of c.args.words.now) in
    let answer : Wrote (IsAnswer asked) (g.F.Files.contents c.args.files.now) (files_in (texts_of c.args.words.now)) c.judge.result (g.S.Sink.written c.args.out.now) (g.S.Sink.written c.judge.new.out) = search (rules, c.judge.ensures.answer is) in
    wrote_for job.Certify asked _ _ _ _ _ certify answer

pub returns-in-Bench-clause-bench : goal.returns-in-Bench-clause-bench
returns-in-Bench-clause-bench g c = λ benched is.
    let e = c.in-Ok.ensures in
    let same = asked_is (texts_of c.args.words.now) c.asked_by.result _ _ _ _ _ _ _ c.asked_by.ensures e.nodes e.rows e.guess e.history e.job e.seed e.size in
    subst (λ (a : Asked). Answered a (generated a.seed a.size) c.bench.result (g.S.Sink.written c.args.out.now) (g.S.Sink.written c.bench.new.out)) same (c.bench.ensures.answer is)

pub returns-in-Bench-clause-made : goal.returns-in-Bench-clause-made
returns-in-Bench-clause-made g c = λ benched is.
    let e = c.in-Ok.ensures in
    let same = asked_is (texts_of c.args.words.now) c.asked_by.result _ _ _ _ _ _ _ c.asked_by.ensures e.nodes e.rows e.guess e.history e.job e.seed e.size in
    subst (λ (a : Asked). RefusedFor a.guess (generated a.seed a.size) c.bench.result (g.E.Sink.written c.args.err.now) (g.E.Sink.written c.bench.new.err)) same (c.bench.ensures.refused is)

pub returns-in-Bench-clause-lines : goal.returns-in-Bench-clause-lines
returns-in-Bench-clause-lines g c = λ benched is.
    let e = c.in-Ok.ensures in
    let same = asked_is (texts_of c.args.words.now) c.asked_by.result _ _ _ _ _ _ _ c.asked_by.ensures e.nodes e.rows e.guess e.history e.job e.seed e.size in
    subst (λ (a : Asked). AnsweredSome a (generated a.seed a.size) (g.S.Sink.written c.args.out.now) (g.S.Sink.written c.bench.new.out)) same (c.bench.ensures.part is)

pub returns-in-Bench-clause-complete : goal.returns-in-Bench-clause-complete
returns-in-Bench-clause-complete g c = λ quiet_files quiet_out quiet_err.
    let e = c.in-Ok.ensures in
    let same = asked_is (texts_of c.args.words.now) c.asked_by.result _ _ _ _ _ _ _ c.asked_by.ensures e.nodes e.rows e.guess e.history e.job e.seed e.size in
    bench_completes (g.F.Files.contents c.args.files.now) (texts_of c.args.words.now) c.bench.result (sym e.job ∙ c.in-Bench.is) e.taken
    (subst (λ (a : Asked). JudgesText a.guess (generated a.seed a.size) c.bench.result) same (c.bench.ensures.complete quiet_out quiet_err))

pub returns-clause-file : goal.returns-clause-file
returns-clause-file g c = λ is.
    let words = texts_of c.args.words.now in
    let named : NamesFile (files_in words) (g.F.Files.starts c.args.files.now) (g.F.Files.starts c.judge.new.files) (g.E.Sink.written c.args.err.now) (g.E.Sink.written c.judge.new.err) = search (rules, c.judge.ensures.file is) in
    subst (λ (names : List (List ℕ)). NamesFile names (g.F.Files.starts c.args.files.now) (g.F.Files.starts c.judge.new.files) (g.E.Sink.written c.args.err.now) (g.E.Sink.written c.judge.new.err))
    (sym (names_of_rest (job_in words) (files_in words) (cert_in words) (λ (h : job_in words ≡ job.Check). c.in_default-job.not-Check (c.in-Ok.ensures.job ∙ h)))) named
