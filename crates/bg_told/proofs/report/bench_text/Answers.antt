use Rattle.std.proofs.Common.{◌≡◌, ◌++◌, codes, map, sym, ap, ◌∙◌, append_assoc}
use Rattle.bg_ast.specs.Meaning.{meaning_of}
use Rattle.bg_sound.specs.Told as t
use Rattle.bg_check.specs.Kept.{why_of}
use Rattle.bg_check.specs.Verdicts.{judged}
use Rattle.bg_check.specs.Outcomes.{told}
use Rattle.bg_houdini.specs.Told.{are_known}
use Rattle.bg_inference.specs.Told.{outcome_of}
use Rattle.bg_told.specs.Fates.{told_fate}
use Rattle.bg_lines.specs.Lines.{line}
use Rattle.bg_told.specs.Report.{bench_line, set_text, summary_text}
use Rattle.bg_told.proofs.Split.{words_carried}
use Rattle.bg_told.proofs.report.bench_text.Goals as goal

pub returns : goal.returns
returns c = λ p h.
    let u = c.args.outcome.now in
    let o = outcome_of why_of (meaning_of p) u in
    let os = map (told why_of) (judged u.judged.verdicts.items) in
    let summed = c.in_ok-put_summary.ensures o (sym (c.in_ok-fates.ensures p h) ∙ ap (map told_fate) (sym c.deref-2.ensures.value)) (words_carried (meaning_of p) os ∙ ap (λ x. map t.word_of (map (told why_of) (judged x))) (sym c.deref-3.ensures.value)) in
    let made : c.put_summary.new.out.items ≡ bench_line c.args.seed c.args.size ++ line (codes "retained set: " ++ set_text (are_known u.judged.inferred.removals.items)) ++ summary_text o = rw (summed, c.in_ok-put_set.ensures, c.is_greatest.ensures, c.deref.ensures.value, c.in_ok-put_bench.ensures, c.new-out.ensures.items) (simp append_assoc) in
    made
