use Rattle.std.proofs.Common.{◌≡◌, ◌++◌, List, codes, map, sym, ap, ◌∙◌, append_assoc}
use Rattle.bg_ast.specs.Meaning.{meaning_of}
use Rattle.bg_ast.specs.Resolved as r
use Rattle.bg_ast.specs.Views.{program_of}
use Rattle.bg_sound.specs.Told as t
use Rattle.bg_check.specs.Kept.{why_of}
use Rattle.bg_check.specs.Verdicts.{judged}
use Rattle.bg_check.specs.Outcomes.{told}
use Rattle.bg_houdini.specs.Told.{are_known}
use Rattle.bg_inference.specs.Told.{outcome_of}
use Rattle.bg_told.specs.Fates.{told_fate}
use Rattle.bg_told.specs.Lines.{texts}
use Rattle.bg_lines.specs.Lines.{line}
use Rattle.bg_told.specs.Report.{axioms_text, candidate_text, set_text, implementation_text, summary_text}
use Rattle.bg_told.specs.Sheets.{sheet_of}
use Rattle.bg_told.proofs.Split.{words_carried}
use Rattle.bg_told.proofs.report.result_text.Goals as goal

pub returns : goal.returns
returns c = λ p h.
    let u = c.args.outcome.now in
    let o = outcome_of why_of (meaning_of p) u in
    let s = sheet_of p in
    let fates = map told_fate c.in_ok-fates.fates.items in
    let same : fates ≡ o.fates = c.in_ok-fates.ensures p h in
    let os = map (told why_of) (judged u.judged.verdicts.items) in
    let summed = c.in_ok-put_summary.ensures o (sym same ∙ ap (map told_fate) (sym c.deref-4.ensures.value)) (words_carried (meaning_of p) os ∙ ap (λ x. map t.word_of (map (told why_of) (judged x))) (sym c.deref-5.ensures.value)) in
    let made : c.put_summary.new.out.items ≡ line (codes "axioms: " ++ axioms_text o.axioms) ++ texts candidate_text (program_of u.opened).candidates fates ++ line (codes "retained set: " ++ set_text (are_known u.judged.inferred.removals.items)) ++ texts (implementation_text s.outer) s.implementations o.implementations ++ summary_text o = rw (summed, c.in_ok-put_judged.ensures p h, c.in_ok-put_set.ensures, c.is_greatest.ensures, c.in_ok-put_candidates.ensures, c.in_ok-put_axioms_line.ensures, c.deref.ensures.value, c.deref-2.ensures.value, c.deref-3.ensures.value, c.new-out.ensures.items) (simp append_assoc) in
    made
    ∙ ap (λ (x : List t.Fate). line (codes "axioms: " ++ axioms_text o.axioms) ++ texts candidate_text (program_of u.opened).candidates x ++ line (codes "retained set: " ++ set_text o.is_greatest) ++ texts (implementation_text s.outer) s.implementations o.implementations ++ summary_text o) same
    ∙ ap (λ (q : r.Program). line (codes "axioms: " ++ axioms_text o.axioms) ++ texts candidate_text q.candidates o.fates ++ line (codes "retained set: " ++ set_text o.is_greatest) ++ texts (implementation_text s.outer) s.implementations o.implementations ++ summary_text o) h.0
