use Rattle.std.proofs.Common.{◌≡◌, ◌++◌, List, ℕ, codes, map, sym, ap, ◌∙◌, append_assoc}
use Rattle.bg_sound.specs.Told.{Fate, AllProved, SomeRefuted, SomeUnknown}
use Rattle.bg_check.specs.Kept.{why_of}
use Rattle.bg_check.specs.Verdicts.{judged}
use Rattle.bg_check.specs.Outcomes.{told}
use Rattle.bg_told.specs.Fates.{told_fate}
use Rattle.bg_lines.specs.Lines.{line}
use Rattle.bg_told.specs.Report.{count_text, fates_text}
use Rattle.bg_told.proofs.Split.{count_same}
use Rattle.bg_told.proofs.report.put_summary.Goals as goal

pub returns : goal.returns
returns c = λ o same_fates same_words.
    let fs = map told_fate c.args.fates.now in
    let os = map (told why_of) (judged c.args.verdicts.now) in
    let made : c.push.new.self.items ≡ c.args.out.now.items ++ line (codes "summary: " ++ fates_text fs ++ count_text AllProved os ++ codes ", " ++ count_text SomeRefuted os ++ codes ", " ++ count_text SomeUnknown os) = rw (c.in_ok-push.ensures.items, c.in_ok-put_count-3.ensures, c.in_ok-extend_from_slice-3.ensures.items, c.in_ok-put_count-2.ensures, c.in_ok-extend_from_slice-2.ensures.items, c.in_ok-put_count.ensures, c.in_ok-put_fates_count.ensures, c.in_ok-extend_from_slice.ensures.items) (simp append_assoc) in
    made
    ∙ ap (λ (x : List Fate). c.args.out.now.items ++ line (codes "summary: " ++ fates_text x ++ count_text AllProved os ++ codes ", " ++ count_text SomeRefuted os ++ codes ", " ++ count_text SomeUnknown os)) (sym same_fates)
    ∙ ap (λ (x : List ℕ). c.args.out.now.items ++ line (codes "summary: " ++ fates_text o.fates ++ x ++ codes ", " ++ count_text SomeRefuted os ++ codes ", " ++ count_text SomeUnknown os)) (sym (count_same AllProved o.implementations os same_words))
    ∙ ap (λ (x : List ℕ). c.args.out.now.items ++ line (codes "summary: " ++ fates_text o.fates ++ count_text AllProved o.implementations ++ codes ", " ++ x ++ codes ", " ++ count_text SomeUnknown os)) (sym (count_same SomeRefuted o.implementations os same_words))
    ∙ ap (λ (x : List ℕ). c.args.out.now.items ++ line (codes "summary: " ++ fates_text o.fates ++ count_text AllProved o.implementations ++ codes ", " ++ count_text SomeRefuted o.implementations ++ codes ", " ++ x)) (sym (count_same SomeUnknown o.implementations os same_words))
