use Rattle.std.proofs.Common.{◌≡◌, ◌++◌, List, ℕ, flat_map, length, sym, ap, ◌∙◌, append_assoc}
use Rattle.bg_ast.specs.Views.{impl_of}
use Rattle.bg_sound.specs.Told.{Word}
use Rattle.bg_check.specs.Kept.{why_of}
use Rattle.bg_check.specs.Outcomes.{told}
use Rattle.bg_told.specs.Report.{head_text}
use Rattle.bg_told.specs.Sheets.{head_of}
use Rattle.bg_told.specs.Words.{word_of}
use Rattle.bg_told.specs.Views.{told_word}
use Rattle.bg_told.specs.Places.{judged_text}
use Rattle.bg_told.specs.Entries.{names_for, split_all, shown_text}
use Rattle.bg_told.proofs.Told.{word_told, shown_is}
use Rattle.bg_told.proofs.Split.{word_split}
use Rattle.bg_told.proofs.report.put_implementation.Goals as goal

pub returns : goal.returns
returns c =
    let h = head_of (impl_of c.args.implementation.now) in
    let names = names_for c.args.declared h in
    let n = length c.args.declared.globals.now in
    let js = c.args.judged.now in
    let made : c.put_places.new.out.items ≡ c.args.out.now.items ++ (head_text h (told_word (word_of js)) ++ flat_map (shown_text names n) js) = rw (c.in_ok-put_places.ensures, c.in_ok-put_head.ensures, c.implementation_word.ensures) (simp append_assoc) in
    made
    ∙ ap (λ (places : List ℕ). c.args.out.now.items ++ (head_text h (told_word (word_of js)) ++ places)) (shown_is names n js)
    ∙ ap (λ (w : Word). c.args.out.now.items ++ (head_text h w ++ flat_map (judged_text names) (split_all n js))) (word_told js ∙ sym (word_split n (told why_of js)))
