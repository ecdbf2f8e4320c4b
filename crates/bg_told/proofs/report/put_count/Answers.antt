use Rattle.std.proofs.Common.{◌≡◌, ◌++◌, ℕ, codes, ap, ◌∙◌, append_assoc}
use Rattle.std.specs.Fmt.{decimal}
use Rattle.bg_check.specs.Verdicts.{judged}
use Rattle.bg_told.specs.Lines.{word_text}
use Rattle.bg_told.specs.Words.{count_of}
use Rattle.bg_told.specs.Views.{told_word}
use Rattle.bg_told.proofs.Told.{count_told}
use Rattle.bg_told.proofs.report.put_count.Goals as goal

pub returns : goal.returns
returns c =
    let os = judged c.args.outcome.now in
    let w = c.args.word in
    let made : c.put_word.new.out.items ≡ c.args.out.now.items ++ (decimal (count_of w os) ++ codes " " ++ word_text (told_word w)) = rw (c.in_ok-put_word.ensures, c.in_ok-push.ensures.items, c.in_ok-put_number.ensures, c.count_of.ensures) (simp append_assoc) in
    made ∙ ap (λ (n : ℕ). c.args.out.now.items ++ (decimal n ++ codes " " ++ word_text (told_word w))) (count_told w os)
