use Rattle.std.proofs.Common.{ap₂, ◌≡◌, ◌∙◌}
use Rattle.std.proofs.lemmas.Result.{IfOk-weaker}
use Rattle.clap.specs.Walk.{rule_of}
use Rattle.clap.specs.Simple.{with_rule}
use Rattle.bg_cli.specs.Cli.{workers, nodes, most_rows, guess}
use Rattle.bg_cli.proofs.line.annotate.Goals as goal

pub returns : goal.returns
returns c =
    let workers_is : rule_of c.workers.result ≡ workers = c.workers.ensures.rule in
    let nodes_is : rule_of c.budget.result ≡ nodes = c.budget.ensures.rule in
    let rows_is : rule_of c.budget-2.result ≡ most_rows = c.budget-2.ensures.rule in
    let guess_is : rule_of c.flag.result ≡ guess = c.flag.ensures.rule in
    let before = c.in_ok-arg-4.ensures.shape c.flag.ensures.own
    ∙ ap₂ with_rule (c.in_ok-arg-3.ensures.shape c.budget-2.ensures.own
    ∙ ap₂ with_rule (c.in_ok-arg-2.ensures.shape c.budget.ensures.own
    ∙ ap₂ with_rule (c.in_ok-arg.ensures.shape c.workers.ensures.own ∙ ap₂ with_rule c.new.ensures.app workers_is) nodes_is) rows_is) guess_is in
    IfOk-weaker c.arg-5.result _ _ (λ m h. h.shape c.files.ensures.own ∙ ap₂ with_rule before c.files.ensures.rule) c.arg-5.ensures
