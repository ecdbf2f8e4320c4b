use Rattle.std.proofs.Common.{ap, ap₂, codes, ◌≡◌, ◌∙◌}
use Rattle.std.proofs.lemmas.Result.{IfOk-weaker}
use Rattle.clap.specs.Simple.{App, app_of, app_of_fields, new_app, with_subcommand}
use Rattle.bg_cli.specs.Cli.{verify, annotate, certify, check, generate, bench, required, cli}
use Rattle.bg_cli.proofs.Finds.{plain_is_local}
use Rattle.bg_cli.proofs.line.cli.Goals as goal

pub returns : goal.returns
unfolding cli
returns c =
    let verify_is : app_of c.in_ok-verify.field-0 ≡ verify = c.in_ok-verify.ensures in
    let annotate_is : app_of c.in_ok-annotate.field-0 ≡ annotate = c.in_ok-annotate.ensures in
    let certify_is : app_of c.in_ok-certify.field-0 ≡ certify = c.in_ok-certify.ensures in
    let check_is : app_of c.in_ok-check.field-0 ≡ check = c.in_ok-check.ensures in
    let generate_is : app_of c.in_ok-makes.field-0 ≡ generate = c.in_ok-makes.ensures in
    let bench_is : app_of c.in_ok-makes-2.field-0 ≡ bench = c.in_ok-makes-2.ensures in
    let bg_is : app_of c.subcommand_required.result ≡ required (new_app (codes "bg")) = ap app_of_fields c.subcommand_required.ensures ∙ ap required c.new.ensures.app in
    let first = c.in_ok-subcommand.ensures.shape (plain_is_local _ _ _ _ (ap (λ (x : App). x.top.is_plain) verify_is))
    ∙ ap₂ with_subcommand bg_is (ap (λ (x : App). x.top) verify_is) in
    let second = c.in_ok-subcommand-2.ensures.shape (plain_is_local _ _ _ _ (ap (λ (x : App). x.top.is_plain) annotate_is))
    ∙ ap₂ with_subcommand first (ap (λ (x : App). x.top) annotate_is) in
    let third = c.in_ok-subcommand-3.ensures.shape (plain_is_local _ _ _ _ (ap (λ (x : App). x.top.is_plain) certify_is))
    ∙ ap₂ with_subcommand second (ap (λ (x : App). x.top) certify_is) in
    let fourth = c.in_ok-subcommand-4.ensures.shape (plain_is_local _ _ _ _ (ap (λ (x : App). x.top.is_plain) check_is))
    ∙ ap₂ with_subcommand third (ap (λ (x : App). x.top) check_is) in
    let fifth = c.in_ok-subcommand-5.ensures.shape (plain_is_local _ _ _ _ (ap (λ (x : App). x.top.is_plain) generate_is))
    ∙ ap₂ with_subcommand fourth (ap (λ (x : App). x.top) generate_is) in
    IfOk-weaker c.subcommand-6.result _ _
    (λ m h. h.shape (plain_is_local _ _ _ _ (ap (λ (x : App). x.top.is_plain) bench_is)) ∙ ap₂ with_subcommand fifth (ap (λ (x : App). x.top) bench_is)) c.subcommand-6.ensures
