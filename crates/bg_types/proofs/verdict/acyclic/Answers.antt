use Rattle.std.proofs.Common.{◌≡◌, true, None, ap, ◌∙◌}
use Rattle.bg_ast.specs.Views.{program_of}
use Rattle.bg_kinds.specs.Faults.{first_of}
use Rattle.bg_kinds.specs.Kinds.{named_by}
use Rattle.bg_types.specs.Programs.{program_faults}
use Rattle.bg_kinds.specs.KindViews.{kinds_in}
use Rattle.bg_types.proofs.Judgement.{verdict_of, unfolded_at}
use Rattle.bg_types.proofs.verdict.acyclic.Goals as goal

pub returns : goal.returns
returns c =
    let p = program_of c.args.p.now in
    let table = c.in_ok-named.named.items in
    let good : c.in_ok-is_unfolded.field-0 ≡ true = c.if-not-branch.false in
    let unfolded = unfolded_at c.deref-3.result.now c.args.p.now.types.items c.deref-2.result.now table c.deref-3.ensures.value c.deref-2.ensures.value (c.in_ok-is_unfolded.ensures good) in
    let first = c.in_ok-fault.ensures ∙ ap (λ n. first_of None (program_faults (named_by (kinds_in n)) p)) c.deref-4.ensures.value in
    verdict_of p (named_by (kinds_in table)) _ c.requires.acyclic unfolded first
