use Rattle.std.proofs.Common.{sym, subst}
use Rattle.std.proofs.lemmas.Result.{on_ok_weaker}
use Rattle.bg_sense.specs.Flow.{ToLabel}
use Rattle.bg_flow.specs.Core.{Mark}
use Rattle.bg_blocks.specs.Emitted.{Emits}
use Rattle.bg_blocks.specs.EmittedViews.{state_of}
use Rattle.bg_blocks.proofs.Emission.{emits_mark}
use Rattle.bg_blocks.proofs.stmts.label.Goals as goal

pub returns : goal.returns
returns c =
    on_ok_weaker c.mark.result
    (λ h p frame rs n. subst (Emits (Mark (ToLabel c.args.l)) (state_of p c.args.state.now)) (sym (h p (ToLabel c.args.l) c.label_key.ensures)) (emits_mark (ToLabel c.args.l) (state_of p c.args.state.now)))
    c.mark.ensures
