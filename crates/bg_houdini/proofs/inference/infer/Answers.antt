use denote.Param.Send.{sendable}
use Rattle.std.proofs.Common.{refl}
use Rattle.bg_houdini.specs.Checkers.{meaning_in}
use Rattle.bg_houdini.proofs.Shared.{leaving, judging_sync, proof_send, reason_send}
use Rattle.bg_houdini.proofs.Blank.{blank_interp, blank_tables}
use Rattle.bg_houdini.proofs.Whole.{true_outcome}
use Rattle.bg_houdini.proofs.inference.infer.Goals as goal

pub infer-requires-sync-C : goal.infer-requires-sync-C
infer-requires-sync-C g c κs within = search (judging_sync, sendable)

pub infer-requires-send-P : goal.infer-requires-send-P
infer-requires-send-P g c κs within = search (proof_send, leaving, sendable) depth 60 fits 20000

pub infer-requires-send-V : goal.infer-requires-send-V
infer-requires-send-V g c κs within = search (reason_send, leaving, sendable) depth 60 fits 20000

pub returns : goal.returns
returns g c =
    let h = c.in_ok-checker.ensures in
    let q = meaning_in c.in_ok-checker.checker in
    true_outcome c.args.effort c.args.program.now c.in_ok-checker.checker (record { inferred = c.in_ok-inferred.inferred; verdicts = c.in_ok-verdicts.verdicts }) h.program h.effort
    (blank_interp q) (c.tables_meet_programs_over_values.ensures q (blank_interp q) h.stands.scalars refl (blank_tables q.functions)) c.in_ok-inferred.ensures c.in_ok-verdicts.ensures
