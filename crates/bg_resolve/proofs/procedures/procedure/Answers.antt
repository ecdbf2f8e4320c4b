use Rattle.std.proofs.Common.{map, flat_map}
use Rattle.bg_text.specs.Views as v
use Rattle.bg_spaces.specs.Declarations.{sig_faults}
use Rattle.bg_resolve.specs.Program.{spec_faults}
use Rattle.bg_spaces.specs.SpaceViews.{spaces_in}
use Rattle.bg_names.proofs.Firsts.{after}
use Rattle.bg_resolve.proofs.procedures.procedure.Goals as goal

pub returns-clause-first : goal.returns-clause-first
returns-clause-first c =
    let g = spaces_in c.args.g.now in
    let s = v.sig_of c.args.q.now.signature in
    after _ _ _ (sig_faults g s) (flat_map (spec_faults g s) (map v.spec_of c.args.q.now.specs.items)) c.in_ok-note_signature.ensures.first c.in_ok-requires_.ensures.first
