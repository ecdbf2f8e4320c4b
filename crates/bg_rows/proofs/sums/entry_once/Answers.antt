use mir.Syntax.{w128}
use Rattle.std.proofs.Common.{SFits, rules}
use Rattle.std.proofs.lemmas.Int.{to_z-of_z}
use Rattle.bg_rows.proofs.sums.entry_once.Goals as goal

pub returns : goal.returns
returns c =
    let f : SFits w128 c.args.t.now.by = search rules in
    simp (to_z-of_z, f) at c.number_once.ensures
