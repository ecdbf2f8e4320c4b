use mir.Syntax.{w128}
use Rattle.std.proofs.Common.{◌≡◌, SFits, List, pos, subst, rules}
use Rattle.std.specs.Prelude.{Ok}
use Rattle.std.proofs.lemmas.Int.{to_z-of_z}
use Rattle.bg_rows.specs.declared.entry.Entry.{Entry}
use Rattle.bg_rows.specs.Rows.{row_of, multiples}
use Rattle.bg_rows.proofs.Once.{row_is}
use Rattle.bg_rows.proofs.sums.row_once.Goals as goal

pub returns : goal.returns
returns c =
    let f : SFits w128 c.args.row.now.bound = search rules in
    row_is (row_of c.args.row.now) (subst (λ (z : List Entry). multiples (pos 1) z ≡ Ok z) c.deref.ensures.value c.entries_once.ensures) (simp (to_z-of_z, f) at c.number_once.ensures)
