use Rattle.std.proofs.Common.{◌≡◌, ◌++◌, Bool, true, List, map, sym, subst}
use Rattle.std.proofs.lemmas.Result.{IfOk-weaker}
use Rattle.bg_rows.specs.Rows.{row_of}
use Rattle.bg_formula.specs.Atoms.{atom_of, view_linear}
use Rattle.bg_cert.specs.Paths.{rows_on}
use Rattle.bg_cert.specs.Wanted.{is_named}
use Rattle.bg_cert.proofs.Wanted.{rows_serve}
use Rattle.bg_cert.proofs.table.rows_for.Goals as goal

pub returns : goal.returns
returns c =
    let all = map atom_of c.args.atoms.now ++ map view_linear c.args.table.now in
    IfOk-weaker c.rows_marked.result _ _
    (λ v p.
    rows_serve c.deref.result.now (map row_of v.items) (rows_on all c.args.decisions.now) c.args.steps.now
    (λ j h. subst (λ (z : List Bool). is_named z j ≡ true) (sym c.deref.ensures.value) (c.in_ok-marks.ensures j h))
    p)
    c.rows_marked.ensures
