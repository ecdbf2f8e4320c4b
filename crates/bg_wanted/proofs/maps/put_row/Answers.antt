use Rattle.std.proofs.Common.{sym, ◌∙◌}
use Rattle.std.proofs.lemmas.Result.{IfOk-weaker}
use Rattle.bg_wanted.specs.Rows.{row_of}
use Rattle.bg_wanted.proofs.Mapping.{selects_same, selects_more}
use Rattle.bg_wanted.proofs.maps.put_row.Goals as goal

pub returns-in-None : goal.returns-in-None
returns-in-None c =
    λ rs at has. selects_same c.args.selects.now rs (row_of c.args.row.now) has (sym c.map_of.ensures ∙ c.in-None.is)

pub returns-in-Some : goal.returns-in-Some
returns-in-Some c =
    IfOk-weaker c.put.result _ _
    (λ x h. λ rs at has.
    selects_more c.args.selects.now c.put.new.selects rs (row_of c.args.row.now) has c.in-Some.map c.args.place (sym c.map_of.ensures ∙ c.in-Some.is) at h)
    c.put.ensures
