use Rattle.std.proofs.Common.{◌≡◌, Some, None, sym, ap, subst}
use Rattle.std.specs.Prelude.{slice_get, MatchOption}
use Rattle.bg_wanted.specs.Rows.{row_of}
use Rattle.bg_wanted.specs.Asked.{looked_rows}
use Rattle.bg_wanted.specs.Behind.{parts_there}
use Rattle.bg_wanted.proofs.Rowed.{map_there, map_missing}
use Rattle.bg_wanted.proofs.tables.parts_at.Goals as goal

pub returns-in-None : goal.returns-in-None
returns-in-None c = ap parts_there (map_missing row_of c.args.looked.rows.now c.args.a c.in-None.ensures.lookup.3)

pub returns-in-Some : goal.returns-in-Some
returns-in-Some c =
    let there : slice_get (looked_rows c.args.looked) c.args.a ≡ Some (row_of c.in-Some.row.now) = map_there row_of c.args.looked.rows.now c.args.a c.in-Some.row.now c.in-Some.ensures.lookup.3.0 (c.in-Some.ensures.lookup.3.1 c.in-Some.row.now) in
    subst (λ o. MatchOption c.parts_of.result (o ≡ None) (λ p. o ≡ Some (p.0.now, p.1))) (sym (ap parts_there there)) c.parts_of.ensures
