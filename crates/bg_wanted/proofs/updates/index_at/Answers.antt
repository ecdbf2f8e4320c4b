use Rattle.std.proofs.Common.{◌≡◌, Some, None, sym, ap, ◌∙◌, subst}
use Rattle.std.specs.Prelude.{slice_get, MatchOption}
use Rattle.bg_wanted.specs.Rows.{row_of}
use Rattle.bg_wanted.specs.Asked.{looked_rows, index_in, index_there}
use Rattle.bg_wanted.proofs.Rowed.{map_there, map_missing}
use Rattle.bg_wanted.proofs.updates.index_at.Goals as goal

pub returns-in-None : goal.returns-in-None
returns-in-None c = ap index_there (map_missing row_of c.args.looked.rows.now c.args.a c.in-None.ensures.lookup.3)

pub returns-in-Some : goal.returns-in-Some
returns-in-Some c =
    let there : slice_get (looked_rows c.args.looked) c.args.a ≡ Some (row_of c.in-Some.row.now) = map_there row_of c.args.looked.rows.now c.args.a c.in-Some.row.now c.in-Some.ensures.lookup.3.0 (c.in-Some.ensures.lookup.3.1 c.in-Some.row.now) in
    subst (λ o. MatchOption c.index_of.result (o ≡ None) (λ k. o ≡ Some k.now)) (ap index_in c.deref.ensures.value ∙ sym (ap index_there there)) c.index_of.ensures
