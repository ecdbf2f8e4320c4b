use Rattle.std.proofs.Common.{◌≡◌, [], ◌∷◌, ◌++◌, map, rules}
use Rattle.bg_ast.specs.Meaning as m
use Rattle.bg_ast.specs.Views.{ex_of}
use Rattle.bg_formula.specs.Atoms.{view_linear}
use Rattle.bg_atoms.proofs.Lists.{begins_on}
use Rattle.bg_atoms.proofs.Listing.{begins_row, begins_grown, adding_none, adding_more, added}
use Rattle.bg_atoms.proofs.Relating.{none_yet, one_more, all_now}
use Rattle.bg_atoms.proofs.relate.all_rows.Goals as goal

pub loop-a-init : goal.loop-a-init
loop-a-init c =
    (adding_none _ _ _ c.requires.table, λ all b. none_yet c.args.base all (map view_linear c.args.rows.items) (m.ex_of (ex_of c.plain-made.result)) c.plain-made.ensures)

pub loop-a-preserved : goal.loop-a-preserved
loop-a-preserved c =
    let split : c.loop-a.rows.items ≡ c.pop.new.self.items ++ c.in-Some.a ∷ [] = search rules in (
      adding_more c.args.base c.loop-a.rows.items c.pop.new.self.items c.in-Some.a _ _ _ _ split c.loop-a.invariant.0 c.in_ok-x.ensures.grows,
      λ all b. one_more c.args.base all c.loop-a.rows.items c.pop.new.self.items c.in-Some.a _ _ _ _ split c.in_ok-made.ensures (c.in_ok-x.ensures.row all b) (c.loop-a.invariant.1 all (begins_on _ _ _ (begins_grown (begins_row (view_linear c.in-Some.a)) c.in_ok-x.ensures.grows) b)),
    )

pub returns-clause-grows : goal.returns-clause-grows
returns-clause-grows c =
    let empty : c.loop-a.rows.items ≡ [] = search rules in
    added c.args.base c.loop-a.rows.items _ _ _ empty c.loop-a.invariant.0

pub returns-clause-rows : goal.returns-clause-rows
returns-clause-rows c =
    let empty : c.loop-a.rows.items ≡ [] = search rules in
    λ all b. all_now c.args.base all (map view_linear c.args.rows.items) c.loop-a.rows.items (m.ex_of (ex_of c.loop-a.made)) empty (c.loop-a.invariant.1 all b)
