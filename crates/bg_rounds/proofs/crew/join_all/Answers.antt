use Rattle.std.proofs.Common.{IfSome, Option, ◌∙◌, subst, arith}
use Rattle.std.proofs.lemmas.List.Elements.{All-pop}
use Rattle.bg_rounds.specs.declared.keeper.Keeper.{Keeper}
use Rattle.bg_rounds.specs.Crews.{Employed}
use Rattle.bg_rounds.proofs.crew.join_all.Goals as goal

pub join-requires-clause-keeper : goal.join-requires-clause-keeper
join-requires-clause-keeper g c = let k = g.C.Checker in let s = c.args.checker.now in
    let A : Keeper g.row.V.Denot g.row.D.Denot → Type 0 = Employed (k.targets s) (k.cand s) (k.finds s) c.args.shared.now in
    let both = All-pop A c.loop-keeper.keepers.items c.pop.new.self.items c.pop.result c.pop.ensures.items c.loop-keeper.invariant.keepers in
    subst (λ (o : Option (Keeper g.row.V.Denot g.row.D.Denot)). IfSome o A) c.in-Some.is both.1

pub loop-keeper-preserved : goal.loop-keeper-preserved
loop-keeper-preserved g c = let k = g.C.Checker in let s = c.args.checker.now in let i = c.loop-keeper.invariant in let e = c.in_ok-join.ensures in
    let A : Keeper g.row.V.Denot g.row.D.Denot → Type 0 = Employed (k.targets s) (k.cand s) (k.finds s) c.args.shared.now in
    let both = All-pop A c.loop-keeper.keepers.items c.pop.new.self.items c.pop.result c.pop.ensures.items i.keepers in record {
      sits = e.sits;
      first = e.first;
      removals = e.removals;
      keepers = both.0;
      parts = let a = e.parts in let b = e.right in let d = i.parts in let n = c.in-Some.ensures.len in let r = c.loop-keeper.keepers.ok in let u = c.pop.new.self.ok in omega arith;
      spare = e.spare ∙ i.spare;
    }
