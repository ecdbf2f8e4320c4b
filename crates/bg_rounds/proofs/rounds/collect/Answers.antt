use Rattle.std.proofs.Common.{List, All, IfSome, Option, sym, subst, arith}
use Rattle.std.proofs.lemmas.List.Elements.{All-push, All-pop}
use Rattle.bg_rounds.specs.declared.keeper.Keeper.{Keeper}
use Rattle.bg_rounds.specs.declared.worker.Worker.{Worker}
use Rattle.bg_rounds.specs.Crews.{Employed, Works}
use Rattle.bg_rounds.proofs.rounds.collect.Goals as goal

pub shelve-requires-clause-found : goal.shelve-requires-clause-found
shelve-requires-clause-found g c = let k = g.C.Checker in let s = c.args.checker.now in let i = c.loop-worker.invariant in
    let W : Worker g.row.P.Denot g.row.V.Denot g.row.D.Denot → Type 0 = Works (k.cands s) (k.targets s) (k.cand s) (k.passes s) (k.finds s) c.args.round.now.claims.now c.args.round.now.shared.now in
    let both = All-pop W c.loop-worker.workers.items c.pop.new.self.items c.pop.result c.pop.ensures.items i.workers in
    let right : W c.in-Some.worker = subst (λ (o : Option (Worker g.row.P.Denot g.row.V.Denot g.row.D.Denot)). IfSome o W) c.in-Some.is both.1 in right.found

pub loop-worker-preserved : goal.loop-worker-preserved
loop-worker-preserved g c = let k = g.C.Checker in let s = c.args.checker.now in let i = c.loop-worker.invariant in let p = c.in_ok-push.ensures in
    let A : Keeper g.row.V.Denot g.row.D.Denot → Type 0 = Employed (k.targets s) (k.cand s) (k.finds s) c.args.round.now.shared.now in
    let W : Worker g.row.P.Denot g.row.V.Denot g.row.D.Denot → Type 0 = Works (k.cands s) (k.targets s) (k.cand s) (k.passes s) (k.finds s) c.args.round.now.claims.now c.args.round.now.shared.now in
    let both = All-pop W c.loop-worker.workers.items c.pop.new.self.items c.pop.result c.pop.ensures.items i.workers in
    let right : W c.in-Some.worker = subst (λ (o : Option (Worker g.row.P.Denot g.row.V.Denot g.row.D.Denot)). IfSome o W) c.in-Some.is both.1 in record {
      keepers = subst (λ (ds : List (Keeper g.row.V.Denot g.row.D.Denot)). All A ds) (sym p.items) (All-push A c.loop-worker.keepers.items c.in-Some.worker.keeper i.keepers right.keeper);
      workers = both.0;
      count = let a = c.in-Some.ensures.len in let e = i.count in let b = p.len in let r = c.loop-worker.workers.ok in let u = c.pop.new.self.ok in let x = c.push.new.self.ok in let y = c.loop-worker.keepers.ok in omega arith;
      shelved = c.shelve.ensures;
    }

pub returns-clause-keepers : goal.returns-clause-keepers
returns-clause-keepers g c = c.loop-worker.invariant.keepers

pub returns-clause-shelved : goal.returns-clause-shelved
returns-clause-shelved g c = c.loop-worker.invariant.shelved

pub returns-then-lacked-clause-shelved : goal.returns-then-lacked-clause-shelved
returns-then-lacked-clause-shelved g c = c.loop-worker.invariant.shelved
