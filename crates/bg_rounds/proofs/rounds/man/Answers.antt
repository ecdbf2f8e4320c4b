use Rattle.std.proofs.Common.{false, List, All, IfSome, Option, sym, ap, subst, arith}
use Rattle.std.proofs.lemmas.List.Elements.{All-push, All-pop, All-nil}
use Rattle.bg_claims.specs.declared.table.ClaimSeat.{ClaimSeat}
use Rattle.bg_claims.specs.declared.view.ClaimView.{ClaimView}
use Rattle.bg_claims.specs.Seats.{IsFresh}
use Rattle.bg_rounds.specs.declared.keeper.Keeper.{Keeper}
use Rattle.bg_rounds.specs.declared.worker.Found.{Found}
use Rattle.bg_rounds.specs.declared.worker.Worker.{Worker}
use Rattle.bg_rounds.specs.Crews.{Employed, RightFound, Works}
use Rattle.bg_rounds.proofs.rounds.man.Goals as goal

pub loop-keeper-preserved : goal.loop-keeper-preserved
loop-keeper-preserved g c = let k = g.C.Checker in let s = c.args.checker.now in let i = c.loop-keeper.invariant in let p = c.in_ok-push.ensures in
    let A : Keeper g.row.V.Denot g.row.D.Denot → Type 0 = Employed (k.targets s) (k.cand s) (k.finds s) c.args.round.now.shared.now in
    let W : Worker g.row.P.Denot g.row.V.Denot g.row.D.Denot → Type 0 = Works (k.cands s) (k.targets s) (k.cand s) (k.passes s) (k.finds s) c.args.round.now.claims.now c.args.round.now.shared.now in
    let F : Found g.row.P.Denot → Type 0 = RightFound (k.cands s) (k.targets s) (k.passes s) in
    let at = All-pop A c.loop-keeper.keepers.items c.pop.new.self.items c.pop.result c.pop.ensures.items i.keepers in
    let fresh = All-pop (IsFresh c.args.round.now.claims.now) c.loop-keeper.seats.items c.pop-in-Some.new.self.items c.pop-in-Some.result c.pop-in-Some.ensures.items i.seats in
    let keeper : A c.in-Some.keeper = subst (λ (o : Option (Keeper g.row.V.Denot g.row.D.Denot)). IfSome o A) c.in-Some.is at.1 in
    let claim : IsFresh c.args.round.now.claims.now c.in-Some-pop.claim = subst (λ (o : Option ClaimSeat). IfSome o (IsFresh c.args.round.now.claims.now)) c.in-Some-pop.is fresh.1 in
    let w : Worker g.row.P.Denot g.row.V.Denot g.row.D.Denot = record { number = c.len-in-Some.result; claim = c.in-Some-pop.claim; keeper = c.in-Some.keeper; found = c.new.result; lacked = false } in
    let right : W w = record { claim = (claim.0, ap (λ (v : ClaimView). v.limit) claim.1, ap (λ (v : ClaimView). v.seats) claim.1); keeper = keeper; found = subst (λ (fs : List (Found g.row.P.Denot)). All F fs) (sym c.new.ensures.items) (All-nil F) } in record {
      keepers = at.0;
      seats = fresh.0;
      same = let a = c.in-Some.ensures.len in let b = c.in-Some-pop.ensures.len in let e = i.same in let r = c.loop-keeper.keepers.ok in let t = c.loop-keeper.seats.ok in let u = c.pop.new.self.ok in let v = c.pop-in-Some.new.self.ok in omega arith;
      workers = subst (λ (ws : List (Worker g.row.P.Denot g.row.V.Denot g.row.D.Denot)). All W ws) (sym p.items) (All-push W c.loop-keeper.workers.items w i.workers right);
      count = let a = c.in-Some.ensures.len in let e = i.count in let b = p.len in let r = c.loop-keeper.keepers.ok in let u = c.pop.new.self.ok in let x = c.push.new.self.ok in let y = c.loop-keeper.workers.ok in omega arith;
    }

pub returns-clause-workers : goal.returns-clause-workers
returns-clause-workers g c = c.loop-keeper.invariant.workers
