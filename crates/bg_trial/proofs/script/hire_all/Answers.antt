use Rattle.std.proofs.Common.{◌≡◌, All, arith, ap, ◌∙◌, sym, subst}
use Rattle.std.proofs.lemmas.List.Elements.{All-push, All-pop}
use Rattle.bg_shared.specs.declared.view.View.{View}
use Rattle.bg_claims.specs.Seats.{IsFresh}
use Rattle.bg_shared.specs.Seats.{view}
use Rattle.bg_trial.specs.Workers.{Works}
use Rattle.bg_trial.specs.declared.script.Worker.{Worker}
use Rattle.bg_trial.proofs.script.hire_all.Goals as goal

pub loop-claim-preserved : goal.loop-claim-preserved
loop-claim-preserved c = let i = c.loop-claim.invariant in let h = c.in_ok-hire.ensures in let f = h.first in let p = c.in_ok-push.ensures in let q = c.in-Some.ensures in record {
  first = f.0;
  is_first = ap (λ (v : View). v.first) f.1 ∙ i.is_first;
  idle = ap (λ (v : View). v.seen.pending) f.1 ∙ i.idle;
  fresh = (All-pop (IsFresh c.args.claims.now) c.loop-claim.seats.items c.pop.new.self.items c.pop.result c.pop.ensures.items i.fresh).0;
  works = subst (All (Works c.args.claims.now c.args.shared.now)) (sym p.items) (All-push (Works c.args.claims.now c.args.shared.now) c.loop-claim.workers.items c.in_ok-hire.field-0 i.works h.worker);
  new = let P : Worker → Type 0 = λ w. (view w.sitter.seat).own ≡ 0 in subst (All P) (sym p.items) (All-push P c.loop-claim.workers.items c.in_ok-hire.field-0 i.new h.new);
  room = let r = ap (λ (v : View). v.right) f.1 in let room = i.room in let l = q.len in omega arith;
  parts = let r = ap (λ (v : View). v.right) f.1 in let s = ap (λ (v : View). v.parts) f.1 in let t = i.parts in let l = p.len in let m = i.room in let n = q.len in omega arith;
}
