use Rattle.std.proofs.Common.{◌≡◌, ◌<◌, length, subst, rules, arith}
use Rattle.bg_elim.specs.Work.{work_of, IsGone}
use Rattle.bg_elim.proofs.Names.{Parted, parted_step, removed_length}
use Rattle.bg_elim.proofs.every.eliminate_all.Goals as goal

pub every-preserved : goal.every-preserved
every-preserved c =
    let e = c.in_ok-round.ensures in
    let i = c.every.invariant in
    let w = work_of c.every.work in
    let made = work_of c.eliminate_one.new.work in
    let rest = c.every.rest.items in
    let all = c.args.variables.now in
    let x = c.remove-x.result in
    let lt : c.choose-i.result < length rest = search rules in
    let left = c.every.places.items in
    let lt2 : c.choose-i.result < length left = search rules in
    let a = removed_length rest c.remove-x.new.self.items c.choose-i.result lt c.remove-x.ensures.items in
    let b = removed_length left c.remove.new.self.items c.choose-i.result lt2 c.remove.ensures.items in
    let same : length c.remove.new.self.items ≡ length c.remove-x.new.self.items = omega (arith, a, b, i.same) in
    let p : Parted all w.order rest = record { once = i.once; done = i.done; apart = i.apart; whole = i.all } in
    let q = parted_step all w.order rest made.order c.remove-x.new.self.items c.choose-i.result x p lt c.remove-x.ensures.value e.order c.remove-x.ensures.items in
    let gone = subst (IsGone c.args.budget w x made) c.in-Whole.is e.gone in
    record {
      indexed = e.indexed;
      room = e.room;
      rows = λ n r h. e.rows n r (i.rows n r h);
      sound = λ given h. e.sound given (i.sound given h);
      placed = gone all i.placed;
      once = q.once;
      done = q.done;
      same = same;
      apart = q.apart;
      all = q.whole;
    }
