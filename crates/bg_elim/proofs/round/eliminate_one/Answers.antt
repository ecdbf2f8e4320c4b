use Rattle.std.proofs.Common.{◌≡◌, ℕ, ◌<◌, true, length, refl, sym, ◌∙◌, subst, arith}
use Rattle.std.proofs.lemmas.List.{length-map}
use Rattle.bg_elim.specs.Kept.{is_in}
use Rattle.bg_elim.specs.Work.{work_of, marked, IsPair, IsRound, KeepsSound}
use Rattle.bg_elim.proofs.Live.{live_is, live_below, rest_is, left_is}
use Rattle.bg_elim.proofs.Listed.{out_listed}
use Rattle.bg_elim.proofs.Sides.{AllReady, pairs_of_sides, next_is, sound_next, round_gone}
use Rattle.bg_elim.proofs.round.eliminate_one.Goals as goal

pub pair_all-requires-clause-indexed : goal.pair_all-requires-clause-indexed
pair_all-requires-clause-indexed c =
    let w = c.args.work.now in
    let made = record w { order = c.push.new.self; live = c.take_out-2.new.live; columns = record w.columns { counts = c.discount_rows-2.new.counts } } in
    out_listed w made c.take_out.new.live.items _ _ c.requires.indexed refl refl refl refl refl (c.take_out-2.ensures.sized ∙ c.take_out.ensures.sized) (λ q. c.take_out-2.ensures.is q) (λ q. c.take_out.ensures.is q)

pub pair_all-requires-clause-pairs : goal.pair_all-requires-clause-pairs
pair_all-requires-clause-pairs c = λ i j hi hj.
    let w = work_of c.args.work.now in
    let rest = marked 0 c.take_out-2.new.live.items in
    let same = next_is w c.args.x rest c.push.new.self.items c.in_ok-push.ensures.items in
    subst (λ z. IsPair z c.args.x i j) (sym same)
    (pairs_of_sides c.requires.placed.0 w c.args.x c.in_ok-ups.ups.items c.in_ok-lows.lows.items rest c.requires.placed.1 c.requires.new c.in_ok-ups.ensures c.in_ok-lows.ensures i j
    (rw (← c.deref-7.ensures.value) hi) (rw (← c.deref-8.ensures.value) hj))

pub returns-clause-order : goal.returns-clause-order
returns-clause-order c = c.in_ok-round.ensures.extends.order ∙ c.in_ok-push.ensures.items

pub returns-clause-sound : goal.returns-clause-sound
returns-clause-sound c =
    let w = work_of c.args.work.now in
    let rest = marked 0 c.take_out-2.new.live.items in
    let same = next_is w c.args.x rest c.push.new.self.items c.in_ok-push.ensures.items in
    sound_next w (work_of c.pair_all.new.work) c.args.x rest (subst (λ z. KeepsSound z (work_of c.pair_all.new.work)) same c.in_ok-round.ensures.sound)

pub returns-clause-gone : goal.returns-clause-gone
returns-clause-gone c =
    let w = work_of c.args.work.now in
    let live = c.args.work.now.live.items in
    let rest = marked 0 c.take_out-2.new.live.items in
    let same = next_is w c.args.x rest c.push.new.self.items c.in_ok-push.ensures.items in
    let made = work_of c.pair_all.new.work in
    let b = c.args.budget in
    let x = c.args.x in
    let r = c.in_ok-round.round in
    let start = record w { order = c.push.new.self.items; live = rest } in
    let ups = c.in_ok-ups.ups.items in
    let lows = c.in_ok-lows.lows.items in
    let out = left_is live c.take_out.new.live.items c.take_out-2.new.live.items ups lows c.deref-5.result.now c.deref-6.result.now c.deref-5.ensures.value c.deref-6.ensures.value c.take_out.ensures.is c.take_out-2.ensures.is in
    let sized : (n : ℕ) → is_in n w.live ≡ true → n < length w.rows = λ n h. let k = live_below live n (sym (live_is live n) ∙ h) in rw length-map (omega (arith, k, c.requires.indexed.sized)) in
    let off = rest_is w x ups lows rest sized c.in_ok-ups.ensures c.in_ok-lows.ensures out in
    let h1 = subst (λ us. IsRound b start x made (AllReady made x us c.deref-8.result.now) r) c.deref-7.ensures.value c.in_ok-round.ensures.round in
    let h2 = subst (λ ls. IsRound b start x made (AllReady made x ups ls) r) c.deref-8.ensures.value h1 in
    let h3 = subst (λ z. IsRound b z x made (AllReady made x ups lows) r) same h2 in
    round_gone b w made x ups lows rest r c.requires.new c.in_ok-ups.ensures c.in_ok-lows.ensures off h3

pub returns-clause-rows : goal.returns-clause-rows
returns-clause-rows c = c.in_ok-round.ensures.extends.stays
