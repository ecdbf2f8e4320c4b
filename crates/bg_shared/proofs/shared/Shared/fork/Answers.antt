use Rattle.std.proofs.Common.{rules, arith, ap, ◌∙◌}
use Rattle.atomic_table.specs.Table.{Me}
use Rattle.bg_shared.specs.declared.view.View.{View}
use Rattle.bg_shared.proofs.Table.{forks, matches_same}
use Rattle.bg_shared.proofs.shared.Shared.fork.Goals as goal

pub split_seat-seat-requires : goal.split_seat-seat-requires
split_seat-seat-requires c = let w = c.args.self.now.words in (search rules, omega arith, forks _ _ _ _ c.args.first.now.live.0 c.requires.of.1)

pub invariant_of-first : goal.invariant_of-first
invariant_of-first c = let is = c.split_seat-seat.ensures.2 in let f = c.args.first.now in let p = ap (λ (m : Me (Unit {0}) View). m.0.parts) is in let l = f.live.1 in record {
  matches = matches_same f.seat.me.0 c.split_seat-seat.new.seat.me.0 f.pending (ap (λ (m : Me (Unit {0}) View). m.0.seen.pending) is) (ap (λ (m : Me (Unit {0}) View). m.0.cands) is) (ap (λ (m : Me (Unit {0}) View). m.0.seen.snapshot) is) f.matches;
  live = (ap (λ (m : Me (Unit {0}) View). m.0.live) is ∙ f.live.0, omega arith);
  bare = ap (λ (m : Me (Unit {0}) View). m.1) is ∙ f.bare;
}
