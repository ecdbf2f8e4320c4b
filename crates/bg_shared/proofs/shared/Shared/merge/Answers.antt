use Rattle.std.proofs.Common.{rules, arith, ap, ◌∙◌}
use Rattle.atomic_table.specs.Table.{Me}
use Rattle.bg_shared.specs.declared.view.View.{View}
use Rattle.bg_shared.proofs.Table.{joins, matches_same}
use Rattle.bg_shared.proofs.shared.Shared.merge.Goals as goal

pub join_seat-requires : goal.join_seat-requires
join_seat-requires c = let w = c.args.self.now.words in (search rules, search rules, search rules, omega arith, joins _ _ _ _ _ _ c.args.first.now.live.0 c.args.first.now.live.1 c.requires.first)

pub invariant_of-first : goal.invariant_of-first
invariant_of-first c = let is = c.join_seat.ensures.2 in let f = c.args.first.now in let p = ap (λ (m : Me (Unit {0}) View). m.0.parts) is in let l = f.live.1 in record {
  matches = matches_same f.seat.me.0 c.join_seat.new.seat.me.0 f.pending (ap (λ (m : Me (Unit {0}) View). m.0.seen.pending) is) (ap (λ (m : Me (Unit {0}) View). m.0.cands) is) (ap (λ (m : Me (Unit {0}) View). m.0.seen.snapshot) is) f.matches;
  live = (ap (λ (m : Me (Unit {0}) View). m.0.live) is ∙ f.live.0, omega arith);
  bare = ap (λ (m : Me (Unit {0}) View). m.1) is ∙ f.bare;
}
