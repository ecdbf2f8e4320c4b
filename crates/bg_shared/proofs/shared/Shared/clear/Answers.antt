use Rattle.std.proofs.Common.{rules, arith, ◌≡◌, ℕ, ◌+◌, ◌/◌, ◌%◌, ◌^◌, ◌<◌, length, eqb, bit_and, ap, ◌∙◌, subst, sym, refl, add-one}
use Rattle.std.proofs.lemmas.Nat.Bits.{shr_and_one}
use Rattle.atomic_table.specs.Table.{Me}
use Rattle.bg_shared.specs.declared.view.View.{View}
use Rattle.bg_words.specs.Sets.{bit}
use Rattle.bg_shared.specs.Views.{clearing}
use Rattle.bg_words.proofs.Keeps.{some≢none}
use Rattle.bg_shared.proofs.Table.{clears_at}
use Rattle.bg_shared.proofs.shared.Shared.clear.Goals as goal

pub fetch_and-found-requires : goal.fetch_and-found-requires
fetch_and-found-requires c = let own = c.args.self.now in let w = own.words in let k = own.key in let s = c.args.seat.now in let m = s.matches.1 c.in-Some.number c.in-Some.c c.in-Some.is in
    let is = c.requires.own.1 in let small = m.1 in
    let lt : c.in-Some.c.0 < own.table.shared.key.cands = omega arith in let inside : c.in-Some.c.0 / 64 + 1 < own.table.shared.table_id.words = omega arith in
    (search rules, inside, clears_at own.table.shared.key.cands own.table.shared.key.seats own.table.shared.table_id.slots s.seat.id c.in-Some.number c.in-Some.c.0 s.seat.me s.live.0 m.0 lt m.2)

-- what the step says
told : (c : goal.After-fetch_and-found) → c.fetch_and-found.new.seat.me ≡ (clearing c.args.seat.now.seat.me.0 c.in-Some.number c.in-Some.c.0 (bit c.fetch_and-found.result (c.in-Some.c.0 % 64)), c.args.seat.now.seat.me.1)
told c = c.fetch_and-found.ensures.2 c.in-Some.number c.in-Some.c.0 (c.args.seat.now.matches.1 c.in-Some.number c.in-Some.c c.in-Some.is).0 (add-one (c.in-Some.c.0 / 64)) refl

pub invariant_of-seat : goal.invariant_of-seat
invariant_of-seat c = let is = told c in let f = c.args.seat.now in record {
  matches = ((λ _. ap (λ (m : Me (Unit {0}) View). m.0.seen.pending) is), λ number d e. absurd (some≢none (number, d) (sym e)));
  live = (ap (λ (m : Me (Unit {0}) View). m.0.live) is ∙ f.live.0, subst (λ (x : ℕ). 0 < x) (sym (ap (λ (m : Me (Unit {0}) View). m.0.parts) is)) f.live.1);
  bare = ap (λ (m : Me (Unit {0}) View). m.1) is ∙ f.bare;
}

pub returns-clause-own : goal.returns-clause-own
returns-clause-own c = let is = c.fetch_and-found.ensures.2 c.in-Some.number c.in-Some.c.0 (c.args.seat.now.matches.1 c.in-Some.number c.in-Some.c c.in-Some.is).0 (add-one (c.in-Some.c.0 / 64)) refl in let r = c.requires.own in (
  c.fetch_and-found.ensures.0 ∙ r.0,
  ap (λ (m : Me (Unit {0}) View). m.0.cands) is ∙ r.1,
  ap (λ (m : Me (Unit {0}) View). length m.0.loads) is ∙ r.2,
)

pub returns-clause-entry : goal.returns-clause-entry
returns-clause-entry c = let is = c.fetch_and-found.ensures.2 c.in-Some.number c.in-Some.c.0 (c.args.seat.now.matches.1 c.in-Some.number c.in-Some.c c.in-Some.is).0 (add-one (c.in-Some.c.0 / 64)) refl in
    let same : bit c.fetch_and-found.result (c.in-Some.c.0 % 64) ≡ eqb (bit_and (c.fetch_and-found.result / 2 ^ (c.in-Some.c.0 % 64)) 1) 1 = ap (λ (x : ℕ). eqb x 1) (sym (shr_and_one c.fetch_and-found.result (c.in-Some.c.0 % 64))) in
    (c.in-Some.c, c.in-Some.is, ap (λ (m : Me (Unit {0}) View). m.0) is ∙ ap (clearing c.args.seat.now.seat.me.0 c.in-Some.number c.in-Some.c.0) same)
