use Rattle.std.proofs.Common.{rules, ◌≡◌, ℕ, ◌+◌, ◌<◌, [], ◌∷◌, length, drop, IfSome, sym, ap, ◌∙◌, subst, arith}
use Rattle.std.specs.Fn.{FnReturns}
use Rattle.std.proofs.lemmas.List.{length-append, length-drop}
use Rattle.bg_turns.proofs.Rows.{one_more, goes_on, slot_fits}
use Rattle.bg_turns.proofs.gather.filled.Goals as goal

pub taken-x-requires-clause-slot : goal.taken-x-requires-clause-slot
taken-x-requires-clause-slot g c =
    let at = goes_on c.args.slots.items c.loop-slot.slot-iterator.rest.items c.next.new.self.rest.items (length c.loop-slot.made.items) c.in-Some.slot c.loop-slot.invariant.1.0 c.in-Some.ensures.steps.0 in
    let n : length c.loop-slot.made.items ≡ c.len-in-loop-slot.result = let ok = c.loop-slot.made.ok.0 in let e = c.len-in-loop-slot.ensures in cc in
    subst (λ (k : ℕ). IfSome c.in-Some.slot (FnReturns g.F.Fn c.args.f.now (k, tt))) n (slot_fits g.F.Fn c.args.f.now c.args.slots.items (length c.loop-slot.made.items) c.in-Some.slot c.requires.slots at.0)

pub loop-slot-preserved : goal.loop-slot-preserved
loop-slot-preserved g c =
    let made = c.loop-slot.made.items in
    let at = goes_on c.args.slots.items c.loop-slot.slot-iterator.rest.items c.next.new.self.rest.items (length made) c.in-Some.slot c.loop-slot.invariant.1.0 c.in-Some.ensures.steps.0 in
    let is = c.in_ok-push.ensures.items in
    let long : length c.push.new.self.items ≡ length made + 1 = ap length is ∙ length-append made (c.taken-x.result ∷ []) in
    let n : c.len-in-loop-slot.result ≡ length c.loop-slot.made.items = let ok = c.loop-slot.made.ok.0 in let e = c.len-in-loop-slot.ensures in cc in
    let inside = at.1.1 in (
      omega (arith, long, inside),
      (
        at.1.0 ∙ ap (λ (k : ℕ). drop k c.args.slots.items) (sym long),
        one_more (λ (k : ℕ). FnReturns g.F.Fn c.args.f.now (k, tt)) made c.push.new.self.items c.taken-x.result is c.loop-slot.invariant.1.1 (subst (λ (k : ℕ). FnReturns g.F.Fn c.args.f.now (k, tt) c.taken-x.result) n c.taken-x.ensures),
      ),
    )

pub returns : goal.returns
returns g c =
    let made = c.loop-slot.made.items in
    let none : length c.loop-slot.slot-iterator.rest.items ≡ 0 = search (rules, c.in-None.ensures) in
    let rest = ap length c.loop-slot.invariant.1.0 in
    let long = length-drop (length made) c.args.slots.items in
    let few = c.loop-slot.invariant.0 in
    let same : length made ≡ length c.args.slots.items = omega (arith, none, rest, long, few) in
    record {
      len = same;
      each = λ k d l. c.loop-slot.invariant.1.1 k d (subst (λ (n : ℕ). k < n) (sym same) l);
    }
