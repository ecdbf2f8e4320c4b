use Rattle.std.proofs.Common.{◌≡◌, [], length, sym, ◌∙◌, rules, arith}
use Rattle.bg_wanted.proofs.Ordering.{at_first, two_same, one_more, all_apart}
use Rattle.bg_wanted.proofs.names.same.Goals as goal

pub loop-t-init : goal.loop-t-init
loop-t-init c = at_first c.args.tables.items c.new-known.result c.new-known.ensures.empty

pub returns-in-Some-first : goal.returns-in-Some-first
returns-in-Some-first c =
    let len = c.len-i.ensures in
    let ok = c.pop.new.self.ok.0 in
    let at : c.len-i.result ≡ length c.pop.new.self.items = omega (arith, len, ok) in
    two_same c.args.tables.items c.loop-t.left.items c.pop.new.self.items c.in-Some.t c.loop-t.known c.len-i.result c.loop-t.invariant c.in-Some.ensures.items at c.in-Some-first.j (sym (c.copied-first.ensures ∙ c.get.ensures.value) ∙ c.in-Some-first.is)

pub loop-t-preserved : goal.loop-t-preserved
loop-t-preserved c =
    let len = c.len-i.ensures in
    let ok = c.pop.new.self.ok.0 in
    let at : c.len-i.result ≡ length c.pop.new.self.items = omega (arith, len, ok) in
    one_more c.args.tables.items c.loop-t.left.items c.pop.new.self.items c.in-Some.t c.loop-t.known c.len-i.result c.loop-t.invariant c.in-Some.ensures.items at c.insert.new.self (sym (c.copied-first.ensures ∙ c.get.ensures.value) ∙ c.in-None.is) (λ k. c.in_ok-insert-in-None.ensures.updates.0 k)

pub returns : goal.returns
returns c =
    let empty : c.loop-t.left.items ≡ [] = search rules in
    all_apart c.args.tables.items c.loop-t.left.items c.loop-t.known empty c.loop-t.invariant
