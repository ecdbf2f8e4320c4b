use Rattle.std.proofs.Common.{arith, ◌<◌, ◌-◌, ◌^◌, ◌∙◌, ◌++◌, ◌∷◌, [], ap, length}
use Rattle.bg_cert.proofs.Counts.{has_room, more_kept, bound_kept}
use Rattle.bg_cert.proofs.trail.decide.Goals as goal

pub one_more-requires : goal.one_more-requires
one_more-requires c =
    let t = c.args.trail.now in
    let o = t.decisions.ok in
    let m = t.decisions.small in
    let l : length t.decisions.items < 2 ^ 64 - 1 = omega (arith, o, m) in
    let r = c.requires in
    has_room t.counts.items t.decisions.items c.in-Atom.a c.in-Atom.s c.index.result.now (2 ^ 64 - 1) t.counted (let i = c.in-Atom.is in rw i at r) c.index.ensures l

pub invariant_of-trail-in-Atom : goal.invariant_of-trail-in-Atom
invariant_of-trail-in-Atom c =
    let t = c.args.trail.now in
    let r = c.requires in
    let i = c.in-Atom.is in
    record {
      counted = more_kept t.counts.items t.decisions.items c.push.new.self.items c.in-Atom.a c.in-Atom.s c.index.result.now c.one_more.result t.counted (rw i at r) c.index.ensures c.one_more.ensures (c.in_ok-push.ensures.items ∙ ap (λ d. t.decisions.items ++ (d ∷ [])) i);
    }

pub invariant_of-trail-in-AtMost : goal.invariant_of-trail-in-AtMost
invariant_of-trail-in-AtMost c =
    let t = c.args.trail.now in
    record {
      counted = bound_kept t.counts.items t.decisions.items c.push.new.self.items _ _ _ t.counted (c.in_ok-push.ensures.items ∙ ap (λ d. t.decisions.items ++ (d ∷ [])) c.in-AtMost.is);
    }
