use Rattle.std.proofs.Common.{◌≡◌, ◌∙◌, ◌++◌, ◌∷◌, [], ap, arith}
use Rattle.bg_cert.specs.declared.cert.Decision.TheVariants.{Atom}
use Rattle.bg_cert.proofs.Counts.{Counted, last_there, last_tally, less_kept, bound_gone}
use Rattle.bg_cert.proofs.trail.undo.Goals as goal

pub index-requires : goal.index-requires
index-requires c =
    let t = c.args.trail.now in
    let o = t.counts.ok in
    let e : t.decisions.items ≡ c.pop.new.self.items ++ (Atom c.in-Some-Atom.a c.in-Some-Atom.s ∷ []) = c.in-Some-Atom.ensures.items ∙ ap (λ d. c.pop.new.self.items ++ (d ∷ [])) c.in-Some-Atom.field-0-is in
    let k : Counted t.counts.items (c.pop.new.self.items ++ (Atom c.in-Some-Atom.a c.in-Some-Atom.s ∷ [])) = (λ b r. rw (← e) (t.counted b r)) in
    let l = last_there t.counts.items c.pop.new.self.items c.in-Some-Atom.a c.in-Some-Atom.s k in
    omega (arith, o, l)

pub one_less-requires : goal.one_less-requires
one_less-requires c =
    let t = c.args.trail.now in
    let e : t.decisions.items ≡ c.pop.new.self.items ++ (Atom c.in-Some-Atom.a c.in-Some-Atom.s ∷ []) = c.in-Some-Atom.ensures.items ∙ ap (λ d. c.pop.new.self.items ++ (d ∷ [])) c.in-Some-Atom.field-0-is in
    let k : Counted t.counts.items (c.pop.new.self.items ++ (Atom c.in-Some-Atom.a c.in-Some-Atom.s ∷ [])) = (λ b r. rw (← e) (t.counted b r)) in
    last_tally t.counts.items c.pop.new.self.items c.in-Some-Atom.a c.in-Some-Atom.s c.index.result.now k c.index.ensures

pub index_mut-requires : goal.index_mut-requires
index_mut-requires c =
    let t = c.args.trail.now in
    let o = t.counts.ok in
    let e : t.decisions.items ≡ c.pop.new.self.items ++ (Atom c.in-Some-Atom.a c.in-Some-Atom.s ∷ []) = c.in-Some-Atom.ensures.items ∙ ap (λ d. c.pop.new.self.items ++ (d ∷ [])) c.in-Some-Atom.field-0-is in
    let k : Counted t.counts.items (c.pop.new.self.items ++ (Atom c.in-Some-Atom.a c.in-Some-Atom.s ∷ [])) = (λ b r. rw (← e) (t.counted b r)) in
    let l = last_there t.counts.items c.pop.new.self.items c.in-Some-Atom.a c.in-Some-Atom.s k in
    omega (arith, o, l)

pub invariant_of-trail-in-Some-Atom : goal.invariant_of-trail-in-Some-Atom
invariant_of-trail-in-Some-Atom c =
    let t = c.args.trail.now in
    let e : t.decisions.items ≡ c.pop.new.self.items ++ (Atom c.in-Some-Atom.a c.in-Some-Atom.s ∷ []) = c.in-Some-Atom.ensures.items ∙ ap (λ d. c.pop.new.self.items ++ (d ∷ [])) c.in-Some-Atom.field-0-is in
    record {
      counted = less_kept t.counts.items t.decisions.items c.pop.new.self.items c.in-Some-Atom.a c.in-Some-Atom.s c.index.result.now c.one_less.result t.counted e c.index.ensures c.one_less.ensures;
    }

pub invariant_of-trail-in-Some-AtMost : goal.invariant_of-trail-in-Some-AtMost
invariant_of-trail-in-Some-AtMost c =
    let t = c.args.trail.now in
    record {
      counted = bound_gone t.counts.items t.decisions.items c.pop.new.self.items _ _ _ t.counted (c.in-Some-AtMost.ensures.items ∙ ap (λ d. c.pop.new.self.items ++ (d ∷ [])) c.in-Some-AtMost.field-0-is);
    }
