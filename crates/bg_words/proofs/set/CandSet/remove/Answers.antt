use Rattle.std.proofs.Common.{arith, ℕ, ◌/◌, ◌<◌, length, ap, ◌∙◌, set, false, length-set, bit_and}
use Rattle.bg_words.specs.Sets.{Numbers, present, mask}
use Rattle.bg_words.proofs.Sets.{any_default}
use Rattle.bg_words.proofs.Words.{length-tabulate, removed, removed_inside}
use Rattle.bg_words.proofs.set.CandSet.remove.Goals as goal

pub index_mut-requires : goal.index_mut-requires
index_mut-requires c = let e = ap length c.self.view_is in let l = length-tabulate c.self.inside.n (present c.self.inside.words.items) in let lt = c.requires in let len = c.self.invariant.1 in omega arith

pub invariant_of-self : goal.invariant_of-self
invariant_of-self c = let ws = c.self.inside.words.items in let k : ℕ = c.args.c.0 in let e = ap length c.self.view_is in let l = length-tabulate c.self.inside.n (present ws) in let lt = c.requires in let v = c.self.invariant in
    let small : k < c.self.inside.n = omega arith in let len = v.1 in let inside : k / 64 < length ws = omega arith in
    (v.0, length-set ws (k / 64) (bit_and c.index_mut.result.now (mask k)) ∙ v.1, removed_inside c.self.inside.n k c.index_mut.result.now ws small v.1 (c.index_mut.ensures.value ∙ any_default ws (k / 64) c.index_mut.result.now 0 inside) v.2)

pub returns-clause-members : goal.returns-clause-members
returns-clause-members c = let ws = c.self.inside.words.items in let k : ℕ = c.args.c.0 in let e = ap length c.self.view_is in let l = length-tabulate c.self.inside.n (present ws) in let lt = c.requires in let len = c.self.invariant.1 in
    let small : k < c.self.inside.n = omega arith in let inside : k / 64 < length ws = omega arith in
    removed c.self.inside.n k c.index_mut.result.now ws small len (c.index_mut.ensures.value ∙ any_default ws (k / 64) c.index_mut.result.now 0 inside) ∙ ap (λ (s : Numbers). set s k false) c.self.view_is

pub returns-clause-count : goal.returns-clause-count
returns-clause-count c = ap length (returns-clause-members c) ∙ length-set c.args.self.now c.args.c.0 false
