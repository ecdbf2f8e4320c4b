use Rattle.std.proofs.Common.{arith, ℕ, ◌/◌, ◌%◌, ◌<◌, length, eqb, ap, sym, ◌∙◌}
use Rattle.std.proofs.lemmas.Nat.Bits.{shr_and_one}
use Rattle.bg_words.specs.Sets.{Numbers, has, present, bit}
use Rattle.bg_words.proofs.Sets.{has-tabulate, any_default}
use Rattle.bg_words.proofs.Words.{length-tabulate}
use Rattle.bg_words.proofs.set.CandSet.has.Goals as goal

pub index-requires : goal.index-requires
index-requires c = let e = ap length c.self.view_is in let l = length-tabulate c.self.inside.n (present c.self.inside.words.items) in let lt = c.requires in let len = c.self.invariant.1 in omega arith

pub returns : goal.returns
returns c = let ws = c.self.inside.words.items in let k : ℕ = c.args.c.0 in let e = ap length c.self.view_is in let l = length-tabulate c.self.inside.n (present ws) in let lt = c.requires in let len = c.self.invariant.1 in
    let small : k < c.self.inside.n = omega arith in let inside : k / 64 < length ws = omega arith in
    ap (λ (b : ℕ). eqb b 1) (shr_and_one c.index.result.now (k % 64)) ∙ (ap (λ (w : ℕ). bit w (k % 64)) (c.index.ensures ∙ any_default ws (k / 64) c.index.result.now 0 inside)
    ∙ (sym (has-tabulate c.self.inside.n (present ws) k small) ∙ ap (λ (s : Numbers). has s k) c.self.view_is))
