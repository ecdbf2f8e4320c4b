use Rattle.std.proofs.Common.{arith, ℕ, ◌<◌, length, ap, ◌∙◌, length-set, bit_and}
use Rattle.bg_words.specs.Sets.{Numbers, present, with_word}
use Rattle.bg_words.proofs.Words.{length-tabulate, put_inside, put_is, length-with_word}
use Rattle.bg_words.proofs.set.CandSet.set_word.Goals as goal

pub full_word-requires : goal.full_word-requires
full_word-requires c = let e = ap length c.self.view_is in let l = length-tabulate c.self.inside.n (present c.self.inside.words.items) in let lt = c.requires in omega arith

pub index_mut-requires : goal.index_mut-requires
index_mut-requires c = let e = ap length c.self.view_is in let l = length-tabulate c.self.inside.n (present c.self.inside.words.items) in let lt = c.requires in let len = c.self.invariant.1 in omega arith

pub invariant_of-self : goal.invariant_of-self
invariant_of-self c = let ws = c.self.inside.words.items in let n : ℕ = c.self.inside.n in let e = ap length c.self.view_is in let l = length-tabulate n (present ws) in let lt = c.requires in let v = c.self.invariant in let len = v.1 in
    let inside : c.args.i < length ws = omega arith in
    (v.0, length-set ws c.args.i (bit_and c.args.word c.full_word.result) ∙ v.1, put_inside n c.args.i c.args.word c.full_word.result ws inside c.full_word.ensures v.2)

pub returns-clause-members : goal.returns-clause-members
returns-clause-members c = let ws = c.self.inside.words.items in let n : ℕ = c.self.inside.n in let e = ap length c.self.view_is in let l = length-tabulate n (present ws) in let lt = c.requires in let v = c.self.invariant in let len = v.1 in
    let inside : c.args.i < length ws = omega arith in
    put_is n c.args.i c.args.word c.full_word.result ws inside c.full_word.ensures ∙ ap (λ (s : Numbers). with_word s c.args.i c.args.word) c.self.view_is

pub returns-clause-count : goal.returns-clause-count
returns-clause-count c = ap length (returns-clause-members c) ∙ length-with_word c.args.self.now c.args.i c.args.word
