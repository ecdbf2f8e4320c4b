use Rattle.std.proofs.Common.{sym, ◌∙◌, arith}
use Rattle.bg_certtext.proofs.ReadsRows.{behind_ends}
use Rattle.bg_certtext.proofs.words.behind.Goals as goal

pub returns-in_default : goal.returns-in_default
returns-in_default c =
    sym (behind_ends c.args.key.now c.loop-k.rest.now c.loop-k.k-index c.loop-k-test.true (omega (arith, c.in_default.len_below))) ∙ c.loop-k.invariant
