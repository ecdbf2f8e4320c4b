use Rattle.std.proofs.Common.{arith}
use Rattle.bg_certtext.proofs.Newlines.{nothing_behind, cut_there}
use Rattle.bg_certtext.proofs.words.line_of.Goals as goal

pub returns-in-empty-clause-none : goal.returns-in-empty-clause-none
returns-in-empty-clause-none c =
    nothing_behind c.args.bytes.now c.split_at.result.1.now c.line_in.result c.line_in.ensures c.split_at.ensures.back (omega arith)

pub returns-in-len1-up-clause-cut : goal.returns-in-len1-up-clause-cut
returns-in-len1-up-clause-cut c =
    cut_there c.args.bytes.now c.split_at.result.0.now c.split_at.result.1.now c.line_in.result c.line_in.ensures c.split_at.ensures.front c.split_at.ensures.back (omega arith)
