use Rattle.std.proofs.Common.{sym}
use Rattle.bg_lex.proofs.Bridges.{a_word, no_word}
use Rattle.bg_lex.proofs.front.word.Goals as goal

pub returns-in-Some : goal.returns-in-Some
returns-in-Some c =
    a_word c.args.bytes.now c.split_at.result.0.now c.word_in-len.result c.requires.some c.requires.space c.requires.digit c.requires.ident c.word_in-len.ensures c.split_at.ensures.front
    c.in-Some.kind (sym c.in-Some.ensures)

pub returns-in-None : goal.returns-in-None
returns-in-None c =
    no_word c.args.bytes.now c.split_at.result.0.now c.word_in-len.result c.requires.some c.requires.space c.requires.digit c.requires.ident c.word_in-len.ensures c.split_at.ensures.front
    (sym c.in-None.ensures)
