use Rattle.std.proofs.Common.{sym, ◌∙◌}
use Rattle.bg_lex.proofs.Bridges.{a_number, too_big, no_number}
use Rattle.bg_lex.proofs.front.number.Goals as goal

pub returns-then-begins_ident : goal.returns-then-begins_ident
returns-then-begins_ident c =
    no_number c.args.bytes.now c.split_at.result.0.now c.split_at.result.1.now c.digits_in-len.result c.requires.some c.requires.digit c.digits_in-len.ensures c.split_at.ensures.front c.split_at.ensures.back
    c.as_slice.result.now c.as_slice.ensures (sym c.begins_ident.ensures ∙ c.if-begins_ident.true)

pub returns-in-Some : goal.returns-in-Some
returns-in-Some c =
    a_number c.args.bytes.now c.split_at.result.0.now c.split_at.result.1.now c.digits_in-len.result c.requires.some c.requires.digit c.digits_in-len.ensures c.split_at.ensures.front c.split_at.ensures.back
    c.in-Some.kind (sym c.begins_ident.ensures ∙ c.if-begins_ident.false) c.in-Some.ensures

pub returns-in-None : goal.returns-in-None
returns-in-None c =
    too_big c.args.bytes.now c.split_at.result.0.now c.split_at.result.1.now c.digits_in-len.result c.requires.some c.requires.digit c.digits_in-len.ensures c.split_at.ensures.front c.split_at.ensures.back
    (sym c.begins_ident.ensures ∙ c.if-begins_ident.false) c.in-None.ensures
