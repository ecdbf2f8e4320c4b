use Rattle.std.proofs.Common.{sym, ◌∙◌, ap, false}
use Rattle.bg_lex.specs.Ends.{quote_end}
use Rattle.bg_lex.proofs.Bridges.{behind}
use Rattle.bg_lex.proofs.Quotes.{quote_found, quote_none}
use Rattle.bg_lex.proofs.front.quote.Goals as goal

pub returns-in-Some : goal.returns-in-Some
returns-in-Some c =
    quote_found c.args.bytes.now c.in-Some.len c.requires.some c.requires.quote (ap (quote_end 0 false) (sym (behind 1 c.args.bytes.now)) ∙ sym c.in-Some.ensures.end)

pub returns-in-None : goal.returns-in-None
returns-in-None c = quote_none c.args.bytes.now c.requires.some c.requires.quote (ap (quote_end 0 false) (sym (behind 1 c.args.bytes.now)) ∙ sym c.in-None.ensures.end)
