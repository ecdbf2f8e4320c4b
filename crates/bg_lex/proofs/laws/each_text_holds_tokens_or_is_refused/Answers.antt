use Rattle.bg_lex.proofs.Each.{each_text}
use Rattle.bg_lex.proofs.laws.each_text_holds_tokens_or_is_refused.Goals as goal

pub returns : goal.returns
returns c = each_text
