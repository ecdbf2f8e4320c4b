use Rattle.bg_lex.proofs.Unique.{one_text}
use Rattle.bg_lex.proofs.laws.a_text_holds_one_list_of_tokens.Goals as goal

pub returns : goal.returns
returns c = one_text
