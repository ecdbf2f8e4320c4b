use Rattle.bg_lex.proofs.Unique.{refused_holds_none}
use Rattle.bg_lex.proofs.laws.a_text_that_holds_tokens_is_not_refused.Goals as goal

pub returns : goal.returns
returns c = λ bytes ts at fault text refused. refused_holds_none bytes at fault ts refused text
