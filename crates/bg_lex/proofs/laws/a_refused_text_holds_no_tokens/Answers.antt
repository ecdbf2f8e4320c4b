use Rattle.bg_lex.proofs.Unique.{refused_holds_none}
use Rattle.bg_lex.proofs.laws.a_refused_text_holds_no_tokens.Goals as goal

pub returns : goal.returns
returns c = refused_holds_none
