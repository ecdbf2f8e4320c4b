use Rattle.bg_lex.proofs.Unique.{one_refusal}
use Rattle.bg_lex.proofs.laws.a_text_has_one_refusal.Goals as goal

pub returns : goal.returns
returns c = one_refusal
