use Rattle.std.proofs.Common.{refl}
use Rattle.bg_text.specs.Pieces.{is_space, is_digit, is_ident}
use Rattle.bg_text.proofs.laws.a_reserved_word_is_no_name.Goals as goal

-- src/laws.rt:14:1
pub returns-clause-name : goal.returns-clause-name
unfolding is_space is_digit is_ident
returns-clause-name c = refl

-- src/laws.rt:14:1
pub returns-clause-word : goal.returns-clause-word
unfolding is_space is_digit is_ident
returns-clause-word c = refl
