use Rattle.std.proofs.Common.{refl}
use Rattle.bg_text.specs.Pieces.{is_space, is_digit, is_ident}
use Rattle.bg_text.proofs.laws.words_of_other_profiles_are_reserved.Goals as goal

-- src/laws.rt:20:1
pub returns-clause-vector : goal.returns-clause-vector
unfolding is_space is_digit is_ident
returns-clause-vector c = refl

-- src/laws.rt:20:1
pub returns-clause-word : goal.returns-clause-word
unfolding is_space is_digit is_ident
returns-clause-word c = refl
