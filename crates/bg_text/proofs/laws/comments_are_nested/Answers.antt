use Rattle.std.proofs.Common.{refl}
use Rattle.bg_text.specs.Pieces.{is_space, is_digit, is_ident}
use Rattle.bg_text.proofs.laws.comments_are_nested.Goals as goal

-- src/laws.rt:31:1
pub returns-clause-closed : goal.returns-clause-closed
unfolding is_space is_digit is_ident
returns-clause-closed c = refl

-- src/laws.rt:31:1
pub returns-clause-open : goal.returns-clause-open
unfolding is_space is_digit is_ident
returns-clause-open c = refl
