use Rattle.std.proofs.Common.{refl}
use Rattle.bg_text.specs.Pieces.{is_space, is_digit, is_ident}
use Rattle.bg_text.proofs.laws.the_next_number_is_too_big.Goals as goal

-- src/laws.rt:26:1
pub returns : goal.returns
unfolding is_space is_digit is_ident
returns c = refl
