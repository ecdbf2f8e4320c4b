use Rattle.bg_told.proofs.Injective.{values_told}
use Rattle.bg_told.proofs.laws.equal_texts_tell_equal_values.Goals as goal

pub returns : goal.returns
returns c = λ types t v w x y named g h f k hx hy e. values_told types named v w t (g, f) (h, k) x y hx hy e
