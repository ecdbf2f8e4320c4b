use Rattle.std.proofs.Common.{inl, inr}
use Rattle.bg_wanted.proofs.way.are_there.Goals as goal

pub returns-then-is_there : goal.returns-then-is_there
returns-then-is_there c =
    record {
      so = λ fs e. (c.is_there.ensures.so fs c.if-is_there.true, c.is_there-then-is_there.ensures.so fs e);
      not = λ fs e. inr (c.is_there-then-is_there.ensures.not fs e);
    }

pub returns : goal.returns
returns c =
    record {
      so = λ fs e. absurd (let bad : ⊥ = cc in bad);
      not = λ fs e. inl (c.is_there.ensures.not fs c.if-is_there.false);
    }
