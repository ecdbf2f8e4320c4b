-- The values of incarnations and terms behind the numbers and truth values that stand for them.
use Rattle.std.specs.Prelude.{ℕ, List, [], ◌∷◌}
use Rattle.bg_ast.specs.Values.{Val, Ty}
use Rattle.bg_terms.specs.Terms.{Term}
use Rattle.bg_terms.specs.Built.{built}

abbrev pub each_built : (Ty → Val → Val) → List Ty → List Val → List Val
each_built f [] vs = []
each_built f (t ∷ tys) [] = []
each_built f (t ∷ tys) (v ∷ vs) = f t v ∷ each_built f tys vs

-- of so many incarnations, and the terms behind them, which are of these types
abbrev pub built_all : ℕ → List Term → List Ty → List Val → List Val
built_all n ts tys vs = each_built (built vs n ts) tys vs
