-- Chains made flat link by link. `a <== b` means `b ==> a`, so what stands behind each `<==` comes first, the last one of them first, back
-- to the last `==>`, which begins a chain anew.
use Rattle.std.specs.Prelude.{Bool, true, false, if◌then◌else◌, List, [], ◌∷◌}
use Rattle.bg_text.specs.declared.expr.InfixSign.{InfixSign}
use Rattle.bg_text.specs.declared.expr.InfixSign.TheVariants as op
use Rattle.bg_ast.specs.Values.{Ty}
use Rattle.bg_ast.specs.Syntax.{Ex, Fact, Fun}
use Rattle.bg_terms.specs.Terms.{Term}
use Rattle.bg_numbered.specs.Numbered.{behind, numbered}
use Rattle.bg_term_table.specs.Chains.{is_implies}

abbrev pub is_explies : InfixSign → Bool
is_explies op.Explies = true
is_explies _ = false

-- what stands behind each `<==` before the next `==>`
abbrev pub turned : List InfixSign → List Ex → List Ex
turned [] es = []
turned (g ∷ gs) [] = []
turned (g ∷ gs) (e ∷ es) =
    if is_implies g then [] else if is_explies g then e ∷ turned gs es else turned gs es

-- what was made before, or nothing
abbrev pub first_of : List Ex → Ex
first_of [] = Fact false
first_of (x ∷ xs) = x

abbrev pub others_of : List Ex → List Ex
others_of [] = []
others_of (x ∷ xs) = xs

module _ (fs : List Fun) (incs : List Ty) where
  -- the table behind these, of which the last one comes first, and what is made of them
  abbrev pub behind_turned : List Ex → List Term → List Term
  behind_turned [] ts = ts
  behind_turned (e ∷ es) ts = behind fs incs e (behind_turned es ts)

  abbrev pub numbered_turned : List Ex → List Term → List Ex
  numbered_turned [] ts = []
  numbered_turned (e ∷ es) ts = numbered fs incs e (behind_turned es ts) ∷ numbered_turned es ts

  -- the table behind the links of a chain
  abbrev pub behind_links : List InfixSign → List Ex → List Term → List Term
  behind_links [] es ts = ts
  behind_links (g ∷ gs) [] ts = ts
  behind_links (g ∷ gs) (e ∷ es) ts =
      if is_implies g then behind_links gs es (behind fs incs e (behind_turned (turned gs es) ts))
      else if is_explies g then behind_links gs es ts
      else behind_links gs es (behind fs incs e ts)

  -- what is made of the operands, where those behind each `<==` before the next `==>` are made already
  abbrev pub numbered_links : List InfixSign → List Ex → (made : List Ex) → List Term → List Ex
  numbered_links [] es made ts = []
  numbered_links (g ∷ gs) [] made ts = []
  numbered_links (g ∷ gs) (e ∷ es) made ts =
      if is_implies g
      then numbered fs incs e (behind_turned (turned gs es) ts) ∷ numbered_links gs es (numbered_turned (turned gs es) ts) (behind fs incs e (behind_turned (turned gs es) ts))
      else if is_explies g then first_of made ∷ numbered_links gs es (others_of made) ts
      else numbered fs incs e ts ∷ numbered_links gs es made (behind fs incs e ts)
