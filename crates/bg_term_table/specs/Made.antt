-- What is made of expressions over a table of terms.
use Rattle.std.specs.Prelude.{◌≡◌, ℕ, ◌+◌, true, false, if◌then◌else◌, List, [], ◌∷◌, drop, get_or}
use Rattle.bg_ast.specs.declared.resolved.Link.{Link}
use Rattle.bg_ast.specs.Values.{Ty}
use Rattle.bg_ast.specs.Syntax.{Ex, Fun}
use Rattle.bg_terms.specs.Terms.{Term}
use Rattle.bg_numbered.specs.Numbered.{behind, numbered}
use Rattle.bg_term_table.specs.Views.{meaning, operands, signs}
use Rattle.bg_term_table.specs.Chains.{is_implies}
use Rattle.bg_term_table.specs.Linked.{is_explies, turned, behind_turned, numbered_turned, behind_links, numbered_links}

-- what stands behind each `<==` before the next `==>`
abbrev pub turned_in : List Link → List Ex
turned_in ls = turned (signs ls) (operands ls)

module _ (fs : List Fun) (incs : List Ty) where
  -- an expression was made flat over a table, and this is the table behind it
  abbrev pub IsMade : Ex → List Term → Ex → List Term → Type 0
  IsMade e old x new = (x ≡ numbered fs incs e old) × (new ≡ behind fs incs e old)

  -- the same of a list, one after the other
  abbrev pub behind_each : List Ex → List Term → List Term
  behind_each [] ts = ts
  behind_each (e ∷ es) ts = behind_each es (behind fs incs e ts)

  abbrev pub numbered_each : List Ex → List Term → List Ex
  numbered_each [] ts = []
  numbered_each (e ∷ es) ts = numbered fs incs e ts ∷ numbered_each es (behind fs incs e ts)

  abbrev pub AreMade : List Ex → List Term → List Ex → List Term → Type 0
  AreMade es old xs new = (xs ≡ numbered_each es old) × (new ≡ behind_each es old)

  -- what stands behind the link's sign, if that is `<==`, is on top of what was made
  abbrev pub IsTurned : Link → List Ex → List Term → List Ex → List Term → Type 0
  IsTurned l before old made new =
      (made ≡ (if is_explies l.sign then numbered fs incs (meaning l.operand) old ∷ before else before))
      × (new ≡ (if is_explies l.sign then behind fs incs (meaning l.operand) old else old))

  -- what stands behind each `<==` of these links before the next `==>` was made, the last one first
  abbrev pub AreTurned : List Link → List Term → List Ex → List Term → Type 0
  AreTurned ls old made new =
      (made ≡ numbered_turned fs incs (turned_in ls) old) × (new ≡ behind_turned fs incs (turned_in ls) old)

  -- where link i is `==>`, which begins a chain anew, what stands behind each `<==` from there on was made
  abbrev pub IsBegun : ℕ → List Link → List Ex → List Term → List Ex → List Term → Type 0
  IsBegun i ls before old made new =
      (l : Link) → l ≡ get_or ls i l → (is_implies l.sign ≡ true → AreTurned (drop (i + 1) ls) old made new) × (is_implies l.sign ≡ false → (made ≡ before) × (new ≡ old))

  -- the table behind links, and what is made of their operands, where those behind each `<==` before the next `==>` are made
  abbrev pub behind_in : List Link → List Term → List Term
  behind_in ls ts = behind_links fs incs (signs ls) (operands ls) ts

  abbrev pub numbered_in : List Link → List Ex → List Term → List Ex
  numbered_in ls made ts = numbered_links fs incs (signs ls) (operands ls) made ts

  -- of the first link's operand this was made; the other links go on with what is made already, and with the table
  abbrev pub IsStep : List Link → List Link → List Ex → List Term → Ex → List Ex → List Term → Type 0
  IsStep ls rest before old x made new =
      (numbered_in ls before old ≡ x ∷ numbered_in rest made new) × (behind_in ls old ≡ behind_in rest new)

  -- the operands of links were made
  abbrev pub AreLinked : List Link → List Ex → List Term → List Ex → List Term → Type 0
  AreLinked ls before old xs new = (xs ≡ numbered_in ls before old) × (new ≡ behind_in ls old)
