-- A chain is made flat link by link.
use Rattle.std.proofs.Common.{◌≡◌, List, [], ◌∷◌, refl, ap}
use Rattle.bg_text.specs.declared.expr.InfixSign.{InfixSign}
use Rattle.bg_text.specs.declared.expr.InfixSign.TheVariants as op
use Rattle.bg_ast.specs.Values.{Ty}
use Rattle.bg_ast.specs.Syntax.{Ex, Binary, Implies, Fun}
use Rattle.bg_ast.specs.Meaning.{infix_of}
use Rattle.bg_terms.specs.Terms.{Term}
use Rattle.bg_numbered.specs.Numbered.{behind, numbered}
use Rattle.bg_term_table.specs.Chains.{chain_from}
use Rattle.bg_term_table.specs.Linked.{turned, behind_turned, numbered_turned, behind_links, numbered_links}

module _ (fs : List Fun) (incs : List Ty) where
  abbrev TableIs : List InfixSign → List Ex → Ex → List Term → Type 0
  TableIs gs es a ts =
      behind fs incs (chain_from a gs es) ts ≡ behind_links fs incs gs es (behind fs incs a (behind_turned fs incs (turned gs es) ts))

  abbrev MadeIs : List InfixSign → List Ex → Ex → List Term → Type 0
  MadeIs gs es a ts =
      numbered fs incs (chain_from a gs es) ts
      ≡ chain_from (numbered fs incs a (behind_turned fs incs (turned gs es) ts)) gs (numbered_links fs incs gs es (numbered_turned fs incs (turned gs es) ts) (behind fs incs a (behind_turned fs incs (turned gs es) ts)))

  pub table : (gs : List InfixSign) (es : List Ex) (a : Ex) (ts : List Term) → TableIs gs es a ts
  table [] es a ts = refl
  table (g ∷ gs) [] a ts = refl
  table (g ∷ gs) (e ∷ es) a ts = on g (table gs es)
    where
      on : (h : InfixSign) → ((b : Ex) (us : List Term) → TableIs gs es b us) → TableIs (h ∷ gs) (e ∷ es) a ts
      on op.Implies later = later e (behind fs incs a ts)
      on op.Explies later = later (infix_of op.Explies a e) ts
      on op.Iff later = later (infix_of op.Iff a e) ts
      on op.And later = later (infix_of op.And a e) ts
      on op.Or later = later (infix_of op.Or a e) ts
      on op.Equal later = later (infix_of op.Equal a e) ts
      on op.Unequal later = later (infix_of op.Unequal a e) ts
      on op.Less later = later (infix_of op.Less a e) ts
      on op.AtMost later = later (infix_of op.AtMost a e) ts
      on op.Greater later = later (infix_of op.Greater a e) ts
      on op.AtLeast later = later (infix_of op.AtLeast a e) ts
      on op.Plus later = later (infix_of op.Plus a e) ts
      on op.Minus later = later (infix_of op.Minus a e) ts
      on op.Times later = later (infix_of op.Times a e) ts

  pub made : (gs : List InfixSign) (es : List Ex) (a : Ex) (ts : List Term) → MadeIs gs es a ts
  made [] es a ts = refl
  made (g ∷ gs) [] a ts = refl
  made (g ∷ gs) (e ∷ es) a ts = on g (made gs es)
    where
      on : (h : InfixSign) → ((b : Ex) (us : List Term) → MadeIs gs es b us) → MadeIs (h ∷ gs) (e ∷ es) a ts
      on op.Implies later = ap (Binary Implies (numbered fs incs a ts)) (later e (behind fs incs a ts))
      on op.Explies later = later (infix_of op.Explies a e) ts
      on op.Iff later = later (infix_of op.Iff a e) ts
      on op.And later = later (infix_of op.And a e) ts
      on op.Or later = later (infix_of op.Or a e) ts
      on op.Equal later = later (infix_of op.Equal a e) ts
      on op.Unequal later = later (infix_of op.Unequal a e) ts
      on op.Less later = later (infix_of op.Less a e) ts
      on op.AtMost later = later (infix_of op.AtMost a e) ts
      on op.Greater later = later (infix_of op.Greater a e) ts
      on op.AtLeast later = later (infix_of op.AtLeast a e) ts
      on op.Plus later = later (infix_of op.Plus a e) ts
      on op.Minus later = later (infix_of op.Minus a e) ts
      on op.Times later = later (infix_of op.Times a e) ts
