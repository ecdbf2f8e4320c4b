-- A chain's operands, one after the other.
use Rattle.std.proofs.Common.{◌≡◌, ℕ, zero, suc, ◌+◌, ◌<◌, Bool, true, false, List, [], ◌∷◌, ◌++◌, length, get_or, drop, refl, sym, ap, ◌∙◌, subst, arith}
use Rattle.std.specs.Prelude.{if◌then◌else◌, reverse}
use Rattle.std.proofs.lemmas.List.{append-nil, append_assoc, map-append, reverse-append}
use Rattle.bg_text.specs.declared.expr.InfixSign.{InfixSign}
use Rattle.bg_text.specs.declared.expr.InfixSign.TheVariants as op
use Rattle.bg_ast.specs.declared.resolved.Expr.{Expr}
use Rattle.bg_ast.specs.declared.resolved.Link.{Link}
use Rattle.bg_ast.specs.Values.{Ty}
use Rattle.bg_ast.specs.Syntax.{Ex, Fun}
use Rattle.bg_terms.specs.Terms.{Term}
use Rattle.bg_numbered.specs.Numbered.{behind, numbered}
use Rattle.bg_term_table.specs.Views.{meaning, meanings}
use Rattle.bg_term_table.specs.Chains.{is_implies}
use Rattle.bg_term_table.specs.Linked.{is_explies, first_of, others_of, behind_turned, numbered_turned}
use Rattle.bg_term_table.specs.Made.{turned_in, IsMade, IsTurned, AreTurned, IsBegun, behind_in, numbered_in, IsStep, AreLinked}
use Rattle.bg_term_table.proofs.Until.{drop_item}

pub last_first : (old new : List Expr) (x : Expr) → new ≡ old ++ x ∷ [] → reverse (meanings new) ≡ meaning x ∷ reverse (meanings old)
last_first old new x e =
    ap (λ l. reverse (meanings l)) e ∙ ap reverse (map-append meaning old (x ∷ [])) ∙ reverse-append (meanings old) (meaning x ∷ [])

-- a sign is one of both at most
no_implies : (g : InfixSign) → is_explies g ≡ true → is_implies g ≡ false
no_implies op.Iff h = refl
no_implies op.Implies h = absurd (let bad : ⊥ = cc in bad)
no_implies op.Explies h = refl
no_implies op.And h = refl
no_implies op.Or h = refl
no_implies op.Equal h = refl
no_implies op.Unequal h = refl
no_implies op.Less h = refl
no_implies op.AtMost h = refl
no_implies op.Greater h = refl
no_implies op.AtLeast h = refl
no_implies op.Plus h = refl
no_implies op.Minus h = refl
no_implies op.Times h = refl

-- an item of a list is one alone, whatever stands in for what is past its end
same_item : {A : Type 0} (xs : List A) (i : ℕ) (x y : A) → i < length xs → x ≡ get_or xs i x → y ≡ get_or xs i y → x ≡ y
same_item [] i x y lt h k = absurd (omega (arith, lt))
same_item (z ∷ xs) zero x y lt h k = h ∙ sym k
same_item (z ∷ xs) (suc i) x y lt h k = same_item xs i x y (omega (arith, lt)) h k

module _ (fs : List Fun) (incs : List Ty) where
  -- ---- a chain that begins anew

  module _ (i : ℕ) (links : List Link) (l : Link) (lt : i < length links) (is : l ≡ get_or links i l) (before : List Ex) (old : List Term) where
    pub begun_none : is_implies l.sign ≡ false → IsBegun fs incs i links before old before old
    begun_none j m e =
        let same : m ≡ l = same_item links i m l lt e is in
        (λ k. absurd (let no : true ≡ false = sym k ∙ ap (λ y. is_implies y.sign) same ∙ j in let bad : ⊥ = cc in bad), λ k. (refl, refl))

    pub begun_anew : (made : List Ex) (new : List Term) → is_implies l.sign ≡ true → AreTurned fs incs (drop (i + 1) links) old made new → IsBegun fs incs i links before old made new
    begun_anew made new j all m e =
        let same : m ≡ l = same_item links i m l lt e is in
        (λ k. all, λ k. absurd (let no : false ≡ true = sym k ∙ ap (λ y. is_implies y.sign) same ∙ j in let bad : ⊥ = cc in bad))

  -- ---- what stands behind `<==`

  pub turn_none : (l : Link) (before : List Ex) (old : List Term) → is_explies l.sign ≡ false → IsTurned fs incs l before old before old
  turn_none l before old h = (
    sym (ap (λ b. if b then numbered fs incs (meaning l.operand) old ∷ before else before) h),
    sym (ap (λ b. if b then behind fs incs (meaning l.operand) old else old) h),
  )

  pub turn_one : (l : Link) (before made : List Ex) (old new : List Term) (x : Ex) → is_explies l.sign ≡ true → IsMade fs incs (meaning l.operand) old x new → made ≡ x ∷ before → IsTurned fs incs l before old made new
  turn_one l before made old new x h w e = (
    e
        ∙ ap (λ y. y ∷ before) w.0
        ∙ sym (ap (λ b. if b then numbered fs incs (meaning l.operand) old ∷ before else before) h),
    w.1 ∙ sym (ap (λ b. if b then behind fs incs (meaning l.operand) old else old) h),
  )

  pub turned_none : (ls : List Link) (old now : List Term) (made : List Ex) → turned_in ls ≡ [] → made ≡ [] → now ≡ old → AreTurned fs incs ls old made now
  turned_none ls old now made none empty same =
      (empty ∙ ap (λ es. numbered_turned fs incs es old) (sym none), same ∙ ap (λ es. behind_turned fs incs es old) (sym none))

  pub turned_one : (l : Link) (ls rest : List Link) (old mid new : List Term) (before made : List Ex) → turned_in ls ≡ (if is_explies l.sign then meaning l.operand ∷ turned_in rest else turned_in rest) → AreTurned fs incs rest old before mid → IsTurned fs incs l before mid made new → AreTurned fs incs ls old made new
  turned_one l ls rest old mid new before made at all one =
      (one.0 ∙ made_by (is_explies l.sign) ∙ ap (λ es. numbered_turned fs incs es old) (sym at), one.1 ∙ behind_by (is_explies l.sign) ∙ ap (λ es. behind_turned fs incs es old) (sym at))
    where
      made_by : (b : Bool) → (if b then numbered fs incs (meaning l.operand) mid ∷ before else before) ≡ numbered_turned fs incs (if b then meaning l.operand ∷ turned_in rest else turned_in rest) old
      made_by true = ap (λ ts. numbered fs incs (meaning l.operand) ts ∷ before) all.1 ∙ ap (λ xs. numbered fs incs (meaning l.operand) (behind_turned fs incs (turned_in rest) old) ∷ xs) all.0
      made_by false = all.0

      behind_by : (b : Bool) → (if b then behind fs incs (meaning l.operand) mid else mid) ≡ behind_turned fs incs (if b then meaning l.operand ∷ turned_in rest else turned_in rest) old
      behind_by true = ap (behind fs incs (meaning l.operand)) all.1
      behind_by false = all.1

  -- ---- one operand

  module _ (l : Link) (rest : List Link) (old : List Term) (before : List Ex) where
    abbrev right : Ex
    right = meaning l.operand

    abbrev made_anew : List Ex
    made_anew =
        numbered fs incs right (behind_turned fs incs (turned_in rest) old) ∷ numbered_in fs incs rest (numbered_turned fs incs (turned_in rest) old) (behind fs incs right (behind_turned fs incs (turned_in rest) old))

    abbrev made_turned : List Ex
    made_turned = first_of before ∷ numbered_in fs incs rest (others_of before) old

    abbrev made_other : List Ex
    made_other = numbered fs incs right old ∷ numbered_in fs incs rest before (behind fs incs right old)

    made_if : (a b : Bool) → is_implies l.sign ≡ a → is_explies l.sign ≡ b → numbered_in fs incs (l ∷ rest) before old ≡ (if a then made_anew else if b then made_turned else made_other)
    made_if a b h k =
        ap (λ c. if c then made_anew else if is_explies l.sign then made_turned else made_other) h
        ∙ ap (λ c. if a then made_anew else if c then made_turned else made_other) k

    abbrev behind_anew : List Term
    behind_anew = behind_in fs incs rest (behind fs incs right (behind_turned fs incs (turned_in rest) old))

    abbrev behind_same : List Term
    behind_same = behind_in fs incs rest old

    abbrev behind_other : List Term
    behind_other = behind_in fs incs rest (behind fs incs right old)

    behind_if : (a b : Bool) → is_implies l.sign ≡ a → is_explies l.sign ≡ b → behind_in fs incs (l ∷ rest) old ≡ (if a then behind_anew else if b then behind_same else behind_other)
    behind_if a b h k =
        ap (λ c. if c then behind_anew else if is_explies l.sign then behind_same else behind_other) h
        ∙ ap (λ c. if a then behind_anew else if c then behind_same else behind_other) k

    pub step_anew : (mid new : List Term) (x : Ex) (made : List Ex) → is_implies l.sign ≡ true → AreTurned fs incs rest old made mid → IsMade fs incs right mid x new → IsStep fs incs (l ∷ rest) rest before old x made new
    step_anew mid new x made i all one =
        let at : new ≡ behind fs incs right (behind_turned fs incs (turned_in rest) old) = one.1 ∙ ap (behind fs incs right) all.1 in (
          made_if true (is_explies l.sign) i refl
              ∙ ap (λ y. y ∷ numbered_in fs incs rest (numbered_turned fs incs (turned_in rest) old) (behind fs incs right (behind_turned fs incs (turned_in rest) old))) (sym (one.0 ∙ ap (numbered fs incs right) all.1))
              ∙ ap (λ ms. x ∷ numbered_in fs incs rest ms (behind fs incs right (behind_turned fs incs (turned_in rest) old))) (sym all.0)
              ∙ ap (λ ts. x ∷ numbered_in fs incs rest made ts) (sym at),
          behind_if true (is_explies l.sign) i refl ∙ ap (behind_in fs incs rest) (sym at),
        )

    pub step_turned : (x : Ex) (made : List Ex) → is_implies l.sign ≡ false → is_explies l.sign ≡ true → x ≡ first_of before → made ≡ others_of before → IsStep fs incs (l ∷ rest) rest before old x made old
    step_turned x made i k first others = (
      made_if false true i k
          ∙ ap (λ y. y ∷ numbered_in fs incs rest (others_of before) old) (sym first)
          ∙ ap (λ ms. x ∷ numbered_in fs incs rest ms old) (sym others),
      behind_if false true i k,
    )

    pub step_other : (new : List Term) (x : Ex) → is_implies l.sign ≡ false → is_explies l.sign ≡ false → IsMade fs incs right old x new → IsStep fs incs (l ∷ rest) rest before old x before new
    step_other new x i k one = (
      made_if false false i k
          ∙ ap (λ y. y ∷ numbered_in fs incs rest before (behind fs incs right old)) (sym one.0)
          ∙ ap (λ ts. x ∷ numbered_in fs incs rest before ts) (sym one.1),
      behind_if false false i k ∙ ap (behind_in fs incs rest) (sym one.1),
    )

  module _ (links : List Link) (i : ℕ) (l : Link) (lt : i < length links) (is : l ≡ get_or links i l) (before : List Ex) (old : List Term) where
    abbrev rest : List Link
    rest = drop (i + 1) links

    at_place : (new : List Term) (x : Ex) (made : List Ex) → IsStep fs incs (l ∷ rest) rest before old x made new → IsStep fs incs (drop i links) rest before old x made new
    at_place new x made h = subst (λ d. IsStep fs incs d rest before old x made new) (sym (drop_item links i l lt is)) h

    pub at_turned : (x : Ex) (made : List Ex) → is_explies l.sign ≡ true → x ≡ first_of before → made ≡ others_of before → IsStep fs incs (drop i links) rest before old x made old
    at_turned x made k first others = at_place old x made (step_turned l rest old before x made (no_implies l.sign k) k first others)

    pub at_other : (mid new : List Term) (x : Ex) (made : List Ex) → is_explies l.sign ≡ false → IsBegun fs incs i links before old made mid → IsMade fs incs (meaning l.operand) mid x new → IsStep fs incs (drop i links) rest before old x made new
    at_other mid new x made k begun one = on (is_implies l.sign) refl
      where
        on : (b : Bool) → is_implies l.sign ≡ b → IsStep fs incs (drop i links) rest before old x made new
        on true j = at_place new x made (step_anew l rest old before mid new x made j ((begun l is).0 j) one)
        on false j =
            let same = (begun l is).1 j in
            subst (λ ms. IsStep fs incs (drop i links) rest before old x ms new) (sym same.0) (at_place new x before (step_other l rest old before new x j k (subst (λ ts. IsMade fs incs (meaning l.operand) ts x new) same.1 one)))

  -- ---- all operands

  -- what is made of links so far, and what of the others
  abbrev pub Linking : List Link → List Link → List Ex → List Term → List Ex → List Ex → List Term → Type 0
  Linking ls rest first old xs before now =
      (numbered_in fs incs ls first old ≡ xs ++ numbered_in fs incs rest before now) × (behind_in fs incs ls old ≡ behind_in fs incs rest now)

  pub linking_start : (ls : List Link) (first : List Ex) (old : List Term) (xs : List Ex) → xs ≡ [] → Linking ls ls first old xs first old
  linking_start ls first old xs e = (ap (λ l. l ++ numbered_in fs incs ls first old) (sym e), refl)

  pub linking_step : (ls links rest : List Link) (first : List Ex) (old : List Term) (xs ys before made : List Ex) (now new : List Term) (x : Ex) → ys ≡ xs ++ x ∷ [] → Linking ls links first old xs before now → IsStep fs incs links rest before now x made new → Linking ls rest first old ys made new
  linking_step ls links rest first old xs ys before made now new x e so one = (
    so.0
        ∙ ap (λ l. xs ++ l) one.0
        ∙ sym (append_assoc xs (x ∷ []) (numbered_in fs incs rest made new))
        ∙ ap (λ l. l ++ numbered_in fs incs rest made new) (sym e),
    so.1 ∙ one.1,
  )

  pub linking_end : (ls links : List Link) (first : List Ex) (old : List Term) (xs before : List Ex) (now : List Term) → links ≡ [] → Linking ls links first old xs before now → AreLinked fs incs ls first old xs now
  linking_end ls links first old xs before now none so = (
    sym (so.0 ∙ ap (λ l. xs ++ numbered_in fs incs l before now) none ∙ append-nil xs),
    sym (so.1 ∙ ap (λ l. behind_in fs incs l now) none),
  )
