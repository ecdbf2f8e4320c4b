-- Chains of truths over atoms, and how what is known of operands is known of a chain.
use Rattle.std.proofs.Common.{◌≡◌, ◌+◌, ℕ, Bool, true, false, not, List, [], ◌∷◌, ◌++◌, length, map, Option, Some, None, refl, sym, ap, ◌∙◌, subst, Vec, Box, Global}
use Rattle.std.specs.Prelude.{◌&&◌, if◌then◌else◌}
use Rattle.bg_base.specs.declared.exact.OutOfRange.{OutOfRange}
use Rattle.bg_base.specs.declared.pos.Pos.{Pos}
use Rattle.bg_text.specs.declared.expr.InfixSign.{InfixSign}
use Rattle.bg_text.specs.declared.expr.InfixSign.TheVariants as op
use Rattle.bg_text.specs.declared.expr.PrefixSign.{PrefixSign}
use Rattle.bg_text.specs.declared.expr.PrefixSign.TheVariants as prefix
use Rattle.bg_text.specs.declared.expr.TreePrefix.{TreePrefix}
use Rattle.bg_ast.specs.declared.resolved.Expr.{Expr}
use Rattle.bg_ast.specs.declared.resolved.Expr.TheVariants as expr
use Rattle.bg_ast.specs.declared.resolved.Link.{Link}
use Rattle.bg_ast.specs.Values.{Truth, truth_of}
use Rattle.bg_ast.specs.Syntax as s
use Rattle.bg_ast.specs.Meaning as m
use Rattle.bg_ast.specs.Resolved as r
use Rattle.bg_ast.specs.Views as u
use Rattle.bg_ast.proofs.Lists as z
use Rattle.bg_sense.specs.Eval.{ev, operate}
use Rattle.bg_formula.specs.Atoms.{AtomOf}
use Rattle.bg_forms.specs.Fitting.{fits_ex, joins_truths}
use Rattle.bg_formed.specs.Used.{first_of}
use Rattle.bg_formed.proofs.Below.{and_left, and_right, and_both}
use Rattle.bg_linear.specs.declared.scalar.Sort.{Sort}
use Rattle.bg_linear.specs.declared.scalar.Kind.{Kind}
use Rattle.bg_linear.specs.declared.scalar.Kind.TheVariants as kind
use Rattle.bg_linear.specs.Relations.{relates, relation, op_of}
use Rattle.bg_linear.specs.Chains.{is_implies}
use Rattle.bg_linear.specs.Sorts.{kind_ex, is_truth, is_number, number_only, truth_if, both_truths, related_kind, equal_kind, sum_kind, product_kind}
use Rattle.bg_linear.proofs.Sides.{no_truth, no_equal, sum_numbers, product_numbers}
use Rattle.bg_atoms.specs.Kinds.{IsTruth}
use Rattle.bg_atoms.specs.Orders.{before_sign, behind_sign}
use Rattle.bg_atoms.specs.Over.{relates_numbers, relation_ex, over, refusal, first_refused}
use Rattle.bg_atoms.specs.Worlds.{Means}

one_link : (ls old : List Link) (l : Link) → ls ≡ old ++ l ∷ [] → old ≡ [] → map u.link_view ls ≡ u.link_view l ∷ []
one_link ls old l h k = rw (h, k) refl

-- a chain of two with `&&`
pub and-is : (b : Box Expr Global) (ls : Vec Link Global) (old : List Link) (l : Link) (a : s.Ex) → m.ex_of (u.ex_of b.value) ≡ a → ls.items ≡ old ++ l ∷ [] → old ≡ [] → l.sign ≡ op.And → m.ex_of (u.ex_of (expr.Chain b ls)) ≡ s.Binary s.And a (m.ex_of (u.ex_of l.operand))
and-is b ls old l a h is none sign =
    ap m.ex_of (z.ex_of-Chain b ls)
    ∙ ap (λ ms. m.chained (m.ex_of (u.ex_of b.value)) (u.links_of ms)) (one_link ls.items old l is none)
    ∙ ap (λ g. m.chained (m.ex_of (u.ex_of b.value)) (r.Link l.pos g (u.ex_of l.operand) r.NoLink)) sign
    ∙ ap (λ x. s.Binary s.And x (m.ex_of (u.ex_of l.operand))) h

-- ---- kinds of truths

pub truth_given : (b : Bool) → is_truth (truth_if b) ≡ true → b ≡ true
truth_given true h = refl
truth_given false h = absurd (let bad : ⊥ = cc in bad)

pub two_truths : (a b : Option Kind) → is_truth (both_truths a b) ≡ true → (is_truth a ≡ true) × (is_truth b ≡ true)
two_truths a b h =
    let both = truth_given (is_truth a && is_truth b) h in
    (and_left (is_truth a) (is_truth b) both, and_right (is_truth a) (is_truth b) both)

pub two_numbers : (a b : Option Kind) → is_truth (related_kind a b) ≡ true → (is_number a ≡ true) × (is_number b ≡ true)
two_numbers a b h =
    let both = truth_given (is_number a && is_number b) h in
    (and_left (is_number a) (is_number b) both, and_right (is_number a) (is_number b) both)

pub no_number : (a : Option Kind) → is_truth a ≡ true → is_number a ≡ true → ⊥
no_number None h k = let bad : ⊥ = cc in bad
no_number (Some kind.Truth) h k = let bad : ⊥ = cc in bad
no_number (Some kind.Constant) h k = let bad : ⊥ = cc in bad
no_number (Some kind.Number) h k = let bad : ⊥ = cc in bad

pub no_sides : (a b : Option Kind) → is_truth (related_kind a b) ≡ true → (is_number a && is_number b) ≡ false → ⊥
no_sides a b h k =
    let both = truth_given (is_number a && is_number b) h in
    let bad : ⊥ = cc in
    bad

pub equal_truths : (a b : Option Kind) → is_truth a ≡ true → is_truth (equal_kind a b) ≡ true → is_truth b ≡ true
equal_truths None b k h = absurd (let bad : ⊥ = cc in bad)
equal_truths (Some kind.Truth) b k h = (two_truths (Some kind.Truth) b h).1
equal_truths (Some kind.Constant) b k h = absurd (let bad : ⊥ = cc in bad)
equal_truths (Some kind.Number) b k h = absurd (let bad : ⊥ = cc in bad)

pub equal_sides : (a b : Option Kind) → is_truth (equal_kind a b) ≡ true → (is_number a && is_number b) ≡ false → is_truth a ≡ true
equal_sides None b h k = absurd (no_sides None b h k)
equal_sides (Some kind.Truth) b h k = refl
equal_sides (Some kind.Constant) b h k = absurd (no_sides (Some kind.Constant) b h k)
equal_sides (Some kind.Number) b h k = absurd (no_sides (Some kind.Number) b h k)

pub number_alone : (k : Option Kind) → is_truth (number_only k) ≡ true → ⊥
number_alone None h = let bad : ⊥ = cc in bad
number_alone (Some kind.Truth) h = let bad : ⊥ = cc in bad
number_alone (Some kind.Constant) h = let bad : ⊥ = cc in bad
number_alone (Some kind.Number) h = let bad : ⊥ = cc in bad

pub no_sum : (a b : Option Kind) → is_truth (sum_kind a b) ≡ true → ⊥
no_sum None b h = let bad : ⊥ = cc in bad
no_sum (Some kind.Truth) b h = let bad : ⊥ = cc in bad
no_sum (Some kind.Constant) b h = number_alone b h
no_sum (Some kind.Number) None h = let bad : ⊥ = cc in bad
no_sum (Some kind.Number) (Some kind.Truth) h = let bad : ⊥ = cc in bad
no_sum (Some kind.Number) (Some kind.Constant) h = let bad : ⊥ = cc in bad
no_sum (Some kind.Number) (Some kind.Number) h = let bad : ⊥ = cc in bad

pub no_product : (a b : Option Kind) → is_truth (product_kind a b) ≡ true → ⊥
no_product None b h = let bad : ⊥ = cc in bad
no_product (Some kind.Truth) b h = let bad : ⊥ = cc in bad
no_product (Some kind.Constant) b h = number_alone b h
no_product (Some kind.Number) None h = let bad : ⊥ = cc in bad
no_product (Some kind.Number) (Some kind.Truth) h = let bad : ⊥ = cc in bad
no_product (Some kind.Number) (Some kind.Constant) h = let bad : ⊥ = cc in bad
no_product (Some kind.Number) (Some kind.Number) h = let bad : ⊥ = cc in bad

equal_left : (a b : Option Kind) → (is_number a ≡ true → ⊥) → is_truth (equal_kind a b) ≡ true → is_truth a ≡ true
equal_left None b n h = absurd (n (two_numbers None b h).0)
equal_left (Some kind.Truth) b n h = refl
equal_left (Some kind.Constant) b n h = absurd (n refl)
equal_left (Some kind.Number) b n h = absurd (n refl)

-- ---- signs between truths

abbrev pub is_logical : InfixSign → Bool
is_logical op.Iff = true
is_logical op.Implies = true
is_logical op.Explies = true
is_logical op.And = true
is_logical op.Or = true
is_logical _ = false

-- whether the first sign tells that there is a truth on its left, if there is a sign
abbrev pub begins_logical : r.Links → Bool
begins_logical r.NoLink = true
begins_logical (r.Link p sign e ls) = is_logical sign

module _ (sorts : List Sort) where
  abbrev pub NoNumber : s.Ex → Type 0
  NoNumber e = is_number (kind_ex sorts e) ≡ true → ⊥

  -- what stands at the left end of a chain that is a truth is one, where it is no number
  pub left_truth : (ls : r.Links) (a : s.Ex) → (begins_logical ls ≡ false → NoNumber a) → IsTruth sorts (m.chained a ls) → IsTruth sorts a
  left_truth r.NoLink a o t = t
  left_truth (r.Link p op.Implies e ls) a o t = (two_truths (kind_ex sorts a) (kind_ex sorts (m.chained (m.ex_of e) ls)) t).0
  left_truth (r.Link p op.Iff e ls) a o t =
      (two_truths (kind_ex sorts a) (kind_ex sorts (m.ex_of e)) (left_truth ls (s.Binary s.Iff a (m.ex_of e)) (λ q. no_truth _) t)).0
  left_truth (r.Link p op.Explies e ls) a o t =
      (two_truths (kind_ex sorts (m.ex_of e)) (kind_ex sorts a) (left_truth ls (s.Binary s.Implies (m.ex_of e) a) (λ q. no_truth _) t)).1
  left_truth (r.Link p op.And e ls) a o t =
      (two_truths (kind_ex sorts a) (kind_ex sorts (m.ex_of e)) (left_truth ls (s.Binary s.And a (m.ex_of e)) (λ q. no_truth _) t)).0
  left_truth (r.Link p op.Or e ls) a o t =
      (two_truths (kind_ex sorts a) (kind_ex sorts (m.ex_of e)) (left_truth ls (s.Binary s.Or a (m.ex_of e)) (λ q. no_truth _) t)).0
  left_truth (r.Link p op.Equal e ls) a o t =
      equal_left (kind_ex sorts a) (kind_ex sorts (m.ex_of e)) (o refl) (left_truth ls (s.Binary s.Equal a (m.ex_of e)) (λ q. no_equal (kind_ex sorts a) (kind_ex sorts (m.ex_of e))) t)
  left_truth (r.Link p op.Unequal e ls) a o t =
      equal_left (kind_ex sorts a) (kind_ex sorts (m.ex_of e)) (o refl) (left_truth ls (s.Binary s.Unequal a (m.ex_of e)) (λ q. no_equal (kind_ex sorts a) (kind_ex sorts (m.ex_of e))) t)
  left_truth (r.Link p op.Less e ls) a o t =
      absurd (o refl (two_numbers (kind_ex sorts a) (kind_ex sorts (m.ex_of e)) (left_truth ls (s.Binary s.Less a (m.ex_of e)) (λ q. no_truth _) t)).0)
  left_truth (r.Link p op.AtMost e ls) a o t =
      absurd (o refl (two_numbers (kind_ex sorts a) (kind_ex sorts (m.ex_of e)) (left_truth ls (s.Binary s.AtMost a (m.ex_of e)) (λ q. no_truth _) t)).0)
  left_truth (r.Link p op.Greater e ls) a o t =
      absurd (o refl (two_numbers (kind_ex sorts a) (kind_ex sorts (m.ex_of e)) (left_truth ls (s.Binary s.Greater a (m.ex_of e)) (λ q. no_truth _) t)).0)
  left_truth (r.Link p op.AtLeast e ls) a o t =
      absurd (o refl (two_numbers (kind_ex sorts a) (kind_ex sorts (m.ex_of e)) (left_truth ls (s.Binary s.AtLeast a (m.ex_of e)) (λ q. no_truth _) t)).0)
  left_truth (r.Link p op.Plus e ls) a o t =
      absurd (no_sum (kind_ex sorts a) (kind_ex sorts (m.ex_of e)) (left_truth ls (s.Binary s.Plus a (m.ex_of e)) (λ q k. o refl (sum_numbers (kind_ex sorts a) (kind_ex sorts (m.ex_of e)) k).0) t))
  left_truth (r.Link p op.Minus e ls) a o t =
      absurd (no_sum (kind_ex sorts a) (kind_ex sorts (m.ex_of e)) (left_truth ls (s.Binary s.Minus a (m.ex_of e)) (λ q k. o refl (sum_numbers (kind_ex sorts a) (kind_ex sorts (m.ex_of e)) k).0) t))
  left_truth (r.Link p op.Times e ls) a o t =
      absurd (no_product (kind_ex sorts a) (kind_ex sorts (m.ex_of e)) (left_truth ls (s.Binary s.Times a (m.ex_of e)) (λ q k. o refl (product_numbers (kind_ex sorts a) (kind_ex sorts (m.ex_of e)) k).0) t))

  pub truth_other : (a : s.Ex) → IsTruth sorts a → NoNumber a
  truth_other a t = no_number (kind_ex sorts a) t

  -- a relation that is a truth has two truths or two numbers
  pub relation_sides : (sign : InfixSign) (a e : s.Ex) → relates (op_of sign) ≡ true → IsTruth sorts (s.Binary (op_of sign) a e) → (is_number (kind_ex sorts a) && is_number (kind_ex sorts e)) ≡ false → IsTruth sorts a
  relation_sides op.Iff a e l t k = absurd (let bad : ⊥ = cc in bad)
  relation_sides op.Implies a e l t k = absurd (let bad : ⊥ = cc in bad)
  relation_sides op.Explies a e l t k = absurd (let bad : ⊥ = cc in bad)
  relation_sides op.And a e l t k = absurd (let bad : ⊥ = cc in bad)
  relation_sides op.Or a e l t k = absurd (let bad : ⊥ = cc in bad)
  relation_sides op.Equal a e l t k = equal_sides (kind_ex sorts a) (kind_ex sorts e) t k
  relation_sides op.Unequal a e l t k = equal_sides (kind_ex sorts a) (kind_ex sorts e) t k
  relation_sides op.Less a e l t k = absurd (no_sides (kind_ex sorts a) (kind_ex sorts e) t k)
  relation_sides op.AtMost a e l t k = absurd (no_sides (kind_ex sorts a) (kind_ex sorts e) t k)
  relation_sides op.Greater a e l t k = absurd (no_sides (kind_ex sorts a) (kind_ex sorts e) t k)
  relation_sides op.AtLeast a e l t k = absurd (no_sides (kind_ex sorts a) (kind_ex sorts e) t k)
  relation_sides op.Plus a e l t k = absurd (let bad : ⊥ = cc in bad)
  relation_sides op.Minus a e l t k = absurd (let bad : ⊥ = cc in bad)
  relation_sides op.Times a e l t k = absurd (let bad : ⊥ = cc in bad)

  -- a relation is no number
  pub relation_other : (sign : InfixSign) (a e : s.Ex) → relates (op_of sign) ≡ true → NoNumber (s.Binary (op_of sign) a e)
  relation_other op.Iff a e l = absurd (let bad : ⊥ = cc in bad)
  relation_other op.Implies a e l = absurd (let bad : ⊥ = cc in bad)
  relation_other op.Explies a e l = absurd (let bad : ⊥ = cc in bad)
  relation_other op.And a e l = absurd (let bad : ⊥ = cc in bad)
  relation_other op.Or a e l = absurd (let bad : ⊥ = cc in bad)
  relation_other op.Equal a e l = no_equal (kind_ex sorts a) (kind_ex sorts e)
  relation_other op.Unequal a e l = no_equal (kind_ex sorts a) (kind_ex sorts e)
  relation_other op.Less a e l = no_truth _
  relation_other op.AtMost a e l = no_truth _
  relation_other op.Greater a e l = no_truth _
  relation_other op.AtLeast a e l = no_truth _
  relation_other op.Plus a e l = absurd (let bad : ⊥ = cc in bad)
  relation_other op.Minus a e l = absurd (let bad : ⊥ = cc in bad)
  relation_other op.Times a e l = absurd (let bad : ⊥ = cc in bad)

pub relation_is : (p : Pos) (sign : InfixSign) (e : r.Ex) (ls : r.Links) (a : s.Ex) → relates (op_of sign) ≡ true → m.chained a (r.Link p sign e ls) ≡ m.chained (s.Binary (op_of sign) a (m.ex_of e)) ls
relation_is p op.Iff e ls a l = absurd (let bad : ⊥ = cc in bad)
relation_is p op.Implies e ls a l = absurd (let bad : ⊥ = cc in bad)
relation_is p op.Explies e ls a l = absurd (let bad : ⊥ = cc in bad)
relation_is p op.And e ls a l = absurd (let bad : ⊥ = cc in bad)
relation_is p op.Or e ls a l = absurd (let bad : ⊥ = cc in bad)
relation_is p op.Equal e ls a l = refl
relation_is p op.Unequal e ls a l = refl
relation_is p op.Less e ls a l = refl
relation_is p op.AtMost e ls a l = refl
relation_is p op.Greater e ls a l = refl
relation_is p op.AtLeast e ls a l = refl
relation_is p op.Plus e ls a l = absurd (let bad : ⊥ = cc in bad)
relation_is p op.Minus e ls a l = absurd (let bad : ⊥ = cc in bad)
relation_is p op.Times e ls a l = absurd (let bad : ⊥ = cc in bad)

-- ---- one more sign behind a truth

pub implies_is : (sign : InfixSign) → is_implies sign ≡ true → sign ≡ op.Implies
implies_is op.Iff h = absurd (let bad : ⊥ = cc in bad)
implies_is op.Implies h = refl
implies_is op.Explies h = absurd (let bad : ⊥ = cc in bad)
implies_is op.And h = absurd (let bad : ⊥ = cc in bad)
implies_is op.Or h = absurd (let bad : ⊥ = cc in bad)
implies_is op.Equal h = absurd (let bad : ⊥ = cc in bad)
implies_is op.Unequal h = absurd (let bad : ⊥ = cc in bad)
implies_is op.Less h = absurd (let bad : ⊥ = cc in bad)
implies_is op.AtMost h = absurd (let bad : ⊥ = cc in bad)
implies_is op.Greater h = absurd (let bad : ⊥ = cc in bad)
implies_is op.AtLeast h = absurd (let bad : ⊥ = cc in bad)
implies_is op.Plus h = absurd (let bad : ⊥ = cc in bad)
implies_is op.Minus h = absurd (let bad : ⊥ = cc in bad)
implies_is op.Times h = absurd (let bad : ⊥ = cc in bad)

pub next_is : (sign : InfixSign) → is_implies sign ≡ false → (p : Pos) (e : r.Ex) (ls : r.Links) (a : s.Ex) → m.chained a (r.Link p sign e ls) ≡ m.chained (m.infix_of sign a (m.ex_of e)) ls
next_is op.Iff i p e ls a = refl
next_is op.Implies i p e ls a = absurd (let bad : ⊥ = cc in bad)
next_is op.Explies i p e ls a = refl
next_is op.And i p e ls a = refl
next_is op.Or i p e ls a = refl
next_is op.Equal i p e ls a = refl
next_is op.Unequal i p e ls a = refl
next_is op.Less i p e ls a = refl
next_is op.AtMost i p e ls a = refl
next_is op.Greater i p e ls a = refl
next_is op.AtLeast i p e ls a = refl
next_is op.Plus i p e ls a = refl
next_is op.Minus i p e ls a = refl
next_is op.Times i p e ls a = refl

module _ (sorts : List Sort) where
  pub infix_other : (sign : InfixSign) → is_implies sign ≡ false → (a e : s.Ex) → NoNumber sorts a → NoNumber sorts (m.infix_of sign a e)
  infix_other op.Iff i a e n = no_truth _
  infix_other op.Implies i a e n = absurd (let bad : ⊥ = cc in bad)
  infix_other op.Explies i a e n = no_truth _
  infix_other op.And i a e n = no_truth _
  infix_other op.Or i a e n = no_truth _
  infix_other op.Equal i a e n = no_equal (kind_ex sorts a) (kind_ex sorts e)
  infix_other op.Unequal i a e n = no_equal (kind_ex sorts a) (kind_ex sorts e)
  infix_other op.Less i a e n = no_truth _
  infix_other op.AtMost i a e n = no_truth _
  infix_other op.Greater i a e n = no_truth _
  infix_other op.AtLeast i a e n = no_truth _
  infix_other op.Plus i a e n = λ k. n (sum_numbers (kind_ex sorts a) (kind_ex sorts e) k).0
  infix_other op.Minus i a e n = λ k. n (sum_numbers (kind_ex sorts a) (kind_ex sorts e) k).0
  infix_other op.Times i a e n = λ k. n (product_numbers (kind_ex sorts a) (kind_ex sorts e) k).0

  -- where a chain behind a truth is one, so is what the first sign makes
  infix_truth : (sign : InfixSign) → is_implies sign ≡ false → (p : Pos) (e : r.Ex) (ls : r.Links) (a : s.Ex) → IsTruth sorts a → IsTruth sorts (m.chained a (r.Link p sign e ls)) → IsTruth sorts (m.infix_of sign a (m.ex_of e))
  infix_truth sign i p e ls a t w =
      left_truth sorts ls (m.infix_of sign a (m.ex_of e)) (λ q. infix_other sign i a (m.ex_of e) (truth_other sorts a t)) (subst (IsTruth sorts) (next_is sign i p e ls a) w)

  -- and so is the operand behind it
  infix_right : (sign : InfixSign) → is_implies sign ≡ false → (a e : s.Ex) → IsTruth sorts a → IsTruth sorts (m.infix_of sign a e) → IsTruth sorts e
  infix_right op.Iff i a e t w = (two_truths (kind_ex sorts a) (kind_ex sorts e) w).1
  infix_right op.Implies i a e t w = absurd (let bad : ⊥ = cc in bad)
  infix_right op.Explies i a e t w = (two_truths (kind_ex sorts e) (kind_ex sorts a) w).0
  infix_right op.And i a e t w = (two_truths (kind_ex sorts a) (kind_ex sorts e) w).1
  infix_right op.Or i a e t w = (two_truths (kind_ex sorts a) (kind_ex sorts e) w).1
  infix_right op.Equal i a e t w = equal_truths (kind_ex sorts a) (kind_ex sorts e) t w
  infix_right op.Unequal i a e t w = equal_truths (kind_ex sorts a) (kind_ex sorts e) t w
  infix_right op.Less i a e t w = absurd (truth_other sorts a t (two_numbers (kind_ex sorts a) (kind_ex sorts e) w).0)
  infix_right op.AtMost i a e t w = absurd (truth_other sorts a t (two_numbers (kind_ex sorts a) (kind_ex sorts e) w).0)
  infix_right op.Greater i a e t w = absurd (truth_other sorts a t (two_numbers (kind_ex sorts a) (kind_ex sorts e) w).0)
  infix_right op.AtLeast i a e t w = absurd (truth_other sorts a t (two_numbers (kind_ex sorts a) (kind_ex sorts e) w).0)
  infix_right op.Plus i a e t w = absurd (no_sum (kind_ex sorts a) (kind_ex sorts e) w)
  infix_right op.Minus i a e t w = absurd (no_sum (kind_ex sorts a) (kind_ex sorts e) w)
  infix_right op.Times i a e t w = absurd (no_product (kind_ex sorts a) (kind_ex sorts e) w)

-- ---- what relates no numbers goes into its parts

and_no : (p q r : Bool) → (q ≡ true → ⊥) → (p && (q && r)) ≡ false
and_no true true r h = absurd (h refl)
and_no true false r h = refl
and_no false q r h = refl

none_both : (o p : Option OutOfRange) → first_of o p ≡ None → (o ≡ None) × (p ≡ None)
none_both None p h = (refl, h)
none_both (Some x) p h = absurd (let bad : ⊥ = cc in bad)

pub no_numbers : (sorts : List Sort) (o : s.Op) (a b : s.Ex) → NoNumber sorts a → relates_numbers sorts o a b ≡ false
no_numbers sorts o a b h = and_no (relates o) (is_number (kind_ex sorts a)) (is_number (kind_ex sorts b)) h

over_parts : (sorts : List Sort) (n : ℕ) (rows : List AtomOf) (o : s.Op) (a b : s.Ex) → relates_numbers sorts o a b ≡ false → over sorts n rows (s.Binary o a b) ≡ s.Binary o (over sorts n rows a) (over sorts n rows b)
over_parts sorts n rows o a b h =
    ap (λ c. if c then relation_ex n rows o (relation o a b) else s.Binary o (over sorts n rows a) (over sorts n rows b)) h

first_parts : (sorts : List Sort) (o : s.Op) (a b : s.Ex) → relates_numbers sorts o a b ≡ false → first_refused sorts (s.Binary o a b) ≡ first_of (first_refused sorts a) (first_refused sorts b)
first_parts sorts o a b h =
    ap (λ c. if c then refusal (relation o a b) else first_of (first_refused sorts a) (first_refused sorts b)) h

module _ (sorts : List Sort) (n : ℕ) (rows : List AtomOf) where
  binary_means : (o : s.Op) (a b x y : s.Ex) → joins_truths o ≡ true → relates_numbers sorts o a b ≡ false → Means sorts n rows a x → Means sorts n rows b y → Means sorts n rows (s.Binary o a b) (s.Binary o x y)
  binary_means o a b x y j apart h k =
      record {
        fits = and_both (joins_truths o) _ j (and_both (fits_ex (n + length rows) x) (fits_ex (n + length rows) y) h.fits k.fits);
        exact = ap (λ z. s.Binary o z y) h.exact ∙ ap (λ z. s.Binary o (over sorts n rows a) z) k.exact ∙ sym (over_parts sorts n rows o a b apart);
        same = λ fine w g held.
            let both = none_both (first_refused sorts a) (first_refused sorts b) (sym (first_parts sorts o a b apart) ∙ fine) in
            ap (λ v. operate o v (ev y w.atoms)) (h.same both.0 w g held) ∙ ap (λ v. operate o (ev a w.scope) v) (k.same both.1 w g held);
      }

  infix_means : (sign : InfixSign) → is_implies sign ≡ false → (a e x y : s.Ex) → IsTruth sorts a → IsTruth sorts (m.infix_of sign a e) → Means sorts n rows a x → Means sorts n rows e y → Means sorts n rows (m.infix_of sign a e) (m.infix_of sign x y)
  infix_means op.Iff i a e x y t w h k = binary_means s.Iff a e x y refl refl h k
  infix_means op.Implies i a e x y t w h k = absurd (let bad : ⊥ = cc in bad)
  infix_means op.Explies i a e x y t w h k = binary_means s.Implies e a y x refl refl k h
  infix_means op.And i a e x y t w h k = binary_means s.And a e x y refl refl h k
  infix_means op.Or i a e x y t w h k = binary_means s.Or a e x y refl refl h k
  infix_means op.Equal i a e x y t w h k = binary_means s.Equal a e x y refl (no_numbers sorts s.Equal a e (truth_other sorts a t)) h k
  infix_means op.Unequal i a e x y t w h k = binary_means s.Unequal a e x y refl (no_numbers sorts s.Unequal a e (truth_other sorts a t)) h k
  infix_means op.Less i a e x y t w h k = absurd (truth_other sorts a t (two_numbers (kind_ex sorts a) (kind_ex sorts e) w).0)
  infix_means op.AtMost i a e x y t w h k = absurd (truth_other sorts a t (two_numbers (kind_ex sorts a) (kind_ex sorts e) w).0)
  infix_means op.Greater i a e x y t w h k = absurd (truth_other sorts a t (two_numbers (kind_ex sorts a) (kind_ex sorts e) w).0)
  infix_means op.AtLeast i a e x y t w h k = absurd (truth_other sorts a t (two_numbers (kind_ex sorts a) (kind_ex sorts e) w).0)
  infix_means op.Plus i a e x y t w h k = absurd (no_sum (kind_ex sorts a) (kind_ex sorts e) w)
  infix_means op.Minus i a e x y t w h k = absurd (no_sum (kind_ex sorts a) (kind_ex sorts e) w)
  infix_means op.Times i a e x y t w h k = absurd (no_product (kind_ex sorts a) (kind_ex sorts e) w)

  abbrev pub Rest : r.Links → r.Links → Type 0
  Rest ls ns = (b y : s.Ex) → IsTruth sorts b → IsTruth sorts (m.chained b ls) → Means sorts n rows b y → Means sorts n rows (m.chained b ls) (m.chained y ns)

  -- one more operand behind truths
  pub step_means : (sign : InfixSign) → is_implies sign ≡ false → (p q : Pos) (e e' : r.Ex) (ls ns : r.Links) → (IsTruth sorts (m.ex_of e) → Means sorts n rows (m.ex_of e) (m.ex_of e')) → Rest ls ns → Rest (r.Link p sign e ls) (r.Link q sign e' ns)
  step_means sign i p q e e' ls ns k rest a x t w h =
      let both = infix_truth sorts sign i p e ls a t w in
      let means = rest _ _ both (subst (IsTruth sorts) (next_is sign i p e ls a) w) (infix_means sign i a (m.ex_of e) x (m.ex_of e') t both h (k (infix_right sorts sign i a (m.ex_of e) t both))) in
      subst (λ y. Means sorts n rows y (m.chained x (r.Link q sign e' ns))) (sym (next_is sign i p e ls a)) (subst (λ y. Means sorts n rows (m.chained (m.infix_of sign a (m.ex_of e)) ls) y) (sym (next_is sign i q e' ns x)) means)

  -- an implication, whose right side is a chain
  pub implies_means : (a x b y : s.Ex) → Means sorts n rows a x → Means sorts n rows b y → Means sorts n rows (s.Binary s.Implies a b) (s.Binary s.Implies x y)
  implies_means a x b y h k = binary_means s.Implies a b x y refl refl h k

  not_means : (a x : s.Ex) → Means sorts n rows a x → Means sorts n rows (s.Not a) (s.Not x)
  not_means a x h =
      record {
        fits = h.fits;
        exact = ap s.Not h.exact;
        same = λ fine w g held. ap (λ v. Truth (not (truth_of v))) (h.same fine w g held);
      }

-- ---- refusals in a chain

module _ (sorts : List Sort) where
  infix_refused : (sign : InfixSign) → is_implies sign ≡ false → (a e : s.Ex) → IsTruth sorts a → first_refused sorts (m.infix_of sign a e) ≡ behind_sign sign (first_refused sorts a) (first_refused sorts e)
  infix_refused op.Iff i a e t = refl
  infix_refused op.Implies i a e t = absurd (let bad : ⊥ = cc in bad)
  infix_refused op.Explies i a e t = refl
  infix_refused op.And i a e t = refl
  infix_refused op.Or i a e t = refl
  infix_refused op.Equal i a e t = first_parts sorts s.Equal a e (no_numbers sorts s.Equal a e (truth_other sorts a t))
  infix_refused op.Unequal i a e t = first_parts sorts s.Unequal a e (no_numbers sorts s.Unequal a e (truth_other sorts a t))
  infix_refused op.Less i a e t = first_parts sorts s.Less a e (no_numbers sorts s.Less a e (truth_other sorts a t))
  infix_refused op.AtMost i a e t = first_parts sorts s.AtMost a e (no_numbers sorts s.AtMost a e (truth_other sorts a t))
  infix_refused op.Greater i a e t = first_parts sorts s.Greater a e (no_numbers sorts s.Greater a e (truth_other sorts a t))
  infix_refused op.AtLeast i a e t = first_parts sorts s.AtLeast a e (no_numbers sorts s.AtLeast a e (truth_other sorts a t))
  infix_refused op.Plus i a e t = refl
  infix_refused op.Minus i a e t = refl
  infix_refused op.Times i a e t = refl

  -- a sign that begins no chain leaves what stands before it
  pub before_left : (sign : InfixSign) → is_implies sign ≡ false → (before here : Option OutOfRange) → before_sign sign before here ≡ before
  before_left op.Iff i before here = refl
  before_left op.Implies i before here = absurd (let bad : ⊥ = cc in bad)
  before_left op.Explies i before here = refl
  before_left op.And i before here = refl
  before_left op.Or i before here = refl
  before_left op.Equal i before here = refl
  before_left op.Unequal i before here = refl
  before_left op.Less i before here = refl
  before_left op.AtMost i before here = refl
  before_left op.Greater i before here = refl
  before_left op.AtLeast i before here = refl
  before_left op.Plus i before here = refl
  before_left op.Minus i before here = refl
  before_left op.Times i before here = refl

  abbrev pub RefusesIn : Option OutOfRange → r.Links → Option OutOfRange → Type 0
  RefusesIn first ls all =
      (b : s.Ex) → IsTruth sorts b → IsTruth sorts (m.chained b ls) → first_refused sorts b ≡ first → first_refused sorts (m.chained b ls) ≡ all

  -- one more operand behind truths
  pub step_refused : (sign : InfixSign) → is_implies sign ≡ false → (p : Pos) (e : r.Ex) (ls : r.Links) (here operand all : Option OutOfRange) → (IsTruth sorts (m.ex_of e) → first_refused sorts (m.ex_of e) ≡ operand) → RefusesIn (behind_sign sign here operand) ls all → RefusesIn here (r.Link p sign e ls) all
  step_refused sign i p e ls here operand all k rest a t w is =
      let both = infix_truth sorts sign i p e ls a t w in
      let right = k (infix_right sorts sign i a (m.ex_of e) t both) in
      let made = infix_refused sign i a (m.ex_of e) t ∙ ap (λ x. behind_sign sign x (first_refused sorts (m.ex_of e))) is ∙ ap (λ x. behind_sign sign here x) right in
      ap (first_refused sorts) (next_is sign i p e ls a) ∙ rest (m.infix_of sign a (m.ex_of e)) both (subst (IsTruth sorts) (next_is sign i p e ls a) w) made

-- ---- rows of signs

prefix_truth : (sorts : List Sort) (sign : PrefixSign) (a : s.Ex) → is_truth (kind_ex sorts (m.prefix_of sign a)) ≡ true → (sign ≡ prefix.Not) × (is_truth (kind_ex sorts a) ≡ true)
prefix_truth sorts prefix.Not a h = (refl, truth_given (is_truth (kind_ex sorts a)) h)
prefix_truth sorts prefix.Minus a h = absurd (number_alone (kind_ex sorts a) h)

pub signed_truth : (sorts : List Sort) (xs : List TreePrefix) (a : s.Ex) → is_truth (kind_ex sorts (m.signed xs a)) ≡ true → is_truth (kind_ex sorts a) ≡ true
signed_truth sorts [] a h = h
signed_truth sorts (x ∷ xs) a h = signed_truth sorts xs a (prefix_truth sorts x.sign (m.signed xs a) h).1

pub signed_means : (sorts : List Sort) (n : ℕ) (rows : List AtomOf) (xs : List TreePrefix) (a x : s.Ex) → is_truth (kind_ex sorts (m.signed xs a)) ≡ true → Means sorts n rows a x → Means sorts n rows (m.signed xs a) (m.signed xs x)
signed_means sorts n rows [] a x t h = h
signed_means sorts n rows (y ∷ xs) a x t h =
    let k = prefix_truth sorts y.sign (m.signed xs a) t in
    subst (λ g. Means sorts n rows (m.prefix_of g (m.signed xs a)) (m.prefix_of g (m.signed xs x))) (sym k.0) (not_means sorts n rows (m.signed xs a) (m.signed xs x) (signed_means sorts n rows xs a x k.1 h))

pub signed_refused : (sorts : List Sort) (xs : List TreePrefix) (a : s.Ex) → is_truth (kind_ex sorts (m.signed xs a)) ≡ true → first_refused sorts (m.signed xs a) ≡ first_refused sorts a
signed_refused sorts [] a t = refl
signed_refused sorts (y ∷ xs) a t =
    let k = prefix_truth sorts y.sign (m.signed xs a) t in
    ap (λ g. first_refused sorts (m.prefix_of g (m.signed xs a))) k.0 ∙ signed_refused sorts xs a k.1

-- ---- brackets

bare : (sorts : List Sort) (bs : r.Brackets) (e : s.Ex) → kind_ex sorts e ≡ None → kind_ex sorts (m.behind e bs) ≡ None
bare sorts r.NoBracket e h = h
bare sorts (r.Select p es bs) e h = bare sorts bs (s.Select e (m.exs_of es)) refl
bare sorts (r.Update p es v bs) e h = bare sorts bs (s.Update e (m.exs_of es) (m.ex_of v)) refl
