-- Tokens and their marks.
use Rattle.std.proofs.Common.{◌≡◌, ℕ, ◌<◌, ◌≤◌, List, Bool, true, false, Option, Some, None, refl, ap, ◌∙◌, subst, arith, eqb}
use Rattle.std.proofs.lemmas.Bool.Decides.{nat_tests}
use Rattle.std.proofs.lemmas.Bool.{eqb-true}
use Rattle.std.specs.Prelude.{nat_lt, ◌==◌}
use Rattle.bg_base.specs.declared.pos.Pos.{Pos}
use Rattle.bg_text.specs.declared.token.Kind.{Kind}
use Rattle.bg_text.specs.declared.token.Kind.TheVariants as kinds
use Rattle.bg_text.specs.Tokens.{Tok}
use Rattle.bg_text.specs.declared.expr.InfixSign.{InfixSign}
use Rattle.bg_text.specs.declared.expr.InfixSign.TheVariants as op
use Rattle.bg_text.specs.Marks.{name_at, Is}
use Rattle.bg_text.specs.Spelling.{infix_kind, grade, goes_on}
use Rattle.bg_reader.proofs.Fits.{some_eq, if_true_some, text_some}
use Rattle.bg_expr.specs.Ends.{reach, below, ends}
use Rattle.bg_expr.specs.Exprs.{a_name, infix_of, first_by, first_sign, next_by, next_sign}

pub infix_is : (k : Kind) (s : InfixSign) → infix_of k ≡ Some s → k ≡ infix_kind s
infix_is kinds.Iff s h = ap infix_kind (some_eq op.Iff s h)
infix_is kinds.Implies s h = ap infix_kind (some_eq op.Implies s h)
infix_is kinds.Explies s h = ap infix_kind (some_eq op.Explies s h)
infix_is kinds.And s h = ap infix_kind (some_eq op.And s h)
infix_is kinds.Or s h = ap infix_kind (some_eq op.Or s h)
infix_is kinds.Equal s h = ap infix_kind (some_eq op.Equal s h)
infix_is kinds.Unequal s h = ap infix_kind (some_eq op.Unequal s h)
infix_is kinds.Less s h = ap infix_kind (some_eq op.Less s h)
infix_is kinds.AtMost s h = ap infix_kind (some_eq op.AtMost s h)
infix_is kinds.Greater s h = ap infix_kind (some_eq op.Greater s h)
infix_is kinds.AtLeast s h = ap infix_kind (some_eq op.AtLeast s h)
infix_is kinds.Plus s h = ap infix_kind (some_eq op.Plus s h)
infix_is kinds.Minus s h = ap infix_kind (some_eq op.Minus s h)
infix_is kinds.Times s h = ap infix_kind (some_eq op.Times s h)
infix_is _ s h = absurd cc

pub infix_back : (s : InfixSign) → infix_of (infix_kind s) ≡ Some s
infix_back op.Iff = refl
infix_back op.Implies = refl
infix_back op.Explies = refl
infix_back op.And = refl
infix_back op.Or = refl
infix_back op.Equal = refl
infix_back op.Unequal = refl
infix_back op.Less = refl
infix_back op.AtMost = refl
infix_back op.Greater = refl
infix_back op.AtLeast = refl
infix_back op.Plus = refl
infix_back op.Minus = refl
infix_back op.Times = refl

pub same_grade : (s r : InfixSign) → goes_on s r ≡ true → grade r ≡ grade s
same_grade op.Iff op.Iff h = refl
same_grade op.Implies op.Implies h = refl
same_grade op.Explies op.Explies h = refl
same_grade op.And op.And h = refl
same_grade op.Or op.Or h = refl
same_grade op.Plus op.Plus h = refl
same_grade op.Plus op.Minus h = refl
same_grade op.Minus op.Plus h = refl
same_grade op.Minus op.Minus h = refl
same_grade op.Times op.Times h = refl
same_grade _ _ h = absurd cc

pub reach_infix : (s : InfixSign) → reach (infix_kind s) ≡ Some (grade s)
reach_infix op.Iff = refl
reach_infix op.Implies = refl
reach_infix op.Explies = refl
reach_infix op.And = refl
reach_infix op.Or = refl
reach_infix op.Equal = refl
reach_infix op.Unequal = refl
reach_infix op.Less = refl
reach_infix op.AtMost = refl
reach_infix op.Greater = refl
reach_infix op.AtLeast = refl
reach_infix op.Plus = refl
reach_infix op.Minus = refl
reach_infix op.Times = refl

below_more : (k j : ℕ) (o : Option ℕ) → k ≤ j → below k o ≡ true → below j o ≡ true
below_more k j None le h = refl
below_more k j (Some g) le h = grind (arith, nat_tests)

pub ends_more : (k j : ℕ) (t : Tok) → k ≤ j → ends k t ≡ true → ends j t ≡ true
ends_more k j t le h = below_more k j (reach t.kind) le h

-- a sign binds less tightly than j
pub infix_ends : (j : ℕ) (s : InfixSign) (t : Tok) → t.kind ≡ infix_kind s → grade s < j → ends j t ≡ true
infix_ends j s t e lt = rw (e, reach_infix s) (grind (arith, nat_tests))

ends_infix : (k : ℕ) (s : InfixSign) (t : Tok) → t.kind ≡ infix_kind s → ends k t ≡ true → grade s < k
ends_infix k s t e h = let b : nat_lt (grade s) k ≡ true = rw (e, reach_infix s) at h in grind (arith, nat_tests)

pub first_is : (k : ℕ) (t : Tok) (b : Pos × InfixSign) → first_sign k t ≡ Some b → (t.kind ≡ infix_kind b.1) × (t.pos ≡ b.0) × (grade b.1 ≡ k)
first_is k t b h = by (infix_of t.kind) refl h
  where
    by : (o : Option InfixSign) → infix_of t.kind ≡ o → first_by k t.pos o ≡ Some b → (t.kind ≡ infix_kind b.1) × (t.pos ≡ b.0) × (grade b.1 ≡ k)
    by None e h = absurd cc
    by (Some s) e h =
        let w = if_true_some (grade s == k) (t.pos, s) b h in
        let q : s ≡ b.1 = ap (λ (p : Pos × InfixSign). p.1) w.1 in
        (infix_is t.kind b.1 (e ∙ ap (λ (r : InfixSign). Some r) q), ap (λ (p : Pos × InfixSign). p.0) w.1, subst (λ r. grade r ≡ k) q (eqb-true (grade s) k w.0))

pub first_none : (k : ℕ) (t : Tok) → ends k t ≡ true → first_sign k t ≡ None
first_none k t h = by (infix_of t.kind) refl
  where
    by : (o : Option InfixSign) → infix_of t.kind ≡ o → first_by k t.pos o ≡ None
    by None e = refl
    by (Some s) e = let lt = ends_infix k s t (infix_is t.kind s e) h in let q : eqb (grade s) k ≡ false = grind (arith, nat_tests) in rw q refl

pub next_is : (s : InfixSign) (t : Tok) (b : Pos × InfixSign) → next_sign s t ≡ Some b → (t.kind ≡ infix_kind b.1) × (t.pos ≡ b.0) × (goes_on s b.1 ≡ true)
next_is s t b h = by (infix_of t.kind) refl h
  where
    by : (o : Option InfixSign) → infix_of t.kind ≡ o → next_by s t.pos o ≡ Some b → (t.kind ≡ infix_kind b.1) × (t.pos ≡ b.0) × (goes_on s b.1 ≡ true)
    by None e h = absurd cc
    by (Some r) e h =
        let w = if_true_some (goes_on s r) (t.pos, r) b h in
        let q : r ≡ b.1 = ap (λ (p : Pos × InfixSign). p.1) w.1 in
        (infix_is t.kind b.1 (e ∙ ap (λ (r : InfixSign). Some r) q), ap (λ (p : Pos × InfixSign). p.0) w.1, subst (λ r. goes_on s r ≡ true) q w.0)

next_off : (s r : InfixSign) (p : Pos) (b : Bool) → goes_on s r ≡ b → (b ≡ true → ⊥) → next_by s p (Some r) ≡ None
next_off s r p true e h = absurd (h refl)
next_off s r p false e h = rw e refl

pub next_none : (s : InfixSign) (t : Tok) → ends (grade s) t ≡ true → next_sign s t ≡ None
next_none s t h = by (infix_of t.kind) refl
  where
    by : (o : Option InfixSign) → infix_of t.kind ≡ o → next_by s t.pos o ≡ None
    by None e = refl
    by (Some r) e = let lt = ends_infix (grade s) r t (infix_is t.kind r e) h in next_off s r t.pos (goes_on s r) refl (λ g. let q = same_grade s r g in omega (arith, lt, q))

pub start : Pos
start = record { line = 1; column = 1 }

pub name_some : (t : Tok) (b : Pos × List ℕ) → a_name t ≡ Some b → Is t (name_at b.0 b.1)
name_some t b h = text_some kinds.Name refl t b h
