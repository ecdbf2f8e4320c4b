-- Two good sides with a sign between them are good.
use Rattle.std.proofs.Common.{◌≡◌, Bool, true, false, ◌++◌, Some, None, refl, sym, ap, ◌∙◌, ◌⊎◌, inl, inr}
use Rattle.bg_base.specs.declared.pos.Pos.{Pos}
use Rattle.bg_text.specs.declared.expr.InfixSign.{InfixSign}
use Rattle.bg_text.specs.declared.expr.InfixSign.TheVariants as op
use Rattle.bg_ast.specs.Values as v
use Rattle.bg_ast.specs.Syntax.{Ex}
use Rattle.bg_ast.specs.Meaning.{infix_of}
use Rattle.bg_sense.specs.Typing.{Sig, HasType}
use Rattle.bg_sense.specs.Typed.{IsConstant, IsLinear}
use Rattle.bg_kinds.specs.Faults.{Wants, against, is_none}
use Rattle.bg_kinds.specs.Kinds.{Kind}
use Rattle.bg_typing.specs.Sides.{Side, sign_wants, sign_gives, two_faults, product_fault, infix_faults_at, infix_faults, infix_kind_at, infix_side}
use Rattle.bg_typed.proofs.Bits.{never, nothing, and_left, and_right, split_none, kind_if_some, some_same, wanted_type}
use Rattle.bg_typed.proofs.Good.{Good}

-- what both sides are where a sign's node has a type
record Sides (sign : InfixSign) (p q : Pos) (k l : Kind) (t : v.Ty) : Type 0 where
  pub left : v.Ty
  pub right : v.Ty
  pub is_left : k ≡ Some left
  pub is_right : l ≡ Some right
  pub fit : is_none (two_faults (sign_wants sign) p q left right) ≡ true
  pub gives : t ≡ sign_gives sign

sides_at : (sign : InfixSign) (a b : Side) (k l : Kind) (t : v.Ty) → infix_kind_at sign a b k l ≡ Some t → Sides sign a.start b.start k l t
sides_at sign a b None l t e = nothing t e
sides_at sign a b (Some u) None t e = nothing t e
sides_at sign a b (Some u) (Some w) t e =
    let both = kind_if_some (is_none (two_faults (sign_wants sign) a.start b.start u w)) (Some (sign_gives sign)) t e in
    record { left = u; right = w; is_left = refl; is_right = refl; fit = both.0; gives = sym (some_same (sign_gives sign) t both.1) }

abbrev Two : Sig → Ex → Ex → v.Ty → Type 0
Two s x y w = HasType x s w × HasType y s w

-- both sides are of the type that is wanted
two_wanted : (s : Sig) (p q : Pos) (k l : Kind) (x y : Ex) (w u t : v.Ty) → ((u : v.Ty) → k ≡ Some u → HasType x s u) → ((u : v.Ty) → l ≡ Some u → HasType y s u) → k ≡ Some u → l ≡ Some t → is_none (against p (Wants w) u ++ against q (Wants w) t) ≡ true → Two s x y w
two_wanted s p q k l x y w u t g h i j n =
    let none = split_none (against p (Wants w) u) (against q (Wants w) t) n in
    (g w (i ∙ ap Some (sym (wanted_type p w u none.0))), h w (j ∙ ap Some (sym (wanted_type q w t none.1))))

two_same : (s : Sig) (q : Pos) (k l : Kind) (x y : Ex) (u t : v.Ty) → ((u : v.Ty) → k ≡ Some u → HasType x s u) → ((u : v.Ty) → l ≡ Some u → HasType y s u) → k ≡ Some u → l ≡ Some t → is_none (against q (Wants u) t) ≡ true → Two s x y u
two_same s q k l x y u t g h i j n = (g u i, h u (j ∙ ap Some (sym (wanted_type q u t n))))

infix_typed : (s : Sig) (sign : InfixSign) (a b : Side) (x y : Ex) (t : v.Ty) → Good s a x → Good s b y → (infix_side sign a b).kind ≡ Some t → HasType (infix_of sign x y) s t
infix_typed s op.Iff a b x y t g h e =
    let k = sides_at op.Iff a b a.kind b.kind t e in
    let two = two_wanted s a.start b.start a.kind b.kind x y v.BoolTy k.left k.right g.typed h.typed k.is_left k.is_right k.fit in
    (k.gives, two.0, two.1)
infix_typed s op.Implies a b x y t g h e =
    let k = sides_at op.Implies a b a.kind b.kind t e in
    let two = two_wanted s a.start b.start a.kind b.kind x y v.BoolTy k.left k.right g.typed h.typed k.is_left k.is_right k.fit in
    (k.gives, two.0, two.1)
infix_typed s op.Explies a b x y t g h e =
    let k = sides_at op.Explies a b a.kind b.kind t e in
    let two = two_wanted s a.start b.start a.kind b.kind x y v.BoolTy k.left k.right g.typed h.typed k.is_left k.is_right k.fit in
    (k.gives, two.1, two.0)
infix_typed s op.And a b x y t g h e =
    let k = sides_at op.And a b a.kind b.kind t e in
    let two = two_wanted s a.start b.start a.kind b.kind x y v.BoolTy k.left k.right g.typed h.typed k.is_left k.is_right k.fit in
    (k.gives, two.0, two.1)
infix_typed s op.Or a b x y t g h e =
    let k = sides_at op.Or a b a.kind b.kind t e in
    let two = two_wanted s a.start b.start a.kind b.kind x y v.BoolTy k.left k.right g.typed h.typed k.is_left k.is_right k.fit in
    (k.gives, two.0, two.1)
infix_typed s op.Equal a b x y t g h e =
    let k = sides_at op.Equal a b a.kind b.kind t e in
    let two = two_same s b.start a.kind b.kind x y k.left k.right g.typed h.typed k.is_left k.is_right k.fit in
    (k.gives, (k.left, two.0, two.1))
infix_typed s op.Unequal a b x y t g h e =
    let k = sides_at op.Unequal a b a.kind b.kind t e in
    let two = two_same s b.start a.kind b.kind x y k.left k.right g.typed h.typed k.is_left k.is_right k.fit in
    (k.gives, (k.left, two.0, two.1))
infix_typed s op.Less a b x y t g h e =
    let k = sides_at op.Less a b a.kind b.kind t e in
    let two = two_wanted s a.start b.start a.kind b.kind x y v.IntTy k.left k.right g.typed h.typed k.is_left k.is_right k.fit in
    (k.gives, two.0, two.1)
infix_typed s op.AtMost a b x y t g h e =
    let k = sides_at op.AtMost a b a.kind b.kind t e in
    let two = two_wanted s a.start b.start a.kind b.kind x y v.IntTy k.left k.right g.typed h.typed k.is_left k.is_right k.fit in
    (k.gives, two.0, two.1)
infix_typed s op.Greater a b x y t g h e =
    let k = sides_at op.Greater a b a.kind b.kind t e in
    let two = two_wanted s a.start b.start a.kind b.kind x y v.IntTy k.left k.right g.typed h.typed k.is_left k.is_right k.fit in
    (k.gives, two.0, two.1)
infix_typed s op.AtLeast a b x y t g h e =
    let k = sides_at op.AtLeast a b a.kind b.kind t e in
    let two = two_wanted s a.start b.start a.kind b.kind x y v.IntTy k.left k.right g.typed h.typed k.is_left k.is_right k.fit in
    (k.gives, two.0, two.1)
infix_typed s op.Plus a b x y t g h e =
    let k = sides_at op.Plus a b a.kind b.kind t e in
    let two = two_wanted s a.start b.start a.kind b.kind x y v.IntTy k.left k.right g.typed h.typed k.is_left k.is_right k.fit in
    (k.gives, two.0, two.1)
infix_typed s op.Minus a b x y t g h e =
    let k = sides_at op.Minus a b a.kind b.kind t e in
    let two = two_wanted s a.start b.start a.kind b.kind x y v.IntTy k.left k.right g.typed h.typed k.is_left k.is_right k.fit in
    (k.gives, two.0, two.1)
infix_typed s op.Times a b x y t g h e =
    let k = sides_at op.Times a b a.kind b.kind t e in
    let two = two_wanted s a.start b.start a.kind b.kind x y v.IntTy k.left k.right g.typed h.typed k.is_left k.is_right k.fit in
    (k.gives, two.0, two.1)

-- a product has a constant side
product : (p : Pos) (a b : Bool) → is_none (product_fault op.Times p a b) ≡ true → (a ≡ true) ⊎ (b ≡ true)
product p true b n = inl refl
product p false true n = inr refl
product p false false n = never n

times_side : (p : Pos) (a b : Side) (k l : Kind) (u w : v.Ty) → k ≡ Some u → l ≡ Some w → is_none (infix_faults_at op.Times p a b k l) ≡ true → (a.is_constant ≡ true) ⊎ (b.is_constant ≡ true)
times_side p a b None l u w i j n = nothing u i
times_side p a b (Some u') None u w i j n = nothing w j
times_side p a b (Some u') (Some w') u w i j n =
    product p a.is_constant b.is_constant (split_none (two_faults (sign_wants op.Times) a.start b.start u' w') (product_fault op.Times p a.is_constant b.is_constant) n).1

constants : (s : Sig) (a b : Side) (x y : Ex) → Good s a x → Good s b y → ((a.is_constant ≡ true) ⊎ (b.is_constant ≡ true)) → IsConstant x ⊎ IsConstant y
constants s a b x y g h (inl e) = inl (g.constant e)
constants s a b x y g h (inr e) = inr (h.constant e)

infix_linear : (s : Sig) (sign : InfixSign) (p : Pos) (a b : Side) (x y : Ex) (t : v.Ty) → Good s a x → Good s b y → is_none (infix_faults sign p a b) ≡ true → (infix_side sign a b).kind ≡ Some t → IsLinear (infix_of sign x y)
infix_linear s op.Iff p a b x y t g h n e =
    let k = sides_at op.Iff a b a.kind b.kind t e in
    (tt, g.linear k.left k.is_left, h.linear k.right k.is_right)
infix_linear s op.Implies p a b x y t g h n e =
    let k = sides_at op.Implies a b a.kind b.kind t e in
    (tt, g.linear k.left k.is_left, h.linear k.right k.is_right)
infix_linear s op.Explies p a b x y t g h n e =
    let k = sides_at op.Explies a b a.kind b.kind t e in
    (tt, h.linear k.right k.is_right, g.linear k.left k.is_left)
infix_linear s op.And p a b x y t g h n e =
    let k = sides_at op.And a b a.kind b.kind t e in
    (tt, g.linear k.left k.is_left, h.linear k.right k.is_right)
infix_linear s op.Or p a b x y t g h n e =
    let k = sides_at op.Or a b a.kind b.kind t e in
    (tt, g.linear k.left k.is_left, h.linear k.right k.is_right)
infix_linear s op.Equal p a b x y t g h n e =
    let k = sides_at op.Equal a b a.kind b.kind t e in
    (tt, g.linear k.left k.is_left, h.linear k.right k.is_right)
infix_linear s op.Unequal p a b x y t g h n e =
    let k = sides_at op.Unequal a b a.kind b.kind t e in
    (tt, g.linear k.left k.is_left, h.linear k.right k.is_right)
infix_linear s op.Less p a b x y t g h n e =
    let k = sides_at op.Less a b a.kind b.kind t e in
    (tt, g.linear k.left k.is_left, h.linear k.right k.is_right)
infix_linear s op.AtMost p a b x y t g h n e =
    let k = sides_at op.AtMost a b a.kind b.kind t e in
    (tt, g.linear k.left k.is_left, h.linear k.right k.is_right)
infix_linear s op.Greater p a b x y t g h n e =
    let k = sides_at op.Greater a b a.kind b.kind t e in
    (tt, g.linear k.left k.is_left, h.linear k.right k.is_right)
infix_linear s op.AtLeast p a b x y t g h n e =
    let k = sides_at op.AtLeast a b a.kind b.kind t e in
    (tt, g.linear k.left k.is_left, h.linear k.right k.is_right)
infix_linear s op.Plus p a b x y t g h n e =
    let k = sides_at op.Plus a b a.kind b.kind t e in
    (tt, g.linear k.left k.is_left, h.linear k.right k.is_right)
infix_linear s op.Minus p a b x y t g h n e =
    let k = sides_at op.Minus a b a.kind b.kind t e in
    (tt, g.linear k.left k.is_left, h.linear k.right k.is_right)
infix_linear s op.Times p a b x y t g h n e =
    let k = sides_at op.Times a b a.kind b.kind t e in
    (constants s a b x y g h (times_side p a b a.kind b.kind k.left k.right k.is_left k.is_right n), g.linear k.left k.is_left, h.linear k.right k.is_right)

infix_constant : (s : Sig) (sign : InfixSign) (a b : Side) (x y : Ex) → Good s a x → Good s b y → (infix_side sign a b).is_constant ≡ true → IsConstant (infix_of sign x y)
infix_constant s op.Iff a b x y g h e = never e
infix_constant s op.Implies a b x y g h e = never e
infix_constant s op.Explies a b x y g h e = never e
infix_constant s op.And a b x y g h e = never e
infix_constant s op.Or a b x y g h e = never e
infix_constant s op.Equal a b x y g h e = never e
infix_constant s op.Unequal a b x y g h e = never e
infix_constant s op.Less a b x y g h e = never e
infix_constant s op.AtMost a b x y g h e = never e
infix_constant s op.Greater a b x y g h e = never e
infix_constant s op.AtLeast a b x y g h e = never e
infix_constant s op.Plus a b x y g h e =
    (g.constant (and_left a.is_constant b.is_constant e), h.constant (and_right a.is_constant b.is_constant e))
infix_constant s op.Minus a b x y g h e =
    (g.constant (and_left a.is_constant b.is_constant e), h.constant (and_right a.is_constant b.is_constant e))
infix_constant s op.Times a b x y g h e =
    (g.constant (and_left a.is_constant b.is_constant e), h.constant (and_right a.is_constant b.is_constant e))

pub good_infix : (s : Sig) (sign : InfixSign) (p : Pos) (a b : Side) (x y : Ex) → Good s a x → Good s b y → is_none (infix_faults sign p a b) ≡ true → Good s (infix_side sign a b) (infix_of sign x y)
good_infix s sign p a b x y g h n =
    record {
      typed = λ t e. infix_typed s sign a b x y t g h e;
      linear = λ t e. infix_linear s sign p a b x y t g h n e;
      constant = λ e. infix_constant s sign a b x y g h e;
    }
