-- An expression that has a type, of which each product has a constant side, has no fault.
use Rattle.std.proofs.Common.{◌≡◌, suc, ◌⊎◌, inl, inr, Bool, true, false, ◌&&◌, if◌then◌else◌, List, [], ◌∷◌, ◌++◌, length, map, Option, Some, None, refl, sym, ap, ◌∙◌}
use Rattle.std.specs.Prelude.{slice_get}
use Rattle.std.proofs.lemmas.Bool.{eq-eqb}
use Rattle.bg_base.specs.declared.pos.Pos.{Pos}
use Rattle.bg_text.specs.declared.expr.InfixSign.{InfixSign}
use Rattle.bg_text.specs.declared.expr.InfixSign.TheVariants as op
use Rattle.bg_text.specs.declared.expr.PrefixSign.{PrefixSign}
use Rattle.bg_text.specs.declared.expr.PrefixSign.TheVariants as prefix
use Rattle.bg_text.specs.declared.expr.TreePrefix.{TreePrefix}
use Rattle.bg_ast.specs.Values as v
use Rattle.bg_ast.specs.Syntax as s
use Rattle.bg_ast.specs.Resolved as r
use Rattle.bg_ast.specs.Meaning as m
use Rattle.bg_ast.specs.Meaning.{ex_of, exs_of}
use Rattle.bg_sense.specs.Types.{key_eq, key_types_eq, ty_eq}
use Rattle.bg_sense.specs.Typing.{Sig, key_ty, VarHasType, HasType, HaveTypes}
use Rattle.bg_sense.specs.Typed.{IsConstant, IsLinear, AreLinear}
use Rattle.bg_kinds.specs.Faults.{Fault, Arity, Mismatch, Wants, against, is_none}
use Rattle.bg_kinds.specs.Kinds.{Kind}
use Rattle.bg_typing.specs.Sides as d
use Rattle.bg_typing.specs.Sides.{Scope, Shape, Side, Judged, kind_at, variable_kind, kind_if, wanting, pairs_faults, matched_faults, parts_faults, do_parts_fit, are_typed, key_kinds, sign_wants, sign_gives, is_arithmetic, two_faults, product_fault, infix_side, infix_faults, prefix_type, prefix_side, select_side, select_faults, update_side, update_faults, apply_side, apply_faults}
use Rattle.bg_typing.specs.Exprs.{after, sides_of, faults_of, judge, judge_all, behind, chained}
use Rattle.bg_typed.specs.Covering.{Gives}
use Rattle.bg_typed.proofs.Bits.{keys_are}

-- ---- types are themselves

key_same : (k : v.KeyType) → key_eq k k ≡ true
key_same v.IntKey = refl
key_same (v.UserKey t) = eq-eqb t t refl

keys_same : (ks : List v.KeyType) → key_types_eq ks ks ≡ true
keys_same [] = refl
keys_same (k ∷ ks) = ap (λ (b : Bool). b && key_types_eq ks ks) (key_same k) ∙ keys_same ks

same_types : (t : v.Ty) → ty_eq t t ≡ true
same_types v.IntTy = refl
same_types v.BoolTy = refl
same_types (v.UserTy t) = eq-eqb t t refl
same_types (v.MapTy ks t) = ap (λ (b : Bool). b && ty_eq t t) (keys_same ks) ∙ same_types t

-- ---- lists of faults

pub both_none : (fs gs : List Fault) → fs ≡ [] → gs ≡ [] → fs ++ gs ≡ []
both_none fs gs e f = ap (λ (l : List Fault). l ++ gs) e ∙ f

as_wanted : (p : Pos) (t : v.Ty) → against p (Wants t) t ≡ []
as_wanted p t = ap (λ (b : Bool). if b then [] else Mismatch p (Wants t) t ∷ []) (same_types t)

-- a part of the wanted type
pub no_want : (t : v.Ty) (a : Side) → a.kind ≡ Some t → wanting (Wants t) a ≡ []
no_want t a e = ap (d.wanting_at a.start (Wants t)) e ∙ as_wanted a.start t

abbrev pub kind_in : Side → Kind
kind_in a = a.kind

-- parts of the wanted types
pub all_typed : (as_ : List Side) (ts : List v.Ty) → map kind_in as_ ≡ map Some ts → are_typed as_ ≡ true
all_typed [] ts e = refl
all_typed (a ∷ as_) [] e = absurd (let bad : ⊥ = cc in bad)
all_typed (a ∷ as_) (t ∷ ts) e =
    let first : a.kind ≡ Some t = cc in
    let rest : map kind_in as_ ≡ map Some ts = cc in
    ap (λ (k : Kind). d.is_typed_kind k && are_typed as_) first ∙ all_typed as_ ts rest

no_pairs : (ts : List v.Ty) (as_ : List Side) → map kind_in as_ ≡ map Some ts → pairs_faults (map Some ts) as_ ≡ []
no_pairs [] as_ e = refl
no_pairs (t ∷ ts) [] e = refl
no_pairs (t ∷ ts) (a ∷ as_) e =
    let first : a.kind ≡ Some t = cc in
    let rest : map kind_in as_ ≡ map Some ts = cc in
    both_none (d.pair_faults (Some t) a) (pairs_faults (map Some ts) as_) (no_want t a first) (no_pairs ts as_ rest)

as_long : (ts : List v.Ty) (as_ : List Side) → map kind_in as_ ≡ map Some ts → length as_ ≡ length (map Some ts)
as_long [] [] e = refl
as_long [] (a ∷ as_) e = absurd (let bad : ⊥ = cc in bad)
as_long (t ∷ ts) [] e = absurd (let bad : ⊥ = cc in bad)
as_long (t ∷ ts) (a ∷ as_) e =
    let rest : map kind_in as_ ≡ map Some ts = cc in
    ap suc (as_long ts as_ rest)

pub all_match : (p : Pos) (ts : List v.Ty) (as_ : List Side) → map kind_in as_ ≡ map Some ts → matched_faults p (map Some ts) as_ ≡ []
all_match p ts as_ e =
    ap (λ (b : Bool). if b then pairs_faults (map Some ts) as_ else Arity p ∷ []) (eq-eqb (length as_) (length (map Some ts)) (as_long ts as_ e))
    ∙ no_pairs ts as_ e

-- ---- signs

-- types that a sign takes
abbrev OpFits : InfixSign → v.Ty → v.Ty → Type 0
OpFits op.Iff t u = (t ≡ v.BoolTy) × (u ≡ v.BoolTy)
OpFits op.Implies t u = (t ≡ v.BoolTy) × (u ≡ v.BoolTy)
OpFits op.Explies t u = (t ≡ v.BoolTy) × (u ≡ v.BoolTy)
OpFits op.And t u = (t ≡ v.BoolTy) × (u ≡ v.BoolTy)
OpFits op.Or t u = (t ≡ v.BoolTy) × (u ≡ v.BoolTy)
OpFits op.Equal t u = (t ≡ u) × (u ≡ u)
OpFits op.Unequal t u = (t ≡ u) × (u ≡ u)
OpFits op.Less t u = (t ≡ v.IntTy) × (u ≡ v.IntTy)
OpFits op.AtMost t u = (t ≡ v.IntTy) × (u ≡ v.IntTy)
OpFits op.Greater t u = (t ≡ v.IntTy) × (u ≡ v.IntTy)
OpFits op.AtLeast t u = (t ≡ v.IntTy) × (u ≡ v.IntTy)
OpFits op.Plus t u = (t ≡ v.IntTy) × (u ≡ v.IntTy)
OpFits op.Minus t u = (t ≡ v.IntTy) × (u ≡ v.IntTy)
OpFits op.Times t u = (t ≡ v.IntTy) × (u ≡ v.IntTy)

two_same : (w : v.Ty) (p q : Pos) (t u : v.Ty) → t ≡ w → u ≡ w → two_faults (Some w) p q t u ≡ []
two_same w p q t u e f =
    ap (λ (x : v.Ty). against p (Wants w) x ++ against q (Wants w) u) e
    ∙ (ap (λ (x : v.Ty). against p (Wants w) w ++ against q (Wants w) x) f
    ∙ both_none (against p (Wants w) w) (against q (Wants w) w) (as_wanted p w) (as_wanted q w))

two_alike : (p q : Pos) (t u : v.Ty) → t ≡ u → two_faults None p q t u ≡ []
two_alike p q t u e = ap (λ (x : v.Ty). against q (Wants x) u) e ∙ as_wanted q u

two_ok : (sign : InfixSign) (p q : Pos) (t u : v.Ty) → OpFits sign t u → two_faults (sign_wants sign) p q t u ≡ []
two_ok op.Iff p q t u h = two_same v.BoolTy p q t u h.0 h.1
two_ok op.Implies p q t u h = two_same v.BoolTy p q t u h.0 h.1
two_ok op.Explies p q t u h = two_same v.BoolTy p q t u h.0 h.1
two_ok op.And p q t u h = two_same v.BoolTy p q t u h.0 h.1
two_ok op.Or p q t u h = two_same v.BoolTy p q t u h.0 h.1
two_ok op.Equal p q t u h = two_alike p q t u h.0
two_ok op.Unequal p q t u h = two_alike p q t u h.0
two_ok op.Less p q t u h = two_same v.IntTy p q t u h.0 h.1
two_ok op.AtMost p q t u h = two_same v.IntTy p q t u h.0 h.1
two_ok op.Greater p q t u h = two_same v.IntTy p q t u h.0 h.1
two_ok op.AtLeast p q t u h = two_same v.IntTy p q t u h.0 h.1
two_ok op.Plus p q t u h = two_same v.IntTy p q t u h.0 h.1
two_ok op.Minus p q t u h = two_same v.IntTy p q t u h.0 h.1
two_ok op.Times p q t u h = two_same v.IntTy p q t u h.0 h.1

-- the sides of a sign have types that it takes
record SidesHave (sign : InfixSign) (g : Sig) (x y : s.Ex) (t : v.Ty) : Type 0 where
  left : v.Ty
  right : v.Ty
  has_left : HasType x g left
  has_right : HasType y g right
  fits : OpFits sign left right
  gives : t ≡ sign_gives sign

sides_have : (sign : InfixSign) (g : Sig) (x y : s.Ex) (t : v.Ty) → HasType (m.infix_of sign x y) g t → SidesHave sign g x y t
sides_have op.Iff g x y t h = record { left = v.BoolTy; right = v.BoolTy; has_left = h.1; has_right = h.2; fits = (refl, refl); gives = h.0 }
sides_have op.Implies g x y t h = record { left = v.BoolTy; right = v.BoolTy; has_left = h.1; has_right = h.2; fits = (refl, refl); gives = h.0 }
sides_have op.Explies g x y t h = record { left = v.BoolTy; right = v.BoolTy; has_left = h.2; has_right = h.1; fits = (refl, refl); gives = h.0 }
sides_have op.And g x y t h = record { left = v.BoolTy; right = v.BoolTy; has_left = h.1; has_right = h.2; fits = (refl, refl); gives = h.0 }
sides_have op.Or g x y t h = record { left = v.BoolTy; right = v.BoolTy; has_left = h.1; has_right = h.2; fits = (refl, refl); gives = h.0 }
sides_have op.Equal g x y t h = record { left = h.1.0; right = h.1.0; has_left = h.1.1; has_right = h.1.2; fits = (refl, refl); gives = h.0 }
sides_have op.Unequal g x y t h = record { left = h.1.0; right = h.1.0; has_left = h.1.1; has_right = h.1.2; fits = (refl, refl); gives = h.0 }
sides_have op.Less g x y t h = record { left = v.IntTy; right = v.IntTy; has_left = h.1; has_right = h.2; fits = (refl, refl); gives = h.0 }
sides_have op.AtMost g x y t h = record { left = v.IntTy; right = v.IntTy; has_left = h.1; has_right = h.2; fits = (refl, refl); gives = h.0 }
sides_have op.Greater g x y t h = record { left = v.IntTy; right = v.IntTy; has_left = h.1; has_right = h.2; fits = (refl, refl); gives = h.0 }
sides_have op.AtLeast g x y t h = record { left = v.IntTy; right = v.IntTy; has_left = h.1; has_right = h.2; fits = (refl, refl); gives = h.0 }
sides_have op.Plus g x y t h = record { left = v.IntTy; right = v.IntTy; has_left = h.1; has_right = h.2; fits = (refl, refl); gives = h.0 }
sides_have op.Minus g x y t h = record { left = v.IntTy; right = v.IntTy; has_left = h.1; has_right = h.2; fits = (refl, refl); gives = h.0 }
sides_have op.Times g x y t h = record { left = v.IntTy; right = v.IntTy; has_left = h.1; has_right = h.2; fits = (refl, refl); gives = h.0 }

-- the sides of a sign are linear, and a product has a constant side
abbrev HasConstant : InfixSign → s.Ex → s.Ex → Type 0
HasConstant op.Times x y = IsConstant x ⊎ IsConstant y
HasConstant _ x y = Unit {0}

linear_sides : (sign : InfixSign) (x y : s.Ex) → IsLinear (m.infix_of sign x y) → HasConstant sign x y × IsLinear x × IsLinear y
linear_sides op.Iff x y h = (tt, h.1, h.2)
linear_sides op.Implies x y h = (tt, h.1, h.2)
linear_sides op.Explies x y h = (tt, h.2, h.1)
linear_sides op.And x y h = (tt, h.1, h.2)
linear_sides op.Or x y h = (tt, h.1, h.2)
linear_sides op.Equal x y h = (tt, h.1, h.2)
linear_sides op.Unequal x y h = (tt, h.1, h.2)
linear_sides op.Less x y h = (tt, h.1, h.2)
linear_sides op.AtMost x y h = (tt, h.1, h.2)
linear_sides op.Greater x y h = (tt, h.1, h.2)
linear_sides op.AtLeast x y h = (tt, h.1, h.2)
linear_sides op.Plus x y h = (tt, h.1, h.2)
linear_sides op.Minus x y h = (tt, h.1, h.2)
linear_sides op.Times x y h = (h.0, h.1, h.2)

-- what a side knows of its expression
record Knows (g : Sig) (x : s.Ex) (a : Side) : Type 0 where
  kind : (t : v.Ty) → HasType x g t → a.kind ≡ Some t
  constant : IsConstant x → a.is_constant ≡ true

product_one : (p : Pos) (a b : Bool) → (a ≡ true) ⊎ (b ≡ true) → product_fault op.Times p a b ≡ []
product_one p true b h = refl
product_one p false true h = refl
product_one p false false (inl e) = absurd (let bad : ⊥ = cc in bad)
product_one p false false (inr e) = absurd (let bad : ⊥ = cc in bad)

either : {A B C D : Type 0} → A ⊎ B → (A → C) → (B → D) → C ⊎ D
either (inl a) f g = inl (f a)
either (inr b) f g = inr (g b)

product_ok : (sign : InfixSign) (p : Pos) (x y : s.Ex) (a b : Side) → HasConstant sign x y → (IsConstant x → a.is_constant ≡ true) → (IsConstant y → b.is_constant ≡ true) → product_fault sign p a.is_constant b.is_constant ≡ []
product_ok op.Times p x y a b h f k = product_one p a.is_constant b.is_constant (either h f k)
product_ok op.Iff p x y a b h f k = refl
product_ok op.Implies p x y a b h f k = refl
product_ok op.Explies p x y a b h f k = refl
product_ok op.And p x y a b h f k = refl
product_ok op.Or p x y a b h f k = refl
product_ok op.Equal p x y a b h f k = refl
product_ok op.Unequal p x y a b h f k = refl
product_ok op.Less p x y a b h f k = refl
product_ok op.AtMost p x y a b h f k = refl
product_ok op.Greater p x y a b h f k = refl
product_ok op.AtLeast p x y a b h f k = refl
product_ok op.Plus p x y a b h f k = refl
product_ok op.Minus p x y a b h f k = refl

constant_sides : (sign : InfixSign) (x y : s.Ex) → IsConstant (m.infix_of sign x y) → (is_arithmetic sign ≡ true) × IsConstant x × IsConstant y
constant_sides op.Plus x y h = (refl, h.0, h.1)
constant_sides op.Minus x y h = (refl, h.0, h.1)
constant_sides op.Times x y h = (refl, h.0, h.1)
constant_sides op.Iff x y h = absurd h
constant_sides op.Implies x y h = absurd h
constant_sides op.Explies x y h = absurd h
constant_sides op.And x y h = absurd h
constant_sides op.Or x y h = absurd h
constant_sides op.Equal x y h = absurd h
constant_sides op.Unequal x y h = absurd h
constant_sides op.Less x y h = absurd h
constant_sides op.AtMost x y h = absurd h
constant_sides op.Greater x y h = absurd h
constant_sides op.AtLeast x y h = absurd h

three : (a b c : Bool) → a ≡ true → b ≡ true → c ≡ true → (a && (b && c)) ≡ true
three a b c e f h = ap (λ (z : Bool). z && (b && c)) e ∙ (ap (λ (z : Bool). z && c) f ∙ h)

-- a sign between two sides whose types it takes has no fault of its own, and its type
infix_fine : (sign : InfixSign) (p : Pos) (g : Sig) (x y : s.Ex) (a b : Side) (t : v.Ty) → Knows g x a → Knows g y b → HasType (m.infix_of sign x y) g t → IsLinear (m.infix_of sign x y) → infix_faults sign p a b ≡ []
infix_fine sign p g x y a b t ka kb h l =
    let w = sides_have sign g x y t h in
    let q = linear_sides sign x y l in
    ap (λ (k : Kind). d.infix_faults_at sign p a b k b.kind) (ka.kind w.left w.has_left)
    ∙ (ap (λ (k : Kind). d.infix_faults_at sign p a b (Some w.left) k) (kb.kind w.right w.has_right)
    ∙ both_none (two_faults (sign_wants sign) a.start b.start w.left w.right) (product_fault sign p a.is_constant b.is_constant) (two_ok sign a.start b.start w.left w.right w.fits) (product_ok sign p x y a b q.0 ka.constant kb.constant))

infix_knows : (sign : InfixSign) (g : Sig) (x y : s.Ex) (a b : Side) → Knows g x a → Knows g y b → Knows g (m.infix_of sign x y) (infix_side sign a b)
infix_knows sign g x y a b ka kb =
    record {
      kind = λ t h.
          let w = sides_have sign g x y t h in
          ap (λ (k : Kind). d.infix_kind_at sign a b k b.kind) (ka.kind w.left w.has_left)
          ∙ (ap (λ (k : Kind). d.infix_kind_at sign a b (Some w.left) k) (kb.kind w.right w.has_right)
          ∙ (ap (λ (fs : List Fault). kind_if (is_none fs) (Some (sign_gives sign))) (two_ok sign a.start b.start w.left w.right w.fits)
          ∙ ap Some (sym w.gives)));
      constant = λ h.
          let w = constant_sides sign x y h in
          three (is_arithmetic sign) a.is_constant b.is_constant w.0 (ka.constant w.1) (kb.constant w.2);
    }

-- ---- prefix signs

one_prefix : (k : PrefixSign) (g : Sig) (x : s.Ex) (t : v.Ty) → HasType (m.prefix_of k x) g t → HasType x g (prefix_type k) × (t ≡ prefix_type k)
one_prefix prefix.Not g x t h = (h.1, h.0)
one_prefix prefix.Minus g x t h = (h.1, h.0)

prefix_linear : (k : PrefixSign) (x : s.Ex) → IsLinear (m.prefix_of k x) → IsLinear x
prefix_linear prefix.Not x l = l
prefix_linear prefix.Minus x l = l

signs_have : (xs : List TreePrefix) (g : Sig) (x : s.Ex) (t : v.Ty) → HasType (m.signed xs x) g t → IsLinear (m.signed xs x) → ((u : v.Ty) × HasType x g u) × IsLinear x
signs_have [] g x t h l = ((t, h), l)
signs_have (y ∷ ys) g x t h l =
    signs_have ys g x (prefix_type y.sign) (one_prefix y.sign g (m.signed ys x) t h).0 (prefix_linear y.sign (m.signed ys x) l)

abbrev IsFine : Judged → v.Ty → Type 0
IsFine j t = (j.faults ≡ []) × (j.side.kind ≡ Some t)

does_fit : (t : v.Ty) (a : Side) → a.kind ≡ Some t → d.does_fit (Wants t) a ≡ true
does_fit t a e =
    ap (λ (k : Kind). d.is_typed_kind k && is_none (d.wanting_at a.start (Wants t) k)) e
    ∙ ap is_none (as_wanted a.start t)

signs_fine : (xs : List TreePrefix) (g : Sig) (x : s.Ex) (a : Side) → ((t : v.Ty) → HasType x g t → a.kind ≡ Some t) → (t : v.Ty) → HasType (m.signed xs x) g t → IsLinear (m.signed xs x) → IsFine (d.signed xs a) t
signs_fine [] g x a k t h l = (refl, k t h)
signs_fine (y ∷ ys) g x a k t h l =
    let w = one_prefix y.sign g (m.signed ys x) t h in
    let rest = signs_fine ys g x a k (prefix_type y.sign) w.0 (prefix_linear y.sign (m.signed ys x) l) in (
      both_none (d.signed ys a).faults (wanting (Wants (prefix_type y.sign)) (d.signed ys a).side) rest.0 (no_want (prefix_type y.sign) (d.signed ys a).side rest.1),
      ap (λ (b : Bool). kind_if b (Some (prefix_type y.sign))) (does_fit (prefix_type y.sign) (d.signed ys a).side rest.1) ∙ ap Some (sym w.1),
    )

signs_constant : (xs : List TreePrefix) (x : s.Ex) (a : Side) → (IsConstant x → a.is_constant ≡ true) → IsConstant (m.signed xs x) → (d.signed xs a).side.is_constant ≡ true
signs_constant [] x a k h = k h
signs_constant (y ∷ ys) x a k h = by y.sign h (signs_constant ys x a k)
  where
    by : (z : PrefixSign) → IsConstant (m.prefix_of z (m.signed ys x)) → (IsConstant (m.signed ys x) → (d.signed ys a).side.is_constant ≡ true) → (d.is_minus z && (d.signed ys a).side.is_constant) ≡ true
    by prefix.Not h f = absurd h
    by prefix.Minus h f = f h

-- ---- what stands inside a chain or before brackets

links_step : (sign : InfixSign) (g : Sig) (x y : s.Ex) → ((u : v.Ty) × HasType (m.infix_of sign x y) g u) × IsLinear (m.infix_of sign x y) → ((u : v.Ty) × HasType x g u) × IsLinear x
links_step sign g x y w =
    let q = sides_have sign g x y w.0.0 w.0.1 in
    ((q.left, q.has_left), (linear_sides sign x y w.1).1)

links_have : (ls : r.Links) (g : Sig) (x : s.Ex) (t : v.Ty) → HasType (m.chained x ls) g t → IsLinear (m.chained x ls) → ((u : v.Ty) × HasType x g u) × IsLinear x
links_have r.NoLink g x t h l = ((t, h), l)
links_have (r.Link p op.Implies e ls) g x t h l = ((v.BoolTy, h.1), l.1)
links_have (r.Link p op.Iff e ls) g x t h l = links_step op.Iff g x (ex_of e) (links_have ls g (m.infix_of op.Iff x (ex_of e)) t h l)
links_have (r.Link p op.Explies e ls) g x t h l = links_step op.Explies g x (ex_of e) (links_have ls g (m.infix_of op.Explies x (ex_of e)) t h l)
links_have (r.Link p op.And e ls) g x t h l = links_step op.And g x (ex_of e) (links_have ls g (m.infix_of op.And x (ex_of e)) t h l)
links_have (r.Link p op.Or e ls) g x t h l = links_step op.Or g x (ex_of e) (links_have ls g (m.infix_of op.Or x (ex_of e)) t h l)
links_have (r.Link p op.Equal e ls) g x t h l = links_step op.Equal g x (ex_of e) (links_have ls g (m.infix_of op.Equal x (ex_of e)) t h l)
links_have (r.Link p op.Unequal e ls) g x t h l = links_step op.Unequal g x (ex_of e) (links_have ls g (m.infix_of op.Unequal x (ex_of e)) t h l)
links_have (r.Link p op.Less e ls) g x t h l = links_step op.Less g x (ex_of e) (links_have ls g (m.infix_of op.Less x (ex_of e)) t h l)
links_have (r.Link p op.AtMost e ls) g x t h l = links_step op.AtMost g x (ex_of e) (links_have ls g (m.infix_of op.AtMost x (ex_of e)) t h l)
links_have (r.Link p op.Greater e ls) g x t h l = links_step op.Greater g x (ex_of e) (links_have ls g (m.infix_of op.Greater x (ex_of e)) t h l)
links_have (r.Link p op.AtLeast e ls) g x t h l = links_step op.AtLeast g x (ex_of e) (links_have ls g (m.infix_of op.AtLeast x (ex_of e)) t h l)
links_have (r.Link p op.Plus e ls) g x t h l = links_step op.Plus g x (ex_of e) (links_have ls g (m.infix_of op.Plus x (ex_of e)) t h l)
links_have (r.Link p op.Minus e ls) g x t h l = links_step op.Minus g x (ex_of e) (links_have ls g (m.infix_of op.Minus x (ex_of e)) t h l)
links_have (r.Link p op.Times e ls) g x t h l = links_step op.Times g x (ex_of e) (links_have ls g (m.infix_of op.Times x (ex_of e)) t h l)

links_constant : (ls : r.Links) (x : s.Ex) → IsConstant (m.chained x ls) → IsConstant x
links_constant r.NoLink x h = h
links_constant (r.Link p op.Implies e ls) x h = absurd h
links_constant (r.Link p op.Iff e ls) x h = (constant_sides op.Iff x (ex_of e) (links_constant ls _ h)).1
links_constant (r.Link p op.Explies e ls) x h = (constant_sides op.Explies x (ex_of e) (links_constant ls _ h)).1
links_constant (r.Link p op.And e ls) x h = (constant_sides op.And x (ex_of e) (links_constant ls _ h)).1
links_constant (r.Link p op.Or e ls) x h = (constant_sides op.Or x (ex_of e) (links_constant ls _ h)).1
links_constant (r.Link p op.Equal e ls) x h = (constant_sides op.Equal x (ex_of e) (links_constant ls _ h)).1
links_constant (r.Link p op.Unequal e ls) x h = (constant_sides op.Unequal x (ex_of e) (links_constant ls _ h)).1
links_constant (r.Link p op.Less e ls) x h = (constant_sides op.Less x (ex_of e) (links_constant ls _ h)).1
links_constant (r.Link p op.AtMost e ls) x h = (constant_sides op.AtMost x (ex_of e) (links_constant ls _ h)).1
links_constant (r.Link p op.Greater e ls) x h = (constant_sides op.Greater x (ex_of e) (links_constant ls _ h)).1
links_constant (r.Link p op.AtLeast e ls) x h = (constant_sides op.AtLeast x (ex_of e) (links_constant ls _ h)).1
links_constant (r.Link p op.Plus e ls) x h = (constant_sides op.Plus x (ex_of e) (links_constant ls _ h)).1
links_constant (r.Link p op.Minus e ls) x h = (constant_sides op.Minus x (ex_of e) (links_constant ls _ h)).1
links_constant (r.Link p op.Times e ls) x h = (constant_sides op.Times x (ex_of e) (links_constant ls _ h)).1

brackets_have : (bs : r.Brackets) (g : Sig) (x : s.Ex) (t : v.Ty) → HasType (m.behind x bs) g t → IsLinear (m.behind x bs) → ((u : v.Ty) × HasType x g u) × IsLinear x
brackets_have r.NoBracket g x t h l = ((t, h), l)
brackets_have (r.Select p es bs) g x t h l =
    let w = brackets_have bs g (s.Select x (exs_of es)) t h l in
    ((v.MapTy w.0.1.0 w.0.0, w.0.1.1), w.1.0)
brackets_have (r.Update p es e bs) g x t h l =
    let w = brackets_have bs g (s.Update x (exs_of es) (ex_of e)) t h l in
    ((v.MapTy w.0.1.0 w.0.1.1.0, w.0.1.1.2), w.1.0)

brackets_constant : (bs : r.Brackets) (x : s.Ex) → IsConstant (m.behind x bs) → IsConstant x
brackets_constant r.NoBracket x h = h
brackets_constant (r.Select p es bs) x h = absurd (brackets_constant bs (s.Select x (exs_of es)) h)
brackets_constant (r.Update p es e bs) x h = absurd (brackets_constant bs (s.Update x (exs_of es) (ex_of e)) h)

infix_constant : (sign : InfixSign) (x y : s.Ex) (a b : Side) → (IsConstant x → a.is_constant ≡ true) → (IsConstant y → b.is_constant ≡ true) → IsConstant (m.infix_of sign x y) → (infix_side sign a b).is_constant ≡ true
infix_constant sign x y a b f k h =
    let w = constant_sides sign x y h in
    three (is_arithmetic sign) a.is_constant b.is_constant w.0 (f w.1) (k w.2)

-- ---- functions and brackets

kind_first : (ks : List Kind) (t : v.Ty) → ks ≡ Some t ∷ [] → kind_at ks 0 ≡ Some t
kind_first ks t e = ap (λ (l : List Kind). kind_at l 0) e

if_fine : (b : Bool) (fs : List Fault) → fs ≡ [] → (if b then fs else []) ≡ []
if_fine true fs e = e
if_fine false fs e = refl

fits_all : (p : Pos) (ks : List Kind) (ts : List v.Ty) (as_ : List Side) → ks ≡ map Some ts → map kind_in as_ ≡ map Some ts → (matched_faults p ks as_ ≡ []) × (do_parts_fit p ks as_ ≡ true)
fits_all p ks ts as_ e f =
    let none : matched_faults p ks as_ ≡ [] = ap (λ (l : List Kind). matched_faults p l as_) e ∙ all_match p ts as_ f in
    (none, ap (λ (b : Bool). b && is_none (matched_faults p ks as_)) (all_typed as_ ts f) ∙ ap is_none none)

apply_fine : (p : Pos) (o : Option Shape) (shape : Shape) (ts : List v.Ty) (t : v.Ty) (as_ : List Side) → o ≡ Some shape → shape.params ≡ map Some ts → shape.results ≡ Some t ∷ [] → map kind_in as_ ≡ map Some ts → (apply_faults p o as_ ≡ []) × (d.apply_kind p o as_ ≡ Some t)
apply_fine p o shape ts t as_ e f k h =
    let w = fits_all p shape.params ts as_ f h in (
      ap (λ (q : Option Shape). apply_faults p q as_) e ∙ if_fine (are_typed as_) (matched_faults p shape.params as_) w.0,
      ap (λ (q : Option Shape). d.apply_kind p q as_) e ∙ (ap (λ (b : Bool). kind_if b (kind_at shape.results 0)) w.1 ∙ kind_first shape.results t k),
    )

pub select_fine : (p : Pos) (a : Side) (as_ : List Side) (ks : List v.KeyType) (t : v.Ty) → a.kind ≡ Some (v.MapTy ks t) → map kind_in as_ ≡ map Some (map key_ty ks) → (select_faults p a as_ ≡ []) × ((select_side p a as_).kind ≡ Some t)
select_fine p a as_ ks t e h =
    let w = fits_all p (key_kinds ks) (map key_ty ks) as_ (keys_are ks) h in (
      ap (d.select_faults_at a.start p as_) e ∙ if_fine (are_typed as_) (matched_faults p (key_kinds ks) as_) w.0,
      ap (d.select_kind_at a.start p as_) e ∙ ap (λ (b : Bool). kind_if b (Some t)) w.1,
    )

update_fine : (p : Pos) (a : Side) (as_ : List Side) (b : Side) (ks : List v.KeyType) (t : v.Ty) → a.kind ≡ Some (v.MapTy ks t) → map kind_in as_ ≡ map Some (map key_ty ks) → b.kind ≡ Some t → (update_faults p a as_ b ≡ []) × ((update_side p a as_ b).kind ≡ Some (v.MapTy ks t))
update_fine p a as_ b ks t e h k =
    let w = fits_all p (key_kinds ks) (map key_ty ks) as_ (keys_are ks) h in
    let none : d.update_faults_in a.start p as_ b (v.MapTy ks t) ≡ [] = both_none (matched_faults p (key_kinds ks) as_) (wanting (Wants t) b) w.0 (no_want t b k) in
    let both : (are_typed as_ && d.is_typed_kind b.kind) ≡ true = ap (λ (z : Bool). z && d.is_typed_kind b.kind) (all_typed as_ (map key_ty ks) h) ∙ ap d.is_typed_kind k in (
      ap (d.update_faults_at a.start p as_ b) e ∙ if_fine (are_typed as_ && d.is_typed_kind b.kind) (d.update_faults_in a.start p as_ b (v.MapTy ks t)) none,
      ap (d.update_kind_at a.start p as_ b) e
          ∙ (ap (λ (z : Bool). kind_if (z && is_none (d.update_faults_in a.start p as_ b (v.MapTy ks t))) (Some (v.MapTy ks t))) both
          ∙ ap (λ (fs : List Fault). kind_if (is_none fs) (Some (v.MapTy ks t))) none),
    )

-- ---- expressions

module _ (g : Scope) (sig : Sig) (gives : Gives g sig) where
  post_constant : (bs : r.Brackets) (x : s.Ex) (a : Side) → (IsConstant x → a.is_constant ≡ true) → IsConstant (m.behind x bs) → (behind g a bs).side.is_constant ≡ true
  post_constant r.NoBracket x a k h = k h
  post_constant (r.Select p es bs) x a k h = absurd (brackets_constant bs (s.Select x (exs_of es)) h)
  post_constant (r.Update p es e bs) x a k h = absurd (brackets_constant bs (s.Update x (exs_of es) (ex_of e)) h)

  mutual
    ex_constant : (e : r.Ex) → IsConstant (ex_of e) → (judge g e).side.is_constant ≡ true
    ex_constant (r.Number p z) h = refl
    ex_constant (r.Truth p b) h = absurd h
    ex_constant (r.Constant p k) h = absurd h
    ex_constant (r.Read p x) h = absurd h
    ex_constant (r.Apply p f es) h = absurd h
    ex_constant (r.Old p e) h = absurd h
    ex_constant (r.Parens p e) h = ex_constant e h
    ex_constant (r.Prefix signs e) h = signs_constant signs (ex_of e) (judge g e).side (ex_constant e) h
    ex_constant (r.Postfix e bs) h = post_constant bs (ex_of e) (judge g e).side (ex_constant e) h
    ex_constant (r.Chain e ls) h = chain_constant ls (ex_of e) (judge g e).side (ex_constant e) h

    chain_constant : (ls : r.Links) (x : s.Ex) (a : Side) → (IsConstant x → a.is_constant ≡ true) → IsConstant (m.chained x ls) → (chained g a ls).side.is_constant ≡ true
    chain_constant r.NoLink x a k h = k h
    chain_constant (r.Link p op.Implies e ls) x a k h = absurd h
    chain_constant (r.Link p op.Iff e ls) x a k h = chain_constant ls (m.infix_of op.Iff x (ex_of e)) (infix_side op.Iff a (judge g e).side) (infix_constant op.Iff x (ex_of e) a (judge g e).side k (ex_constant e)) h
    chain_constant (r.Link p op.Explies e ls) x a k h = chain_constant ls (m.infix_of op.Explies x (ex_of e)) (infix_side op.Explies a (judge g e).side) (infix_constant op.Explies x (ex_of e) a (judge g e).side k (ex_constant e)) h
    chain_constant (r.Link p op.And e ls) x a k h = chain_constant ls (m.infix_of op.And x (ex_of e)) (infix_side op.And a (judge g e).side) (infix_constant op.And x (ex_of e) a (judge g e).side k (ex_constant e)) h
    chain_constant (r.Link p op.Or e ls) x a k h = chain_constant ls (m.infix_of op.Or x (ex_of e)) (infix_side op.Or a (judge g e).side) (infix_constant op.Or x (ex_of e) a (judge g e).side k (ex_constant e)) h
    chain_constant (r.Link p op.Equal e ls) x a k h = chain_constant ls (m.infix_of op.Equal x (ex_of e)) (infix_side op.Equal a (judge g e).side) (infix_constant op.Equal x (ex_of e) a (judge g e).side k (ex_constant e)) h
    chain_constant (r.Link p op.Unequal e ls) x a k h = chain_constant ls (m.infix_of op.Unequal x (ex_of e)) (infix_side op.Unequal a (judge g e).side) (infix_constant op.Unequal x (ex_of e) a (judge g e).side k (ex_constant e)) h
    chain_constant (r.Link p op.Less e ls) x a k h = chain_constant ls (m.infix_of op.Less x (ex_of e)) (infix_side op.Less a (judge g e).side) (infix_constant op.Less x (ex_of e) a (judge g e).side k (ex_constant e)) h
    chain_constant (r.Link p op.AtMost e ls) x a k h = chain_constant ls (m.infix_of op.AtMost x (ex_of e)) (infix_side op.AtMost a (judge g e).side) (infix_constant op.AtMost x (ex_of e) a (judge g e).side k (ex_constant e)) h
    chain_constant (r.Link p op.Greater e ls) x a k h = chain_constant ls (m.infix_of op.Greater x (ex_of e)) (infix_side op.Greater a (judge g e).side) (infix_constant op.Greater x (ex_of e) a (judge g e).side k (ex_constant e)) h
    chain_constant (r.Link p op.AtLeast e ls) x a k h = chain_constant ls (m.infix_of op.AtLeast x (ex_of e)) (infix_side op.AtLeast a (judge g e).side) (infix_constant op.AtLeast x (ex_of e) a (judge g e).side k (ex_constant e)) h
    chain_constant (r.Link p op.Plus e ls) x a k h = chain_constant ls (m.infix_of op.Plus x (ex_of e)) (infix_side op.Plus a (judge g e).side) (infix_constant op.Plus x (ex_of e) a (judge g e).side k (ex_constant e)) h
    chain_constant (r.Link p op.Minus e ls) x a k h = chain_constant ls (m.infix_of op.Minus x (ex_of e)) (infix_side op.Minus a (judge g e).side) (infix_constant op.Minus x (ex_of e) a (judge g e).side k (ex_constant e)) h
    chain_constant (r.Link p op.Times e ls) x a k h = chain_constant ls (m.infix_of op.Times x (ex_of e)) (infix_side op.Times a (judge g e).side) (infix_constant op.Times x (ex_of e) a (judge g e).side k (ex_constant e)) h

  var_fine : (x : s.Var) (t : v.Ty) → VarHasType sig x t → variable_kind g x ≡ Some t
  var_fine (s.Global k) t h = gives.globals k t h
  var_fine (s.Local k) t h = gives.frame k t h

  link_fine : (sign : InfixSign) (p : Pos) (e : r.Ex) (ls : r.Links) (x : s.Ex) (a : Side) (t : v.Ty) → Knows sig x a → ((u : v.Ty) → HasType (ex_of e) sig u → IsLinear (ex_of e) → IsFine (judge g e) u) → ((u : v.Ty) × HasType (m.infix_of sign x (ex_of e)) sig u) × IsLinear (m.infix_of sign x (ex_of e)) → (Knows sig (m.infix_of sign x (ex_of e)) (infix_side sign a (judge g e).side) → IsFine (chained g (infix_side sign a (judge g e).side) ls) t) → IsFine (after ((judge g e).faults ++ infix_faults sign p a (judge g e).side) (chained g (infix_side sign a (judge g e).side) ls)) t
  link_fine sign p e ls x a t ka fe w next =
      let q = sides_have sign sig x (ex_of e) w.0.0 w.0.1 in
      let l = linear_sides sign x (ex_of e) w.1 in
      let inner = fe q.right q.has_right l.2 in
      let kb : Knows sig (ex_of e) (judge g e).side = record { kind = λ u h. (fe u h l.2).1; constant = ex_constant e } in
      let own = infix_fine sign p sig x (ex_of e) a (judge g e).side w.0.0 ka kb w.0.1 w.1 in
      let rest = next (infix_knows sign sig x (ex_of e) a (judge g e).side ka kb) in
      (both_none ((judge g e).faults ++ infix_faults sign p a (judge g e).side) (chained g (infix_side sign a (judge g e).side) ls).faults (both_none (judge g e).faults (infix_faults sign p a (judge g e).side) inner.0 own) rest.0, rest.1)

  mutual
    ex_fine : (e : r.Ex) (t : v.Ty) → HasType (ex_of e) sig t → IsLinear (ex_of e) → IsFine (judge g e) t
    ex_fine (r.Number p z) t h l = (refl, ap Some (sym h))
    ex_fine (r.Truth p b) t h l = (refl, ap Some (sym h))
    ex_fine (r.Constant p k) t h l = (refl, gives.constants k t h)
    ex_fine (r.Read p x) t h l = (refl, var_fine x t h)
    ex_fine (r.Apply p f es) t h l =
        let shape = gives.functions f h.0 h.1 in
        let parts = exs_fine es h.0.params h.3 l in
        let own = apply_fine p (slice_get g.functions f) shape.shape h.0.params h.0.result (sides_of (judge_all g es)) shape.is_there shape.params shape.results parts.1 in
        (both_none (faults_of (judge_all g es)) (apply_faults p (slice_get g.functions f) (sides_of (judge_all g es))) parts.0 own.0, own.1 ∙ ap Some (sym h.2))
    ex_fine (r.Old p e) t h l = let w = ex_fine e t h l in (w.0, w.1)
    ex_fine (r.Parens p e) t h l = let w = ex_fine e t h l in (w.0, w.1)
    ex_fine (r.Prefix signs e) t h l =
        let q = signs_have signs sig (ex_of e) t h l in
        let inner = ex_fine e q.0.0 q.0.1 q.1 in
        let w = signs_fine signs sig (ex_of e) (judge g e).side (λ u k. (ex_fine e u k q.1).1) t h l in
        (both_none (judge g e).faults (d.signed signs (judge g e).side).faults inner.0 w.0, w.1)
    ex_fine (r.Postfix e bs) t h l =
        let q = brackets_have bs sig (ex_of e) t h l in
        let inner = ex_fine e q.0.0 q.0.1 q.1 in
        let w = brackets_fine bs (ex_of e) (judge g e).side (λ u k. (ex_fine e u k q.1).1) t h l in
        (both_none (judge g e).faults (behind g (judge g e).side bs).faults inner.0 w.0, w.1)
    ex_fine (r.Chain e ls) t h l =
        let q = links_have ls sig (ex_of e) t h l in
        let inner = ex_fine e q.0.0 q.0.1 q.1 in
        let w = chain_fine ls (ex_of e) (judge g e).side (record { kind = λ u k. (ex_fine e u k q.1).1; constant = ex_constant e }) t h l in
        (both_none (judge g e).faults (chained g (judge g e).side ls).faults inner.0 w.0, w.1)

    exs_fine : (es : r.Exs) (ts : List v.Ty) → HaveTypes (exs_of es) sig ts → AreLinear (exs_of es) → (faults_of (judge_all g es) ≡ []) × (map kind_in (sides_of (judge_all g es)) ≡ map Some ts)
    exs_fine r.NoMore ts h l = (refl, ap (map Some) (sym h))
    exs_fine (r.More e es) [] h l = absurd h
    exs_fine (r.More e es) (t ∷ ts) h l =
        let w = ex_fine e t h.0 l.0 in
        let rest = exs_fine es ts h.1 l.1 in (
          both_none (judge g e).faults (faults_of (judge_all g es)) w.0 rest.0,
          ap (λ (k : Kind). k ∷ map kind_in (sides_of (judge_all g es))) w.1 ∙ ap (λ (ks : List Kind). Some t ∷ ks) rest.1,
        )

    brackets_fine : (bs : r.Brackets) (x : s.Ex) (a : Side) → ((t : v.Ty) → HasType x sig t → a.kind ≡ Some t) → (t : v.Ty) → HasType (m.behind x bs) sig t → IsLinear (m.behind x bs) → IsFine (behind g a bs) t
    brackets_fine r.NoBracket x a k t h l = (refl, k t h)
    brackets_fine (r.Select p es bs) x a k t h l =
        let w = brackets_have bs sig (s.Select x (exs_of es)) t h l in
        let as_ = sides_of (judge_all g es) in
        let parts = exs_fine es (map key_ty w.0.1.0) w.0.1.2 w.1.1 in
        let own = select_fine p a as_ w.0.1.0 w.0.0 (k (v.MapTy w.0.1.0 w.0.0) w.0.1.1) parts.1 in
        let rest = brackets_fine bs (s.Select x (exs_of es)) (select_side p a as_) (λ u q. (select_fine p a as_ q.0 u (k (v.MapTy q.0 u) q.1) (exs_fine es (map key_ty q.0) q.2 w.1.1).1).1) t h l in
        (both_none (faults_of (judge_all g es) ++ select_faults p a as_) (behind g (select_side p a as_) bs).faults (both_none (faults_of (judge_all g es)) (select_faults p a as_) parts.0 own.0) rest.0, rest.1)
    brackets_fine (r.Update p es e bs) x a k t h l =
        let w = brackets_have bs sig (s.Update x (exs_of es) (ex_of e)) t h l in
        let as_ = sides_of (judge_all g es) in
        let b = (judge g e).side in
        let parts = exs_fine es (map key_ty w.0.1.0) w.0.1.1.3 w.1.1 in
        let value = ex_fine e w.0.1.1.0 w.0.1.1.4 w.1.2 in
        let own = update_fine p a as_ b w.0.1.0 w.0.1.1.0 (k (v.MapTy w.0.1.0 w.0.1.1.0) w.0.1.1.2) parts.1 value.1 in
        let rest = brackets_fine bs (s.Update x (exs_of es) (ex_of e)) (update_side p a as_ b) (λ u q. (update_fine p a as_ b q.0 q.1.0 (k (v.MapTy q.0 q.1.0) q.1.2) (exs_fine es (map key_ty q.0) q.1.3 w.1.1).1 (ex_fine e q.1.0 q.1.4 w.1.2).1).1 ∙ ap Some (sym q.1.1)) t h l in
        (both_none (faults_of (judge_all g es) ++ ((judge g e).faults ++ update_faults p a as_ b)) (behind g (update_side p a as_ b) bs).faults (both_none (faults_of (judge_all g es)) ((judge g e).faults ++ update_faults p a as_ b) parts.0 (both_none (judge g e).faults (update_faults p a as_ b) value.0 own.0)) rest.0, rest.1)

    chain_fine : (ls : r.Links) (x : s.Ex) (a : Side) → Knows sig x a → (t : v.Ty) → HasType (m.chained x ls) sig t → IsLinear (m.chained x ls) → IsFine (chained g a ls) t
    chain_fine r.NoLink x a ka t h l = (refl, ka.kind t h)
    chain_fine (r.Link p op.Implies e ls) x a ka t h l =
        let q = links_have ls sig (ex_of e) v.BoolTy h.2 l.2 in
        let inner = ex_fine e q.0.0 q.0.1 q.1 in
        let kb : Knows sig (ex_of e) (judge g e).side = record { kind = λ u k. (ex_fine e u k q.1).1; constant = ex_constant e } in
        let j = chained g (judge g e).side ls in
        let rest = chain_fine ls (ex_of e) (judge g e).side kb v.BoolTy h.2 l.2 in
        let kj : Knows sig (m.chained (ex_of e) ls) j.side = record { kind = λ u k. (chain_fine ls (ex_of e) (judge g e).side kb u k l.2).1; constant = chain_constant ls (ex_of e) (judge g e).side (ex_constant e) } in
        let own = infix_fine op.Implies p sig x (m.chained (ex_of e) ls) a j.side t ka kj h l in
        let all = infix_knows op.Implies sig x (m.chained (ex_of e) ls) a j.side ka kj in
        (both_none (judge g e).faults (j.faults ++ infix_faults op.Implies p a j.side) inner.0 (both_none j.faults (infix_faults op.Implies p a j.side) rest.0 own), all.kind t h)
    chain_fine (r.Link p op.Iff e ls) x a ka t h l = link_fine op.Iff p e ls x a t ka (ex_fine e) (links_have ls sig (m.infix_of op.Iff x (ex_of e)) t h l) (λ k. chain_fine ls (m.infix_of op.Iff x (ex_of e)) (infix_side op.Iff a (judge g e).side) k t h l)
    chain_fine (r.Link p op.Explies e ls) x a ka t h l = link_fine op.Explies p e ls x a t ka (ex_fine e) (links_have ls sig (m.infix_of op.Explies x (ex_of e)) t h l) (λ k. chain_fine ls (m.infix_of op.Explies x (ex_of e)) (infix_side op.Explies a (judge g e).side) k t h l)
    chain_fine (r.Link p op.And e ls) x a ka t h l = link_fine op.And p e ls x a t ka (ex_fine e) (links_have ls sig (m.infix_of op.And x (ex_of e)) t h l) (λ k. chain_fine ls (m.infix_of op.And x (ex_of e)) (infix_side op.And a (judge g e).side) k t h l)
    chain_fine (r.Link p op.Or e ls) x a ka t h l = link_fine op.Or p e ls x a t ka (ex_fine e) (links_have ls sig (m.infix_of op.Or x (ex_of e)) t h l) (λ k. chain_fine ls (m.infix_of op.Or x (ex_of e)) (infix_side op.Or a (judge g e).side) k t h l)
    chain_fine (r.Link p op.Equal e ls) x a ka t h l = link_fine op.Equal p e ls x a t ka (ex_fine e) (links_have ls sig (m.infix_of op.Equal x (ex_of e)) t h l) (λ k. chain_fine ls (m.infix_of op.Equal x (ex_of e)) (infix_side op.Equal a (judge g e).side) k t h l)
    chain_fine (r.Link p op.Unequal e ls) x a ka t h l = link_fine op.Unequal p e ls x a t ka (ex_fine e) (links_have ls sig (m.infix_of op.Unequal x (ex_of e)) t h l) (λ k. chain_fine ls (m.infix_of op.Unequal x (ex_of e)) (infix_side op.Unequal a (judge g e).side) k t h l)
    chain_fine (r.Link p op.Less e ls) x a ka t h l = link_fine op.Less p e ls x a t ka (ex_fine e) (links_have ls sig (m.infix_of op.Less x (ex_of e)) t h l) (λ k. chain_fine ls (m.infix_of op.Less x (ex_of e)) (infix_side op.Less a (judge g e).side) k t h l)
    chain_fine (r.Link p op.AtMost e ls) x a ka t h l = link_fine op.AtMost p e ls x a t ka (ex_fine e) (links_have ls sig (m.infix_of op.AtMost x (ex_of e)) t h l) (λ k. chain_fine ls (m.infix_of op.AtMost x (ex_of e)) (infix_side op.AtMost a (judge g e).side) k t h l)
    chain_fine (r.Link p op.Greater e ls) x a ka t h l = link_fine op.Greater p e ls x a t ka (ex_fine e) (links_have ls sig (m.infix_of op.Greater x (ex_of e)) t h l) (λ k. chain_fine ls (m.infix_of op.Greater x (ex_of e)) (infix_side op.Greater a (judge g e).side) k t h l)
    chain_fine (r.Link p op.AtLeast e ls) x a ka t h l = link_fine op.AtLeast p e ls x a t ka (ex_fine e) (links_have ls sig (m.infix_of op.AtLeast x (ex_of e)) t h l) (λ k. chain_fine ls (m.infix_of op.AtLeast x (ex_of e)) (infix_side op.AtLeast a (judge g e).side) k t h l)
    chain_fine (r.Link p op.Plus e ls) x a ka t h l = link_fine op.Plus p e ls x a t ka (ex_fine e) (links_have ls sig (m.infix_of op.Plus x (ex_of e)) t h l) (λ k. chain_fine ls (m.infix_of op.Plus x (ex_of e)) (infix_side op.Plus a (judge g e).side) k t h l)
    chain_fine (r.Link p op.Minus e ls) x a ka t h l = link_fine op.Minus p e ls x a t ka (ex_fine e) (links_have ls sig (m.infix_of op.Minus x (ex_of e)) t h l) (λ k. chain_fine ls (m.infix_of op.Minus x (ex_of e)) (infix_side op.Minus a (judge g e).side) k t h l)
    chain_fine (r.Link p op.Times e ls) x a ka t h l = link_fine op.Times p e ls x a t ka (ex_fine e) (links_have ls sig (m.infix_of op.Times x (ex_of e)) t h l) (λ k. chain_fine ls (m.infix_of op.Times x (ex_of e)) (infix_side op.Times a (judge g e).side) k t h l)

pub typed_fine : (g : Scope) (sig : Sig) (e : r.Ex) (t : v.Ty) → Gives g sig → HasType (ex_of e) sig t → IsLinear (ex_of e) → ((judge g e).faults ≡ []) × ((judge g e).side.kind ≡ Some t)
typed_fine g sig e t gives h l = ex_fine g sig gives e t h l

pub typed_all : (g : Scope) (sig : Sig) (es : r.Exs) (ts : List v.Ty) → Gives g sig → HaveTypes (exs_of es) sig ts → AreLinear (exs_of es) → (faults_of (judge_all g es) ≡ []) × (map kind_in (sides_of (judge_all g es)) ≡ map Some ts)
typed_all g sig es ts gives h l = exs_fine g sig gives es ts h l
