-- Nodes over good parts are good.
use Rattle.std.proofs.Common.{◌≡◌, ℕ, Bool, true, false, ◌&&◌, List, [], ◌∷◌, ◌++◌, map, Option, Some, None, refl, sym, ap, ◌∙◌, subst}
use Rattle.bg_base.specs.declared.pos.Pos.{Pos}
use Rattle.bg_text.specs.declared.expr.PrefixSign.{PrefixSign}
use Rattle.bg_text.specs.declared.expr.PrefixSign.TheVariants as prefix
use Rattle.bg_text.specs.declared.expr.TreePrefix.{TreePrefix}
use Rattle.bg_ast.specs.Values as v
use Rattle.bg_ast.specs.Syntax.{Ex, Exs, Select, Update, Apply}
use Rattle.bg_ast.specs.Meaning as m
use Rattle.bg_sense.specs.Typing.{Sig, key_ty, HasType, HaveTypes}
use Rattle.bg_sense.specs.Typed.{IsConstant, IsLinear}
use Rattle.bg_kinds.specs.Faults.{Wants, is_none}
use Rattle.bg_kinds.specs.Kinds.{Kind}
use Rattle.bg_typing.specs.Sides.{Shape, Side, kind_if, is_typed_kind, kind_at, are_typed, wanting, matched_faults, prefix_type, is_minus, does_fit, signed, key_kinds, indices_faults_at, select_kind_at, select_side, update_faults_in, update_kind_at, update_side, apply_kind, apply_side}
use Rattle.bg_typed.specs.Agreement.{IsFunction}
use Rattle.bg_typed.proofs.Bits.{never, nothing, and_left, and_right, split_none, kind_if_some, some_same, wanted_kind, keys_are}
use Rattle.bg_typed.proofs.Good.{Good, AllGood, matched_types, are_linear}

-- an expression has the types that its side has
abbrev Told : Sig → Kind → Ex → Type 0
Told s k x = (u : v.Ty) → k ≡ Some u → HasType x s u

abbrev Linear : Kind → Ex → Type 0
Linear k x = (u : v.Ty) → k ≡ Some u → IsLinear x

pub no_map : (b : Bool) → (b && false) ≡ true → ⊥
no_map b h = never (and_right b false h)

pub keyed : (s : Sig) (p : Pos) (as_ : List Side) (xs : Exs) (ks : List v.KeyType) → AllGood s as_ xs → are_typed as_ ≡ true → is_none (matched_faults p (key_kinds ks) as_) ≡ true → HaveTypes xs s (map key_ty ks)
keyed s p as_ xs ks g t n =
    matched_types s p as_ xs (map key_ty ks) g t (subst (λ (ws : List Kind). is_none (matched_faults p ws as_) ≡ true) (keys_are ks) n)

select_typed : (s : Sig) (start p : Pos) (x : Ex) (as_ : List Side) (xs : Exs) (k : Kind) (t : v.Ty) → Told s k x → AllGood s as_ xs → select_kind_at start p as_ k ≡ Some t → HasType (Select x xs) s t
select_typed s start p x as_ xs None t h g e = nothing t e
select_typed s start p x as_ xs (Some v.IntTy) t h g e = absurd (no_map (are_typed as_) (kind_if_some _ _ t e).0)
select_typed s start p x as_ xs (Some v.BoolTy) t h g e = absurd (no_map (are_typed as_) (kind_if_some _ _ t e).0)
select_typed s start p x as_ xs (Some (v.UserTy i)) t h g e = absurd (no_map (are_typed as_) (kind_if_some _ _ t e).0)
select_typed s start p x as_ xs (Some (v.MapTy ks u)) t h g e =
    let both = kind_if_some (are_typed as_ && is_none (matched_faults p (key_kinds ks) as_)) (Some u) t e in
    let keys = keyed s p as_ xs ks g (and_left (are_typed as_) _ both.0) (and_right (are_typed as_) _ both.0) in
    let same : u ≡ t = some_same u t both.1 in
    subst (λ t. HasType (Select x xs) s t) same (ks, h (v.MapTy ks u) refl, keys)

select_linear : (s : Sig) (start p : Pos) (x : Ex) (as_ : List Side) (xs : Exs) (k : Kind) (t : v.Ty) → Linear k x → AllGood s as_ xs → select_kind_at start p as_ k ≡ Some t → IsLinear (Select x xs)
select_linear s start p x as_ xs None t h g e = nothing t e
select_linear s start p x as_ xs (Some u) t h g e =
    let both = kind_if_some (are_typed as_ && is_none (indices_faults_at start p as_ u)) (Some (v.result_of u)) t e in
    (h u refl, are_linear s as_ xs g (and_left (are_typed as_) _ both.0))

pub good_select : (s : Sig) (p : Pos) (a : Side) (x : Ex) (as_ : List Side) (xs : Exs) → Good s a x → AllGood s as_ xs → Good s (select_side p a as_) (Select x xs)
good_select s p a x as_ xs h g =
    record {
      typed = λ t e. select_typed s a.start p x as_ xs a.kind t h.typed g e;
      linear = λ t e. select_linear s a.start p x as_ xs a.kind t h.linear g e;
      constant = λ e. never e;
    }

no_update : (b c : Bool) → ((b && c) && false) ≡ true → ⊥
no_update b c h = no_map (b && c) h

update_typed : (s : Sig) (start p : Pos) (x : Ex) (as_ : List Side) (xs : Exs) (b : Side) (y : Ex) (k : Kind) (t : v.Ty) → Told s k x → AllGood s as_ xs → Good s b y → update_kind_at start p as_ b k ≡ Some t → HasType (Update x xs y) s t
update_typed s start p x as_ xs b y None t h g i e = nothing t e
update_typed s start p x as_ xs b y (Some v.IntTy) t h g i e = absurd (no_update (are_typed as_) (is_typed_kind b.kind) (kind_if_some _ _ t e).0)
update_typed s start p x as_ xs b y (Some v.BoolTy) t h g i e = absurd (no_update (are_typed as_) (is_typed_kind b.kind) (kind_if_some _ _ t e).0)
update_typed s start p x as_ xs b y (Some (v.UserTy j)) t h g i e = absurd (no_update (are_typed as_) (is_typed_kind b.kind) (kind_if_some _ _ t e).0)
update_typed s start p x as_ xs b y (Some (v.MapTy ks u)) t h g i e =
    let both = kind_if_some ((are_typed as_ && is_typed_kind b.kind) && is_none (matched_faults p (key_kinds ks) as_ ++ wanting (Wants u) b)) (Some (v.MapTy ks u)) t e in
    let parts = and_left (are_typed as_ && is_typed_kind b.kind) _ both.0 in
    let none = split_none (matched_faults p (key_kinds ks) as_) (wanting (Wants u) b) (and_right (are_typed as_ && is_typed_kind b.kind) _ both.0) in
    let keys = keyed s p as_ xs ks g (and_left (are_typed as_) _ parts) none.0 in
    let value = i.typed u (wanted_kind b.start u b.kind (and_right (are_typed as_) _ parts) none.1) in
    let same : v.MapTy ks u ≡ t = some_same (v.MapTy ks u) t both.1 in
    subst (λ t. HasType (Update x xs y) s t) same (ks, (u, refl, h (v.MapTy ks u) refl, keys, value))

update_linear : (s : Sig) (start p : Pos) (x : Ex) (as_ : List Side) (xs : Exs) (b : Side) (y : Ex) (k : Kind) (t : v.Ty) → Linear k x → AllGood s as_ xs → Linear b.kind y → update_kind_at start p as_ b k ≡ Some t → IsLinear (Update x xs y)
update_linear s start p x as_ xs b y None t h g i e = nothing t e
update_linear s start p x as_ xs b y (Some u) t h g i e =
    let both = kind_if_some ((are_typed as_ && is_typed_kind b.kind) && is_none (update_faults_in start p as_ b u)) (Some u) t e in
    let parts = and_left (are_typed as_ && is_typed_kind b.kind) _ both.0 in
    (h u refl, are_linear s as_ xs g (and_left (are_typed as_) _ parts), by_kind b.kind (and_right (are_typed as_) _ parts) i)
  where
    by_kind : (l : Kind) → is_typed_kind l ≡ true → Linear l y → IsLinear y
    by_kind None h i = never h
    by_kind (Some w) h i = i w refl

pub good_update : (s : Sig) (p : Pos) (a : Side) (x : Ex) (as_ : List Side) (xs : Exs) (b : Side) (y : Ex) → Good s a x → AllGood s as_ xs → Good s b y → Good s (update_side p a as_ b) (Update x xs y)
good_update s p a x as_ xs b y h g i =
    record {
      typed = λ t e. update_typed s a.start p x as_ xs b y a.kind t h.typed g i e;
      linear = λ t e. update_linear s a.start p x as_ xs b y a.kind t h.linear g i.linear e;
      constant = λ e. never e;
    }

apply_typed : (s : Sig) (p : Pos) (k : ℕ) (o : Option Shape) (as_ : List Side) (xs : Exs) (t : v.Ty) → ((f : Shape) → o ≡ Some f → IsFunction s k f) → AllGood s as_ xs → apply_kind p o as_ ≡ Some t → HasType (Apply k xs) s t
apply_typed s p k None as_ xs t is g e = nothing t e
apply_typed s p k (Some f) as_ xs t is g e =
    let fn = is f refl in
    let both = kind_if_some (are_typed as_ && is_none (matched_faults p f.params as_)) (kind_at f.results 0) t e in
    let fits = subst (λ (ws : List Kind). is_none (matched_faults p ws as_) ≡ true) fn.params (and_right (are_typed as_) _ both.0) in
    let types = matched_types s p as_ xs fn.declared.params g (and_left (are_typed as_) _ both.0) fits in
    let gives : Some fn.declared.result ≡ Some t = sym (ap (λ l. kind_at l 0) fn.results) ∙ both.1 in
    let same : t ≡ fn.declared.result = sym (some_same fn.declared.result t gives) in
    (fn.declared, fn.is_there, same, types)

apply_linear : (s : Sig) (p : Pos) (k : ℕ) (o : Option Shape) (as_ : List Side) (xs : Exs) (t : v.Ty) → AllGood s as_ xs → apply_kind p o as_ ≡ Some t → IsLinear (Apply k xs)
apply_linear s p k None as_ xs t g e = nothing t e
apply_linear s p k (Some f) as_ xs t g e =
    let both = kind_if_some (are_typed as_ && is_none (matched_faults p f.params as_)) (kind_at f.results 0) t e in
    are_linear s as_ xs g (and_left (are_typed as_) _ both.0)

pub good_apply : (s : Sig) (p : Pos) (k : ℕ) (o : Option Shape) (as_ : List Side) (xs : Exs) → ((f : Shape) → o ≡ Some f → IsFunction s k f) → AllGood s as_ xs → Good s (apply_side p o as_) (Apply k xs)
good_apply s p k o as_ xs is g =
    record {
      typed = λ t e. apply_typed s p k o as_ xs t is g e;
      linear = λ t e. apply_linear s p k o as_ xs t g e;
      constant = λ e. never e;
    }

-- a sign before an expression
prefix_fits : (sign : PrefixSign) (a : Side) (t : v.Ty) → kind_if (does_fit (Wants (prefix_type sign)) a) (Some (prefix_type sign)) ≡ Some t → (a.kind ≡ Some (prefix_type sign)) × (t ≡ prefix_type sign)
prefix_fits sign a t e =
    let both = kind_if_some (is_typed_kind a.kind && is_none (wanting (Wants (prefix_type sign)) a)) (Some (prefix_type sign)) t e in
    (wanted_kind a.start (prefix_type sign) a.kind (and_left (is_typed_kind a.kind) _ both.0) (and_right (is_typed_kind a.kind) _ both.0), sym (some_same (prefix_type sign) t both.1))

prefix_typed : (s : Sig) (sign : PrefixSign) (a : Side) (x : Ex) (t : v.Ty) → Told s a.kind x → kind_if (does_fit (Wants (prefix_type sign)) a) (Some (prefix_type sign)) ≡ Some t → HasType (m.prefix_of sign x) s t
prefix_typed s prefix.Not a x t h e = let f = prefix_fits prefix.Not a t e in (f.1, h v.BoolTy f.0)
prefix_typed s prefix.Minus a x t h e = let f = prefix_fits prefix.Minus a t e in (f.1, h v.IntTy f.0)

prefix_linear : (sign : PrefixSign) (a : Side) (x : Ex) (t : v.Ty) → Linear a.kind x → kind_if (does_fit (Wants (prefix_type sign)) a) (Some (prefix_type sign)) ≡ Some t → IsLinear (m.prefix_of sign x)
prefix_linear prefix.Not a x t h e = h v.BoolTy (prefix_fits prefix.Not a t e).0
prefix_linear prefix.Minus a x t h e = h v.IntTy (prefix_fits prefix.Minus a t e).0

prefix_constant : (sign : PrefixSign) (c : Bool) (x : Ex) → (c ≡ true → IsConstant x) → (is_minus sign && c) ≡ true → IsConstant (m.prefix_of sign x)
prefix_constant prefix.Not c x h e = never e
prefix_constant prefix.Minus c x h e = h e

pub good_signed : (s : Sig) (xs : List TreePrefix) (a : Side) (e : Ex) → Good s a e → Good s (signed xs a).side (m.signed xs e)
good_signed s [] a e h = h
good_signed s (x ∷ xs) a e h =
    let inner = good_signed s xs a e h in
    let side = (signed xs a).side in
    record {
      typed = λ t k. prefix_typed s x.sign side (m.signed xs e) t inner.typed k;
      linear = λ t k. prefix_linear x.sign side (m.signed xs e) t inner.linear k;
      constant = λ k. prefix_constant x.sign side.is_constant (m.signed xs e) inner.constant k;
    }
