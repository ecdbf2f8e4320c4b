-- Tests and lists of faults, taken apart.
use Rattle.std.proofs.Common.{◌≡◌, Bool, true, false, ◌&&◌, if◌then◌else◌, nat_eq, List, [], ◌∷◌, ◌++◌, length, map, Some, None, refl, sym, ap}
use Rattle.std.proofs.lemmas.Bool.{eqb-true}
use Rattle.bg_base.specs.declared.pos.Pos.{Pos}
use Rattle.bg_ast.specs.Values as v
use Rattle.bg_sense.specs.Types.{ty_eq}
use Rattle.bg_sense.specs.Typing.{key_ty}
use Rattle.bg_kinds.specs.Faults.{Fault, Arity, Mismatch, Wants, against, is_none}
use Rattle.bg_kinds.specs.Kinds.{Kind}
use Rattle.bg_kinds.proofs.Sameness.{types_same}
use Rattle.bg_typing.specs.Sides.{Side, kind_if, is_typed_kind, wanting_at, pairs_faults, matched_faults, key_kinds}

pub never : {A : Type 0} → false ≡ true → A
never h = absurd (let bad : ⊥ = cc in bad)

pub nothing : {A : Type 0} (t : v.Ty) → None ≡ Some t → A
nothing t h = absurd (let bad : ⊥ = cc in bad)

pub and_left : (a b : Bool) → (a && b) ≡ true → a ≡ true
and_left true b h = refl
and_left false b h = h

pub and_right : (a b : Bool) → (a && b) ≡ true → b ≡ true
and_right true b h = h
and_right false b h = never h

pub split_none : (fs gs : List Fault) → is_none (fs ++ gs) ≡ true → (is_none fs ≡ true) × (is_none gs ≡ true)
split_none [] gs h = (refl, h)
split_none (f ∷ fs) gs h = never h

pub kind_if_some : (b : Bool) (k : Kind) (t : v.Ty) → kind_if b k ≡ Some t → (b ≡ true) × (k ≡ Some t)
kind_if_some true k t h = (refl, h)
kind_if_some false k t h = nothing t h

pub some_same : (t u : v.Ty) → Some t ≡ Some u → t ≡ u
some_same t u h = cc

met : (b : Bool) (f : Fault) → is_none (if b then [] else f ∷ []) ≡ true → b ≡ true
met true f h = refl
met false f h = h

pub wanted_type : (p : Pos) (w t : v.Ty) → is_none (against p (Wants w) t) ≡ true → w ≡ t
wanted_type p w t h = types_same w t (met (ty_eq w t) (Mismatch p (Wants w) t) h)

pub wanted_kind : (p : Pos) (w : v.Ty) (k : Kind) → is_typed_kind k ≡ true → is_none (wanting_at p (Wants w) k) ≡ true → k ≡ Some w
wanted_kind p w None h n = never h
wanted_kind p w (Some t) h n = ap Some (sym (wanted_type p w t n))

pub typed_some : (k : Kind) → is_typed_kind k ≡ true → (t : v.Ty) × (k ≡ Some t)
typed_some None h = never h
typed_some (Some t) h = (t, refl)

matched : (b : Bool) (fs : List Fault) (f : Fault) → is_none (if b then fs else f ∷ []) ≡ true → (b ≡ true) × (is_none fs ≡ true)
matched true fs f h = (refl, h)
matched false fs f h = never h

pub matched_none : (p : Pos) (ws : List Kind) (bs : List Side) → is_none (matched_faults p ws bs) ≡ true → (length bs ≡ length ws) × (is_none (pairs_faults ws bs) ≡ true)
matched_none p ws bs h =
    let both = matched (nat_eq (length bs) (length ws)) (pairs_faults ws bs) (Arity p) h in
    (eqb-true (length bs) (length ws) both.0, both.1)

pub keys_are : (ks : List v.KeyType) → key_kinds ks ≡ map Some (map key_ty ks)
keys_are [] = refl
keys_are (k ∷ ks) = ap (λ l. Some (key_ty k) ∷ l) (keys_are ks)
