-- Sets of kinds.
use Rattle.std.proofs.Common.{◌≡◌, ℕ, List, [], ◌∷◌, ◌++◌, Bool, true, false, refl, sym, subst, eqb}
use Rattle.std.proofs.lemmas.Bool.{eqb-true}
use Rattle.std.specs.Prelude.{◌&&◌, ◌||◌, not}
use Rattle.bg_text.specs.declared.token.Kind.{Kind}
use Rattle.bg_reader.specs.Kinds.{number}
use Rattle.bg_reader.proofs.Samples.{is_itself}
use Rattle.bg_grammar.specs.Sets.{has, is_in, within, apart}

pub and_true : (a b : Bool) → (a && b) ≡ true → (a ≡ true) × (b ≡ true)
and_true true true h = (refl, refl)
and_true true false h = absurd cc
and_true false b h = absurd cc

within_step : (j : Kind) (S F : List Kind) (n : ℕ) (b : Bool) → eqb n (number j) ≡ b → is_in F j ≡ true → (has S n ≡ true → has F n ≡ true) → has (j ∷ S) n ≡ true → has F n ≡ true
within_step j S F n true e w more k = subst (λ i. has F i ≡ true) (sym (eqb-true n (number j) e)) w
within_step j S F n false e w more k = more (rw e at k)

within_has : (S F : List Kind) (n : ℕ) → within S F ≡ true → has S n ≡ true → has F n ≡ true
within_has [] F n h k = absurd cc
within_has (j ∷ S) F n h k = let w = and_true (is_in F j) (within S F) h in within_step j S F n (eqb n (number j)) refl w.0 (within_has S F n w.1) k

pub within_is : (S F : List Kind) (k : Kind) → within S F ≡ true → is_in S k ≡ true → is_in F k ≡ true
within_is S F k h w = within_has S F (number k) h w

not_true : (a : Bool) → not a ≡ true → a ≡ true → ⊥
not_true true h k = absurd cc
not_true false h k = absurd cc

apart_step : (j : Kind) (K F : List Kind) (n : ℕ) (b : Bool) → eqb n (number j) ≡ b → not (is_in F j) ≡ true → has K n ≡ false → has F n ≡ true → has (j ∷ K) n ≡ false
apart_step j K F n true e w more k = absurd (not_true (is_in F j) w (subst (λ i. has F i ≡ true) (eqb-true n (number j) e) k))
apart_step j K F n false e w more k = rw e more

apart_has : (K F : List Kind) (n : ℕ) → apart K F ≡ true → has F n ≡ true → has K n ≡ false
apart_has [] F n h k = refl
apart_has (j ∷ K) F n h k = let w = and_true (not (is_in F j)) (apart K F) h in apart_step j K F n (eqb n (number j)) refl w.0 (apart_has K F n w.1 k) k

pub apart_is : (K F : List Kind) (k : Kind) → apart K F ≡ true → is_in F k ≡ true → is_in K k ≡ false
apart_is K F k h w = apart_has K F (number k) h w

or_right : (a b : Bool) → b ≡ true → (a || b) ≡ true
or_right true b h = refl
or_right false b h = h

left_step : (j : Kind) (S T : List Kind) (n : ℕ) (b : Bool) → eqb n (number j) ≡ b → (has S n ≡ true → has (S ++ T) n ≡ true) → has (j ∷ S) n ≡ true → has (j ∷ S ++ T) n ≡ true
left_step j S T n true e more h = rw e refl
left_step j S T n false e more h = rw e (more (rw e at h))

has_left : (S T : List Kind) (n : ℕ) → has S n ≡ true → has (S ++ T) n ≡ true
has_left [] T n h = absurd cc
has_left (j ∷ S) T n h = left_step j S T n (eqb n (number j)) refl (has_left S T n) h

has_right : (S T : List Kind) (n : ℕ) → has T n ≡ true → has (S ++ T) n ≡ true
has_right [] T n h = h
has_right (j ∷ S) T n h = or_right (eqb n (number j)) (has (S ++ T) n) (has_right S T n h)

pub in_left : (S T : List Kind) (k : Kind) → is_in S k ≡ true → is_in (S ++ T) k ≡ true
in_left S T k h = has_left S T (number k) h

pub in_right : (S T : List Kind) (k : Kind) → is_in T k ≡ true → is_in (S ++ T) k ≡ true
in_right S T k h = has_right S T (number k) h

rest_step : (j : Kind) (S T : List Kind) (n : ℕ) (b : Bool) → eqb n (number j) ≡ b → (has (S ++ T) n ≡ true → has S n ≡ false → has T n ≡ true) → has (j ∷ S ++ T) n ≡ true → has (j ∷ S) n ≡ false → has T n ≡ true
rest_step j S T n true e more h k = let c : true ≡ false = rw e at k in absurd cc
rest_step j S T n false e more h k = more (rw e at h) (rw e at k)

has_rest : (S T : List Kind) (n : ℕ) → has (S ++ T) n ≡ true → has S n ≡ false → has T n ≡ true
has_rest [] T n h k = h
has_rest (j ∷ S) T n h k = rest_step j S T n (eqb n (number j)) refl (has_rest S T n) h k

either_by : (X : Type 0) (S T : List Kind) (k : Kind) (b : Bool) → is_in S k ≡ b → is_in (S ++ T) k ≡ true → (is_in S k ≡ true → X) → (is_in T k ≡ true → X) → X
either_by X S T k true e h f g = f e
either_by X S T k false e h f g = g (has_rest S T (number k) h e)

pub in_either : {X : Type 0} (S T : List Kind) (k : Kind) → is_in (S ++ T) k ≡ true → (is_in S k ≡ true → X) → (is_in T k ≡ true → X) → X
in_either {X} S T k h f g = either_by X S T k (is_in S k) refl h f g

pub apart_none : (K : List Kind) → apart K [] ≡ true
apart_none [] = refl
apart_none (k ∷ K) = apart_none K

within_more : (S F : List Kind) (k : Kind) → within S F ≡ true → within S (k ∷ F) ≡ true
within_more [] F k h = refl
within_more (j ∷ S) F k h = let w = and_true (is_in F j) (within S F) h in rw (or_right (eqb (number j) (number k)) (is_in F j) w.0, within_more S F k w.1) refl

pub within_self : (S : List Kind) → within S S ≡ true
within_self [] = refl
within_self (k ∷ S) = rw (in_left (k ∷ []) S k (rw (is_itself k) refl), within_more S S k (within_self S)) refl

within_append : (R S T : List Kind) → within R S ≡ true → within R (S ++ T) ≡ true
within_append [] S T h = refl
within_append (k ∷ R) S T h = let w = and_true (is_in S k) (within R S) h in rw (in_left S T k w.0, within_append R S T w.1) refl

pub within_left : (S T : List Kind) → within S (S ++ T) ≡ true
within_left S T = within_append S S T (within_self S)

within_prepend : (R S T : List Kind) → within R T ≡ true → within R (S ++ T) ≡ true
within_prepend [] S T h = refl
within_prepend (k ∷ R) S T h = let w = and_true (is_in T k) (within R T) h in rw (in_right S T k w.0, within_prepend R S T w.1) refl

pub within_right : (S T : List Kind) → within T (S ++ T) ≡ true
within_right S T = within_prepend T S T (within_self T)

pub apart_one : (S : List Kind) (k : Kind) → not (is_in S k) ≡ true → apart (k ∷ []) S ≡ true
apart_one S k h = rw h refl
