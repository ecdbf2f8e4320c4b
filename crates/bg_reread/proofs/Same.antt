-- Statements that say the same.
use Rattle.std.proofs.Common.{◌≡◌, ◌≢◌, List, [], ◌∷◌, map, sym, subst, Option, Some, None}
use Rattle.std.specs.Prelude.{option_map}
use Rattle.bg_text.specs.Types.{All, IfThere}

-- each follows from the other
pub record Same (A B : Type 0) : Type 0 where
  pub there : A → B
  pub back : B → A

pub itself : (A : Type 0) → Same A A
itself A = record { there = λ a. a; back = λ a. a }

pub both : {A B C D : Type 0} → Same A B → Same C D → Same (A × C) (B × D)
both s t = record { there = λ h. (s.there h.0, t.there h.1); back = λ h. (s.back h.0, t.back h.1) }

pub three : {A B C D E F : Type 0} → Same A B → Same C D → Same E F → Same (A × C × E) (B × D × F)
three s t u = record { there = λ h. (s.there h.0, t.there h.1, u.there h.2); back = λ h. (s.back h.0, t.back h.1, u.back h.2) }

pub four : {A B C D E F G H : Type 0} → Same A B → Same C D → Same E F → Same G H → Same (A × C × E × G) (B × D × F × H)
four s t u v = record { there = λ h. (s.there h.0, t.there h.1, u.there h.2, v.there h.3); back = λ h. (s.back h.0, t.back h.1, u.back h.2, v.back h.3) }

-- of equal things
pub same_at : {A : Type 0} (P : A → Type 0) (x y : A) → x ≡ y → Same (P x) (P y)
same_at P x y e = record { there = λ h. subst P e h; back = λ h. subst P (sym e) h }

-- that there are some
pub some_same : {A : Type 0} (g : A → A) (xs : List A) → Same (map g xs ≢ []) (xs ≢ [])
some_same g [] = itself ([] ≢ [])
some_same g (x ∷ xs) = record { there = λ h. λ c. cc; back = λ h. λ c. cc }

pub all_same : {A : Type 0} (P : A → Type 0) (g : A → A) → ((a : A) → Same (P (g a)) (P a)) → (xs : List A) → Same (All P (map g xs)) (All P xs)
all_same P g h [] = itself (Unit {0})
all_same P g h (a ∷ rest) = both (h a) (all_same P g h rest)

pub there_same : {A : Type 0} (P : A → Type 0) (g : A → A) → ((a : A) → Same (P (g a)) (P a)) → (x : Option A) → Same (IfThere P (option_map g x)) (IfThere P x)
there_same P g h None = itself (Unit {0})
there_same P g h (Some a) = h a
