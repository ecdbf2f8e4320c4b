-- Lists that go on behind others, and lists place by place.
use Rattle.std.proofs.Common.{◌≡◌, ◌<◌, ◌+◌, ℕ, List, [], ◌∷◌, ◌++◌, length, map, take, get_or, refl, sym, ap, ◌∙◌, subst}
use Rattle.std.proofs.lemmas.List.{take_more}
use Rattle.bg_formula.specs.Atoms.{AtomOf}
use Rattle.bg_atoms.specs.Worlds.{Begins}
use Rattle.bg_atoms.specs.Pairs.{Pairs}

pub begins_itself : (xs : List AtomOf) → Begins xs xs
begins_itself [] = tt
begins_itself (x ∷ xs) = (refl, begins_itself xs)

pub begins_on : (xs ys zs : List AtomOf) → Begins xs ys → Begins ys zs → Begins xs zs
begins_on [] ys zs h k = tt
begins_on (x ∷ xs) [] zs h k = absurd h
begins_on (x ∷ xs) (y ∷ ys) [] h k = absurd k
begins_on (x ∷ xs) (y ∷ ys) (z ∷ zs) h k = (h.0 ∙ k.0, begins_on xs ys zs h.1 k.1)

module _ {X Y A B : Type 0} (R : A → B → Type 0) (f : X → A) (g : Y → B) where
  pairs_end : (xs : List X) (ys : List Y) (x : X) (y : Y) → Pairs R (map f xs) (map g ys) → R (f x) (g y) → Pairs R (map f (xs ++ x ∷ [])) (map g (ys ++ y ∷ []))
  pairs_end [] [] x y h r = (r, tt)
  pairs_end [] (b ∷ ys) x y h r = absurd h
  pairs_end (a ∷ xs) [] x y h r = absurd h
  pairs_end (a ∷ xs) (b ∷ ys) x y h r = (h.0, pairs_end xs ys x y h.1 r)

  pub pairs_more : (xs : List X) (i : ℕ) (x : X) (ys zs : List Y) (y : Y) → i < length xs → x ≡ get_or xs i x → zs ≡ ys ++ y ∷ [] → Pairs R (map f (take i xs)) (map g ys) → R (f x) (g y) → Pairs R (map f (take (i + 1) xs)) (map g zs)
  pairs_more xs i x ys zs y lt is push h r =
      let front : take i xs ++ x ∷ [] ≡ take (i + 1) xs = ap (λ z. take i xs ++ z ∷ []) is ∙ sym (take_more xs i x lt) in
      subst (λ l. Pairs R (map f (take (i + 1) xs)) (map g l)) (sym push) (subst (λ l. Pairs R (map f l) (map g (ys ++ y ∷ []))) front (pairs_end (take i xs) ys x y h r))

  pub pairs_none : (ys : List Y) → ys ≡ [] → Pairs R [] (map g ys)
  pairs_none ys h = subst (λ l. Pairs R [] (map g l)) (sym h) tt
