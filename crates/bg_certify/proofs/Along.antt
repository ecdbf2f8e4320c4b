-- Lists that are walked along a list of types.
use Rattle.std.proofs.Common.{◌≡◌, ℕ, zero, suc, ◌+◌, ◌<◌, ◌≤◌, List, [], ◌∷◌, ◌++◌, length, drop, get_or, refl, sym, ap, ◌∙◌, append_assoc}
use Rattle.std.specs.Prelude.{Option, slice_get, unwrap_or}
use Rattle.std.proofs.lemmas.List.{append-nil, drop-drop, drop_more, drop_all}

pub first_behind : {T : Type 0} (ts : List T) (k : ℕ) → slice_get (drop k ts) 0 ≡ slice_get ts k
first_behind [] zero = refl
first_behind [] (suc k) = refl
first_behind (t ∷ ts) zero = refl
first_behind (t ∷ ts) (suc k) = first_behind ts k

module _ {T A B : Type 0} (d : T) (f : T → A → B) (F : List T → List A → List B) where
  abbrev Walks : Type 0
  Walks = (ts : List T) (x : A) (xs : List A) → F ts (x ∷ xs) ≡ f (unwrap_or (slice_get ts 0) d) x ∷ F (drop 1 ts) xs

  -- the item at place k
  front : Walks → (ts : List T) (k : ℕ) (x : A) (xs : List A) → F (drop k ts) (x ∷ xs) ≡ f (unwrap_or (slice_get ts k) d) x ∷ F (drop (k + 1) ts) xs
  front walks ts k x xs =
      walks (drop k ts) x xs
      ∙ (ap (λ (o : Option T). f (unwrap_or o d) x ∷ F (drop 1 (drop k ts)) xs) (first_behind ts k)
      ∙ ap (λ (l : List T). f (unwrap_or (slice_get ts k) d) x ∷ F l xs) (drop-drop 1 k ts))

  -- one more
  pub one_more : Walks → (ts : List T) (xs : List A) (k : ℕ) (e : A) (y : B) (old more whole : List B) → k < length xs → more ≡ old ++ y ∷ [] → y ≡ f (unwrap_or (slice_get ts k) d) (get_or xs k e) →
      old ++ F (drop k ts) (drop k xs) ≡ whole → more ++ F (drop (k + 1) ts) (drop (k + 1) xs) ≡ whole
  one_more walks ts xs k e y old more whole inside em is w =
      let rest = F (drop (k + 1) ts) (drop (k + 1) xs) in
      ap (λ (l : List B). l ++ rest) em
      ∙ (append_assoc old (y ∷ []) rest
      ∙ (ap (λ (z : B). old ++ z ∷ rest) is
      ∙ (ap (λ (l : List B). old ++ l) (sym (front walks ts k (get_or xs k e) (drop (k + 1) xs)))
      ∙ (ap (λ (l : List A). old ++ F (drop k ts) l) (sym (drop_more xs k e inside)) ∙ w))))

  -- one more, of this type
  pub one_of : Walks → (ts : List T) (xs : List A) (k : ℕ) (e : A) (t : T) (y : B) (old more whole : List B) → k < length xs → more ≡ old ++ y ∷ [] → t ≡ unwrap_or (slice_get ts k) d → y ≡ f t (get_or xs k e) →
      old ++ F (drop k ts) (drop k xs) ≡ whole → more ++ F (drop (k + 1) ts) (drop (k + 1) xs) ≡ whole
  one_of walks ts xs k e t y old more whole inside em at is w =
      one_more walks ts xs k e y old more whole inside em (is ∙ ap (λ (u : T). f u (get_or xs k e)) at) w

  -- none is left
  pub all_done : ((ts : List T) → F ts [] ≡ []) → (ts : List T) (xs : List A) (k : ℕ) (old whole : List B) → length xs ≤ k → old ++ F (drop k ts) (drop k xs) ≡ whole → old ≡ whole
  all_done none ts xs k old whole out w =
      sym (append-nil old)
      ∙ (ap (λ (l : List B). old ++ l) (sym (none (drop k ts)))
      ∙ (ap (λ (l : List A). old ++ F (drop k ts) l) (sym (drop_all k xs out)) ∙ w))
