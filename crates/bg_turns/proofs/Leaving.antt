-- What calls leave, where one more is made.
use Rattle.std.proofs.Common.{◌≡◌, ℕ, ◌+◌, ◌-◌, ◌<◌, List, [], ◌∷◌, ◌++◌, length, get_or, refl, sym, ap, ◌∙◌, subst, ⊎_elim, arith}
use Rattle.std.specs.Prelude.{slice_set}
use Rattle.std.proofs.lemmas.List.{length-append, get_or_append_left, get_or-append_right}
use Rattle.std.proofs.lemmas.Bool.{cases_lt}
use denote.Ref.{MutBor}
use denote.Param.Members.{Shared}
use Rattle.std.specs.Fork.{ChangesAt}
use Rattle.bg_turns.specs.Turns.{Leaves}

module _ {F T : Type 0} (g : Shared F (ℕ × (MutBor T × Unit {0})) ((Unit {0}) × (MutBor T × Unit {0}))) (f : F) where
  at_end : (fs ys : List T) (b y : T) → length ys ≡ length fs → ((i : ℕ) (d : T) → i < length fs → ChangesAt g f i (get_or fs i d) (get_or ys i d)) → ChangesAt g f (length fs) b y →
      (i : ℕ) (d : T) → i < length fs + 1 → ChangesAt g f i (get_or (fs ++ (b ∷ [])) i d) (get_or (ys ++ (y ∷ [])) i d)
  at_end fs ys b y same each one i d l = ⊎_elim
      (λ p. subst (λ u. ChangesAt g f i u (get_or (ys ++ (y ∷ [])) i d)) (sym (get_or_append_left fs (b ∷ []) d i p))
      (subst (ChangesAt g f i (get_or fs i d)) (sym (get_or_append_left ys (y ∷ []) d i (omega (arith, p, same)))) (each i d p)))
      (λ p.
      let z : i ≡ length fs = omega (arith, l, p) in
      let o : i - length fs ≡ 0 = omega (arith, z) in
      let u : get_or (fs ++ (b ∷ [])) i d ≡ b = get_or-append_right fs (b ∷ []) (length fs) i d refl p ∙ ap (λ k. get_or (b ∷ []) k d) o in
      let v : get_or (ys ++ (y ∷ [])) i d ≡ y = get_or-append_right ys (y ∷ []) (length fs) i d same p ∙ ap (λ k. get_or (y ∷ []) k d) o in
      subst (λ x. ChangesAt g f i x (get_or (ys ++ (y ∷ [])) i d)) (sym u) (subst (ChangesAt g f i b) (sym v) (subst (λ k. ChangesAt g f k b y) (sym z) one)))
      (cases_lt i (length fs))

  -- behind what calls leave of the items in front stands what one more leaves of the last item
  pub one_more_leaves : (xs fs bs ys : List T) (n : ℕ) (b y : T) → xs ≡ fs ++ bs → length fs ≡ n → length bs ≡ 1 → Leaves g f fs ys → ChangesAt g f n (get_or bs 0 b) y → Leaves g f xs (ys ++ slice_set bs 0 y)
  one_more_leaves xs fs [] ys n b y is long one front last = absurd (omega (arith, one))
  one_more_leaves xs fs (c ∷ []) ys n b y is long one front last =
      subst (λ zs. Leaves g f zs (ys ++ (y ∷ []))) (sym is) (record {
        len = omega (arith, length-append ys (y ∷ []), length-append fs (c ∷ []), front.len);
        each = λ i d l. at_end fs ys c y front.len front.each (subst (λ k. ChangesAt g f k c y) (sym long) last) i d (omega (arith, l, length-append fs (c ∷ [])));
      })
  one_more_leaves xs fs (c ∷ e ∷ bs) ys n b y is long one front last = absurd (omega (arith, one))

  pub none_leave : (xs : List T) → length xs ≡ 0 → Leaves g f xs xs
  none_leave xs none = record { len = refl; each = λ i d l. absurd (omega (arith, l, none)) }
