-- The last block first.
use Rattle.std.proofs.Common.{◌≡◌, ◌<◌, ◌≤◌, ℕ, ◌+◌, ◌-◌, List, [], ◌∷◌, map, length, drop, get_or, sym, ap, ◌∙◌, arith}
use Rattle.std.proofs.lemmas.List.{drop_all}
use Rattle.bg_passive.specs.Passive.{Walked}
use Rattle.bg_incarnate.proofs.Passing.{drop_item}
use Rattle.bg_formed.specs.Formed.{FormCmd, FormBlock}
use Rattle.bg_model.specs.declared.turn.Turn.{Turn}
use Rattle.bg_model.specs.Turns.{turn_at, turns}

module _ {A : Type 0} (walked : List FormCmd → Walked) (f : A → FormBlock) (xs : List A) where
  -- the turns of the blocks from this one on
  abbrev turns_from : ℕ → List Turn
  turns_from n = turns walked (map f (drop n xs))

  pub turned_none : (n : ℕ) (later : List Turn) → length xs ≤ n → later ≡ [] → later ≡ turns_from n
  turned_none n later h e = e ∙ ap (λ l. turns walked (map f l)) (sym (drop_all n xs h))

  pub turned_more : (i k : ℕ) (b : A) (t : Turn) (later new : List Turn) → i < length xs → k ≡ length xs - 1 - i → b ≡ get_or xs k b → t ≡ turn_at walked later (f b) → new ≡ t ∷ later → later ≡ turns_from (length xs - i) → new ≡ turns_from (length xs - (i + 1))
  turned_more i k b t later new l e at h n known =
      let low : k < length xs = omega (arith, l, e) in
      let here : k ≡ length xs - (i + 1) = omega (arith, l, e) in
      let behind : k + 1 ≡ length xs - i = omega (arith, l, e) in
      let one : drop (length xs - (i + 1)) xs ≡ b ∷ drop (length xs - i) xs = ap (λ j. drop j xs) (sym here) ∙ (drop_item xs k b low at ∙ ap (λ j. b ∷ drop j xs) behind) in
      n
      ∙ (ap (λ x. x ∷ later) h
      ∙ (ap (λ l. turn_at walked l (f b) ∷ l) known ∙ ap (λ l. turns walked (map f l)) (sym one)))

  pub turned_all : (i : ℕ) (later : List Turn) → length xs ≤ i → later ≡ turns_from (length xs - i) → later ≡ turns walked (map f xs)
  turned_all i later h known =
      let none : length xs - i ≡ 0 = omega (arith, h) in
      known ∙ ap turns_from none
