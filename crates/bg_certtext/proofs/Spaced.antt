-- The words of a line are told apart.
use Rattle.std.proofs.Common.{◌≡◌, ℕ, Bool, true, false, ◌&&◌, not, ◌==◌, List, [], ◌∷◌, ◌++◌, flat_map, refl, ap, ◌∙◌}
use Rattle.std.specs.List.{list_all}
use Rattle.bg_certtext.specs.Lines.{behind_space, spaced}
use Rattle.bg_certtext.specs.Words.{is_in_word, words_of, in_first}

-- both parts of a test that holds
both : (a b : Bool) → (a && b) ≡ true → (a ≡ true) × (b ≡ true)
both true b h = (refl, h)
both false b h = absurd (cc)

other_by : (b : ℕ) (t : Bool) → (b == 32) ≡ t → not t ≡ true → (b == 32) ≡ false
other_by b true e h = absurd (cc)
other_by b false e h = e

no_space : (b : ℕ) → is_in_word b ≡ true → (b == 32) ≡ false
unfolding is_in_word
no_space b h = other_by b (b == 32) refl h

in_word : (b : ℕ) (bs : List ℕ) → is_in_word b ≡ true → words_of (b ∷ bs) ≡ in_first b (words_of bs)
in_word b bs h = rw (no_space b h) refl

last_word : (w : List ℕ) → list_all is_in_word w ≡ true → words_of (w ++ []) ≡ w ∷ []
last_word [] h = refl
last_word (b ∷ bs) h =
    let k = both (is_in_word b) (list_all is_in_word bs) h in
    in_word b (bs ++ []) k.0 ∙ ap (in_first b) (last_word bs k.1)

first_word : (w more : List ℕ) → list_all is_in_word w ≡ true → words_of (w ++ 32 ∷ more) ≡ w ∷ words_of more
first_word [] more h = refl
first_word (b ∷ bs) more h =
    let k = both (is_in_word b) (list_all is_in_word bs) h in
    in_word b (bs ++ 32 ∷ more) k.0 ∙ ap (in_first b) (first_word bs more k.1)

pub words_of_spaced : (w : List ℕ) (ws : List (List ℕ)) → list_all is_in_word w ≡ true → list_all (list_all is_in_word) ws ≡ true → words_of (spaced (w ∷ ws)) ≡ w ∷ ws
words_of_spaced w [] h k = last_word w h
words_of_spaced w (v ∷ vs) h k =
    let p = both (list_all is_in_word v) (list_all (list_all is_in_word) vs) k in
    first_word w (v ++ flat_map behind_space vs) h ∙ ap (λ (us : List (List ℕ)). w ∷ us) (words_of_spaced v vs p.0 p.1)
