-- The parts of a word are told apart.
use Rattle.std.proofs.Common.{◌≡◌, ℕ, Bool, true, false, ◌&&◌, not, ◌==◌, List, [], ◌∷◌, ◌++◌, flat_map, refl, ap, ◌∙◌}
use Rattle.std.specs.List.{list_all}
use Rattle.bg_certtext.specs.Lines.{behind_comma, commas}
use Rattle.bg_certtext.specs.Words.{is_in_part, parts_of, in_first}

-- both parts of a test that holds
both : (a b : Bool) → (a && b) ≡ true → (a ≡ true) × (b ≡ true)
both true b h = (refl, h)
both false b h = absurd (cc)

other_by : (b : ℕ) (t : Bool) → (b == 44) ≡ t → not t ≡ true → (b == 44) ≡ false
other_by b true e h = absurd (cc)
other_by b false e h = e

no_space : (b : ℕ) → is_in_part b ≡ true → (b == 44) ≡ false
unfolding is_in_part
no_space b h = other_by b (b == 44) refl h

in_word : (b : ℕ) (bs : List ℕ) → is_in_part b ≡ true → parts_of (b ∷ bs) ≡ in_first b (parts_of bs)
in_word b bs h = rw (no_space b h) refl

last_word : (w : List ℕ) → list_all is_in_part w ≡ true → parts_of (w ++ []) ≡ w ∷ []
last_word [] h = refl
last_word (b ∷ bs) h =
    let k = both (is_in_part b) (list_all is_in_part bs) h in
    in_word b (bs ++ []) k.0 ∙ ap (in_first b) (last_word bs k.1)

first_word : (w more : List ℕ) → list_all is_in_part w ≡ true → parts_of (w ++ 44 ∷ more) ≡ w ∷ parts_of more
first_word [] more h = refl
first_word (b ∷ bs) more h =
    let k = both (is_in_part b) (list_all is_in_part bs) h in
    in_word b (bs ++ 44 ∷ more) k.0 ∙ ap (in_first b) (first_word bs more k.1)

pub parts_of_commas : (w : List ℕ) (ws : List (List ℕ)) → list_all is_in_part w ≡ true → list_all (list_all is_in_part) ws ≡ true → parts_of (commas (w ∷ ws)) ≡ w ∷ ws
parts_of_commas w [] h k = last_word w h
parts_of_commas w (v ∷ vs) h k =
    let p = both (list_all is_in_part v) (list_all (list_all is_in_part) vs) k in
    first_word w (v ++ flat_map behind_comma vs) h ∙ ap (λ (us : List (List ℕ)). w ∷ us) (parts_of_commas v vs p.0 p.1)
