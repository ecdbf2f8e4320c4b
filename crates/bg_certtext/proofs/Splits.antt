-- The words of a line, one after the other.
use Rattle.std.proofs.Common.{◌≡◌, ℕ, suc, ◌-◌, ◌≤◌, ◌<◌, Bool, true, false, cond, ◌==◌, List, [], ◌∷◌, ◌++◌, length, map, take, drop, refl, ap, sym, subst, ◌∙◌, append_assoc, arith}
use Rattle.std.specs.List.{take_while}
use Rattle.std.proofs.lemmas.List.Sums.{take_while-cons}
use Rattle.bg_certtext.specs.Words.{is_in_word, word_in, words_of, in_first}

is_outside : (b : ℕ) → (b == 32) ≡ true → is_in_word b ≡ false
unfolding is_in_word
is_outside b e = rw e refl

pub is_inside : (b : ℕ) → (b == 32) ≡ false → is_in_word b ≡ true
unfolding is_in_word
is_inside b e = rw e refl

abbrev length_if : ℕ → List ℕ → Bool → ℕ
length_if b bs t = length (cond t (b ∷ take_while is_in_word bs) [])

space_in_front : (b : ℕ) (bs : List ℕ) → (b == 32) ≡ true → word_in (b ∷ bs) ≡ 0
space_in_front b bs e = ap length (take_while-cons is_in_word b bs) ∙ ap (length_if b bs) (is_outside b e)

no_space_in_front : (b : ℕ) (bs : List ℕ) → (b == 32) ≡ false → word_in (b ∷ bs) ≡ suc (word_in bs)
no_space_in_front b bs e = ap length (take_while-cons is_in_word b bs) ∙ ap (length_if b bs) (is_inside b e)

at_space : (b : ℕ) (bs : List ℕ) → (b == 32) ≡ true → words_of (b ∷ bs) ≡ [] ∷ words_of bs
at_space b bs e = rw e refl

at_other : (b : ℕ) (bs : List ℕ) → (b == 32) ≡ false → words_of (b ∷ bs) ≡ in_first b (words_of bs)
at_other b bs e = rw e refl

-- the words, where the first ends behind n bytes and a space
abbrev CutAt : ℕ → List ℕ → Type 0
CutAt n bs = words_of bs ≡ take n bs ∷ words_of (drop 1 (drop n bs))

cut_later : (b n : ℕ) (bs : List ℕ) → (b == 32) ≡ false → CutAt n bs → CutAt (suc n) (b ∷ bs)
cut_later b n bs e h = at_other b bs e ∙ ap (in_first b) h

cut_by : (b : ℕ) (bs : List ℕ) (t : Bool) → (b == 32) ≡ t → (word_in bs < length bs → CutAt (word_in bs) bs) → word_in (b ∷ bs) < suc (length bs) → CutAt (word_in (b ∷ bs)) (b ∷ bs)
cut_by b bs true e more h = let P : ℕ → Type 0 = λ n. CutAt n (b ∷ bs) in subst P (sym (space_in_front b bs e)) (at_space b bs e)
cut_by b bs false e more h =
    let P : ℕ → Type 0 = λ n. CutAt n (b ∷ bs) in
    let k = no_space_in_front b bs e in
    subst P (sym k) (cut_later b (word_in bs) bs e (more (omega (arith, k, h))))

pub words_cut : (bs : List ℕ) → word_in bs < length bs → CutAt (word_in bs) bs
words_cut [] h = absurd (omega (arith, h))
words_cut (b ∷ bs) h = cut_by b bs (b == 32) refl (words_cut bs) h

last_by : (b : ℕ) (bs : List ℕ) (t : Bool) → (b == 32) ≡ t → (length bs ≤ word_in bs → words_of bs ≡ bs ∷ []) → suc (length bs) ≤ word_in (b ∷ bs) → words_of (b ∷ bs) ≡ (b ∷ bs) ∷ []
last_by b bs true e more h = absurd (omega (arith, space_in_front b bs e, h))
last_by b bs false e more h = at_other b bs e ∙ ap (in_first b) (more (omega (arith, no_space_in_front b bs e, h)))

pub words_last : (bs : List ℕ) → length bs ≤ word_in bs → words_of bs ≡ bs ∷ []
words_last [] h = refl
words_last (b ∷ bs) h = last_by b bs (b == 32) refl (words_last bs) h

map_more : {W : Type 0} (f : W → List ℕ) (ws : List W) (w : W) → map f (ws ++ w ∷ []) ≡ map f ws ++ f w ∷ []
map_more f [] w = refl
map_more f (v ∷ ws) w = ap (λ (us : List (List ℕ)). f v ∷ us) (map_more f ws w)

take_all : (bs : List ℕ) → take (length bs) bs ≡ bs
take_all [] = refl
take_all (b ∷ bs) = ap (λ (cs : List ℕ). b ∷ cs) (take_all bs)

take_rest : (bs : List ℕ) → take (length bs - 1) (drop 1 bs) ≡ drop 1 bs
take_rest [] = refl
take_rest (b ∷ bs) = ap (λ (n : ℕ). take n bs) (let e : suc (length bs) - 1 ≡ length bs = omega arith in e) ∙ take_all bs

-- one more word, with a space behind it
pub split_step : {W : Type 0} (f : W → List ℕ) (old new : List W) (w : W) (line rest front back : List ℕ) (k : ℕ) → new ≡ old ++ w ∷ [] → f w ≡ front → k ≡ word_in rest → k < length rest → front ≡ take k rest → back ≡ drop k rest → map f old ++ words_of rest ≡ words_of line → map f new ++ words_of (take (length back - 1) (drop 1 back)) ≡ words_of line
split_step f old new w line rest front back k pushed is at below fore aft inv =
    let cut : words_of rest ≡ take k rest ∷ words_of (drop 1 (drop k rest)) = subst (λ (n : ℕ). words_of rest ≡ take n rest ∷ words_of (drop 1 (drop n rest))) (sym at) (words_cut rest (omega (arith, at, below))) in
    ap (λ (vs : List (List ℕ)). vs ++ words_of (take (length back - 1) (drop 1 back))) (ap (map f) pushed ∙ map_more f old w)
    ∙ append_assoc (map f old) (f w ∷ []) (words_of (take (length back - 1) (drop 1 back)))
    ∙ ap (λ (bs : List ℕ). map f old ++ (f w ∷ words_of bs)) (take_rest back ∙ ap (drop 1) aft)
    ∙ ap (λ (v : List ℕ). map f old ++ (v ∷ words_of (drop 1 (drop k rest)))) (is ∙ fore)
    ∙ ap (λ (vs : List (List ℕ)). map f old ++ vs) (sym cut)
    ∙ inv

-- the last word
pub split_last : {W : Type 0} (f : W → List ℕ) (old new : List W) (w : W) (line rest : List ℕ) (k : ℕ) → new ≡ old ++ w ∷ [] → f w ≡ rest → k ≡ word_in rest → length rest ≤ k → map f old ++ words_of rest ≡ words_of line → map f new ≡ words_of line
split_last f old new w line rest k pushed is at above inv =
    ap (map f) pushed ∙ map_more f old w
    ∙ ap (λ (v : List ℕ). map f old ++ v ∷ []) is
    ∙ ap (λ (vs : List (List ℕ)). map f old ++ vs) (sym (words_last rest (omega (arith, at, above))))
    ∙ inv
