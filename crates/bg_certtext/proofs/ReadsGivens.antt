-- Constants are read back from their lines, and their lines are theirs.
use Rattle.std.proofs.Common.{◌≡◌, ◌⊎◌, inl, inr, ⊎_elim, ◌++◌, ◌==◌, ℕ, zero, suc, ◌<◌, ◌≤◌, ◌-◌, length, map, take, drop, get_or, arith, Bool, true, false, ◌&&◌, List, [], ◌∷◌, Option, Some, None, codes, refl, ap, sym, subst, ◌∙◌, append-nil}
use Rattle.std.specs.List.{list_all}
use Rattle.std.proofs.lemmas.Bool.{ne_eqb}
use Rattle.std.proofs.lemmas.List.{take_all}
use Rattle.bg_certtext.specs.Views.{ValueOf, Truth, Number, Element, Default, Slot, GivenOf}
use Rattle.bg_certtext.specs.Spellable.{is_empty, is_name, is_value, is_given}
use Rattle.bg_certtext.specs.Lines.{spaced}
use Rattle.bg_certtext.specs.Texts.{value_text, given_words}
use Rattle.bg_certtext.specs.Words.{is_in_word, word_in, words_of, in_first}
use Rattle.bg_certtext.specs.Machine.{then_, when, Got, value_at, whole, are_words, given_in}
use Rattle.bg_certtext.proofs.ReadsOptions.{then_made, when_made, both, all_of}
use Rattle.bg_certtext.proofs.ReadsFuel.{value_at_cuts}
use Rattle.bg_certtext.proofs.ReadsValues.{filled_plain, value_read}
use Rattle.bg_certtext.proofs.Spaced.{words_of_spaced}
use Rattle.bg_certtext.proofs.Splits.{is_inside, words_cut, words_last}
use Rattle.bg_certtext.proofs.Joined.{spaced_words}

-- ---- words have no space

first_free : (b : ℕ) (ws : List (List ℕ)) → is_in_word b ≡ true → are_words ws ≡ true → are_words (in_first b ws) ≡ true
first_free b [] h k = rw h refl
first_free b (w ∷ ws) h k =
    let p = both (list_all is_in_word w) (are_words ws) k in
    all_of (list_all is_in_word (b ∷ w)) (are_words ws) (all_of (is_in_word b) (list_all is_in_word w) h p.0) p.1

free_by : (b : ℕ) (bs : List ℕ) (t : Bool) → (b == 32) ≡ t → are_words (words_of bs) ≡ true → are_words (words_of (b ∷ bs)) ≡ true
free_by b bs true e h = ap are_words (let same : words_of (b ∷ bs) ≡ [] ∷ words_of bs = rw e refl in same) ∙ h
free_by b bs false e h = ap are_words (let same : words_of (b ∷ bs) ≡ in_first b (words_of bs) = rw e refl in same) ∙ first_free b (words_of bs) (is_inside b e) h

pub words_free : (bs : List ℕ) → are_words (words_of bs) ≡ true
words_free [] = refl
words_free (b ∷ bs) = free_by b bs (b == 32) refl (words_free bs)

-- words of a text that isn't empty are those of the text
pub again : (ws : List (List ℕ)) (bs : List ℕ) → are_words ws ≡ true → spaced ws ≡ bs → is_empty bs ≡ false → ws ≡ words_of bs
again [] bs h e k = absurd (let bad : true ≡ false = ap is_empty e ∙ k in let no_way : ⊥ = cc in no_way)
again (w ∷ ws) bs h e k =
    let p = both (list_all is_in_word w) (are_words ws) h in
    sym (words_of_spaced w ws p.0 p.1) ∙ ap words_of e

-- ---- values

pub filled_text : (v : ValueOf) → is_value v ≡ true → is_empty (value_text v) ≡ false
filled_text (Truth b) h = filled_plain (Truth b) tt h
filled_text (Number z) h = filled_plain (Number z) tt h
filled_text (Element t z) h = filled_plain (Element t z) tt h
filled_text (Default d) h = refl
filled_text (Slot k v m) h = refl

pub nothing_left : (bs : List ℕ) → is_empty bs ≡ true → bs ≡ []
nothing_left [] h = refl
nothing_left (b ∷ bs) h = absurd (cc)

abbrev IsWhole : List ℕ → ValueOf → Type 0
IsWhole bs v = (bs ≡ value_text v) × (is_value v ≡ true)

whole_back : (bs : List ℕ) (v : ValueOf) → whole (value_at bs) ≡ Some v → IsWhole bs v
whole_back bs v h =
    let (p, e, k) = then_made (value_at bs) (λ (p : ValueOf × List ℕ). when (is_empty p.1) p.0) v h in
    let w = when_made (is_empty p.1) p.0 v k in
    let c = value_at_cuts bs p e in
    subst (IsWhole bs) w.1 (c.0 ∙ (ap (λ (r : List ℕ). value_text p.0 ++ r) (nothing_left p.1 w.0) ∙ append-nil (value_text p.0)), c.1)

whole_read : (v : ValueOf) → is_value v ≡ true → whole (value_at (value_text v)) ≡ Some v
whole_read v h = ap (λ (bs : List ℕ). whole (value_at bs)) (sym (append-nil (value_text v))) ∙ ap whole (value_read v h [] tt)

-- ---- constants

abbrev pub given_for : List ℕ → ValueOf → GivenOf
given_for name v = record { name = name; value = v }

abbrev pub given_from : List ℕ → List ℕ → Option GivenOf
given_from name bs = then_ (whole (value_at bs)) (λ v. when (is_name name) (given_for name v))

-- the words behind the first one of a constant's line
abbrev pub IsGivenLine : List (List ℕ) → GivenOf → Type 0
IsGivenLine ws g = (codes "const" ∷ ws ≡ given_words g) × (is_given g ≡ true)

pub given_back : (ws : List (List ℕ)) (g : GivenOf) → given_in ws ≡ Some g → IsGivenLine ws g
given_back [] g h = absurd (cc)
given_back (name ∷ ws) g h =
    let (bs, e, k) = then_made (when (are_words ws) (spaced ws)) (given_from name) g h in
    let w = when_made (are_words ws) (spaced ws) bs e in
    let (v, f, m) = then_made (whole (value_at bs)) (λ (v : ValueOf). when (is_name name) (given_for name v)) g k in
    let q = whole_back bs v f in
    let p = when_made (is_name name) (given_for name v) g m in
    subst (IsGivenLine (name ∷ ws)) p.1 (ap (λ (u : List (List ℕ)). codes "const" ∷ name ∷ u) (again ws (value_text v) w.0 (w.1 ∙ q.0) (filled_text v q.1)), all_of (is_name name) (is_value v) p.0 q.1)

pub given_read : (g : GivenOf) → is_given g ≡ true → given_in (g.name ∷ words_of (value_text g.value)) ≡ Some g
given_read g h =
    let p = both (is_name g.name) (is_value g.value) h in
    let bs = value_text g.value in
    ap (λ (b : Bool). then_ (when b (spaced (words_of bs))) (given_from g.name)) (words_free bs)
    ∙ (ap (given_from g.name) (spaced_words bs)
    ∙ (ap (λ (o : Option ValueOf). then_ o (λ v. when (is_name g.name) (given_for g.name v))) (whole_read g.value p.1)
    ∙ ap (λ (b : Bool). when b g) p.0))

-- ---- what stands behind a line's first word

lt_or_le : (n m : ℕ) → (n < m) ⊎ (m ≤ n)
lt_or_le n zero = inr (omega arith)
lt_or_le zero (suc m) = inl (omega arith)
lt_or_le (suc n) (suc m) = ⊎_elim (λ h. inl (omega (arith, h))) (λ h. inr (omega (arith, h))) (lt_or_le n m)

words_behind : (bs w v : List ℕ) (vs : List (List ℕ)) → words_of bs ≡ w ∷ v ∷ vs → words_of (drop 1 (drop (word_in bs) bs)) ≡ v ∷ vs
words_behind bs w v vs h =
    ⊎_elim
    (λ l. let e : take (word_in bs) bs ∷ words_of (drop 1 (drop (word_in bs) bs)) ≡ w ∷ v ∷ vs = sym (words_cut bs l) ∙ h in cc)
    (λ l. let e : bs ∷ [] ≡ w ∷ v ∷ vs = sym (words_last bs l) ∙ h in absurd (let bad : ⊥ = cc in bad))
    (lt_or_le (word_in bs) (length bs))

-- a text is taken from the words that are its
pub text_taken : {A : Type 0} (F : List ℕ → Option A) (bs w v : List ℕ) (vs : List (List ℕ)) → words_of bs ≡ w ∷ v ∷ vs → then_ (when (are_words (v ∷ vs)) (spaced (v ∷ vs))) F ≡ F (drop 1 (drop (word_in bs) bs))
text_taken F bs w v vs h =
    let rest = drop 1 (drop (word_in bs) bs) in
    ap (λ (us : List (List ℕ)). then_ (when (are_words us) (spaced us)) F) (sym (words_behind bs w v vs h))
    ∙ (ap (λ (b : Bool). then_ (when b (spaced (words_of rest))) F) (words_free rest) ∙ ap F (spaced_words rest))

pub given_short : {W : Type 0} (f : W → List ℕ) (ws : List W) → length ws < 2 → given_in (map f ws) ≡ None
given_short f [] l = refl
given_short f (a ∷ []) l = refl
given_short f (a ∷ b ∷ ws) l = absurd (omega (arith, l))

pub given_long : {W : Type 0} (f : W → List ℕ) (d : W) (ws : List W) (bs rest : List ℕ) → 2 ≤ length ws → map f ws ≡ words_of bs → rest ≡ drop 1 (drop (word_in bs) bs) → given_in (map f ws) ≡ given_from (f (get_or ws 0 d)) rest
given_long f d [] bs rest l e r = absurd (omega (arith, l))
given_long f d (a ∷ []) bs rest l e r = absurd (omega (arith, l))
given_long f d (a ∷ b ∷ ws) bs rest l e r = text_taken (given_from (f a)) bs (f a) (f b) (map f ws) (sym e) ∙ ap (given_from (f a)) (sym r)

-- what is made of a value that is read, or isn't

pub given_none : (name bs : List ℕ) → value_at bs ≡ None → given_from name bs ≡ None
given_none name bs h = ap (λ (o : Got ValueOf). then_ (whole o) (λ v. when (is_name name) (given_for name v))) h

given_by : (t : Bool) (name : List ℕ) (v : ValueOf) → then_ (when t v) (λ v. when (is_name name) (given_for name v)) ≡ when (t && is_name name) (given_for name v)
given_by true name v = refl
given_by false name v = refl

pub given_some : (name bs rest : List ℕ) (v : ValueOf) → value_at bs ≡ Some (v, rest) → given_from name bs ≡ when (is_empty rest && is_name name) (given_for name v)
given_some name bs rest v h =
    ap (λ (o : Got ValueOf). then_ (whole o) (λ v. when (is_name name) (given_for name v))) h ∙ given_by (is_empty rest) name v

-- what is behind the first of these words, where there is any

pub tail_words : {W : Type 0} (f : W → List ℕ) (ws : List W) (bs rest : List ℕ) → 1 ≤ length ws → map f ws ≡ words_of bs → rest ≡ drop 1 (drop (word_in bs) bs) → 0 < length (take (length ws - 1) (drop 1 ws)) → map f (take (length ws - 1) (drop 1 ws)) ≡ words_of rest
tail_words f [] bs rest l e r more = absurd (omega (arith, l))
tail_words f (a ∷ []) bs rest l e r more = absurd (omega (arith, more))
tail_words {W = W} f (a ∷ b ∷ ws) bs rest l e r more =
    ap (map f) (take_all (length (a ∷ b ∷ ws) - 1) (b ∷ ws) (omega arith))
    ∙ (sym (words_behind bs (f a) (f b) (map f ws) (sym e)) ∙ ap words_of (sym r))

pub empty_length : (xs : List ℕ) → is_empty xs ≡ (length xs == 0)
empty_length [] = refl
empty_length (x ∷ xs) = sym (ne_eqb (suc (length xs)) 0 (λ e. omega (arith, e)))

pub and_false : (a b : Bool) → b ≡ false → (a && b) ≡ false
and_false true b h = h
and_false false b h = refl
