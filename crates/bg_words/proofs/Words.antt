-- Sets that are kept in words: what their parts are, and how many numbers they have.
use Rattle.std.proofs.Common.{◌≡◌, ℕ, zero, suc, ◌+◌, ◌-◌, ◌*◌, ◌/◌, ◌%◌, ◌^◌, ◌<◌, ◌≤◌, ◌≢◌, min, Bool, true, false, not, ◌&&◌, eqb, ltb, List, [], ◌∷◌, get_or, set, length, sym, refl, ap, ◌∙◌, ⊎_elim, arith, true≢false, length-set, get_or-set_same, get_or-set_other, eq-eqb, ne_eqb, bit_and, lt_of_not-le, if◌then◌else◌, add-zero, add-suc, pow-suc, count_ones}
use Rattle.std.specs.Int.{bit_at, bit_not}
use Rattle.std.proofs.lemmas.Nat.{ones_le_self, and_le_l}
use Rattle.std.proofs.lemmas.Nat.Bits.{bit_at-zero, bit_at-suc, bit_at_lowest, bit_at_and, bit_at_not, bit_at-lt, same_from_bits_below}
use lib.Count.{ones_step}
use mir.Syntax.{w64}
use borrow.Author.Tests.{lt-ltb, ltb-true}
use mathlib.Core.Logic.{dite}
use native.Mathlib.Decide.{dec_le, ℕ_discrete}
use Rattle.bg_base.specs.Totals.{total, weight}
use Rattle.bg_words.specs.Sets.{Numbers, has, tabulate, bit, present, words_for, with_word, mask}
use Rattle.bg_words.proofs.Sets.{has-tabulate, has-tabulate_true, and_true, bool_cases, eqb-true, size-suc}
use Rattle.bg_words.proofs.Bits.{present_after}

pub length-tabulate : (n : ℕ) (f : ℕ → Bool) → length (tabulate n f) ≡ n
length-tabulate zero f = refl
length-tabulate (suc n) f = ap suc (length-tabulate n (λ c. f (suc c)))

-- two sets of one length are equal where they agree
pub same_set : (s t : Numbers) → length s ≡ length t → ((c : ℕ) → c < length s → has s c ≡ has t c) → s ≡ t
same_set [] [] len same = refl
same_set [] (y ∷ ys) len same = absurd (omega arith)
same_set (x ∷ xs) [] len same = absurd (omega arith)
same_set (x ∷ xs) (y ∷ ys) len same = λ i. same 0 (omega arith) i ∷ same_set xs ys (omega arith) (λ c lt. same (suc c) (omega arith)) i

-- a set is what a function tells of its numbers
pub tabulated : (n : ℕ) (f : ℕ → Bool) (t : Numbers) → length t ≡ n → ((c : ℕ) → c < n → f c ≡ has t c) → tabulate n f ≡ t
tabulated n f t len same = let l = length-tabulate n f in same_set (tabulate n f) t (omega arith) (λ c lt. has-tabulate n f c (omega arith) ∙ same c (omega arith))

pub tabulate-same : (n : ℕ) (f g : ℕ → Bool) → ((c : ℕ) → c < n → f c ≡ g c) → tabulate n f ≡ tabulate n g
tabulate-same n f g same = let l = length-tabulate n g in tabulated n f (tabulate n g) l (λ c lt. same c lt ∙ sym (has-tabulate n g c lt))

-- what lies past the end of the set is not in it
pub has_past : (s : Numbers) (c : ℕ) → length s ≤ c → has s c ≡ false
has_past [] c h = refl
has_past (x ∷ xs) zero h = absurd (omega arith)
has_past (x ∷ xs) (suc c) h = has_past xs c (omega arith)

-- ---- one candidate is taken out
cut_bit : (a b : Bool) → b ≡ true → a && not b ≡ false
cut_bit true b e = ap not e
cut_bit false b e = refl

kept_bit : (a b : Bool) → b ≡ false → a && not b ≡ a
kept_bit true b e = ap not e
kept_bit false b e = refl

pub removed : (n c x : ℕ) (ws : List ℕ) → c < n → length ws ≡ words_for n → x ≡ get_or ws (c / 64) 0
    → tabulate n (present (set ws (c / 64) (bit_and x (mask c)))) ≡ set (tabulate n (present ws)) c false
removed n c x ws lt len is = let s : Numbers = tabulate n (present ws) in let l = length-tabulate n (present ws) in
    tabulated n (present (set ws (c / 64) (bit_and x (mask c)))) (set s c false) (length-set s c false ∙ l) (λ d small.
    ap (λ (y : ℕ). present (set ws (c / 64) (bit_and y (mask c))) d) is ∙ (sym (present_after ws c (omega arith) d) ∙ dite (ℕ_discrete d c)
    (λ same. cut_bit (present ws d) (eqb d c) (eq-eqb d c same) ∙ sym (ap (has (set s c false)) same ∙ get_or-set_same s c false false (omega arith)))
    (λ other. kept_bit (present ws d) (eqb d c) (ne_eqb d c other) ∙ (sym (has-tabulate n (present ws) d small) ∙ sym (get_or-set_other s c d false false other)))))

pub removed_inside : (n c x : ℕ) (ws : List ℕ) → c < n → length ws ≡ words_for n → x ≡ get_or ws (c / 64) 0 → ((d : ℕ) → present ws d ≡ true → d < n)
    → (d : ℕ) → present (set ws (c / 64) (bit_and x (mask c))) d ≡ true → d < n
removed_inside n c x ws lt len is inside d e = inside d (and_true _ _ (present_after ws c (omega arith) d ∙ (ap (λ (y : ℕ). present (set ws (c / 64) (bit_and y (mask c))) d) (sym is) ∙ e))).0

-- ---- one word is put anew
none_past : (ws : List ℕ) (i : ℕ) → length ws ≤ i → get_or ws i 0 ≡ 0
none_past [] i h = refl
none_past (y ∷ ys) zero h = absurd (omega arith)
none_past (y ∷ ys) (suc i) h = none_past ys i (omega arith)

pub present_past : (ws : List ℕ) (c : ℕ) → length ws ≤ c / 64 → present ws c ≡ false
present_past ws c h = ap (λ (y : ℕ). bit y (c % 64)) (none_past ws (c / 64) h) ∙ ap (λ (b : ℕ). eqb b 1) (bit_at-zero (c % 64))

pub in_words : (ws : List ℕ) (c : ℕ) → present ws c ≡ true → c / 64 < length ws
in_words ws c e = dite (dec_le (length ws) (c / 64)) (λ far. absurd (true≢false (sym e ∙ present_past ws c far))) (λ near. lt_of_not-le near)

-- the bit of a word that is cut down to the candidates below n
trim_bit : (x f k : ℕ) → bit (bit_and x f) k ≡ bit x k && bit f k
trim_bit x f k = ap (λ (b : ℕ). eqb b 1) (bit_at_and x f k) ∙ least (bit_at x k) (bit_at f k) (bit_at-lt x k) (bit_at-lt f k) where
  least : (a b : ℕ) → a < 2 → b < 2 → eqb (min a b) 1 ≡ eqb a 1 && eqb b 1
  least zero zero p q = refl
  least zero (suc zero) p q = refl
  least (suc zero) zero p q = refl
  least (suc zero) (suc zero) p q = refl
  least zero (suc (suc b)) p q = absurd (omega arith)
  least (suc zero) (suc (suc b)) p q = absurd (omega arith)
  least (suc (suc a)) b p q = absurd (omega arith)

module _ (n i x f : ℕ) (ws : List ℕ) (in_range : i < length ws) (full : (k : ℕ) → k < 64 → bit f k ≡ ltb (i * 64 + k) n) where
  abbrev ws' : List ℕ
  ws' = set ws i (bit_and x f)

  put_here : (c : ℕ) → c / 64 ≡ i → present ws' c ≡ bit x (c % 64) && ltb c n
  put_here c here = ap (λ (y : ℕ). bit y (c % 64)) (ap (λ (j : ℕ). get_or ws' j 0) here ∙ get_or-set_same ws i (bit_and x f) 0 in_range)
      ∙ (trim_bit x f (c % 64) ∙ ap (λ (b : Bool). bit x (c % 64) && b) (full (c % 64) (omega arith) ∙ ap (λ (m : ℕ). ltb m n) (let whole : i * 64 + c % 64 ≡ c = omega arith in whole)))

  put_other : (c : ℕ) → c / 64 ≢ i → present ws' c ≡ present ws c
  put_other c other = ap (λ (y : ℕ). bit y (c % 64)) (get_or-set_other ws i (c / 64) (bit_and x f) 0 other)

  pub put_inside : ((c : ℕ) → present ws c ≡ true → c < n) → (c : ℕ) → present ws' c ≡ true → c < n
  put_inside inside c e = dite (ℕ_discrete (c / 64) i)
      (λ here. ltb-true c n (and_true _ _ (sym (put_here c here) ∙ e)).1)
      (λ other. inside c (sym (put_other c other) ∙ e))

  pub put_is : tabulate n (present ws') ≡ with_word (tabulate n (present ws)) i x
  put_is = let s : Numbers = tabulate n (present ws) in let l = length-tabulate n (present ws) in let g : ℕ → Bool = λ c. (if eqb (c / 64) i then bit x (c % 64) else has s c) in
      tabulated n (present ws') (with_word s i x) (length-tabulate (length s) g ∙ l) (λ c lt. dite (ℕ_discrete (c / 64) i)
      (λ here. put_here c here ∙ (and_one (bit x (c % 64)) (ltb c n) (lt-ltb c n lt) ∙ sym (has-tabulate (length s) g c (omega arith) ∙ ap (λ (b : Bool). if b then bit x (c % 64) else has s c) (eq-eqb (c / 64) i here))))
      (λ other. put_other c other ∙ (sym (has-tabulate n (present ws) c lt) ∙ sym (has-tabulate (length s) g c (omega arith) ∙ ap (λ (b : Bool). if b then bit x (c % 64) else has s c) (ne_eqb (c / 64) i other)))))
    where
      and_one : (a b : Bool) → b ≡ true → a && b ≡ a
      and_one true b e = e
      and_one false b e = refl

-- ---- a set inside another, word by word
pub word_within : (x y : ℕ) → y < 2 ^ 64 → bit_and x (bit_not w64 y) ≡ 0 → (k : ℕ) → k < 64 → bit x k ≡ true → bit y k ≡ true
word_within x y small none k lt e = let a : bit_at x k ≡ 1 = eqb-true (bit_at x k) 1 e in let b = bit_at_and x (bit_not w64 y) k in let d = bit_at_not w64 y k small lt in
    let z : bit_at (bit_and x (bit_not w64 y)) k ≡ 0 = ap (λ (m : ℕ). bit_at m k) none ∙ bit_at-zero k in let two = bit_at-lt y k in
    eq-eqb (bit_at y k) 1 (omega arith)

pub word_outside : (x y : ℕ) → x < 2 ^ 64 → y < 2 ^ 64 → ((k : ℕ) → k < 64 → bit x k ≡ true → bit y k ≡ true) → bit_and x (bit_not w64 y) ≡ 0
word_outside x y small_x small all = let q = and_le_l x (bit_not w64 y) in
    same_from_bits_below 64 (bit_and x (bit_not w64 y)) 0 (omega arith) (omega arith) (λ k lt. let b = bit_at_and x (bit_not w64 y) k in let d = bit_at_not w64 y k small lt in
    b ∙ (none_left (bit_at x k) (bit_at y k) (bit_at (bit_not w64 y) k) (bit_at-lt x k) d (λ e. eqb-true (bit_at y k) 1 (all k lt (eq-eqb (bit_at x k) 1 e))) ∙ sym (bit_at-zero k)))
  where
    none_left : (a b m : ℕ) → a < 2 → m ≡ 1 - b → (a ≡ 1 → b ≡ 1) → min a m ≡ 0
    none_left zero b m h e all = omega arith
    none_left (suc zero) b m h e all = let z = all refl in omega arith
    none_left (suc (suc a)) b m h e all = absurd (omega arith)

-- ---- how many
abbrev Sum : ℕ → (ℕ → Bool) → ℕ
Sum n f = total weight (tabulate n f)

sum_most : (n : ℕ) (f : ℕ → Bool) → Sum n f ≤ n
sum_most zero f = omega arith
sum_most (suc n) f = let r = sum_most n (λ c. f (suc c)) in let w = weight_most (f 0) in omega arith where
  weight_most : (b : Bool) → weight b ≤ 1
  weight_most true = omega arith
  weight_most false = omega arith

sum_none : (n : ℕ) (f : ℕ → Bool) → ((c : ℕ) → f c ≡ false) → Sum n f ≡ 0
sum_none zero f h = refl
sum_none (suc n) f h = let r = sum_none n (λ c. f (suc c)) (λ c. h (suc c)) in let w = ap weight (h 0) in omega arith

sum_same : (n : ℕ) (f g : ℕ → Bool) → ((c : ℕ) → c < n → f c ≡ g c) → Sum n f ≡ Sum n g
sum_same n f g h = ap (total weight) (tabulate-same n f g h)

sum_split : (a b : ℕ) (f : ℕ → Bool) → Sum (a + b) f ≡ Sum a f + Sum b (λ c. f (a + c))
sum_split a zero f = let e = ap (λ (m : ℕ). Sum m f) (add-zero a) in omega arith
sum_split a (suc b) f = let e = ap (λ (m : ℕ). Sum m f) (add-suc a b) in let r = sum_split a b f in let s = size-suc (a + b) f in let t = size-suc b (λ c. f (a + c)) in omega arith

-- a word has as many ones as bits that are set
ones_are : (k n : ℕ) → n < 2 ^ k → count_ones n ≡ Sum k (bit n)
ones_are zero n h = let z = ones_le_self n in omega arith
ones_are (suc k) n h = let s = ones_step n in let r = ones_are k (n / 2) (let p = pow-suc 2 k in omega arith) in
    let tail : Sum k (λ c. bit n (suc c)) ≡ Sum k (bit (n / 2)) = sum_same k _ _ (λ c lt. ap (λ (b : ℕ). eqb b 1) (bit_at-suc n c)) in
    let low : weight (bit n 0) ≡ n % 2 = ap (λ (b : ℕ). weight (eqb b 1)) (bit_at_lowest n) ∙ one (n % 2) (omega arith) in omega arith
  where
    one : (b : ℕ) → b < 2 → weight (eqb b 1) ≡ b
    one zero h = refl
    one (suc zero) h = refl
    one (suc (suc b)) h = absurd (omega arith)

pub ones_few : (n : ℕ) → n < 2 ^ 64 → count_ones n ≤ 64
ones_few n h = let a = ones_are 64 n h in let b = sum_most 64 (bit n) in omega arith

-- one more word
pub counted_more : (ws : List ℕ) (i x : ℕ) → x < 2 ^ 64 → x ≡ get_or ws i 0 → total weight (tabulate (64 * (i + 1)) (present ws)) ≡ total weight (tabulate (64 * i) (present ws)) + count_ones x
counted_more ws i x small is = let e = ap (λ (m : ℕ). Sum m (present ws)) (let z : 64 * (i + 1) ≡ 64 * i + 64 = omega arith in z) in let s = sum_split (64 * i) 64 (present ws) in let a = ones_are 64 x small in
    let here : Sum 64 (λ c. present ws (64 * i + c)) ≡ Sum 64 (bit x) = sum_same 64 _ _ (λ c lt. let hi : (64 * i + c) / 64 ≡ i = omega arith in let lo : (64 * i + c) % 64 ≡ c = omega arith in
    ap (λ (j : ℕ). bit (get_or ws j 0) ((64 * i + c) % 64)) hi ∙ (ap (λ (j : ℕ). bit (get_or ws i 0) j) lo ∙ ap (λ (y : ℕ). bit y c) (sym is))) in omega arith

pub counted_all : (n len : ℕ) (ws : List ℕ) → len ≡ words_for n → ((c : ℕ) → present ws c ≡ true → c < n) → total weight (tabulate (64 * len) (present ws)) ≡ total weight (tabulate n (present ws))
counted_all n len ws is inside = let m : ℕ = 64 * len - n in let e = ap (λ (m : ℕ). Sum m (present ws)) (let z : 64 * len ≡ n + m = omega arith in z) in let s = sum_split n m (present ws) in
    let none_there = sum_none m (λ c. present ws (n + c)) (λ c. ⊎_elim (λ (y : present ws (n + c) ≡ true). absurd (let lt = inside (n + c) y in omega arith)) (λ (z : present ws (n + c) ≡ false). z) (bool_cases (present ws (n + c)))) in omega arith

-- ---- sets in words, seen as sets
pub has_of : (n : ℕ) (ws : List ℕ) (s : Numbers) → tabulate n (present ws) ≡ s → ((c : ℕ) → present ws c ≡ true → c < n) → (c : ℕ) → present ws c ≡ true → has s c ≡ true
has_of n ws s is inside c e = sym (ap (λ (t : Numbers). has t c) is) ∙ (has-tabulate n (present ws) c (inside c e) ∙ e)

pub has_from : (n : ℕ) (ws : List ℕ) (s : Numbers) → tabulate n (present ws) ≡ s → (c : ℕ) → has s c ≡ true → present ws c ≡ true
has_from n ws s is c e = (has-tabulate_true n (present ws) c (ap (λ (t : Numbers). has t c) is ∙ e)).1

-- one more word of a set lies in the other
pub within_more : (ws us : List ℕ) (i x y : ℕ) → x ≡ get_or ws i 0 → y ≡ get_or us i 0 → y < 2 ^ 64 → bit_and x (bit_not w64 y) ≡ 0
    → ((c : ℕ) → c / 64 < i → present ws c ≡ true → present us c ≡ true) → (c : ℕ) → c / 64 < i + 1 → present ws c ≡ true → present us c ≡ true
within_more ws us i x y is_x is_y small none below c lt e = dite (ℕ_discrete (c / 64) i)
    (λ here. ap (λ (j : ℕ). bit (get_or us j 0) (c % 64)) here ∙ (ap (λ (z : ℕ). bit z (c % 64)) (sym is_y) ∙ word_within x y small none (c % 64) (omega arith)
    (ap (λ (z : ℕ). bit z (c % 64)) is_x ∙ (ap (λ (j : ℕ). bit (get_or ws j 0) (c % 64)) (sym here) ∙ e))))
    (λ other. below c (omega arith) e)

pub within_not : (ws us : List ℕ) (i x y : ℕ) → x ≡ get_or ws i 0 → y ≡ get_or us i 0 → x < 2 ^ 64 → y < 2 ^ 64 → ((c : ℕ) → present ws c ≡ true → present us c ≡ true) → bit_and x (bit_not w64 y) ≡ 0
within_not ws us i x y is_x is_y small_x small_y all = word_outside x y small_x small_y (λ k lt e. let c : ℕ = 64 * i + k in let hi : c / 64 ≡ i = omega arith in let lo : c % 64 ≡ k = omega arith in
    let at : (l : List ℕ) (z : ℕ) → z ≡ get_or l i 0 → present l c ≡ bit z k = λ l z is. ap (λ (j : ℕ). bit (get_or l j 0) (c % 64)) hi ∙ (ap (λ (j : ℕ). bit (get_or l i 0) j) lo ∙ ap (λ (w : ℕ). bit w k) (sym is)) in
    sym (at us y is_y) ∙ all c (at ws x is_x ∙ e))

-- the words of all candidates, or of none
pub filled : (n : ℕ) (full : Bool) (ws : List ℕ) → length ws ≡ words_for n → ((j k : ℕ) → j < length ws → k < 64 → bit (get_or ws j 0) k ≡ ltb (j * 64 + k) n && full) → tabulate n (present ws) ≡ tabulate n (λ _. full)
filled n full ws len words = tabulate-same n (present ws) (λ _. full) (λ c lt. let whole : c / 64 * 64 + c % 64 ≡ c = omega arith in
    words (c / 64) (c % 64) (omega arith) (omega arith) ∙ (ap (λ (m : ℕ). ltb m n && full) whole ∙ ap (λ (b : Bool). b && full) (lt-ltb c n lt)))

-- words that are equal one by one
pub words_same : (ws us : List ℕ) → length ws ≡ length us → ((k : ℕ) → k < length us → get_or ws k 0 ≡ get_or us k 0) → ws ≡ us
words_same [] [] len same = refl
words_same [] (y ∷ ys) len same = absurd (omega arith)
words_same (x ∷ xs) [] len same = absurd (omega arith)
words_same (x ∷ xs) (y ∷ ys) len same = λ i. same 0 (omega arith) i ∷ words_same xs ys (omega arith) (λ k lt. same (suc k) (omega arith)) i

-- no count on the way is above the number of candidates
pub counted_fits : (n len i : ℕ) (ws : List ℕ) → len ≡ words_for n → ((c : ℕ) → present ws c ≡ true → c < n) → i < len → total weight (tabulate (64 * (i + 1)) (present ws)) ≤ n
counted_fits n len i ws is inside lt = let m : ℕ = 64 * len - 64 * (i + 1) in let e = ap (λ (k : ℕ). Sum k (present ws)) (let z : 64 * len ≡ 64 * (i + 1) + m = omega arith in z) in
    let s = sum_split (64 * (i + 1)) m (present ws) in let a = counted_all n len ws is inside in let b = sum_most n (present ws) in omega arith

-- ---- one word of a set is put anew
pub length-with_word : (s : Numbers) (i x : ℕ) → length (with_word s i x) ≡ length s
length-with_word s i x = length-tabulate (length s) (λ c. if eqb (c / 64) i then bit x (c % 64) else has s c)

pub with_word-here : (s : Numbers) (i x c : ℕ) → c < length s → c / 64 ≡ i → has (with_word s i x) c ≡ bit x (c % 64)
with_word-here s i x c lt here = has-tabulate (length s) (λ c. if eqb (c / 64) i then bit x (c % 64) else has s c) c lt ∙ ap (λ (b : Bool). if b then bit x (c % 64) else has s c) (eq-eqb (c / 64) i here)

pub with_word-other : (s : Numbers) (i x c : ℕ) → c < length s → c / 64 ≢ i → has (with_word s i x) c ≡ has s c
with_word-other s i x c lt other = has-tabulate (length s) (λ c. if eqb (c / 64) i then bit x (c % 64) else has s c) c lt ∙ ap (λ (b : Bool). if b then bit x (c % 64) else has s c) (ne_eqb (c / 64) i other)
