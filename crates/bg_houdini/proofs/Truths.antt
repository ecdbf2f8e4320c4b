-- Sets of candidates as lists of truth values.
use Rattle.std.proofs.Common.{◌*◌, ◌-◌, ◌%◌, ◌^◌, ◌⊎◌, inl, inr, min, drop, nat_eq, ◌≡◌, ℕ, suc, ◌+◌, ◌<◌, ◌≤◌, Bool, true, false, if◌then◌else◌, ltb, [], ◌∷◌, ◌++◌, length, take, refl, sym, ap, ◌∙◌, subst, arith}
use Rattle.std.specs.Prelude.{slice_set}
use Rattle.std.proofs.lemmas.Bool.{ltb-true, ltb-false, cases_lt}
use Rattle.std.proofs.Math.Nat.{zero-div}
use Rattle.std.proofs.lemmas.List.{length-take, length-drop, get_or-take, get_or-drop, length-set, get_or-set_same, get_or-set_other}
use Rattle.std.proofs.Math.Seq.{take-suc}
use Rattle.bg_words.specs.Sets.{Numbers, has, IsSubset, bit, with_word}
use Rattle.bg_words.proofs.Words.{same_set, length-with_word, with_word-here, with_word-other}
use Rattle.bg_houdini.specs.Begun.{IsBegun}

-- a word with no bits
no_bit : (k : ℕ) → bit 0 k ≡ false
no_bit k = ap (λ (x : ℕ). nat_eq (x % 2) 1) (zero-div (2 ^ k))

-- one truth value more
pub one_truth : (made set : Numbers) (c : ℕ) → made ≡ take c set → c < length set → made ++ (has set c ∷ []) ≡ take (c + 1) set
one_truth made set c h l =
    let s : c + 1 ≡ suc c = omega arith in
    ap (λ xs. xs ++ (has set c ∷ [])) h ∙ (sym (take-suc set c false l) ∙ ap (λ (k : ℕ). take k set) (sym s))

pub begun : (n : ℕ) (truths made : Numbers) → length made ≡ n → ((d : ℕ) → d < n → has made d ≡ true) → IsBegun n 0 truths made
begun n truths made count full = record {
  count = count;
  done = λ d l. absurd (omega (arith, l));
  left = λ d l m. full d m;
}

pub next : (n c : ℕ) (truths made new : Numbers) → c < n → IsBegun n c truths made → new ≡ (if has truths c then made else slice_set made c false) → IsBegun n (c + 1) truths new
next n c truths made new l h e = on (has truths c) refl e
  where
    cases : (xs : Numbers) → ((d : ℕ) → d < c → has xs d ≡ has truths d) → has xs c ≡ has truths c → (d : ℕ) → d < c + 1 → has xs d ≡ has truths d
    cases xs below here d m = by (ltb d c) refl
      where
        by : (b : Bool) → ltb d c ≡ b → has xs d ≡ has truths d
        by true f = below d (ltb-true d c f)
        by false f =
            let low = ltb-false d c f in
            let same : c ≡ d = omega (arith, low, m) in
            subst (λ (k : ℕ). has xs k ≡ has truths k) same here

    on : (b : Bool) → has truths c ≡ b → new ≡ (if b then made else slice_set made c false) → IsBegun n (c + 1) truths new
    on true f g = subst (IsBegun n (c + 1) truths) (sym g) (record {
      count = h.count;
      done = cases made h.done (h.left c (omega arith) l ∙ sym f);
      left = λ d m k. h.left d (omega (arith, m)) k;
    })
    on false f g = subst (IsBegun n (c + 1) truths) (sym g) (record {
      count = length-set made c false ∙ h.count;
      done = cases (slice_set made c false) (λ d m. get_or-set_other made c d false false (λ z. absurd (omega (arith, z, m))) ∙ h.done d m) (get_or-set_same made c false false (let k = h.count in omega (arith, k, l)) ∙ sym f);
      left = λ d m k. get_or-set_other made c d false false (λ z. absurd (omega (arith, z, m))) ∙ h.left d (omega (arith, m)) k;
    })

pub whole : (n : ℕ) (truths made : Numbers) → length truths ≡ n → IsBegun n n truths made → made ≡ truths
whole n truths made long h = same_set made truths (h.count ∙ sym long) (λ d l. h.done d (let k = h.count in omega (arith, k, l)))

same_value : (x y : Bool) → (x ≡ true → y ≡ true) → (y ≡ true → x ≡ true) → x ≡ y
same_value true y f g = sym (f refl)
same_value false true f g = g refl
same_value false false f g = refl

-- sets of which each lies in the other
pub both_ways : (s t : Numbers) → length s ≡ length t → IsSubset s t → IsSubset t s → s ≡ t
both_ways s t long f g = same_set s t long (λ d l. same_value (has s d) (has t d) (f d) (g d))

pub inside_same : (s t : Numbers) → s ≡ t → IsSubset s t
inside_same s t e c h = subst (λ (x : Numbers). has x c ≡ true) e h

-- where no truth value of a word is true, the word is put as a whole
pub none_there : (n i from to : ℕ) (truths made new : Numbers) → from ≡ i * 64 → to ≡ min (i * 64 + 64) n → length truths ≡ n → IsBegun n (i * 64) truths made → new ≡ with_word made i 0 →
    ((c : ℕ) → c < length (take (to - from) (drop from truths)) → has (take (to - from) (drop from truths)) c ≡ false) → IsBegun n (min (i * 64 + 64) n) truths new
none_there n i from to truths made new at end long h is none = subst (IsBegun n (min (i * 64 + 64) n) truths) (sym is) (record {
  count = length-with_word made i 0 ∙ h.count;
  done = λ d l. by d l (cases_lt d (i * 64));
  left = λ d l m. let k = h.count in with_word-other made i 0 d (omega (arith, k, m)) (λ e. omega (arith, e, l, m)) ∙ h.left d (omega (arith, l, m)) m;
})
  where
    gone : (d : ℕ) → i * 64 ≤ d → d < to → has truths d ≡ false
    gone d low l =
        let j : ℕ = d - from in
        let s : from + j ≡ d = omega (arith, at, low) in
        let i1 : j < to - from = omega (arith, at, low, l) in
        let a = length-take (to - from) (drop from truths) in
        let b = length-drop from truths in
        let t : to ≤ length truths = omega (arith, end, long) in
        let inside : j < length (take (to - from) (drop from truths)) = omega (arith, a, b, i1, t) in
        sym (get_or-take (to - from) (drop from truths) j false i1 ∙ (get_or-drop from truths j false ∙ ap (λ (k : ℕ). has truths k) s)) ∙ none j inside

    by : (d : ℕ) → d < min (i * 64 + 64) n → (d < i * 64) ⊎ (i * 64 ≤ d) → has (with_word made i 0) d ≡ has truths d
    by d l (inl low) = let k = h.count in with_word-other made i 0 d (omega (arith, k, l)) (λ e. omega (arith, e, low)) ∙ h.done d low
    by d l (inr high) =
        let k = h.count in
        with_word-here made i 0 d (omega (arith, k, l)) (omega (arith, high, l)) ∙ (no_bit (d % 64) ∙ sym (gone d high (omega (arith, end, l))))
