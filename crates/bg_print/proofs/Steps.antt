-- What steps of writing give together.
use Rattle.std.proofs.Common.{◌≡◌, ℕ, zero, suc, ◌+◌, List, [], ◌∷◌, ◌++◌, refl, sym, ap, ◌∙◌, append_assoc, add-one}
use Rattle.bg_print.specs.Docs.{Doc, text, margin, ◌⨾◌}

pub by_form : (old new : List ℕ) (a d : Doc) → d ≡ a → new ≡ old ++ text a → new ≡ old ++ text d
by_form old new a d e h = h ∙ ap (λ x. old ++ text x) (sym e)

pub both : (old mid new : List ℕ) (a b : Doc) → mid ≡ old ++ text a → new ≡ mid ++ text b → new ≡ old ++ text (a ⨾ b)
both old mid new a b h k = k ∙ ap (λ l. l ++ text b) h ∙ append_assoc old (text a) (text b)

pub five : (old a b c d e n m o p q : List ℕ) → n ≡ old ++ a → m ≡ n ++ b → o ≡ m ++ c → p ≡ o ++ d → q ≡ p ++ e → q ≡ old ++ (a ++ ((b ++ (c ++ d)) ++ e))
five old a b c d e n m o p q h1 h2 h3 h4 h5 = rw (h5, h4, h3, h2, h1) (simp append_assoc)

pub six : (old a b c d e f n m o p q r : List ℕ) → n ≡ old ++ a → m ≡ n ++ b → o ≡ m ++ c → p ≡ o ++ d → q ≡ p ++ e → r ≡ q ++ f → r ≡ old ++ (a ++ ((b ++ (c ++ (d ++ e))) ++ f))
six old a b c d e f n m o p q r h1 h2 h3 h4 h5 h6 = rw (h6, h5, h4, h3, h2, h1) (simp append_assoc)

pub four : (old a b c d n m o p : List ℕ) → n ≡ old ++ a → m ≡ n ++ b → o ≡ m ++ c → p ≡ o ++ d → p ≡ old ++ (a ++ (b ++ (c ++ d)))
four old a b c d n m o p h1 h2 h3 h4 = rw (h4, h3, h2, h1) (simp append_assoc)

pub margin_more : (n : ℕ) → text (margin n) ++ 32 ∷ [] ≡ text (margin (n + 1))
margin_more zero = refl
margin_more (suc n) = rw (add-one (suc n)) (ap (λ l. 32 ∷ l) (margin_more n ∙ ap (λ m. text (margin m)) (add-one n)))

pub margin_step : (old now next : List ℕ) (n : ℕ) → now ≡ old ++ text (margin n) → next ≡ now ++ 32 ∷ [] → next ≡ old ++ text (margin (n + 1))
margin_step old now next n h k = k ∙ ap (λ l. l ++ 32 ∷ []) h ∙ append_assoc old (text (margin n)) (32 ∷ []) ∙ ap (λ l. old ++ l) (margin_more n)
