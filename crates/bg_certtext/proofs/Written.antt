-- A line that is written piece by piece.
use Rattle.std.proofs.Common.{◌≡◌, ℕ, ◌+◌, ◌<◌, List, [], ◌∷◌, ◌++◌, length, drop, get_or, ap, sym, ◌∙◌, append_assoc}
use Rattle.std.proofs.lemmas.List.{drop_more}
use Rattle.bg_certtext.specs.Lines.{line}
use Rattle.bg_certtext.specs.Words.{words_of}
use Rattle.bg_certtext.proofs.Joined.{named_line}

-- a first word, the other words and a newline
pub line_written : (old word more one two three : List ℕ) → one ≡ old ++ word → two ≡ one ++ more → three ≡ two ++ 10 ∷ [] → three ≡ old ++ ((word ++ more) ++ 10 ∷ [])
line_written old word more one two three a b c =
    c
    ∙ ap (λ (bs : List ℕ). bs ++ 10 ∷ []) (b ∙ ap (λ (bs : List ℕ). bs ++ more) a ∙ append_assoc old word more)
    ∙ append_assoc old (word ++ more) (10 ∷ [])

-- a type's name, the mark and a number
pub element_written : (old name number one two three : List ℕ) → one ≡ old ++ name → two ≡ one ++ 33 ∷ [] → three ≡ two ++ number → three ≡ old ++ ((name ++ 33 ∷ []) ++ number)
element_written old name number one two three a b c =
    c
    ∙ ap (λ (bs : List ℕ). bs ++ number) (b ∙ ap (λ (bs : List ℕ). bs ++ 33 ∷ []) a ∙ append_assoc old name (33 ∷ []))
    ∙ append_assoc old (name ++ 33 ∷ []) number

-- a list that is written one by one: one more, which stands at i
pub written_more : {A : Type 0} (all : List A → List ℕ) (one : A → List ℕ) → ((x : A) (xs : List A) → all (x ∷ xs) ≡ one x ++ all xs) → (xs : List A) (i : ℕ) (x : A) (old new whole : List ℕ) →
    i < length xs → x ≡ get_or xs i x → new ≡ old ++ one x → old ++ all (drop i xs) ≡ whole → new ++ all (drop (i + 1) xs) ≡ whole
written_more {A = A} all one step xs i x old new whole inside at more inv =
    ap (λ (bs : List ℕ). bs ++ all (drop (i + 1) xs)) more
    ∙ append_assoc old (one x) (all (drop (i + 1) xs))
    ∙ ap (λ (bs : List ℕ). old ++ bs) (sym (step x (drop (i + 1) xs)))
    ∙ ap (λ (ys : List A). old ++ all ys) (sym (drop_more xs i x inside ∙ ap (λ (y : A). y ∷ drop (i + 1) xs) (sym at)))
    ∙ inv

-- a line of two words and a text that has words
pub named_written : (old key name value one two three four five : List ℕ) → one ≡ old ++ key → two ≡ one ++ (32 ∷ name) → three ≡ two ++ 32 ∷ [] → four ≡ three ++ value → five ≡ four ++ 10 ∷ [] → five ≡ old ++ line (key ∷ name ∷ words_of value)
named_written old key name value one two three four five a b c k l =
    l
    ∙ (ap (λ (bs : List ℕ). bs ++ 10 ∷ []) (k ∙ (ap (λ (bs : List ℕ). bs ++ value) (c ∙ ap (λ (bs : List ℕ). bs ++ 32 ∷ []) (b ∙ ap (λ (bs : List ℕ). bs ++ (32 ∷ name)) a))
    ∙ (append_assoc ((old ++ key) ++ (32 ∷ name)) (32 ∷ []) value
    ∙ (append_assoc (old ++ key) (32 ∷ name) (32 ∷ value)
    ∙ append_assoc old key (32 ∷ (name ++ (32 ∷ value)))))))
    ∙ (append_assoc old (key ++ (32 ∷ (name ++ (32 ∷ value)))) (10 ∷ [])
    ∙ ap (λ (bs : List ℕ). old ++ bs) (sym (named_line key name value))))
