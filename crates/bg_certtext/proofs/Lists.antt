-- Lists that are read word by word.
use Rattle.std.proofs.Common.{◌≡◌, ℕ, ◌+◌, List, [], ◌∷◌, ◌++◌, length, map, drop, take, get_or, ◌-◌, ◌≤◌, ◌<◌, ◌==◌, true, false, Option, Some, None, refl, ap, sym, ◌∙◌, append_assoc, arith}
use Rattle.std.proofs.lemmas.Bool.{eqb-true}
use Rattle.std.proofs.lemmas.List.{take_all, drop_all, drop_more}
use Rattle.bg_cert.specs.declared.cert.Named.{Named}
use Rattle.bg_certtext.specs.declared.text.Term.{Term}
use Rattle.bg_certtext.specs.Machine.{then_, literal_in, literals_in, term_in, terms_in}

-- a list behind one that is read already
abbrev pub front : {A : Type 0} → List A → Option (List A) → Option (List A)
front xs None = None
front xs (Some ys) = Some (xs ++ ys)

abbrev put : {A : Type 0} → A → Option (List A) → Option (List A)
put x o = then_ o (λ ys. Some (x ∷ ys))

pub front_put : {A : Type 0} (xs : List A) (x : A) (o : Option (List A)) → front xs (put x o) ≡ front (xs ++ x ∷ []) o
front_put xs x None = refl
front_put xs x (Some ys) = ap (λ zs. Some zs) (sym (append_assoc xs (x ∷ []) ys))

append_nothing : {A : Type 0} (xs : List A) → xs ++ [] ≡ xs
append_nothing [] = refl
append_nothing (x ∷ xs) = ap (λ ys. x ∷ ys) (append_nothing xs)

pub front_all : {A : Type 0} (xs : List A) → front xs (Some []) ≡ Some xs
front_all xs = ap (λ zs. Some zs) (append_nothing xs)

literals_step : (made : List Named) (w : List ℕ) (ws : List (List ℕ)) (l : Named) → literal_in w ≡ Some l → front made (literals_in (w ∷ ws)) ≡ front (made ++ l ∷ []) (literals_in ws)
literals_step made w ws l e = rw e (front_put made l (literals_in ws))

literals_stop : (made : List Named) (w : List ℕ) (ws : List (List ℕ)) → literal_in w ≡ None → front made (literals_in (w ∷ ws)) ≡ None
literals_stop made w ws e = rw e refl

terms_step : (made : List Term) (low : ℕ) (a b : List ℕ) (ws : List (List ℕ)) (t : Term) → term_in low a b ≡ Some t → front made (terms_in low (a ∷ b ∷ ws)) ≡ front (made ++ t ∷ []) (terms_in (t.term + 1) ws)
terms_step made low a b ws t e = rw e (front_put made t (terms_in (t.term + 1) ws))

terms_stop : (made : List Term) (low : ℕ) (a b : List ℕ) (ws : List (List ℕ)) → term_in low a b ≡ None → front made (terms_in low (a ∷ b ∷ ws)) ≡ None
terms_stop made low a b ws e = rw e refl

-- one more literal, of the word at i
pub literals_more : {W : Type 0} (f : W → List ℕ) (e : W) (made new : List Named) (i : ℕ) (ws : List W) (l : Named) (whole : Option (List Named)) → i < length ws → new ≡ made ++ l ∷ [] → literal_in (f (get_or ws i e)) ≡ Some l → front made (literals_in (map f (drop i ws))) ≡ whole → front new (literals_in (map f (drop (i + 1) ws))) ≡ whole
literals_more {W = W} f e made new i ws l whole here pushed is inv =
    ap (λ (ls : List Named). front ls (literals_in (map f (drop (i + 1) ws)))) pushed
    ∙ sym (literals_step made (f (get_or ws i e)) (map f (drop (i + 1) ws)) l is)
    ∙ sym (ap (λ (us : List W). front made (literals_in (map f us))) (drop_more ws i e here))
    ∙ inv

-- the word at i is no literal
pub literals_none : {W : Type 0} (f : W → List ℕ) (e : W) (made : List Named) (i : ℕ) (ws : List W) (whole : Option (List Named)) → i < length ws → literal_in (f (get_or ws i e)) ≡ None → front made (literals_in (map f (drop i ws))) ≡ whole → None ≡ whole
literals_none {W = W} f e made i ws whole here is inv =
    sym (literals_stop made (f (get_or ws i e)) (map f (drop (i + 1) ws)) is)
    ∙ sym (ap (λ (us : List W). front made (literals_in (map f us))) (drop_more ws i e here))
    ∙ inv

-- no word is left
pub literals_done : {W : Type 0} (f : W → List ℕ) (made : List Named) (i : ℕ) (ws : List W) (whole : Option (List Named)) → length ws ≤ i → front made (literals_in (map f (drop i ws))) ≡ whole → Some made ≡ whole
literals_done {W = W} f made i ws whole end inv =
    sym (front_all made) ∙ sym (ap (λ (us : List W). front made (literals_in (map f us))) (drop_all i ws end)) ∙ inv

-- one more term, of the two words in front
pub terms_more : {W : Type 0} (f : W → List ℕ) (e : W) (made new : List Term) (low : ℕ) (rest : List W) (t : Term) (whole : Option (List Term)) → 2 ≤ length rest → new ≡ made ++ t ∷ [] → term_in low (f (get_or rest 0 e)) (f (get_or rest 1 e)) ≡ Some t → front made (terms_in low (map f rest)) ≡ whole → front new (terms_in (t.term + 1) (map f (take (length rest - 2) (drop 2 rest)))) ≡ whole
terms_more f e made new low [] t whole two pushed is inv = absurd (omega arith)
terms_more f e made new low (a ∷ []) t whole two pushed is inv = absurd (omega arith)
terms_more {W = W} f e made new low (a ∷ b ∷ ws) t whole two pushed is inv =
    ap (λ (ts : List Term). front ts (terms_in (t.term + 1) (map f (take (length (a ∷ b ∷ ws) - 2) ws)))) pushed
    ∙ ap (λ (us : List W). front (made ++ t ∷ []) (terms_in (t.term + 1) (map f us))) (take_all (length (a ∷ b ∷ ws) - 2) ws (omega arith))
    ∙ sym (terms_step made low (f a) (f b) (map f ws) t is)
    ∙ inv

-- one word is too few
pub terms_odd : {W : Type 0} (f : W → List ℕ) (made : List Term) (low : ℕ) (rest : List W) → (length rest == 0) ≡ false → length rest < 2 → front made (terms_in low (map f rest)) ≡ None
terms_odd f made low [] some few = absurd (cc)
terms_odd f made low (a ∷ []) some few = refl
terms_odd f made low (a ∷ b ∷ ws) some few = absurd (omega arith)

-- the two words in front are no term
pub terms_none : {W : Type 0} (f : W → List ℕ) (e : W) (made : List Term) (low : ℕ) (rest : List W) (whole : Option (List Term)) → 2 ≤ length rest → term_in low (f (get_or rest 0 e)) (f (get_or rest 1 e)) ≡ None → front made (terms_in low (map f rest)) ≡ whole → None ≡ whole
terms_none f e made low [] whole two is inv = absurd (omega arith)
terms_none f e made low (a ∷ []) whole two is inv = absurd (omega arith)
terms_none f e made low (a ∷ b ∷ ws) whole two is inv = sym (terms_stop made low (f a) (f b) (map f ws) is) ∙ inv

pub terms_done : {W : Type 0} (f : W → List ℕ) (made : List Term) (low : ℕ) (rest : List W) (whole : Option (List Term)) → (length rest == 0) ≡ true → front made (terms_in low (map f rest)) ≡ whole → Some made ≡ whole
terms_done f made low [] whole none inv = sym (front_all made) ∙ inv
terms_done f made low (a ∷ ws) whole none inv = absurd (omega (arith, eqb-true (length (a ∷ ws)) 0 none))
