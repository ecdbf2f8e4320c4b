-- Steps of loops over lists whose faults are those of the first, and then those of the rest.
use Rattle.std.proofs.Common.{◌≡◌, ℕ, ◌+◌, ◌<◌, List, [], ◌∷◌, ◌++◌, map, length, get_or, drop, Option, sym, ap, ◌∙◌, append_assoc}
use Rattle.std.proofs.lemmas.List.{at_drop_more, map-append}
use Rattle.bg_kinds.specs.Faults.{Fault, first_of}
use Rattle.bg_kinds.proofs.Firsts.{first_of_append}

-- the element at an index, and the rest
pub dropped : {A : Type 0} (xs : List A) (i : ℕ) (x : A) → i < length xs → x ≡ get_or xs i x → drop i xs ≡ x ∷ drop (i + 1) xs
dropped xs i x h e = at_drop_more (λ l. l) xs i x h ∙ ap (λ y. y ∷ drop (i + 1) xs) (sym e)

-- two lists in a row
pub both : (b0 b1 b2 : Option Fault) (fs gs : List Fault) → b1 ≡ first_of b0 fs → b2 ≡ first_of b1 gs → b2 ≡ first_of b0 (fs ++ gs)
both b0 b1 b2 fs gs h k = k ∙ (ap (λ b. first_of b gs) h ∙ sym (first_of_append b0 fs gs))

pub step_best : {A : Type 0} (F : List A → List Fault) (fs : List Fault) (xs rest : List A) (x : A) (b0 b1 : Option Fault) → xs ≡ x ∷ rest → F (x ∷ rest) ≡ fs ++ F rest → b1 ≡ first_of b0 fs → first_of b1 (F rest) ≡ first_of b0 (F xs)
step_best F fs xs rest x b0 b1 h f e =
    ap (λ b. first_of b (F rest)) e
    ∙ (sym (first_of_append b0 fs (F rest)) ∙ (ap (first_of b0) (sym f) ∙ ap (λ l. first_of b0 (F l)) (sym h)))

pub step_sides : {A B : Type 0} (F : List A → List B) (a : B) (xs rest : List A) (x : A) (made : List B) → xs ≡ x ∷ rest → F (x ∷ rest) ≡ a ∷ F rest → (made ++ a ∷ []) ++ F rest ≡ made ++ F xs
step_sides F a xs rest x made h f =
    append_assoc made (a ∷ []) (F rest) ∙ (ap (λ l. made ++ l) (sym f) ∙ ap (λ l. made ++ F l) (sym h))

-- the step of a loop that makes a list
pub step_made : {A B M : Type 0} (F : List A → List B) (shows : M → B) (k : B) (old new : List M) (a : M) (xs rest : List A) (x : A) → xs ≡ x ∷ rest → F (x ∷ rest) ≡ k ∷ F rest → new ≡ old ++ a ∷ [] → shows a ≡ k → map shows new ++ F rest ≡ map shows old ++ F xs
step_made F shows k old new a xs rest x h f e s =
    ap (λ l. l ++ F rest) (ap (map shows) e ∙ (map-append shows old (a ∷ []) ∙ ap (λ b. map shows old ++ b ∷ []) s))
    ∙ step_sides F k xs rest x (map shows old) h f

-- the same step, of the faults alone
pub step_on : (fs whole rest : List Fault) (b0 b1 : Option Fault) → whole ≡ fs ++ rest → b1 ≡ first_of b0 fs → first_of b1 rest ≡ first_of b0 whole
step_on fs whole rest b0 b1 h e = ap (λ b. first_of b rest) e ∙ (sym (first_of_append b0 fs rest) ∙ ap (first_of b0) (sym h))

-- the step of a loop that adds to a list, where the rest may be told otherwise than the whole
pub step_more : {A B : Type 0} (F G : List A → List B) (fs : List B) (xs rest : List A) (x : A) (o0 o1 : List B) → xs ≡ x ∷ rest → F (x ∷ rest) ≡ fs ++ G rest → o1 ≡ o0 ++ fs → o1 ++ G rest ≡ o0 ++ F xs
step_more F G fs xs rest x o0 o1 h f e =
    ap (λ o. o ++ G rest) e ∙ (append_assoc o0 fs (G rest) ∙ (ap (λ l. o0 ++ l) (sym f) ∙ ap (λ l. o0 ++ F l) (sym h)))
