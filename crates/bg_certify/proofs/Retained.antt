-- The names of a set's candidates.
use Rattle.std.proofs.Common.{◌≡◌, ℕ, zero, suc, ◌+◌, ◌<◌, Bool, true, false, List, [], ◌∷◌, ◌++◌, length, map, drop, get_or, None, refl, sym, ap, ◌∙◌, append_assoc, arith}
use Rattle.std.specs.Prelude.{if◌then◌else◌, Contains}
use Rattle.std.specs.Str.{bytes_eq}
use Rattle.std.proofs.lemmas.List.{drop_more}
use Rattle.std.proofs.lemmas.Slice.Eq.{bytes_eq-Decides}
use Rattle.bg_text.specs.declared.expr.Name.{Name}
use Rattle.bg_text.specs.Trees.{Id}
use Rattle.bg_text.specs.Views.{id_of}
use Rattle.bg_meant.specs.Once.{AreOnce}
use Rattle.bg_accept.specs.Names.{marks, unplaced, number_in}
use Rattle.bg_certify.specs.Names.{text_in, names_in, name_at}

-- ---- the loop over candidates

step : (bs : List Bool) (xs : List Name) (c : ℕ) (d : Name) → c < length bs → c < length xs →
    names_in (drop c bs) (map id_of (drop c xs))
    ≡ (if get_or bs c false then (get_or xs c d).text.items ∷ names_in (drop (c + 1) bs) (map id_of (drop (c + 1) xs)) else names_in (drop (c + 1) bs) (map id_of (drop (c + 1) xs)))
step bs xs c d h k =
    ap (λ (l : List Bool). names_in l (map id_of (drop c xs))) (drop_more bs c false h)
    ∙ ap (λ (l : List Name). names_in (get_or bs c false ∷ drop (c + 1) bs) (map id_of l)) (drop_more xs c d k)

pub named : (ms more whole : List (List ℕ)) (bs : List Bool) (xs : List Name) (c : ℕ) (text : List ℕ) (x : Name) → length bs ≡ length xs → c < length bs → get_or bs c false ≡ true →
    text ≡ (get_or xs c x).text.items → more ≡ ms ++ (text ∷ []) → ms ++ names_in (drop c bs) (map id_of (drop c xs)) ≡ whole →
    more ++ names_in (drop (c + 1) bs) (map id_of (drop (c + 1) xs)) ≡ whole
named ms more whole bs xs c text x l h t u m w =
    let k : c < length xs = omega arith in
    let rest = names_in (drop (c + 1) bs) (map id_of (drop (c + 1) xs)) in
    ap (λ (z : List (List ℕ)). z ++ rest) m
    ∙ (append_assoc ms (text ∷ []) rest
    ∙ (ap (λ (y : List ℕ). ms ++ (y ∷ rest)) u
    ∙ (ap (λ (b : Bool). ms ++ (if b then (get_or xs c x).text.items ∷ rest else rest)) (sym t)
    ∙ (ap (λ (z : List (List ℕ)). ms ++ z) (sym (step bs xs c x h k)) ∙ w))))

pub unnamed : (ms more whole : List (List ℕ)) (bs : List Bool) (xs : List Name) (c : ℕ) → length bs ≡ length xs → c < length bs → get_or bs c false ≡ false →
    more ≡ ms → ms ++ names_in (drop c bs) (map id_of (drop c xs)) ≡ whole →
    more ++ names_in (drop (c + 1) bs) (map id_of (drop (c + 1) xs)) ≡ whole
unnamed ms more whole bs [] c l h t m w = absurd (omega arith)
unnamed ms more whole bs (x ∷ xs) c l h t m w =
    let k : c < length (x ∷ xs) = omega arith in
    let rest = names_in (drop (c + 1) bs) (map id_of (drop (c + 1) (x ∷ xs))) in
    ap (λ (z : List (List ℕ)). z ++ rest) m
    ∙ (ap (λ (b : Bool). ms ++ (if b then (get_or (x ∷ xs) c x).text.items ∷ rest else rest)) (sym t)
    ∙ (ap (λ (z : List (List ℕ)). ms ++ z) (sym (step bs (x ∷ xs) c x h k)) ∙ w))

-- ---- bytes

same : (x : List ℕ) → bytes_eq x x ≡ true
same x = (bytes_eq-Decides x x).1 refl

other : (x y : List ℕ) → (x ≡ y → ⊥) → bytes_eq x y ≡ false
other x y n = by (bytes_eq x y) refl
  where
    by : (b : Bool) → bytes_eq x y ≡ b → b ≡ false
    by true e = absurd (n ((bytes_eq-Decides x y).0 e))
    by false e = refl

-- ---- the names of a set are those that a text retains

-- a name isn't the first of these
abbrev isnt_first : List ℕ → List (List ℕ) → Type 0
isnt_first x [] = Unit {0}
isnt_first x (n ∷ ns) = x ≡ n → ⊥

later : (y x : List ℕ) (xs : List (List ℕ)) → Contains xs x → Contains (y ∷ xs) x
later y x xs h = (suc h.0, omega (arith, h.1), h.2)

skips : (x : List ℕ) (bs : List Bool) (cs : List Id) → (Contains (map text_in cs) x → ⊥) → isnt_first x (names_in bs cs)
skips x [] cs h = tt
skips x (b ∷ bs) [] h = tt
skips x (true ∷ bs) (c ∷ cs) h = λ e. h (0, omega arith, sym e)
skips x (false ∷ bs) (c ∷ cs) h = skips x bs cs (λ i. h (later c.text x (map text_in cs) i))

pub marks_are : (bs : List Bool) (cs : List Id) → length bs ≡ length cs → AreOnce (map text_in cs) → marks cs (names_in bs cs) ≡ bs
marks_are [] [] l o = refl
marks_are [] (c ∷ cs) l o = absurd (omega arith)
marks_are (b ∷ bs) [] l o = absurd (omega arith)
marks_are (true ∷ bs) (c ∷ cs) l o =
    let e : length bs ≡ length cs = omega arith in
    ap (λ (t : Bool). if t then true ∷ marks cs (names_in bs cs) else false ∷ marks cs (c.text ∷ names_in bs cs)) (same c.text)
    ∙ ap (λ (l : List Bool). true ∷ l) (marks_are bs cs e o.1)
marks_are (false ∷ bs) (c ∷ cs) l o =
    let e : length bs ≡ length cs = omega arith in
    by (names_in bs cs) (skips c.text bs cs o.0) (marks_are bs cs e o.1)
  where
    by : (ns : List (List ℕ)) → isnt_first c.text ns → marks cs ns ≡ bs → marks (c ∷ cs) ns ≡ false ∷ bs
    by [] f e = ap (λ (l : List Bool). false ∷ l) e
    by (n ∷ ns) f e =
        ap (λ (t : Bool). if t then true ∷ marks cs ns else false ∷ marks cs (n ∷ ns)) (other c.text n f)
        ∙ ap (λ (l : List Bool). false ∷ l) e

pub all_placed : (bs : List Bool) (cs : List Id) → AreOnce (map text_in cs) → unplaced cs (names_in bs cs) ≡ None
all_placed [] [] o = refl
all_placed [] (c ∷ cs) o = refl
all_placed (b ∷ bs) [] o = refl
all_placed (true ∷ bs) (c ∷ cs) o =
    ap (λ (t : Bool). if t then unplaced cs (names_in bs cs) else unplaced cs (c.text ∷ names_in bs cs)) (same c.text) ∙ all_placed bs cs o.1
all_placed (false ∷ bs) (c ∷ cs) o = by (names_in bs cs) (skips c.text bs cs o.0) (all_placed bs cs o.1)
  where
    by : (ns : List (List ℕ)) → isnt_first c.text ns → unplaced cs ns ≡ None → unplaced (c ∷ cs) ns ≡ None
    by [] f e = refl
    by (n ∷ ns) f e = ap (λ (t : Bool). if t then unplaced cs ns else unplaced cs (n ∷ ns)) (other c.text n f) ∙ e

-- ---- a candidate's number is that of its name

contained_at : (cs : List Id) (k : ℕ) (x : List ℕ) → k < length cs → x ≡ name_at cs k → Contains (map text_in cs) x
contained_at [] k x h e = absurd (omega arith)
contained_at (c ∷ cs) zero x h e = (0, omega arith, sym e)
contained_at (c ∷ cs) (suc k) x h e = later c.text x (map text_in cs) (contained_at cs k x (omega arith) e)

pub numbered : (cs : List Id) (k : ℕ) → AreOnce (map text_in cs) → k < length cs → number_in cs (name_at cs k) ≡ k
numbered [] k o h = absurd (omega arith)
numbered (c ∷ cs) zero o h = ap (λ (t : Bool). if t then 0 else suc (number_in cs c.text)) (same c.text)
numbered (c ∷ cs) (suc k) o h =
    let h' : k < length cs = omega arith in
    ap (λ (t : Bool). if t then 0 else suc (number_in cs (name_at cs k))) (other c.text (name_at cs k) (λ e. o.0 (contained_at cs k c.text h' e)))
    ∙ ap (λ (n : ℕ). suc n) (numbered cs k o.1 h')
