-- Numbers of types of maps.
use Rattle.std.proofs.Common.{◌≡◌, ℕ, zero, suc, ◌+◌, ◌<◌, ◌≤◌, Bool, true, false, List, [], ◌∷◌, ◌++◌, length, drop, get_or, Option, Some, None, refl, sym, ap, ◌∙◌, subst, arith}
use Rattle.std.specs.Prelude.{slice_get, if◌then◌else◌}
use Rattle.bg_ast.specs.Values.{Ty, KeyType}
use Rattle.bg_terms.specs.Terms.{Head, Applies, Selects, Updates, Differs, Term}
use Rattle.bg_terms.proofs.Heads.{kinds_same, kinds_refl}
use Rattle.bg_wanted.specs.Classes.{speaks, speaks_there, first_met, first_before, AreMet, or_zero, place_of, HasHead, class_in}

abbrev or_else : Option ℕ → Option ℕ → Option ℕ
or_else None p = p
or_else (Some a) p = Some a

or_none : (o : Option ℕ) → or_else o None ≡ o
or_none None = refl
or_none (Some a) = refl

-- ---- one place more

before_more : (ks : List KeyType) (t : Ty) (i a : ℕ) (ts : List Term) → first_before ks t (suc i) a ts ≡ or_else (first_before ks t i a ts) (if speaks_there (slice_get ts i) ks t then Some (a + i) else None)
before_more ks t zero a [] = refl
before_more ks t zero a (x ∷ xs) =
    ap (λ b. if speaks x.head ks t then Some b else None) (let q : a ≡ a + 0 = omega arith in q)
before_more ks t (suc i) a [] = refl
before_more ks t (suc i) a (x ∷ xs) =
    on (speaks x.head ks t) (before_more ks t i (suc a) xs ∙ ap (λ b. or_else (first_before ks t i (suc a) xs) (if speaks_there (slice_get xs i) ks t then Some b else None)) (let q : suc a + i ≡ a + suc i = omega arith in q))
  where
    on : (c : Bool) → first_before ks t (suc i) (suc a) xs ≡ or_else (first_before ks t i (suc a) xs) (if speaks_there (slice_get xs i) ks t then Some (a + suc i) else None) → (if c then Some a else first_before ks t (suc i) (suc a) xs) ≡ or_else (if c then Some a else first_before ks t i (suc a) xs) (if speaks_there (slice_get xs i) ks t then Some (a + suc i) else None)
    on true e = refl
    on false e = e

met_more : (ts : List Term) (ks : List KeyType) (t : Ty) (ms : List ℕ) (m : ℕ) → first_met ts ks t (ms ++ m ∷ []) ≡ or_else (first_met ts ks t ms) (if speaks_there (slice_get ts m) ks t then Some m else None)
met_more ts ks t [] m = refl
met_more ts ks t (k ∷ ms) m = on (speaks_there (slice_get ts k) ks t) (met_more ts ks t ms m)
  where
    on : (c : Bool) → first_met ts ks t (ms ++ m ∷ []) ≡ or_else (first_met ts ks t ms) (if speaks_there (slice_get ts m) ks t then Some m else None) → (if c then Some k else first_met ts ks t (ms ++ m ∷ [])) ≡ or_else (if c then Some k else first_met ts ks t ms) (if speaks_there (slice_get ts m) ks t then Some m else None)
    on true e = refl
    on false e = e

-- the first place that is left
pub met_at : (ts : List Term) (ks : List KeyType) (t : Ty) (ms : List ℕ) (i : ℕ) → i < length ms → first_met ts ks t (drop i ms) ≡ (if speaks_there (slice_get ts (get_or ms i 0)) ks t then Some (get_or ms i 0) else first_met ts ks t (drop (i + 1) ms))
met_at ts ks t [] i h = absurd (omega (arith, h))
met_at ts ks t (k ∷ ms) zero h = refl
met_at ts ks t (k ∷ ms) (suc i) h =
    met_at ts ks t ms i (omega (arith, h))
    ∙ ap (λ j. if speaks_there (slice_get ts (get_or ms i 0)) ks t then Some (get_or ms i 0) else first_met ts ks t (drop j (k ∷ ms))) (let q : suc (i + 1) ≡ suc i + 1 = omega arith in q)

before_next : (ks : List KeyType) (t : Ty) (i : ℕ) (ts : List Term) → or_else (first_before ks t i 0 ts) (if speaks_there (slice_get ts i) ks t then Some i else None) ≡ first_before ks t (i + 1) 0 ts
before_next ks t i ts =
    ap (λ b. or_else (first_before ks t i 0 ts) (if speaks_there (slice_get ts i) ks t then Some b else None)) (let q : i ≡ 0 + i = omega arith in q)
    ∙ (sym (before_more ks t i 0 ts) ∙ ap (λ j. first_before ks t j 0 ts) (let q : suc i ≡ i + 1 = omega arith in q))

-- a place more is kept
pub met_pushed : (ts : List Term) (i : ℕ) (ms now : List ℕ) → now ≡ ms ++ i ∷ [] → AreMet ts i ms → AreMet ts (i + 1) now
met_pushed ts i ms now e met ks t =
    ap (first_met ts ks t) e
    ∙ (met_more ts ks t ms i
    ∙ (ap (λ o. or_else o (if speaks_there (slice_get ts i) ks t then Some i else None)) (met ks t)
    ∙ before_next ks t i ts))

-- one type of maps of which a head speaks
spoken_same : (h : Head) (ks ls : List KeyType) (t u : Ty) → speaks h ks t ≡ true → speaks h ls u ≡ true → (ks ≡ ls) × (t ≡ u)
spoken_same (Applies f) ks ls t u e g = absurd (let bad : ⊥ = cc in bad)
spoken_same (Selects is w) ks ls t u e g =
    let x = kinds_same is ks w t e in let y = kinds_same is ls w u g in (sym x.0 ∙ y.0, sym x.1 ∙ y.1)
spoken_same (Updates is w) ks ls t u e g =
    let x = kinds_same is ks w t e in let y = kinds_same is ls w u g in (sym x.0 ∙ y.0, sym x.1 ∙ y.1)
spoken_same (Differs is w j) ks ls t u e g =
    let x = kinds_same is ks w t e in let y = kinds_same is ls w u g in (sym x.0 ∙ y.0, sym x.1 ∙ y.1)

there_same : (o : Option Term) (ks ls : List KeyType) (t u : Ty) → speaks_there o ks t ≡ true → speaks_there o ls u ≡ true → (ks ≡ ls) × (t ≡ u)
there_same None ks ls t u e g = absurd (let bad : ⊥ = cc in bad)
there_same (Some x) ks ls t u e g = spoken_same x.head ks ls t u e g

-- nothing more where the term speaks of maps that were met, or of none
still_met : (ts : List Term) (i : ℕ) (ms : List ℕ) → AreMet ts i ms → ((ks : List KeyType) (t : Ty) → speaks_there (slice_get ts i) ks t ≡ true → (p : ℕ) × (first_before ks t i 0 ts ≡ Some p)) → AreMet ts (i + 1) ms
still_met ts i ms met known ks t =
    met ks t
    ∙ (on (speaks_there (slice_get ts i) ks t) refl
    ∙ before_next ks t i ts)
  where
    on : (c : Bool) → speaks_there (slice_get ts i) ks t ≡ c → first_before ks t i 0 ts ≡ or_else (first_before ks t i 0 ts) (if c then Some i else None)
    on true e =
        let k = known ks t e in
        k.1 ∙ sym (ap (λ o. or_else o (Some i)) k.1)
    on false e = sym (or_none (first_before ks t i 0 ts))

pub met_known : (ts : List Term) (i : ℕ) (ms : List ℕ) (ks : List KeyType) (t : Ty) (p : ℕ) → AreMet ts i ms → speaks_there (slice_get ts i) ks t ≡ true → first_met ts ks t ms ≡ Some p → AreMet ts (i + 1) ms
met_known ts i ms ks t p met there e =
    still_met ts i ms met
    (λ ls u g. let same = there_same (slice_get ts i) ks ls t u there g in
    (p, subst (λ k. first_before k u i 0 ts ≡ Some p) same.0 (subst (λ w. first_before ks w i 0 ts ≡ Some p) same.1 (sym (met ks t) ∙ e))))

pub met_silent : (ts : List Term) (i f : ℕ) (ms : List ℕ) → AreMet ts i ms → HasHead ts i (Applies f) → AreMet ts (i + 1) ms
met_silent ts i f ms met has =
    still_met ts i ms met (λ ks t e. absurd (let no : speaks_there (slice_get ts i) ks t ≡ false = ap (λ o. speaks_there o ks t) has.is_there ∙ ap (λ h. speaks h ks t) has.head in let bad : ⊥ = cc in bad))

pub silent_head : (ts : List Term) (i f : ℕ) (h : Head) (ms : List ℕ) → AreMet ts i ms → HasHead ts i h → h ≡ Applies f → AreMet ts (i + 1) ms
silent_head ts i f h ms met has e = met_silent ts i f ms met (subst (HasHead ts i) e has)

-- ---- the first place of all

before_all : (ks : List KeyType) (t : Ty) (i a p : ℕ) (ts : List Term) → first_before ks t i a ts ≡ Some p → first_before ks t (length ts) a ts ≡ Some p
before_all ks t zero a p ts e = absurd (let bad : ⊥ = cc in bad)
before_all ks t (suc i) a p [] e = absurd (let bad : ⊥ = cc in bad)
before_all ks t (suc i) a p (x ∷ xs) e = on (speaks x.head ks t) e (before_all ks t i (suc a) p xs)
  where
    on : (c : Bool) → (if c then Some a else first_before ks t i (suc a) xs) ≡ Some p → (first_before ks t i (suc a) xs ≡ Some p → first_before ks t (length xs) (suc a) xs ≡ Some p) → (if c then Some a else first_before ks t (length xs) (suc a) xs) ≡ Some p
    on true f later = f
    on false f later = later f

pub place_met : (ts : List Term) (i : ℕ) (ms : List ℕ) (ks : List KeyType) (t : Ty) (p : ℕ) → AreMet ts i ms → first_met ts ks t ms ≡ Some p → p ≡ place_of ks t ts
place_met ts i ms ks t p met e = sym (ap or_zero (before_all ks t i 0 p ts (sym (met ks t) ∙ e)))

pub place_new : (ts : List Term) (i : ℕ) (ms : List ℕ) (ks : List KeyType) (t : Ty) → AreMet ts i ms → speaks_there (slice_get ts i) ks t ≡ true → first_met ts ks t ms ≡ None → i ≡ place_of ks t ts
place_new ts i ms ks t met there e =
    sym (ap or_zero (before_all ks t (suc i) 0 i ts (before_more ks t i 0 ts
    ∙ (ap (λ o. or_else o (if speaks_there (slice_get ts i) ks t then Some (0 + i) else None)) (sym (met ks t) ∙ e)
    ∙ (ap (λ c. if c then Some (0 + i) else None) there ∙ ap (λ j. Some j) (let q : 0 + i ≡ i = omega arith in q))))))

-- past the end nothing more speaks
pub before_beyond : (ks : List KeyType) (t : Ty) (i a : ℕ) (ts : List Term) → length ts ≤ i → first_before ks t i a ts ≡ first_before ks t (length ts) a ts
before_beyond ks t zero a [] h = refl
before_beyond ks t (suc i) a [] h = refl
before_beyond ks t zero a (x ∷ xs) h = absurd (omega (arith, h))
before_beyond ks t (suc i) a (x ∷ xs) h =
    ap (λ o. if speaks x.head ks t then Some a else o) (before_beyond ks t i (suc a) xs (omega (arith, h)))

-- ---- terms of one class have one head

-- the place that is found has a term that speaks of these maps
pub found_there : (ks : List KeyType) (t : Ty) (i a p : ℕ) (ts : List Term) → first_before ks t i a ts ≡ Some p → (j : ℕ) × ((p ≡ a + j) × (speaks_there (slice_get ts j) ks t ≡ true))
found_there ks t zero a p ts e = absurd (let bad : ⊥ = cc in bad)
found_there ks t (suc i) a p [] e = absurd (let bad : ⊥ = cc in bad)
found_there ks t (suc i) a p (x ∷ xs) e =
    on (speaks x.head ks t) refl e (λ f. found_there ks t i (suc a) p xs f)
  where
    on : (c : Bool) → speaks x.head ks t ≡ c → (if c then Some a else first_before ks t i (suc a) xs) ≡ Some p → (first_before ks t i (suc a) xs ≡ Some p → (j : ℕ) × ((p ≡ suc a + j) × (speaks_there (slice_get xs j) ks t ≡ true))) → (j : ℕ) × ((p ≡ a + j) × (speaks_there (slice_get (x ∷ xs) j) ks t ≡ true))
    on true g f later = let same : a ≡ p = cc in (0, (omega (arith, same), g))
    on false g f later = let w = later f in let q = w.1.0 in (suc w.0, (omega (arith, q), w.1.1))

-- something is found where a term speaks of these maps
pub some_found : (ks : List KeyType) (t : Ty) (b a : ℕ) (ts : List Term) → speaks_there (slice_get ts b) ks t ≡ true → (p : ℕ) × (first_before ks t (length ts) a ts ≡ Some p)
some_found ks t b a [] e = absurd (let bad : ⊥ = cc in bad)
some_found ks t zero a (x ∷ xs) e =
    (a, ap (λ c. if c then Some a else first_before ks t (length xs) (suc a) xs) e)
some_found ks t (suc b) a (x ∷ xs) e = on (speaks x.head ks t) (some_found ks t b (suc a) xs e)
  where
    on : (c : Bool) → ((p : ℕ) × (first_before ks t (length xs) (suc a) xs ≡ Some p)) → (p : ℕ) × ((if c then Some a else first_before ks t (length xs) (suc a) xs) ≡ Some p)
    on true w = (a, refl)
    on false w = w

-- types of maps of which terms speak are known by their numbers
pub places_same : (ts : List Term) (a b : ℕ) (ks ls : List KeyType) (t u : Ty) → speaks_there (slice_get ts a) ks t ≡ true → speaks_there (slice_get ts b) ls u ≡ true → place_of ks t ts ≡ place_of ls u ts → (ks ≡ ls) × (t ≡ u)
places_same ts a b ks ls t u e f q =
    let x = some_found ks t a 0 ts e in
    let y = some_found ls u b 0 ts f in
    let v = found_there ks t (length ts) 0 x.0 ts x.1 in
    let w = found_there ls u (length ts) 0 y.0 ts y.1 in
    let one : x.0 ≡ y.0 = sym (ap or_zero x.1) ∙ (q ∙ ap or_zero y.1) in
    let first = v.1.0 in
    let second = w.1.0 in
    let same : w.0 ≡ v.0 = omega (arith, one, first, second) in
    there_same (slice_get ts v.0) ks ls t u v.1.1 (subst (λ j. speaks_there (slice_get ts j) ls u ≡ true) same w.1.1)

spoken : (ts : List Term) (a : ℕ) (x : Term) (ks : List KeyType) (t : Ty) → slice_get ts a ≡ Some x → speaks x.head ks t ≡ true → speaks_there (slice_get ts a) ks t ≡ true
spoken ts a x ks t e h = ap (λ o. speaks_there o ks t) e ∙ h

module _ (ts : List Term) (a b : ℕ) (x y : Term) (e : slice_get ts a ≡ Some x) (f : slice_get ts b ≡ Some y) where
  by_places : (ks ls : List KeyType) (t u : Ty) → speaks x.head ks t ≡ true → speaks y.head ls u ≡ true → place_of ks t ts ≡ place_of ls u ts → (ks ≡ ls) × (t ≡ u)
  by_places ks ls t u g h q =
      places_same ts a b ks ls t u (spoken ts a x ks t e g) (spoken ts b y ls u f h) q

  classes_same : (h k : Head) → x.head ≡ h → y.head ≡ k → class_in ts h ≡ class_in ts k → h ≡ k
  classes_same (Applies i) (Applies j) g h q = let same : i ≡ j = cc in ap Applies same
  classes_same (Applies i) (Selects ls u) g h q = absurd (let bad : ⊥ = cc in bad)
  classes_same (Applies i) (Updates ls u) g h q = absurd (let bad : ⊥ = cc in bad)
  classes_same (Applies i) (Differs ls u j) g h q = absurd (let bad : ⊥ = cc in bad)
  classes_same (Selects ks t) (Applies j) g h q = absurd (let bad : ⊥ = cc in bad)
  classes_same (Selects ks t) (Selects ls u) g h q =
      let same : place_of ks t ts ≡ place_of ls u ts = cc in
      let w = by_places ks ls t u (ap (λ z. speaks z ks t) g ∙ kinds_refl ks t) (ap (λ z. speaks z ls u) h ∙ kinds_refl ls u) same in
      ap (λ z. Selects z t) w.0 ∙ ap (Selects ls) w.1
  classes_same (Selects ks t) (Updates ls u) g h q = absurd (let bad : ⊥ = cc in bad)
  classes_same (Selects ks t) (Differs ls u j) g h q = absurd (let bad : ⊥ = cc in bad)
  classes_same (Updates ks t) (Applies j) g h q = absurd (let bad : ⊥ = cc in bad)
  classes_same (Updates ks t) (Selects ls u) g h q = absurd (let bad : ⊥ = cc in bad)
  classes_same (Updates ks t) (Updates ls u) g h q =
      let same : place_of ks t ts ≡ place_of ls u ts = cc in
      let w = by_places ks ls t u (ap (λ z. speaks z ks t) g ∙ kinds_refl ks t) (ap (λ z. speaks z ls u) h ∙ kinds_refl ls u) same in
      ap (λ z. Updates z t) w.0 ∙ ap (Updates ls) w.1
  classes_same (Updates ks t) (Differs ls u j) g h q = absurd (let bad : ⊥ = cc in bad)
  classes_same (Differs ks t i) (Applies j) g h q = absurd (let bad : ⊥ = cc in bad)
  classes_same (Differs ks t i) (Selects ls u) g h q = absurd (let bad : ⊥ = cc in bad)
  classes_same (Differs ks t i) (Updates ls u) g h q = absurd (let bad : ⊥ = cc in bad)
  classes_same (Differs ks t i) (Differs ls u j) g h q =
      let same : place_of ks t ts ≡ place_of ls u ts = cc in
      let part : i ≡ j = cc in
      let w = by_places ks ls t u (ap (λ z. speaks z ks t) g ∙ kinds_refl ks t) (ap (λ z. speaks z ls u) h ∙ kinds_refl ls u) same in
      ap (λ z. Differs z t i) w.0 ∙ (ap (λ z. Differs ls z i) w.1 ∙ ap (Differs ls u) part)

  pub one_class : class_in ts x.head ≡ class_in ts y.head → x.head ≡ y.head
  one_class q = classes_same x.head y.head refl refl q

-- what speaks of maps of this type
pub spoken_there : (ts : List Term) (a : ℕ) (h : Head) (ks : List KeyType) (t : Ty) → HasHead ts a h → speaks h ks t ≡ true → speaks_there (slice_get ts a) ks t ≡ true
spoken_there ts a h ks t has e =
    ap (λ o. speaks_there o ks t) has.is_there ∙ (ap (λ k. speaks k ks t) has.head ∙ e)
