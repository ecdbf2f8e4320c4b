-- Marks of which each bracket that is opened is closed.
use Rattle.std.proofs.Common.{◌≡◌, ℕ, zero, suc, List, [], ◌∷◌, ◌++◌, Option, Some, None, refl, sym, ap, ◌∙◌, subst, append_assoc}
use Rattle.bg_text.specs.declared.token.Kind.TheVariants as kinds
use Rattle.bg_text.specs.Tokens.{Tok}
use Rattle.bg_text.specs.Marks.{Mark, sign, Words, each, after_commas, commas, if_there}
use Rattle.bg_text.specs.Statements.{in_braces}
use Rattle.bg_text.specs.Brackets.{Turn, Opens, Shuts, Neither, turn, left_by, left}

-- how many more brackets may be opened behind tokens of these marks
abbrev left_of : List Mark → ℕ → Option ℕ
left_of [] d = Some d
left_of (m ∷ ms) d = left_by (turn m.kind) d (left_of ms)

-- as many as before them, unless one is too many
pub record Even (ms : List Mark) : Type 0 where
  pub even : (d e : ℕ) → left_of ms d ≡ Some e → e ≡ d

some_is : (d e : ℕ) → Some d ≡ Some e → e ≡ d
some_is d e h = cc

-- what is left between two rows of marks
cut_left : (a b : List Mark) (d e : ℕ) → left_of (a ++ b) d ≡ Some e → (m : ℕ) × (left_of a d ≡ Some m) × (left_of b m ≡ Some e)
cut_left [] b d e h = (d, refl, h)
cut_left (x ∷ a) b d e h = by (turn x.kind) d h (λ d h. cut_left a b d e h)
  where
    by : (w : Turn) (d : ℕ) → left_by w d (left_of (a ++ b)) ≡ Some e → ((d : ℕ) → left_of (a ++ b) d ≡ Some e → (m : ℕ) × (left_of a d ≡ Some m) × (left_of b m ≡ Some e)) → (m : ℕ) × (left_by w d (left_of a) ≡ Some m) × (left_of b m ≡ Some e)
    by Opens zero h more = absurd cc
    by Opens (suc d) h more = more d h
    by Shuts d h more = more (suc d) h
    by Neither d h more = more d h

pub calm : Even []
calm = record { even = λ d e h. some_is d e h }

-- a mark that is no bracket, and others behind it
pub plain : (m : Mark) → turn m.kind ≡ Neither → {ms : List Mark} → Even ms → Even (m ∷ ms)
plain m n {ms} s = record { even = λ d e h. s.even d e (subst (λ w. left_by w d (left_of ms) ≡ Some e) n h) }

pub chain : {ms ns : List Mark} → Even ms → Even ns → Even (ms ++ ns)
chain {ms} {ns} s t = record { even = λ d e h. (let c = cut_left ms ns d e h in t.even c.0 e c.2 ∙ s.even d c.0 c.1) }

-- a bracket, what stands in it, what closes it and others behind
pub nest : (o c : Mark) → turn o.kind ≡ Opens → turn c.kind ≡ Shuts → {ms ns : List Mark} → Even ms → Even ns → Even (o ∷ (ms ++ (c ∷ ns)))
nest o c i j {ms} {ns} s t = record { even = λ d e h. by d e (subst (λ w. left_by w d (left_of (ms ++ (c ∷ ns))) ≡ Some e) i h) }
  where
    by : (d e : ℕ) → left_by Opens d (left_of (ms ++ (c ∷ ns))) ≡ Some e → e ≡ d
    by zero e h = absurd cc
    by (suc d) e h =
        let k = cut_left ms (c ∷ ns) d e h in
        t.even (suc k.0) e (subst (λ w. left_by w k.0 (left_of ns) ≡ Some e) j k.2) ∙ ap suc (s.even d k.0 k.1)

pub regroup : (a b c : List Mark) → Even (a ++ (b ++ c)) → Even ((a ++ b) ++ c)
regroup a b c s = subst Even (sym (append_assoc a b c)) s

pub round : {ms ns : List Mark} → Even ms → Even ns → Even (sign kinds.Open ∷ (ms ++ (sign kinds.Close ∷ ns)))
round s t = nest (sign kinds.Open) (sign kinds.Close) refl refl s t

pub curly : {ms : List Mark} → Even ms → Even (in_braces ms)
curly s = nest (sign kinds.OpenBrace) (sign kinds.CloseBrace) refl refl s calm

-- a semicolon at the end
pub ended : Even (sign kinds.Semicolon ∷ [])
ended = plain (sign kinds.Semicolon) refl calm

pub each_even : {A : Type 0} (f : A → List Mark) → ((a : A) → Even (f a)) → (xs : List A) → Even (each f xs)
each_even f h [] = calm
each_even f h (a ∷ rest) = chain (h a) (each_even f h rest)

after_even : {A : Type 0} (f : A → List Mark) → ((a : A) → Even (f a)) → (xs : List A) → Even (after_commas f xs)
after_even f h [] = calm
after_even f h (a ∷ rest) = chain (plain (sign kinds.Comma) refl (h a)) (after_even f h rest)

pub commas_even : {A : Type 0} (f : A → List Mark) → ((a : A) → Even (f a)) → (xs : List A) → Even (commas f xs)
commas_even f h [] = calm
commas_even f h (a ∷ rest) = chain (h a) (after_even f h rest)

pub there_even : {A : Type 0} (f : A → List Mark) → ((a : A) → Even (f a)) → (x : Option A) → Even (if_there f x)
there_even f h None = calm
there_even f h (Some a) = h a

left_same : (ts : List Tok) (ms : List Mark) → Words ts ms → (d : ℕ) → left ts d ≡ left_of ms d
left_same [] [] h d = refl
left_same [] (m ∷ ms) h d = absurd h
left_same (t ∷ ts) [] h d = absurd h
left_same (t ∷ ts) (m ∷ ms) h d = ap (λ k. left_by (turn k) d (left ts)) h.0.0 ∙ by (turn m.kind) d (left_same ts ms h.1)
  where
    by : (w : Turn) (d : ℕ) → ((d : ℕ) → left ts d ≡ left_of ms d) → left_by w d (left ts) ≡ left_by w d (left_of ms)
    by Opens zero same = refl
    by Opens (suc d) same = same d
    by Shuts d same = same (suc d)
    by Neither d same = same d

-- tokens of such marks
pub even_tokens : (ts : List Tok) (ms : List Mark) (d e : ℕ) → Words ts ms → Even ms → left ts d ≡ Some e → left ts d ≡ Some d
even_tokens ts ms d e w s h = h ∙ ap (λ k. Some k) (s.even d e (sym (left_same ts ms w d) ∙ h))
