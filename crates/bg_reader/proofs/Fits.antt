-- Tokens and their marks, and one-token readers of a kind.
use Rattle.std.proofs.Common.{◌≡◌, ℕ, List, [], ◌∷◌, ◌++◌, map, Bool, true, false, Some, refl, sym, ap, ◌∙◌, subst}
use Rattle.std.proofs.lemmas.List.{map-append}
use Rattle.bg_base.specs.declared.pos.Pos.{Pos}
use Rattle.bg_text.specs.declared.token.Kind.{Kind}
use Rattle.bg_text.specs.Tokens.{Tok}
use Rattle.bg_text.specs.Marks.{Mark, sign, Is, Fits, unplaced, Words}
use Rattle.bg_text.specs.Brackets.{turn, Opens, left_by, left}
use Rattle.bg_reader.specs.Kinds.{is_kind}
use Rattle.bg_reader.specs.Reading.{one, if_true, a_sign, a_text}
use Rattle.bg_reader.specs.Exact.{Passes, One, Good, Step}
use Rattle.bg_reader.proofs.Samples.{is_single, kind_is, is_itself, sample}
use Rattle.bg_reader.proofs.Good.{one_good}

pub some_eq : {A : Type 0} (a b : A) → Some a ≡ Some b → a ≡ b
some_eq a b h = cc

pub if_true_some : {A : Type 0} (b : Bool) (a c : A) → if_true b a ≡ Some c → (b ≡ true) × (a ≡ c)
if_true_some true a c h = (refl, some_eq a c h)
if_true_some false a c h = absurd cc

-- tokens of lists of marks
pub fits_append : (a b : List Tok) (ms ns : List Mark) → Fits a ms → Fits b ns → Fits (a ++ b) (ms ++ ns)
fits_append [] b [] ns h k = k
fits_append [] b (m ∷ ms) ns h k = absurd h
fits_append (t ∷ a) b [] ns h k = absurd h
fits_append (t ∷ a) b (m ∷ ms) ns h k = (h.0, fits_append a b ms ns h.1 k)

pub fits_split : (ts : List Tok) (ms ns : List Mark) → Fits ts (ms ++ ns) → (a b : List Tok) × (ts ≡ a ++ b) × Fits a ms × Fits b ns
fits_split ts [] ns h = ([], ts, refl, tt, h)
fits_split [] (m ∷ ms) ns h = absurd h
fits_split (t ∷ ts) (m ∷ ms) ns h = let r = fits_split ts ms ns h.1 in (t ∷ r.0, r.1, ap (λ l. t ∷ l) r.2, (h.0, r.3), r.4)

pub fits_none : (ts : List Tok) → Fits ts [] → ts ≡ []
fits_none [] h = refl
fits_none (t ∷ ts) h = absurd h

pub fits_first : (ts : List Tok) (m : Mark) (ms : List Mark) → Fits ts (m ∷ ms) → (t : Tok) × (more : List Tok) × (ts ≡ t ∷ more) × Is t m × Fits more ms
fits_first [] m ms h = absurd h
fits_first (t ∷ ts) m ms h = (t, ts, refl, h.0, h.1)

-- what fits has the words
pub fits_words : (ts : List Tok) (ms : List Mark) → Fits ts ms → Words ts ms
fits_words [] [] h = tt
fits_words [] (m ∷ ms) h = absurd h
fits_words (t ∷ ts) [] h = absurd h
fits_words (t ∷ ts) (m ∷ ms) h = ((h.0.0, h.0.1, tt), fits_words ts ms h.1)

-- the same of words
pub words_split : (ts : List Tok) (ms ns : List Mark) → Words ts (ms ++ ns) → (a b : List Tok) × (ts ≡ a ++ b) × Words a ms × Words b ns
words_split ts ms ns h = fits_split ts (map unplaced ms) (map unplaced ns) (subst (Fits ts) (map-append unplaced ms ns) h)

pub words_first : (ts : List Tok) (m : Mark) (ms : List Mark) → Words ts (m ∷ ms) → (t : Tok) × (more : List Tok) × (ts ≡ t ∷ more) × Is t (unplaced m) × Words more ms
words_first ts m ms h = fits_first ts (unplaced m) (map unplaced ms) h

pub fits_at : (ts us : List Tok) (ms : List Mark) → ts ≡ us → Fits us ms → Fits ts ms
fits_at ts us ms e h = subst (λ l. Fits l ms) (sym e) h

-- a token of the kind
module _ (k : Kind) (single : is_single k ≡ true) where
  pub sign_some : (t : Tok) (p : Pos) → a_sign k t ≡ Some p → (t.kind ≡ k) × (t.pos ≡ p)
  sign_some t p h = let w = if_true_some (is_kind k t.kind) t.pos p h in (kind_is k t.kind single w.0, w.1)

  pub sign_back : (t : Tok) → t.kind ≡ k → a_sign k t ≡ Some t.pos
  sign_back t e = rw (e, is_itself k) refl

  pub text_some : (t : Tok) (b : Pos × List ℕ) → a_text k t ≡ Some b → (t.kind ≡ k) × (t.text ≡ b.1) × (t.pos ≡ b.0)
  text_some t b h = let w = if_true_some (is_kind k t.kind) (t.pos, t.text) b h in (kind_is k t.kind single w.0, ap (λ (p : Pos × List ℕ). p.1) w.1, ap (λ (p : Pos × List ℕ). p.0) w.1)

  pub text_back : (t : Tok) (p : Pos) (x : List ℕ) → t.kind ≡ k → t.text ≡ x → t.pos ≡ p → a_text k t ≡ Some (p, x)
  text_back t p x e f g = rw (e, is_itself k, f, g) refl

  -- one token of the kind, without its position
  pub sign_fits : (ts : List Tok) (p : Pos) → One (a_sign k) p ts → Fits ts (sign k ∷ [])
  sign_fits ts p l = let w = sign_some l.0 p l.2 in let f : Fits (l.0 ∷ []) (sign k ∷ []) = ((w.0, tt, tt), tt) in rw l.1 f

  pub fits_sign : (ts : List Tok) → Fits ts (sign k ∷ []) → (p : Pos) × One (a_sign k) p ts
  fits_sign ts h = let f = fits_first ts (sign k) [] h in (f.0.pos, (f.0, f.2 ∙ ap (λ l. f.0 ∷ l) (fits_none f.1 f.4), sign_back f.0 f.3.0))

  -- some token is of the kind
  pub sample_sign : (p : Pos) → a_sign k (sample k single p) ≡ Some p
  sample_sign p = sign_back (sample k single p) refl

  pub sign_good : (n d : ℕ) (F : Tok → Bool) (p : Pos) → Good n d F (One (a_sign k)) (one (a_sign k))
  sign_good n d F p = one_good n d F (a_sign k) (sample k single p) p (sample_sign p)

  pub text_good : (n d : ℕ) (F : Tok → Bool) (p : Pos) → Good n d F (One (a_text k)) (one (a_text k))
  text_good n d F p = let t = sample k single p in one_good n d F (a_text k) t (p, t.text) (text_back t p t.text refl refl refl)

  -- what ends before the kind ends before such a token
  pub sign_passes : (F : Tok → Bool) (ends : (t : Tok) → t.kind ≡ k → F t ≡ true) (p : Pos) (front x : List Tok) → One (a_sign k) p front → Passes (λ _. true) x → Passes F (front ++ x)
  sign_passes F ends p front x l o = let w = sign_some l.0 p l.2 in rw l.1 (ends l.0 w.0)

  -- where the token leads
  pub step_sign : (d e : ℕ) → left_by (turn k) d (left []) ≡ Some e → Step (a_sign k) d e
  step_sign d e h t b s = let w = sign_some t b s in rw w.0 h

  pub step_text : (d e : ℕ) → left_by (turn k) d (left []) ≡ Some e → Step (a_text k) d e
  step_text d e h t b s = let w = text_some t b s in rw w.0 h

  pub opens_sign : turn k ≡ Opens → (t : Tok) (b : Pos) → a_sign k t ≡ Some b → turn t.kind ≡ Opens
  opens_sign h t b s = let w = sign_some t b s in rw w.0 h
