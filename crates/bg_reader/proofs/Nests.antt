-- Reading opens no bracket too many, and refuses the first that is one.
use Rattle.std.proofs.Common.{◌≡◌, ℕ, zero, suc, List, [], ◌∷◌, ◌++◌, Option, Some, None, refl, sym, ap, ◌∙◌, append_assoc}
use Rattle.bg_text.specs.Tokens.{Tok}
use Rattle.bg_text.specs.Brackets.{Turn, Opens, Shuts, Neither, turn, left_by, left}
use Rattle.bg_reader.specs.Exact.{NestBy, Nests, Step}
use Rattle.bg_reader.specs.Reading.{Read, Got, Bad, Deep, Out, Reader, with_read, and_read, both, peeked, branch_on, one, branch, sink, sunk, must, nothing, many}

pub left_more : (a b : List Tok) (d e : ℕ) → left a d ≡ Some e → left (a ++ b) d ≡ left b e
left_more [] b d e h = ap (left b) (some_is d e h)
  where
    some_is : (d e : ℕ) → Some d ≡ Some e → d ≡ e
    some_is d e h = cc
left_more (t ∷ a) b d e h = by (turn t.kind) d h (left_more a b)
  where
    by : (w : Turn) (d : ℕ) → left_by w d (left a) ≡ Some e → ((d e : ℕ) → left a d ≡ Some e → left (a ++ b) d ≡ left b e) → left_by w d (left (a ++ b)) ≡ left b e
    by Opens zero h more = absurd cc
    by Opens (suc d) h more = more d e h
    by Shuts d h more = more (suc d) e h
    by Neither d h more = more d e h

pub nest_with : {A B : Type 0} (d o : ℕ) (ts : List Tok) (f : A → B) (r : Read A) → NestBy d o ts r → NestBy d o ts (with_read f r)
nest_with d o ts f (Got v x) h = h
nest_with d o ts f (Bad x) h = h
nest_with d o ts f (Deep x) h = h
nest_with d o ts f Out h = h

-- behind a front
behind : {A : Type 0} (d m o : ℕ) (ts front x : List Tok) (r : Read A) → ts ≡ front ++ x → left front d ≡ Some m → NestBy m o x r → NestBy d o ts r
behind d m o ts front x (Got v y) e l h = (front ++ h.0, e ∙ ap (λ z. front ++ z) h.1 ∙ sym (append_assoc front h.0 y), left_more front h.0 d m l ∙ h.2)
behind d m o ts front x (Bad y) e l h = (front ++ h.0, h.1, e ∙ ap (λ z. front ++ z) h.2 ∙ sym (append_assoc front h.0 y), left_more front h.0 d m l ∙ h.3)
behind d m o ts front x (Deep y) e l h = (front ++ h.0, h.1, h.2, e ∙ ap (λ z. front ++ z) h.3 ∙ sym (append_assoc front h.0 y), h.4, h.5, left_more front h.0 d m l ∙ h.6)
behind d m o ts front x Out e l h = tt

pub nest_both : {A B : Type 0} (d m o : ℕ) (P : Reader A) (Q : Reader B) → Nests d m P → Nests m o Q → Nests d o (both P Q)
nest_both {A} {B} d m o P Q p q ts = by (P ts) (p ts)
  where
    by : (r : Read A) → NestBy d m ts r → NestBy {A = A × B} d o ts (and_read r (λ a x. with_read (λ b. (a, b)) (Q x)))
    by (Got a x) h = behind d m o ts h.0 x (with_read (λ b. (a, b)) (Q x)) h.1 h.2 (nest_with m o x (λ b. (a, b)) (Q x) (q x))
    by (Bad x) h = h
    by (Deep x) h = h
    by Out h = tt

module _ {A B : Type 0} (g : Tok → Option B) (d e o : ℕ) (step : Step g d e) where
  nest_on : (P : B → Reader A) (q : Read A) (t : Tok) (ts : List Tok) → ((b : B) → Nests e o (P b)) → NestBy d o (t ∷ ts) q → (w : Option B) → g t ≡ w → NestBy d o (t ∷ ts) (branch_on (peeked w ts) P q)
  nest_on P q t ts p h (Some b) k = behind d e o (t ∷ ts) (t ∷ []) ts (P b ts) refl (step t b k) (p b ts)
  nest_on P q t ts p h None k = h

  pub nest_branch : (P : B → Reader A) (Q : Reader A) → ((b : B) → Nests e o (P b)) → Nests d o Q → Nests d o (branch g P Q)
  nest_branch P Q p q [] = q []
  nest_branch P Q p q (t ∷ ts) = nest_on P (Q (t ∷ ts)) t ts p (q (t ∷ ts)) (g t) refl

nest_bad : (A : Type 0) (d o : ℕ) (ts : List Tok) → NestBy {A = A} d o ts (Bad ts)
nest_bad A d o ts = ([], d, refl, refl)

pub nest_nothing : {A : Type 0} (d : ℕ) (a : A) → Nests d d (nothing a)
nest_nothing d a ts = ([], refl, refl)

pub nest_one : {A : Type 0} (g : Tok → Option A) (d o : ℕ) → Step g d o → Nests d o (one g)
nest_one {A} g d o step [] = nest_bad A d o []
nest_one {A} g d o step (t ∷ ts) = nest_on g d o o step (λ a. nothing a) (Bad (t ∷ ts)) t ts (λ b. nest_nothing o b) (nest_bad A d o (t ∷ ts)) (g t) refl

pub nest_must : {A B : Type 0} (g : Tok → Option B) (d e o : ℕ) (P : Reader A) → Step g d e → Nests e o P → Nests d o (must g P)
nest_must {A} {B} g d e o P step p [] = nest_bad (B × A) d o []
nest_must {A} {B} g d e o P step p (t ∷ ts) = nest_on g d e o step (λ b x. with_read (λ a. (b, a)) (P x)) (Bad (t ∷ ts)) t ts (λ b x. nest_with e o x (λ a. (b, a)) (P x) (p x)) (nest_bad (B × A) d o (t ∷ ts)) (g t) refl

pub nest_many : {A B : Type 0} (g : Tok → Option B) (d e : ℕ) (P : B → Reader A) → Step g d e → ((b : B) → Nests e d (P b)) → (n : ℕ) → Nests d d (many g P n)
nest_many {A} g d e P step p zero = nest_branch g d e d step (λ b ts. Out) (nothing []) (λ b ts. tt) (nest_nothing {A = List A} d [])
nest_many {A} g d e P step p (suc n) = nest_branch g d e d step (λ b ts. with_read (λ v. v.0 ∷ v.1) (both (P b) (many g P n) ts)) (nothing []) (λ b ts. nest_with e d ts (λ v. v.0 ∷ v.1) (both (P b) (many g P n) ts) (nest_both e d d (P b) (many g P n) (p b) (nest_many g d e P step p n) ts)) (nest_nothing {A = List A} d [])

-- a bracket where none may be opened
module _ {A B : Type 0} (g : Tok → Option B) (o : ℕ) (opens : (t : Tok) (b : B) → g t ≡ Some b → turn t.kind ≡ Opens) where
  sink_on : (q : Read A) (t : Tok) (ts : List Tok) → NestBy 0 o (t ∷ ts) q → (w : Option B) → g t ≡ w → NestBy 0 o (t ∷ ts) (branch_on (peeked w ts) (λ b x. Deep (t ∷ ts)) q)
  sink_on q t ts h (Some b) k = ([], t, ts, refl, refl, opens t b k, refl)
  sink_on q t ts h None k = h

  pub nest_sink : (Q : Reader A) → Nests 0 o Q → Nests 0 o (sink g Q)
  nest_sink Q q [] = q []
  nest_sink Q q (t ∷ ts) = sink_on (Q (t ∷ ts)) t ts (q (t ∷ ts)) (g t) refl

pub nest_sunk : (A B : Type 0) (g : Tok → Option B) (o : ℕ) → ((t : Tok) (b : B) → g t ≡ Some b → turn t.kind ≡ Opens) → Nests 0 o (sunk {A = A} g)
nest_sunk A B g o opens [] = nest_bad A 0 o []
nest_sunk A B g o opens (t ∷ ts) = sink_on {A = A} g o opens (Bad (t ∷ ts)) t ts (nest_bad A 0 o (t ∷ ts)) (g t) refl
