-- Exact readers: each answer is decided by the tokens read and one token more.
-- The laws that put exact readers together are in proofs/Good.antt, and what follows from exactness in proofs/Exact.antt.
use Rattle.std.specs.Prelude.{◌≡◌, ℕ, ◌<◌, List, [], ◌∷◌, ◌++◌, length, Bool, true, Option, Some, None, ◌⊎◌}
use Rattle.bg_text.specs.Tokens.{Tok}
use Rattle.bg_text.specs.Brackets.{turn, Opens, left}
use Rattle.bg_reader.specs.Reading.{Read, Got, Bad, Deep, Out, Reader}

-- y is at its end, or it begins as x
abbrev pub Like : List Tok → List Tok → Type 0
Like x [] = Unit {0}
Like [] (u ∷ y) = ⊥
Like (t ∷ x) (u ∷ y) = t ≡ u

-- the next token is none that goes on
abbrev pub Passes : (Tok → Bool) → List Tok → Type 0
Passes f [] = Unit {0}
Passes f (t ∷ ts) = f t ≡ true

-- tokens with which a spelling begins; L v ts says that ts spell v
abbrev pub Begins : {A : Type 0} → (A → List Tok → Type 0) → List Tok → Type 0
Begins {A} L front = (v : A) × (more : List Tok) × L v (front ++ more)

-- the front spells the value, and whatever follows in place of the rest, if it begins as the rest or not at all, the
-- same is read
pub record Took {A : Type 0} (L : A → List Tok → Type 0) (P : Reader A) (ts : List Tok) (v : A) (x : List Tok) : Type 0 where
  pub front : List Tok
  pub cut : ts ≡ front ++ x
  pub spells : L v front
  pub again : (y : List Tok) → Like x y → P (front ++ y) ≡ Got v y

-- the front begins a spelling, and whatever follows in place of the rest, if it begins as the rest or not at all, is
-- refused
pub record Missed {A : Type 0} (L : A → List Tok → Type 0) (P : Reader A) (ts x : List Tok) : Type 0 where
  pub front : List Tok
  pub cut : ts ≡ front ++ x
  pub begins : Begins L front
  pub again : (y : List Tok) → Like x y → P (front ++ y) ≡ Bad y

-- the front and a bracket begin a spelling
pub record Sank {A : Type 0} (L : A → List Tok → Type 0) (ts x : List Tok) : Type 0 where
  pub front : List Tok
  pub bracket : Tok
  pub rest : List Tok
  pub here : x ≡ bracket ∷ rest
  pub cut : ts ≡ front ++ x
  pub begins : Begins L (front ++ bracket ∷ [])

abbrev pub Fine : {A : Type 0} → ℕ → (A → List Tok → Type 0) → Reader A → List Tok → Read A → Type 0
Fine n L P ts (Got v x) = Took L P ts v x
Fine n L P ts (Bad x) = Missed L P ts x
Fine n L P ts (Deep x) = Sank L ts x
Fine n L P ts Out = n < length ts

-- read so, unless there are more brackets in one another than d or more parts in a row than n
abbrev pub Reads : {A : Type 0} → ℕ → ℕ → A → List Tok → List Tok → Read A → Type 0
Reads n d v front x (Got w y) = (w ≡ v) × (y ≡ x)
Reads n d v front x (Bad y) = ⊥
Reads n d v front x (Deep y) = d < length front
Reads n d v front x Out = n < length front

-- An exact reader, at most n parts in a row and d brackets in one another, of a language whose spellings end before the
-- tokens F: what it answers is so, what is spelled is read, and something is spelled.
pub record Good {A : Type 0} (n d : ℕ) (F : Tok → Bool) (L : A → List Tok → Type 0) (P : Reader A) : Type 0 where
  pub fine : (ts : List Tok) → Fine n L P ts (P ts)
  pub full : (v : A) (front x : List Tok) → L v front → Passes F x → Reads n d v front x (P (front ++ x))
  pub some : Begins L []

-- one token that f takes
abbrev pub One : {A : Type 0} → (Tok → Option A) → A → List Tok → Type 0
One f v ts = (t : Tok) × (ts ≡ t ∷ []) × (f t ≡ Some v)

-- a part and then another
abbrev pub Both : {A B : Type 0} → (A → List Tok → Type 0) → (B → List Tok → Type 0) → A × B → List Tok → Type 0
Both L M v ts = (a b : List Tok) × (ts ≡ a ++ b) × L v.0 a × M v.1 b

-- no tokens
abbrev pub Empty : {A : Type 0} → A → A → List Tok → Type 0
Empty a v ts = (v ≡ a) × (ts ≡ [])

-- the next token is none that g takes
abbrev pub Free : {B : Type 0} → (Tok → Option B) → List Tok → Type 0
Free g [] = Unit {0}
Free g (t ∷ ts) = g t ≡ None

-- g takes some token so
abbrev pub Picks : {B : Type 0} → (Tok → Option B) → B → Type 0
Picks g b = (t : Tok) × (g t ≡ Some b)

-- a token that g takes and L behind it, or M
abbrev pub Branch : {A B : Type 0} → (Tok → Option B) → (B → A → List Tok → Type 0) → (A → List Tok → Type 0) → A → List Tok → Type 0
Branch {A} {B} g L M v ts = ((t : Tok) × (more : List Tok) × (b : B) × (ts ≡ t ∷ more) × (g t ≡ Some b) × L b v more) ⊎ M v ts

-- parts in a row, each behind a token that g takes
abbrev pub Many : {A B : Type 0} → (Tok → Option B) → (B → A → List Tok → Type 0) → List A → List Tok → Type 0
Many g L [] ts = ts ≡ []
Many {A} {B} g L (v ∷ vs) ts = (t : Tok) × (more : List Tok) × (b : B) × (ts ≡ t ∷ more) × (g t ≡ Some b) × ((a c : List Tok) × (more ≡ a ++ c) × L b v a × Many g L vs c)

-- how many brackets may still be opened where a reading ends
abbrev pub NestBy : {A : Type 0} → ℕ → ℕ → List Tok → Read A → Type 0
NestBy d o ts (Got v x) = (front : List Tok) × (ts ≡ front ++ x) × (left front d ≡ Some o)
NestBy d o ts (Bad x) = (front : List Tok) × (e : ℕ) × (ts ≡ front ++ x) × (left front d ≡ Some e)
NestBy d o ts (Deep x) = (front : List Tok) × (t : Tok) × (rest : List Tok) × (ts ≡ front ++ x) × (x ≡ t ∷ rest) × (turn t.kind ≡ Opens) × (left front d ≡ Some 0)
NestBy d o ts Out = Unit {0}

-- where d brackets may be opened before, o may be behind
abbrev pub Nests : {A : Type 0} → ℕ → ℕ → Reader A → Type 0
Nests d o P = (ts : List Tok) → NestBy d o ts (P ts)

-- tokens that g takes lead from d to e
abbrev pub Step : {B : Type 0} → (Tok → Option B) → ℕ → ℕ → Type 0
Step {B} g d e = (t : Tok) (b : B) → g t ≡ Some b → left (t ∷ []) d ≡ Some e
