-- What an answer says of the tokens, where L v ts says that ts spell v, and d brackets may still be opened.
use Rattle.std.specs.Prelude.{◌≡◌, ℕ, List, ◌∷◌, ◌++◌, Result, Ok, Err, Some}
use Rattle.bg_text.specs.Tokens.{Tok}
use Rattle.bg_text.specs.Brackets.{left, turn, Opens}
use Rattle.bg_reader.specs.Exact.{Begins}
use Rattle.bg_reader.specs.declared.refusal.Refusal.{Refusal}
use Rattle.bg_reader.specs.declared.refusal.Refusal.TheVariants as refusal

-- a spelling begins with the front and goes on with the token
abbrev pub GoesOn : {A : Type 0} → (A → List Tok → Type 0) → List Tok → Tok → Type 0
GoesOn {A} L front t = (v : A) × (more : List Tok) × L v (front ++ t ∷ more)

-- the tokens up to the rest, none of them a bracket too many, spell the value, and no spelling goes on from them
pub record IsRead {A : Type 0} (L : A → List Tok → Type 0) (d : ℕ) (tokens : List Tok) (v : A) (rest : List Tok) : Type 0 where
  pub front : List Tok
  pub cut : tokens ≡ front ++ rest
  pub spells : L v front
  pub shallow : left front d ≡ Some d
  pub longest : (t : Tok) (more : List Tok) → rest ≡ t ∷ more → GoesOn L front t → ⊥

-- the tokens up to the rest, none of them a bracket too many, begin a spelling and are none, and no spelling goes on from
-- them
pub record IsRefused {A : Type 0} (L : A → List Tok → Type 0) (d : ℕ) (tokens : List Tok) (rest : List Tok) : Type 0 where
  pub front : List Tok
  pub cut : tokens ≡ front ++ rest
  pub begins : Begins L front
  pub shallow : (e : ℕ) × (left front d ≡ Some e)
  pub unfinished : (v : A) → L v front → ⊥
  pub stops : (t : Tok) (more : List Tok) → rest ≡ t ∷ more → GoesOn L front t → ⊥

-- the tokens up to a bracket, and the bracket, begin a spelling, and it is the first that is one too many
pub record IsTooDeep {A : Type 0} (L : A → List Tok → Type 0) (d : ℕ) (tokens : List Tok) (rest : List Tok) : Type 0 where
  pub front : List Tok
  pub bracket : Tok
  pub behind : List Tok
  pub here : rest ≡ bracket ∷ behind
  pub cut : tokens ≡ front ++ rest
  pub goes : GoesOn L front bracket
  pub opens : turn bracket.kind ≡ Opens
  pub full : left front d ≡ Some 0

-- a refusal at a token is of the first kind for syntax, of the second for a bracket too many
abbrev pub IfRefused : {A : Type 0} → Result A Refusal → (ℕ → Type 0) → (ℕ → Type 0) → Type 0
IfRefused (Ok v) Syntax TooDeep = Unit {0}
IfRefused (Err (refusal.Syntax i)) Syntax TooDeep = Syntax i
IfRefused (Err (refusal.TooDeep i)) Syntax TooDeep = TooDeep i
IfRefused (Err refusal.Memory) Syntax TooDeep = Unit {0}

-- the place that an answer names
abbrev pub Names : {A : Type 0} → Result (A × ℕ) Refusal → (ℕ → Type 0) → Type 0
Names (Ok v) P = P v.1
Names (Err (refusal.Syntax i)) P = P i
Names (Err (refusal.TooDeep i)) P = P i
Names (Err refusal.Memory) P = Unit {0}
