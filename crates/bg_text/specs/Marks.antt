-- The tokens that something is written with.
use Rattle.std.specs.Prelude.{◌≡◌, ℕ, List, [], ◌∷◌, ◌++◌, map, Option, Some, None}
use Rattle.bg_base.specs.declared.pos.Pos.{Pos}
use Rattle.bg_text.specs.declared.token.Kind.{Kind}
use Rattle.bg_text.specs.declared.token.Kind.TheVariants as kinds
use Rattle.bg_text.specs.Tokens.{Tok}
use Rattle.bg_text.specs.Trees.{Id}

-- a token of a spelling: its kind, the text of a name or a string, and the position where the tree has it
pub record Mark : Type 0 where
  pub kind : Kind
  pub text : Option (List ℕ)
  pub pos : Option Pos

abbrev pub sign : Kind → Mark
sign k = record { kind = k; text = None; pos = None }

abbrev pub sign_at : Pos → Kind → Mark
sign_at p k = record { kind = k; text = None; pos = Some p }

abbrev pub name_at : Pos → List ℕ → Mark
name_at p text = record { kind = kinds.Name; text = Some text; pos = Some p }

-- the name of a tree
abbrev pub id_mark : Id → Mark
id_mark x = name_at x.pos x.text

abbrev pub Has : {A : Type 0} → A → Option A → Type 0
Has a None = Unit {0}
Has a (Some b) = a ≡ b

-- the token is one of this mark
abbrev pub Is : Tok → Mark → Type 0
Is t m = (t.kind ≡ m.kind) × Has t.text m.text × Has t.pos m.pos

-- the tokens are these
abbrev pub Fits : List Tok → List Mark → Type 0
Fits [] [] = Unit {0}
Fits [] (m ∷ ms) = ⊥
Fits (t ∷ ts) [] = ⊥
Fits (t ∷ ts) (m ∷ ms) = Is t m × Fits ts ms

abbrev pub unplaced : Mark → Mark
unplaced m = record { kind = m.kind; text = m.text; pos = None }

-- the tokens are these, wherever they stand
abbrev pub Words : List Tok → List Mark → Type 0
Words ts ms = Fits ts (map unplaced ms)

-- the marks of each part, one after the other
abbrev pub each : {A : Type 0} → (A → List Mark) → List A → List Mark
each f [] = []
each f (a ∷ rest) = f a ++ each f rest

-- with a comma before each part
abbrev pub after_commas : {A : Type 0} → (A → List Mark) → List A → List Mark
after_commas f [] = []
after_commas f (a ∷ rest) = sign kinds.Comma ∷ f a ++ after_commas f rest

-- with commas between the parts
abbrev pub commas : {A : Type 0} → (A → List Mark) → List A → List Mark
commas f [] = []
commas f (a ∷ rest) = f a ++ after_commas f rest

-- the marks of a part that may be left out
abbrev pub if_there : {A : Type 0} → (A → List Mark) → Option A → List Mark
if_there f None = []
if_there f (Some a) = f a
