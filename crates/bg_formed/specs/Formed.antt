-- Blocks whose commands say forms over atoms.
use Rattle.std.specs.Prelude.{ℕ, nat_lt, Bool, true, false, ◌&&◌, List, [], ◌∷◌, Option, Some, None, Result, Ok, Err}
use Rattle.bg_base.specs.declared.exact.OutOfRange.{OutOfRange}
use Rattle.bg_ast.specs.Execution.{Spot}
use Rattle.bg_forms.specs.Forms.{Form, Plain, Is, NotSo, Both, Same}

-- what a command says: a form, or the operation of a linear form in it that leaves the range
abbrev pub Says : Type 0
Says = Result Form OutOfRange

-- a command claims at a check, or supposes, where its candidate is there
pub data FormCmd : Type 0 where
  Asks : Spot → Option ℕ → Says → FormCmd
  Takes : Option ℕ → Says → FormCmd

-- a way on, with what is supposed on it, to the block that is so far ahead, from the next one
pub record FormEdge : Type 0 where
  pub cmds : List FormCmd
  pub to : ℕ

pub record FormBlock : Type 0 where
  pub cmds : List FormCmd
  pub next : List FormEdge

-- the form; where none could be made nothing is said
abbrev pub said : Says → Form
said (Ok f) = f
said (Err e) = Plain false

-- ---- which atoms are named

-- each atom of a form is one of the first n
abbrev pub form_below : ℕ → Form → Bool
form_below n (Plain b) = true
form_below n (Is l) = nat_lt l.atom n
form_below n (NotSo f) = form_below n f
form_below n (Both f g) = form_below n f && form_below n g
form_below n (Same f g) = form_below n f && form_below n g

-- a candidate, if any, is one of these
abbrev pub is_of : (ℕ → Bool) → Option ℕ → Bool
is_of these None = true
is_of these (Some b) = these b

-- a candidate, if any, below m
abbrev pub fits_candidate : ℕ → Option ℕ → Bool
fits_candidate m b = is_of (λ c. nat_lt c m) b

-- atoms below n and these candidates alone
abbrev pub cmds_below : ℕ → (ℕ → Bool) → List FormCmd → Bool
cmds_below n these [] = true
cmds_below n these (Asks s b r ∷ ks) = is_of these b && (form_below n (said r) && cmds_below n these ks)
cmds_below n these (Takes b r ∷ ks) = is_of these b && (form_below n (said r) && cmds_below n these ks)

abbrev pub edges_below : ℕ → (ℕ → Bool) → List FormEdge → Bool
edges_below n these [] = true
edges_below n these (e ∷ es) = cmds_below n these e.cmds && edges_below n these es

abbrev pub blocks_below : ℕ → (ℕ → Bool) → List FormBlock → Bool
blocks_below n these [] = true
blocks_below n these (b ∷ bs) = cmds_below n these b.cmds && (edges_below n these b.next && blocks_below n these bs)
