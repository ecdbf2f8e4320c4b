-- Forms that wait for their clauses.
use Rattle.std.specs.Prelude.{◌≡◌, ℕ, zero, suc, ◌+◌, ◌≤◌, Bool, true, List, [], ◌∷◌, ◌++◌}
use Rattle.bg_formula.specs.declared.atom.Literal.{Literal}
use Rattle.bg_clause.specs.declared.waiting.Saying.{Saying}
use Rattle.bg_clause.specs.declared.waiting.Waiting as code
use Rattle.bg_clause.specs.declared.waiting.Waiting.TheVariants as waiting
use Rattle.bg_forms.specs.Forms.{Form, Plain, Is, NotSo, Both, Same}
use Rattle.bg_clause.specs.Emitted.{after_as, after_defined, emitted_as, defined}
use Rattle.bg_clause.specs.Lends.{lent_in}

-- one of the literals is to be true or the form to be worth this; or the literal is to be worth what the form is
pub data Waits : Type 0 where
  Says : Bool → List Literal → Form → Waits
  Defines : Literal → Form → Waits

-- what waits with a form that is to be true or false beside literals
abbrev pub says_of : Saying → Waits
says_of s = Says s.sign s.literals.items (lent_in s.form)

abbrev pub waits_of : code.Waiting → Waits
waits_of (waiting.Says s) = says_of s
waits_of (waiting.Defines k f) = Defines k (lent_in f)

abbrev pub emitted_of : Waits → ℕ → List (List Literal)
emitted_of (Says s ls f) n = emitted_as s ls f n
emitted_of (Defines k f) n = defined k f n

abbrev pub after_of : Waits → ℕ → ℕ
after_of (Says s ls f) n = after_as s f n
after_of (Defines k f) n = after_defined f n

abbrev pub emitted_all : List Waits → ℕ → List (List Literal)
emitted_all [] n = []
emitted_all (w ∷ ws) n = emitted_of w n ++ emitted_all ws (after_of w n)

abbrev pub after_all : List Waits → ℕ → ℕ
after_all [] n = n
after_all (w ∷ ws) n = after_all ws (after_of w n)

-- how many parts a form has
abbrev pub size : Form → ℕ
size (Plain b) = 1
size (Is l) = 1
size (NotSo f) = suc (size f)
size (Both f g) = suc (size f + size g)
size (Same f g) = suc (size f + size g)

abbrev pub size_of : Waits → ℕ
size_of (Says s ls f) = size f
size_of (Defines k f) = size f

abbrev pub size_all : List Waits → ℕ
size_all [] = zero
size_all (w ∷ ws) = size_of w + size_all ws

-- where one of the literals or x is to be true, y is left to be said behind clauses that were added
pub record IsLeft (ls : List Literal) (x y : Form) (old new : List (List Literal)) : Type 0 where
  pub clauses : (n : ℕ) → new ++ emitted_as true ls y n ≡ old ++ emitted_as true ls x n
  pub more : (n : ℕ) → after_as true y n ≡ after_as true x n
  pub smaller : size y ≤ size x
