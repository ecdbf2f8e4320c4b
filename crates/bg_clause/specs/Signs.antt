-- Literals that are gone through from the last one back: each once, with the sign of each atom.
use Rattle.std.specs.Prelude.{◌≡◌, ℕ, Bool, false, ◌==◌, if◌then◌else◌, List, [], ◌∷◌, reverse, Option, Some, None, nat_eq}
use Rattle.std.specs.HashMap.{get}
use Rattle.bg_formula.specs.declared.atom.Literal.{Literal}
use Rattle.bg_clause.specs.declared.signs.Signs.{Signs}
use Rattle.bg_clause.specs.declared.clause.Once.{Once}
use Rattle.bg_clause.specs.Emitted.{clashes, distinct}

-- the sign that is known of an atom
abbrev pub sign_in : Signs → ℕ → Option Bool
sign_in s a = get nat_eq s.map a

-- the sign of the first literal of an atom
abbrev pub sign_among : List Literal → ℕ → Option Bool
sign_among [] a = None
sign_among (l ∷ ls) a = if l.atom == a then Some l.sign else sign_among ls a

-- what was gone through is these literals, of which none stands beside its denial, where the signs of atoms are these
pub record IsOnceBy (signs : ℕ → Option Bool) (kept ls : List Literal) : Type 0 where
  pub apart : clashes ls ≡ false
  pub once : reverse kept ≡ distinct ls
  pub known : (a : ℕ) → signs a ≡ sign_among ls a

-- the same, with a map of the signs
abbrev pub IsOnce : Once → List Literal → Type 0
IsOnce o ls = IsOnceBy (sign_in o.signs) o.kept.items ls

-- the same, where the signs are those of what is kept
abbrev pub AreOnce : List Literal → List Literal → Type 0
AreOnce kept ls = IsOnceBy (sign_among kept) kept ls
