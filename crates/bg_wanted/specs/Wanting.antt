-- Lines that are wanted at a leaf which isn't finished.
use Rattle.std.specs.Prelude.{◌≡◌, ◌⊎◌, ℕ, ◌+◌, ◌<◌, ◌≤◌, Bool, true, false, ◌||◌, ◌==◌, List, [], ◌∷◌, length, Option, Some, None, slice_get}
use Rattle.bg_ast.specs.Values.{Val, Ty, truth_of}
use Rattle.bg_ast.specs.Syntax.{Ex, Exs, Read, Local, NoMore, More}
use Rattle.bg_sense.specs.Eval.{ev}
use Rattle.bg_terms.specs.Terms.{Term, over}
use Rattle.bg_terms.specs.Typed.{types_with}
use Rattle.bg_terms.specs.Instances.{Instance, Congruent, AtIndex, Elsewhere, Apart, instance_ex}
use Rattle.bg_terms.specs.Closed.{IsFinished}
use Rattle.bg_numbered.specs.Lines.{Line, after_lines, are_there, instances_in, is_within}

abbrev pub Each : {A : Type 0} → (A → Type 0) → List A → Type 0
Each P [] = Unit {0}
Each P (a ∷ xs) = P a × Each P xs

-- false at the leaf, or of a term that comes in with it
abbrev pub IsWanted : List Val → ℕ → (ts us : List Term) → Instance → Type 0
IsWanted s n ts us e = (truth_of (ev (instance_ex n us e) (over s)) ≡ false) ⊎ (is_within (length ts) e ≡ false)

-- whether one of these reads this
abbrev pub reads_one : ℕ → Ex → Bool
reads_one j (Read (Local k)) = j == k
reads_one j _ = false

abbrev pub reads : ℕ → Exs → Bool
reads j NoMore = false
reads j (More x xs) = reads_one j x || reads j xs

abbrev pub is_argument : ℕ → Option Term → Bool
is_argument j None = false
is_argument j (Some t) = reads j t.args

-- whether the term with number a is the one with number b, or one of its arguments
abbrev pub is_in : ℕ → List Term → (a b : ℕ) → Bool
is_in n us a b = (a == b) || is_argument (n + a) (slice_get us b)

abbrev pub names : ℕ → List Term → ℕ → Instance → Bool
names n us a (Congruent b c) = is_in n us a b || is_in n us a c
names n us a (AtIndex u s) = is_in n us a u || is_in n us a s
names n us a (Elsewhere u s r) = is_in n us a u || (is_in n us a s || is_in n us a r)
names n us a (Apart s r) = is_in n us a s || is_in n us a r

abbrev pub are_naming : ℕ → List Term → ℕ → List Instance → Bool
are_naming n us a [] = false
are_naming n us a (e ∷ es) = names n us a e || are_naming n us a es

-- lines over terms that aren't finished at a leaf: they name what is there, each of their instances is wanted, and each term that they bring
-- is named
pub record IsWanting (incs : List Ty) (ts : List Term) (s : List Val) (ls : List Line) : Type 0 where
  pub there : are_there incs ts ls ≡ true
  pub some : 0 < length (instances_in ls)
  pub wanted : Each (IsWanted s (length incs) ts (after_lines incs ts ls)) (instances_in ls)
  pub used :
      (a : ℕ) → length ts ≤ a → a < length (after_lines incs ts ls) →
      are_naming (length incs) (after_lines incs ts ls) a (instances_in ls) ≡ true
  pub unfinished : IsFinished s (length incs) ts (types_with incs ts) → ⊥

-- lines that are wanted where the terms aren't finished
abbrev pub WantsUnlessFinished : List Ty → List Term → List Val → List Line → Type 0
WantsUnlessFinished incs ts s ls = (IsFinished s (length incs) ts (types_with incs ts) → ⊥) → IsWanting incs ts s ls
