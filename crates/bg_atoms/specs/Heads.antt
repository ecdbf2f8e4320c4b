-- The relation of numbers with which a chain begins.
use Rattle.std.specs.Prelude.{◌≡◌, ℕ, ◌≤◌, Bool, true, false, ◌&&◌, List, [], ◌∷◌, ◌++◌, length, take, drop}
use Rattle.bg_text.specs.declared.expr.InfixSign.{InfixSign}
use Rattle.bg_text.specs.declared.expr.InfixSign.TheVariants as op
use Rattle.bg_ast.specs.declared.resolved.Link.{Link}
use Rattle.bg_ast.specs.Syntax.{Ex, Binary}
use Rattle.bg_ast.specs.Meaning as m
use Rattle.bg_ast.specs.Views.{ex_of}
use Rattle.bg_linear.specs.declared.scalar.Sort.{Sort}
use Rattle.bg_linear.specs.Chains.{is_implies}
use Rattle.bg_linear.specs.Relations.{relates, op_of}
use Rattle.bg_atoms.specs.Kinds.{IsTruth, IsNumber}
use Rattle.bg_atoms.specs.Over.{relates_numbers}
use Rattle.bg_atoms.specs.Made.{behind}

-- signs that make a number of two
abbrev pub is_arithmetic : InfixSign → Bool
is_arithmetic op.Plus = true
is_arithmetic op.Minus = true
is_arithmetic op.Times = true
is_arithmetic _ = false

abbrev pub all_arithmetic : List Link → Bool
all_arithmetic [] = true
all_arithmetic (l ∷ ls) = is_arithmetic l.sign && all_arithmetic ls

abbrev pub begins_arithmetic : List Link → Bool
begins_arithmetic [] = false
begins_arithmetic (l ∷ ls) = is_arithmetic l.sign

-- the first n links, and no more, stand between numbers
pub record IsSums (links : List Link) (n : ℕ) : Type 0 where
  pub within : n ≤ length links
  pub sums : all_arithmetic (take n links) ≡ true
  pub ends : begins_arithmetic (drop n links) ≡ false

-- a relation of two numbers, of which the left one is a chain
pub record Relates (sorts : List Sort) (a : Ex) (before : List Link) (l : Link) : Type 0 where
  pub whole : behind a (before ++ l ∷ []) ≡ Binary (op_of l.sign) (behind a before) (m.ex_of (ex_of l.operand))
  pub related : relates (op_of l.sign) ≡ true
  pub left : IsNumber sorts (behind a before)
  pub right : IsNumber sorts (m.ex_of (ex_of l.operand))

-- the links are none, or make a relation of numbers behind this expression
abbrev pub IsRelation : List Sort → Ex → List Link → Type 0
IsRelation sorts a ls = (before : List Link) (l : Link) → ls ≡ before ++ l ∷ [] → Relates sorts a before l

-- no sign before the next `==>` relates numbers, where this stands on the left of the first one
abbrev pub NoneRelates : List Sort → Ex → List Link → Type 0
NoneRelates sorts a [] = Unit {0}
NoneRelates sorts a (l ∷ ls) =
    is_implies l.sign ≡ false
    → (relates_numbers sorts (op_of l.sign) a (m.ex_of (ex_of l.operand)) ≡ false) × NoneRelates sorts (m.infix_of l.sign a (m.ex_of (ex_of l.operand))) ls

-- the first n links are those of the relation of numbers with which a chain begins, or none, and no other sign before the next `==>`
-- relates numbers. Where the chain is a truth, so is what they make
pub record IsHead (sorts : List Sort) (a : Ex) (links : List Link) (n : ℕ) : Type 0 where
  pub within : n ≤ length links
  pub apart : behind a links ≡ behind (behind a (take n links)) (drop n links)
  pub leads : IsTruth sorts (behind a links) → IsTruth sorts (behind a (take n links))
  pub relation : IsRelation sorts a (take n links)
  pub others : NoneRelates sorts (behind a (take n links)) (drop n links)

-- the same of the chain that begins behind a sign: `==>` alone begins one
pub record IsNext (sorts : List Sort) (l : Link) (links : List Link) (n : ℕ) : Type 0 where
  pub within : n ≤ length links
  pub relation : IsRelation sorts (m.ex_of (ex_of l.operand)) (take n links)
  pub anew : is_implies l.sign ≡ true → IsHead sorts (m.ex_of (ex_of l.operand)) links n
  pub alone : is_implies l.sign ≡ false → n ≡ 0

-- the same of the first one of these links
abbrev pub IsNextIn : List Sort → List Link → ℕ → Type 0
IsNextIn sorts [] n = ⊥
IsNextIn sorts (l ∷ ls) n = IsNext sorts l ls n
