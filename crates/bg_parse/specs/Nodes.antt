-- The size of a program.
use Rattle.std.specs.Prelude.{ℕ, zero, suc, List, [], ◌∷◌, Option, Some, None}
use Rattle.bg_base.specs.declared.pos.Pos.{Pos}
use Rattle.bg_text.specs.Tokens.{Tok}
use Rattle.bg_text.specs.Trees.{Decl}
use Rattle.bg_text.specs.Marks.{Mark, each}
use Rattle.bg_text.specs.Declarations.{SpellsTree, decl_marks}

abbrev pub and_one : Option Pos → ℕ → ℕ
and_one None n = n
and_one (Some p) n = suc n

-- how many of the tokens have their position in the tree
abbrev pub placed : List Mark → ℕ
placed [] = zero
placed (m ∷ ms) = and_one m.pos (placed ms)

-- the nodes of a program: each part of it that has a position
abbrev pub nodes : List Decl → ℕ
nodes ds = placed (each decl_marks ds)

-- some tokens spell the program
abbrev pub IsSpelled : List Decl → Type 0
IsSpelled ds = (ts : List Tok) × SpellsTree ds ts
