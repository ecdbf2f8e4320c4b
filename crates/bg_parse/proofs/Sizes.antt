-- A program has no more nodes than tokens.
use Rattle.std.proofs.Common.{◌≡◌, ℕ, suc, ◌<◌, ◌≤◌, List, [], ◌∷◌, length, Option, Some, None, refl, ap, arith}
use Rattle.bg_base.specs.declared.pos.Pos.{Pos}
use Rattle.bg_text.specs.declared.token.Token.{Token}
use Rattle.bg_text.specs.Tokens.{Tok, views}
use Rattle.bg_text.specs.Trees.{Decl}
use Rattle.bg_text.specs.Marks.{Mark, Words, each}
use Rattle.bg_text.specs.Declarations.{SpellsTree, decl_marks}
use Rattle.bg_parse.specs.Nodes.{and_one, placed, nodes}

one_more : (o : Option Pos) (n k : ℕ) → n ≤ k → and_one o n ≤ suc k
one_more None n k h = omega (arith, h)
one_more (Some p) n k h = omega (arith, h)

placed_most : (ts : List Tok) (ms : List Mark) → Words ts ms → placed ms ≤ length ts
placed_most [] [] h = omega arith
placed_most [] (m ∷ ms) h = absurd h
placed_most (t ∷ ts) [] h = absurd h
placed_most (t ∷ ts) (m ∷ ms) h = one_more m.pos (placed ms) (length ts) (placed_most ts ms h.1)

pub nodes_most : (ds : List Decl) (ts : List Tok) → SpellsTree ds ts → nodes ds ≤ length ts
nodes_most ds ts h = placed_most ts (each decl_marks ds) h.1

length_views : (ts : List Token) → length (views ts) ≡ length ts
length_views [] = refl
length_views (t ∷ ts) = ap suc (length_views ts)

pub few_nodes : (ds : List Decl) (ts : List Token) → SpellsTree ds (views ts) → length ts < 4294967295 → nodes ds < 4294967296
few_nodes ds ts h lt = let n = nodes_most ds (views ts) h in omega (arith, n, lt, length_views ts)
