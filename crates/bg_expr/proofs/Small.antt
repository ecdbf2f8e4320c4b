-- An expression has no more nodes than tokens.
use Rattle.std.proofs.Common.{◌≡◌, ◌≢◌, ℕ, suc, ◌≤◌, List, [], ◌∷◌, ◌++◌, length, map, refl, ap, arith, length-append}
use Rattle.bg_text.specs.declared.token.Kind.TheVariants as kinds
use Rattle.bg_text.specs.declared.expr.InfixSign.{InfixSign}
use Rattle.bg_text.specs.declared.expr.TreePrefix.{TreePrefix}
use Rattle.bg_text.specs.Tokens.{Tok}
use Rattle.bg_text.specs.Trees.{Ex, Number, Truth, Named, Apply, Old, Parens, Prefix, Postfix, Chain, Exs, NoMore, More, Brackets, NoBracket, Select, Update, Links, NoLink, Link}
use Rattle.bg_text.specs.Marks.{Mark, sign, Fits, unplaced}
use Rattle.bg_text.specs.Spelling.{prefix_mark, ex_marks, list_marks, more_marks, bracket_marks, link_marks, IsEx, AreExs, AreBrackets, GoOn, Spells}
use Rattle.bg_expr.specs.Nodes.{ex_nodes, exs_nodes, bracket_nodes, link_nodes}

some_marks : (signs : List TreePrefix) → signs ≢ [] → 1 ≤ length (map prefix_mark signs)
some_marks [] h = absurd (h refl)
some_marks (s ∷ signs) h = omega arith

mutual
  small : (e : Ex) → IsEx e → ex_nodes e ≤ length (ex_marks e)
  small (Number p z) h = omega arith
  small (Truth p b) h = omega arith
  small (Named p x) h = omega arith
  small (Apply p x es) h = omega (arith, small_list es h, length-append (list_marks es) (sign kinds.Close ∷ []))
  small (Old p e) h = omega (arith, small e h, length-append (ex_marks e) (sign kinds.Close ∷ []))
  small (Parens p e) h = omega (arith, small e h, length-append (ex_marks e) (sign kinds.Close ∷ []))
  small (Prefix signs e) h = omega (arith, some_marks signs h.0, small e h.1, length-append (map prefix_mark signs) (ex_marks e))
  small (Postfix e bs) h = omega (arith, small e h.1, small_brackets bs h.0 h.3, length-append (ex_marks e) (bracket_marks bs))
  small (Chain e NoLink) h = absurd h.1
  small (Chain e (Link p s f links)) h = omega (arith, small e h.0, small f h.1.1, small_links s links h.1.3, length-append (ex_marks e) (link_marks (Link p s f links)), length-append (ex_marks f) (link_marks links))

  small_list : (es : Exs) → AreExs es → exs_nodes es ≤ length (list_marks es)
  small_list NoMore h = omega arith
  small_list (More e es) h = omega (arith, small e h.0, small_more es h.1, length-append (ex_marks e) (more_marks es))

  small_more : (es : Exs) → AreExs es → exs_nodes es ≤ length (more_marks es)
  small_more NoMore h = omega arith
  small_more (More e es) h = omega (arith, small e h.0, small_more es h.1, length-append (ex_marks e) (more_marks es))

  small_brackets : (bs : Brackets) → bs ≢ NoBracket → AreBrackets bs → suc (bracket_nodes bs) ≤ length (bracket_marks bs)
  small_brackets NoBracket s h = absurd (s refl)
  small_brackets (Select p es bs) s h = omega (arith, small_list es h.1, small_rest bs h.2, length-append (list_marks es) (sign kinds.CloseBracket ∷ bracket_marks bs))
  small_brackets (Update p es e bs) s h = omega (arith, small_list es h.1, small e h.2, small_rest bs h.3, length-append (list_marks es ++ sign kinds.Becomes ∷ ex_marks e) (sign kinds.CloseBracket ∷ bracket_marks bs), length-append (list_marks es) (sign kinds.Becomes ∷ ex_marks e))

  small_rest : (bs : Brackets) → AreBrackets bs → bracket_nodes bs ≤ length (bracket_marks bs)
  small_rest NoBracket h = omega arith
  small_rest (Select p es bs) h = omega (arith, small_list es h.1, small_rest bs h.2, length-append (list_marks es) (sign kinds.CloseBracket ∷ bracket_marks bs))
  small_rest (Update p es e bs) h = omega (arith, small_list es h.1, small e h.2, small_rest bs h.3, length-append (list_marks es ++ sign kinds.Becomes ∷ ex_marks e) (sign kinds.CloseBracket ∷ bracket_marks bs), length-append (list_marks es) (sign kinds.Becomes ∷ ex_marks e))

  small_links : (s : InfixSign) (links : Links) → GoOn s links → link_nodes links ≤ length (link_marks links)
  small_links s NoLink h = omega arith
  small_links s (Link p r e links) h = omega (arith, small e h.1, small_links s links h.3, length-append (ex_marks e) (link_marks links))

as_many : (ts : List Tok) (ms : List Mark) → Fits ts ms → length ts ≡ length ms
as_many [] [] h = refl
as_many [] (m ∷ ms) h = absurd h
as_many (t ∷ ts) [] h = absurd h
as_many (t ∷ ts) (m ∷ ms) h = ap suc (as_many ts ms h.1)

length_unplaced : (ms : List Mark) → length (map unplaced ms) ≡ length ms
length_unplaced [] = refl
length_unplaced (m ∷ ms) = ap suc (length_unplaced ms)

pub few_nodes : (k : ℕ) (e : Ex) (ts : List Tok) → Spells k e ts → ex_nodes e ≤ length ts
few_nodes k e ts h = omega (arith, small e h.0, as_many ts (map unplaced (ex_marks e)) h.2, length_unplaced (ex_marks e))
