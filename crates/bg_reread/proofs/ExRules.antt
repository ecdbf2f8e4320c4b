-- An expression is one of the grammar where it is one without its positions.
use Rattle.std.proofs.Common.{◌≡◌, ◌≢◌, ◌≤◌, ◌<◌, true, refl}
use Rattle.bg_text.specs.declared.expr.InfixSign.{InfixSign}
use Rattle.bg_text.specs.Trees.{Ex, Number, Truth, Named, Apply, Old, Parens, Prefix, Postfix, Chain, Exs, NoMore, More, Brackets, NoBracket, Select, Update, Links, NoLink, Link}
use Rattle.bg_text.specs.Spelling.{grade, goes_on, level, IsEx, AreExs, AreBrackets, GoOn}
use Rattle.bg_expr.specs.Bare.{bare, bare_list, bare_brackets, bare_links, bare_sign}
use Rattle.bg_reread.proofs.Same.{Same, itself, both, three, four, same_at, some_same}

level_is : (e : Ex) → level (bare e) ≡ level e
level_is (Number p z) = refl
level_is (Truth p b) = refl
level_is (Named p x) = refl
level_is (Apply p x es) = refl
level_is (Old p e) = refl
level_is (Parens p e) = refl
level_is (Prefix signs e) = refl
level_is (Postfix e bs) = refl
level_is (Chain e NoLink) = refl
level_is (Chain e (Link p s f links)) = refl

pub some_exs : (es : Exs) → Same (bare_list es ≢ NoMore) (es ≢ NoMore)
some_exs NoMore = itself (NoMore ≢ NoMore)
some_exs (More e es) = record { there = λ h. λ c. cc; back = λ h. λ c. cc }

some_brackets : (bs : Brackets) → Same (bare_brackets bs ≢ NoBracket) (bs ≢ NoBracket)
some_brackets NoBracket = itself (NoBracket ≢ NoBracket)
some_brackets (Select p es bs) = record { there = λ h. λ c. cc; back = λ h. λ c. cc }
some_brackets (Update p es e bs) = record { there = λ h. λ c. cc; back = λ h. λ c. cc }

mutual
  pub ex_same : (e : Ex) → Same (IsEx (bare e)) (IsEx e)
  ex_same (Number p z) = itself (Unit {0})
  ex_same (Truth p b) = itself (Unit {0})
  ex_same (Named p x) = itself (Unit {0})
  ex_same (Apply p x es) = list_same es
  ex_same (Old p e) = ex_same e
  ex_same (Parens p e) = ex_same e
  ex_same (Prefix signs e) = three (some_same bare_sign signs) (ex_same e) (same_at (λ k. 7 ≤ k) (level (bare e)) (level e) (level_is e))
  ex_same (Postfix e bs) = four (some_brackets bs) (ex_same e) (same_at (λ k. 8 ≤ k) (level (bare e)) (level e) (level_is e)) (brackets_same bs)
  ex_same (Chain e NoLink) = both (ex_same e) (itself ⊥)
  ex_same (Chain e (Link p s f links)) = both (ex_same e) (four (same_at (λ k. grade s < k) (level (bare e)) (level e) (level_is e)) (ex_same f) (same_at (λ k. grade s < k) (level (bare f)) (level f) (level_is f)) (links_same s links))

  pub list_same : (es : Exs) → Same (AreExs (bare_list es)) (AreExs es)
  list_same NoMore = itself (Unit {0})
  list_same (More e es) = both (ex_same e) (list_same es)

  brackets_same : (bs : Brackets) → Same (AreBrackets (bare_brackets bs)) (AreBrackets bs)
  brackets_same NoBracket = itself (Unit {0})
  brackets_same (Select p es bs) = three (some_exs es) (list_same es) (brackets_same bs)
  brackets_same (Update p es e bs) = four (some_exs es) (list_same es) (ex_same e) (brackets_same bs)

  links_same : (s : InfixSign) (ls : Links) → Same (GoOn s (bare_links ls)) (GoOn s ls)
  links_same s NoLink = itself (Unit {0})
  links_same s (Link p r e ls) = four (itself (goes_on s r ≡ true)) (ex_same e) (same_at (λ k. grade s < k) (level (bare e)) (level e) (level_is e)) (links_same s ls)
