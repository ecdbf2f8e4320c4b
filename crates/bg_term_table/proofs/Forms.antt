-- What is made flat, at the forms that the code meets.
use Rattle.std.proofs.Common.{◌≡◌, ℕ, ◌+◌, List, [], ◌∷◌, ◌++◌, length, map, Option, None, Some, refl, sym, ap, ◌∙◌, arith, Vec, Box, Global}
use Rattle.bg_base.specs.declared.pos.Pos.{Pos}
use Rattle.bg_text.specs.declared.expr.PrefixSign.{PrefixSign}
use Rattle.bg_text.specs.declared.expr.PrefixSign.TheVariants as prefix
use Rattle.bg_text.specs.declared.expr.TreePrefix.{TreePrefix}
use Rattle.bg_ast.specs.Values.{Ty}
use Rattle.bg_ast.specs.Syntax as s
use Rattle.bg_ast.specs.Syntax.{Ex, Fun}
use Rattle.bg_ast.specs.declared.resolved.Expr.{Expr}
use Rattle.bg_ast.specs.declared.resolved.Expr.TheVariants as expr
use Rattle.bg_ast.specs.declared.resolved.Link.{Link}
use Rattle.bg_ast.specs.declared.resolved.Bracket.{Bracket}
use Rattle.bg_ast.specs.declared.resolved.Bracket.TheVariants as bracket
use Rattle.bg_ast.specs.Meaning as m
use Rattle.bg_ast.specs.Meaning.{ex_of, prefix_of}
use Rattle.bg_ast.specs.Resolved as r
use Rattle.bg_ast.specs.Views as u
use Rattle.bg_ast.proofs.Lists as z
use Rattle.bg_ast.proofs.Lists.{ex_of-Postfix}
use Rattle.bg_terms.specs.Terms.{Applies, Term}
use Rattle.bg_numbered.specs.Numbered.{behind, numbered, all_behind, all_numbered}
use Rattle.bg_numbered.specs.Put.{with_term, place_term, with_select, place_select, with_update, place_update}
use Rattle.bg_term_table.specs.Views.{meaning, meanings, listed, operands, signs, prefixes}
use Rattle.bg_term_table.specs.Brackets.{bracketed_by, bracketed, all_bracketed}
use Rattle.bg_term_table.specs.Chains.{chain_from, signed_by}
use Rattle.bg_term_table.specs.Linked.{turned, behind_turned, numbered_turned, behind_links, numbered_links}
use Rattle.bg_term_table.specs.Made.{IsMade, behind_each, numbered_each, AreMade, AreTurned, AreLinked}
use Rattle.bg_term_table.proofs.Means.{meaning-Chain, meaning-Prefix}
use Rattle.bg_term_table.proofs.Linked.{table, made}

-- ---- brackets, one after the other

behind_one : (w : Pos × r.Exs × Option r.Ex) (bs : r.Brackets) (e : Ex) → m.behind e (u.behind_parts w.0 w.1 w.2 bs) ≡ m.behind (bracketed_by e w.1 w.2) bs
behind_one (p, es, None) bs e = refl
behind_one (p, es, Some v) bs e = refl

behind_all : (bs : List Bracket) (e : Ex) → m.behind e (u.brackets_of (map u.bracket_view bs)) ≡ all_bracketed e bs
behind_all [] e = refl
behind_all (b ∷ bs) e =
    behind_one (u.bracket_view b) (u.brackets_of (map u.bracket_view bs)) e ∙ behind_all bs (bracketed e b)

pub meaning-Postfix : (e : Box Expr Global) (bs : Vec Bracket Global) → meaning (expr.Postfix e bs) ≡ all_bracketed (meaning e.value) bs.items
meaning-Postfix e bs = ap ex_of (ex_of-Postfix e bs) ∙ behind_all bs.items (meaning e.value)

pub bracketed_last : (bs : List Bracket) (b : Bracket) (e : Ex) → all_bracketed e (bs ++ b ∷ []) ≡ bracketed (all_bracketed e bs) b
bracketed_last [] b e = refl
bracketed_last (c ∷ bs) b e = bracketed_last bs b (bracketed e c)

all_listed : (es : List Expr) → m.exs_of (u.exs_of (map u.ex_of es)) ≡ listed (meanings es)
all_listed [] = refl
all_listed (e ∷ es) = ap (s.More (meaning e)) (all_listed es)

pub bracketed-Select : (p : Pos) (es : Vec Expr Global) (e : Ex) → bracketed e (bracket.Select p es) ≡ s.Select e (listed (meanings es.items))
bracketed-Select p es e =
    ap (λ w. bracketed_by e w.1 w.2) (z.bracket_view-Select p es) ∙ ap (s.Select e) (all_listed es.items)

pub bracketed-Update : (p : Pos) (es : Vec Expr Global) (v : Expr) (e : Ex) → bracketed e (bracket.Update p es v) ≡ s.Update e (listed (meanings es.items)) (meaning v)
bracketed-Update p es v e =
    ap (λ w. bracketed_by e w.1 w.2) (z.bracket_view-Update p es v) ∙ ap (λ l. s.Update e l (meaning v)) (all_listed es.items)

-- ---- what stands behind no signs and links

no_signs : (ss : List TreePrefix) (e : Ex) → length ss ≡ 0 → signed_by (prefixes ss) e ≡ e
no_signs [] e h = refl
no_signs (x ∷ ss) e h = absurd (omega (arith, h))

pub prefix_bare : (ss : Vec TreePrefix Global) (e : Box Expr Global) → length ss.items ≡ 0 → meaning (expr.Prefix ss e) ≡ meaning e.value
prefix_bare ss e h = meaning-Prefix ss e ∙ no_signs ss.items (meaning e.value) h

no_links : (ls : List Link) (e : Ex) → length ls ≡ 0 → chain_from e (signs ls) (operands ls) ≡ e
no_links [] e h = refl
no_links (l ∷ ls) e h = absurd (omega (arith, h))

pub chain_bare : (e : Box Expr Global) (ls : Vec Link Global) → length ls.items ≡ 0 → meaning (expr.Chain e ls) ≡ meaning e.value
chain_bare e ls h = meaning-Chain e ls ∙ no_links ls.items (meaning e.value) h

module _ (fs : List Fun) (incs : List Ty) where
  pub same_made : (old new : List Term) (e e' x x' : Ex) → e' ≡ e → x' ≡ x → IsMade fs incs e old x new → IsMade fs incs e' old x' new
  same_made old new e e' x x' h k w =
      (k ∙ w.0 ∙ ap (λ q. numbered fs incs q old) (sym h), w.1 ∙ ap (λ q. behind fs incs q old) (sym h))

  -- ---- prefix signs

  sign_numbered : (p : PrefixSign) (e : Ex) (ts : List Term) → numbered fs incs (prefix_of p e) ts ≡ prefix_of p (numbered fs incs e ts)
  sign_numbered prefix.Not e ts = refl
  sign_numbered prefix.Minus e ts = refl

  sign_behind : (p : PrefixSign) (e : Ex) (ts : List Term) → behind fs incs (prefix_of p e) ts ≡ behind fs incs e ts
  sign_behind prefix.Not e ts = refl
  sign_behind prefix.Minus e ts = refl

  signed_numbered : (ps : List PrefixSign) (e : Ex) (ts : List Term) → numbered fs incs (signed_by ps e) ts ≡ signed_by ps (numbered fs incs e ts)
  signed_numbered [] e ts = refl
  signed_numbered (p ∷ ps) e ts = sign_numbered p (signed_by ps e) ts ∙ ap (prefix_of p) (signed_numbered ps e ts)

  signed_behind : (ps : List PrefixSign) (e : Ex) (ts : List Term) → behind fs incs (signed_by ps e) ts ≡ behind fs incs e ts
  signed_behind [] e ts = refl
  signed_behind (p ∷ ps) e ts = sign_behind p (signed_by ps e) ts ∙ signed_behind ps e ts

  pub prefix_made : (old new : List Term) (xs : Vec TreePrefix Global) (e : Box Expr Global) (ys : Vec TreePrefix Global) (x : Box Expr Global) → ys.items ≡ xs.items → IsMade fs incs (meaning e.value) old (meaning x.value) new → IsMade fs incs (meaning (expr.Prefix xs e)) old (meaning (expr.Prefix ys x)) new
  prefix_made old new xs e ys x h w =
      let ps = prefixes xs.items in
      same_made old new (signed_by ps (meaning e.value)) (meaning (expr.Prefix xs e)) (signed_by ps (meaning x.value)) (meaning (expr.Prefix ys x)) (meaning-Prefix xs e) (meaning-Prefix ys x ∙ ap (λ l. signed_by (prefixes l) (meaning x.value)) h)
      (ap (signed_by ps) w.0 ∙ sym (signed_numbered ps (meaning e.value) old), w.1 ∙ sym (signed_behind ps (meaning e.value) old))

  -- ---- chains

  pub chain_made : (old one two new : List Term) (before : List Ex) (e : Box Expr Global) (ls : Vec Link Global) (x : Box Expr Global) (ms : Vec Link Global) → AreTurned fs incs ls.items old before one → IsMade fs incs (meaning e.value) one (meaning x.value) two → AreLinked fs incs ls.items before two (operands ms.items) new → signs ms.items ≡ signs ls.items → IsMade fs incs (meaning (expr.Chain e ls)) old (meaning (expr.Chain x ms)) new
  chain_made old one two new before e ls x ms all w links h =
      let a = meaning e.value in
      let gs = signs ls.items in
      let es = operands ls.items in
      let at : two ≡ behind fs incs a (behind_turned fs incs (turned gs es) old) = w.1 ∙ ap (behind fs incs a) all.1 in
      same_made old new (chain_from a gs es) (meaning (expr.Chain e ls)) (chain_from (meaning x.value) gs (operands ms.items)) (meaning (expr.Chain x ms)) (meaning-Chain e ls) (meaning-Chain x ms ∙ ap (λ q. chain_from (meaning x.value) q (operands ms.items)) h) (
        ap (λ y. chain_from y gs (operands ms.items)) (w.0 ∙ ap (numbered fs incs a) all.1)
            ∙ ap (chain_from (numbered fs incs a (behind_turned fs incs (turned gs es) old)) gs) (links.0 ∙ ap (λ b. numbered_links fs incs gs es b two) all.0 ∙ ap (numbered_links fs incs gs es (numbered_turned fs incs (turned gs es) old)) at)
            ∙ sym (made fs incs gs es a old),
        links.1 ∙ ap (behind_links fs incs gs es) at ∙ sym (table fs incs gs es a old),
      )

  -- ---- lists

  pub each_listed : (es : List Ex) (ts : List Term) → listed (numbered_each fs incs es ts) ≡ all_numbered fs incs (listed es) ts
  each_listed [] ts = refl
  each_listed (e ∷ es) ts = ap (s.More (numbered fs incs e ts)) (each_listed es (behind fs incs e ts))

  pub each_behind : (es : List Ex) (ts : List Term) → behind_each fs incs es ts ≡ all_behind fs incs (listed es) ts
  each_behind [] ts = refl
  each_behind (e ∷ es) ts = each_behind es (behind fs incs e ts)

  behind_last : (es : List Ex) (e : Ex) (ts : List Term) → behind_each fs incs (es ++ e ∷ []) ts ≡ behind fs incs e (behind_each fs incs es ts)
  behind_last [] e ts = refl
  behind_last (d ∷ es) e ts = behind_last es e (behind fs incs d ts)

  numbered_last : (es : List Ex) (e : Ex) (ts : List Term) → numbered_each fs incs (es ++ e ∷ []) ts ≡ numbered_each fs incs es ts ++ numbered fs incs e (behind_each fs incs es ts) ∷ []
  numbered_last [] e ts = refl
  numbered_last (d ∷ es) e ts = ap (λ l. numbered fs incs d ts ∷ l) (numbered_last es e (behind fs incs d ts))

  pub each_more : (old mid new : List Term) (es ds xs ys : List Ex) (e x : Ex) → ds ≡ es ++ e ∷ [] → ys ≡ xs ++ x ∷ [] → AreMade fs incs es old xs mid → IsMade fs incs e mid x new → AreMade fs incs ds old ys new
  each_more old mid new es ds xs ys e x h k all w = (
    k
        ∙ ap (λ l. l ++ x ∷ []) all.0
        ∙ ap (λ y. numbered_each fs incs es old ++ y ∷ []) (w.0 ∙ ap (numbered fs incs e) all.1)
        ∙ sym (ap (λ l. numbered_each fs incs l old) h ∙ numbered_last es e old),
    w.1 ∙ ap (behind fs incs e) all.1 ∙ sym (ap (λ l. behind_each fs incs l old) h ∙ behind_last es e old),
  )

  -- an application to arguments that are made flat
  pub apply_made : (old mid new : List Term) (f j : ℕ) (es xs : List Ex) → AreMade fs incs es old xs mid → j ≡ length incs + place_term (Applies f) (listed xs) mid → new ≡ with_term fs (Applies f) (listed xs) mid → IsMade fs incs (s.Apply f (listed es)) old (s.Read (s.Local j)) new
  apply_made old mid new f j es xs all place put =
      let args : listed xs ≡ all_numbered fs incs (listed es) old = ap listed all.0 ∙ each_listed es old in
      let at : mid ≡ all_behind fs incs (listed es) old = all.1 ∙ each_behind es old in (
        ap (λ k. s.Read (s.Local k)) (place ∙ ap (λ a. length incs + place_term (Applies f) a mid) args ∙ ap (λ ts. length incs + place_term (Applies f) (all_numbered fs incs (listed es) old) ts) at),
        put ∙ ap (λ a. with_term fs (Applies f) a mid) args ∙ ap (with_term fs (Applies f) (all_numbered fs incs (listed es) old)) at,
      )

  -- ---- brackets

  -- what reads a term that was put into the table behind what it is made of
  pub select_made : (old one two new : List Term) (j : ℕ) (e x : Ex) (es xs : List Ex) → IsMade fs incs e old x one → AreMade fs incs es one xs two → j ≡ length incs + place_select incs x (listed xs) two → new ≡ with_select fs incs x (listed xs) two → IsMade fs incs (s.Select e (listed es)) old (s.Read (s.Local j)) new
  select_made old one two new j e x es xs w all place put =
      let a = numbered fs incs e old in
      let mid = behind fs incs e old in
      let qs = all_numbered fs incs (listed es) mid in
      let last = all_behind fs incs (listed es) mid in
      let args : listed xs ≡ qs = ap listed all.0 ∙ each_listed es one ∙ ap (all_numbered fs incs (listed es)) w.1 in
      let at : two ≡ last = all.1 ∙ each_behind es one ∙ ap (all_behind fs incs (listed es)) w.1 in (
        ap (λ k. s.Read (s.Local k)) (place ∙ ap (λ y. length incs + place_select incs y (listed xs) two) w.0 ∙ ap (λ ys. length incs + place_select incs a ys two) args ∙ ap (λ ts. length incs + place_select incs a qs ts) at),
        put ∙ ap (λ y. with_select fs incs y (listed xs) two) w.0 ∙ ap (λ ys. with_select fs incs a ys two) args ∙ ap (with_select fs incs a qs) at,
      )

  pub update_made : (old one two three new : List Term) (j : ℕ) (e x v y : Ex) (es xs : List Ex) → IsMade fs incs e old x one → AreMade fs incs es one xs two → IsMade fs incs v two y three → j ≡ length incs + place_update incs x y (listed xs) three → new ≡ with_update fs incs x y (listed xs) three → IsMade fs incs (s.Update e (listed es) v) old (s.Read (s.Local j)) new
  update_made old one two three new j e x v y es xs w all u place put =
      let a = numbered fs incs e old in
      let mid = behind fs incs e old in
      let qs = all_numbered fs incs (listed es) mid in
      let far = all_behind fs incs (listed es) mid in
      let b = numbered fs incs v far in
      let last = behind fs incs v far in
      let args : listed xs ≡ qs = ap listed all.0 ∙ each_listed es one ∙ ap (all_numbered fs incs (listed es)) w.1 in
      let at : two ≡ far = all.1 ∙ each_behind es one ∙ ap (all_behind fs incs (listed es)) w.1 in
      let value : y ≡ b = u.0 ∙ ap (numbered fs incs v) at in
      let end : three ≡ last = u.1 ∙ ap (behind fs incs v) at in (
        ap (λ k. s.Read (s.Local k)) (place ∙ ap (λ z. length incs + place_update incs z y (listed xs) three) w.0 ∙ ap (λ z. length incs + place_update incs a z (listed xs) three) value ∙ ap (λ ys. length incs + place_update incs a b ys three) args ∙ ap (λ ts. length incs + place_update incs a b qs ts) end),
        put ∙ ap (λ z. with_update fs incs z y (listed xs) three) w.0 ∙ ap (λ z. with_update fs incs a z (listed xs) three) value ∙ ap (λ ys. with_update fs incs a b ys three) args ∙ ap (with_update fs incs a b qs) end,
      )
