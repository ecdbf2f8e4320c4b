-- Marks of what is read.
use Rattle.std.proofs.Common.{◌≡◌, ℕ, zero, suc, ◌+◌, ◌-◌, ◌<◌, ◌≤◌, Bool, true, false, List, [], ◌∷◌, map, length, drop, get_or, replicate, slice_set, refl, sym, ap, ◌∙◌, arith, Vec, Box, Global}
use Rattle.std.specs.Prelude.{◌==◌, ◌&&◌, ◌||◌, Option, Some, None}
use Rattle.std.specs.List.{list_any}
use Rattle.std.proofs.lemmas.List.{drop_more}
use Rattle.std.proofs.Math.ListN.{drop_of_length-le}
use Rattle.std.proofs.lemmas.Bool.Decides.{nat_tests}
use Rattle.bg_base.specs.declared.pos.Pos.{Pos}
use Rattle.bg_text.specs.declared.expr.InfixSign.{InfixSign}
use Rattle.bg_text.specs.declared.expr.InfixSign.TheVariants as op
use Rattle.bg_text.specs.declared.expr.PrefixSign.{PrefixSign}
use Rattle.bg_text.specs.declared.expr.PrefixSign.TheVariants as prefix
use Rattle.bg_text.specs.declared.expr.TreePrefix.{TreePrefix}
use Rattle.bg_ast.specs.declared.resolved.Expr.{Expr}
use Rattle.bg_ast.specs.declared.resolved.Expr.TheVariants as expr
use Rattle.bg_ast.specs.declared.resolved.Link.{Link}
use Rattle.bg_ast.specs.declared.resolved.Bracket.{Bracket}
use Rattle.bg_ast.specs.Syntax as s
use Rattle.bg_ast.specs.Syntax.{Ex, Fun}
use Rattle.bg_ast.specs.Meaning as m
use Rattle.bg_ast.specs.Meaning.{ex_of, prefix_of, infix_of}
use Rattle.bg_ast.specs.Resolved as r
use Rattle.bg_ast.specs.Views as u
use Rattle.bg_ast.proofs.Lists.{ex_of-Postfix}
use Rattle.bg_ast.specs.Values.{Ty}
use Rattle.bg_slice.specs.Marks.{marked}
use Rattle.bg_terms.specs.Terms.{Term}
use Rattle.bg_term_table.specs.declared.table.Term as kept
use Rattle.bg_term_table.specs.Views.{meaning, meanings, listed, operands, signs, prefixes, terms_in}
use Rattle.bg_term_table.specs.Chains.{chain_from, signed_by}
use Rattle.bg_term_table.proofs.Means.{meaning-Chain, meaning-Prefix}
use Rattle.bg_task.specs.Targets.{reads, any_reads, stands, is_spread, are_spread}
use Rattle.bg_task.specs.Spread.{both}

or_none : (a : Bool) → (a || false) ≡ a
or_none true = refl
or_none false = refl

or_true : (a : Bool) → (a || true) ≡ true
or_true true = refl
or_true false = refl

or_assoc : (a b c : Bool) → ((a || b) || c) ≡ (a || (b || c))
or_assoc true b c = refl
or_assoc false b c = refl

or_turns : (a b : Bool) → (a || b) ≡ (b || a)
or_turns true true = refl
or_turns true false = refl
or_turns false true = refl
or_turns false false = refl

-- ---- marks

pub marked_same : (p q : ℕ → Bool) (n : ℕ) (ms : List Bool) → ((k : ℕ) → p k ≡ q k) → marked p n ms ≡ marked q n ms
marked_same p q n [] h = refl
marked_same p q n (b ∷ ms) h = rw (h n) (ap (λ l. (b || q n) ∷ l) (marked_same p q (suc n) ms h))

-- where nothing is read no mark changes
pub marked_none : (n : ℕ) (ms : List Bool) → ms ≡ marked (λ k. false) n ms
marked_none n [] = refl
marked_none n (b ∷ ms) = rw (or_none b) (ap (λ l. b ∷ l) (marked_none (suc n) ms))

-- one property and then another
pub marked_both : (p q : ℕ → Bool) (n : ℕ) (ms : List Bool) → marked q n (marked p n ms) ≡ marked (λ k. p k || q k) n ms
marked_both p q n [] = refl
marked_both p q n (b ∷ ms) = rw (or_assoc b (p n) (q n)) (ap (λ l. (b || (p n || q n)) ∷ l) (marked_both p q (suc n) ms))

other : (n a : ℕ) → a < n → (n == a) ≡ false
other n a h = grind (arith, nat_tests)

marked_under : (a n : ℕ) (ms : List Bool) → a < n → ms ≡ marked (λ k. k == a) n ms
marked_under a n [] h = refl
marked_under a n (b ∷ ms) h =
    rw (other n a h, or_none b) (ap (λ l. b ∷ l) (marked_under a (suc n) ms (search (h, arith))))

marked_at : (i a n : ℕ) (ms : List Bool) → a ≡ n + i → i < length ms → slice_set ms i true ≡ marked (λ k. k == a) n ms
marked_at i a n [] e h = absurd (search (h, arith))
marked_at zero a n (b ∷ ms) e h =
    let q : (n == a) ≡ true = grind (arith, nat_tests, e) in
    rw (q, or_true b) (ap (λ l. true ∷ l) (marked_under a (suc n) ms (omega (arith, e))))
marked_at (suc i) a n (b ∷ ms) e h =
    let q : (n == a) ≡ false = grind (arith, nat_tests, e) in
    rw (q, or_none b) (ap (λ l. b ∷ l) (marked_at i a (suc n) ms (omega (arith, e)) (omega (arith, h))))

marked_over : (i a n : ℕ) (ms : List Bool) → a ≡ n + i → length ms ≤ i → ms ≡ marked (λ k. k == a) n ms
marked_over i a n [] e h = refl
marked_over zero a n (b ∷ ms) e h = absurd (search (h, arith))
marked_over (suc i) a n (b ∷ ms) e h =
    let q : (n == a) ≡ false = grind (arith, nat_tests, e) in
    rw (q, or_none b) (ap (λ l. b ∷ l) (marked_over i a (suc n) ms (omega (arith, e)) (omega (arith, h))))

pub first_at : (a : ℕ) (ms : List Bool) → a < length ms → slice_set ms a true ≡ marked (λ k. k == a) 0 ms
first_at a ms less = marked_at a a 0 ms (omega arith) less

pub first_over : (a : ℕ) (ms : List Bool) → length ms ≤ a → ms ≡ marked (λ k. k == a) 0 ms
first_over a ms more = marked_over a a 0 ms (omega arith) more

pub drop_item : {A : Type 0} (xs : List A) (i : ℕ) (x : A) → i < length xs → x ≡ get_or xs i x → drop i xs ≡ x ∷ drop (i + 1) xs
drop_item xs i x h is = drop_more xs i x h ∙ ap (λ y. y ∷ drop (i + 1) xs) (sym is)

pub drop_all : {A : Type 0} (xs : List A) (i : ℕ) → length xs ≤ i → drop i xs ≡ []
drop_all xs i h = drop_of_length-le xs h

-- one more of a list whose items have a property that marks
pub marked_next : {A : Type 0} (p : ℕ → A → Bool) (xs : List A) (i : ℕ) (x : A) (old new whole : List Bool) → i < length xs → x ≡ get_or xs i x → new ≡ marked (λ k. p k x) 0 old → marked (λ k. list_any (p k) (drop i xs)) 0 old ≡ whole → marked (λ k. list_any (p k) (drop (i + 1) xs)) 0 new ≡ whole
marked_next p xs i x old new whole h is e known =
    ap (marked (λ k. list_any (p k) (drop (i + 1) xs)) 0) e
    ∙ marked_both (λ k. p k x) (λ k. list_any (p k) (drop (i + 1) xs)) 0 old
    ∙ ap (λ l. marked (λ k. list_any (p k) l) 0 old) (sym (drop_item xs i x h is))
    ∙ known

-- none is left
pub marked_last : {A : Type 0} (p : ℕ → A → Bool) (xs : List A) (i : ℕ) (new whole : List Bool) → length xs ≤ i → marked (λ k. list_any (p k) (drop i xs)) 0 new ≡ whole → new ≡ whole
marked_last p xs i new whole h known =
    marked_none 0 new ∙ ap (λ l. marked (λ k. list_any (p k) l) 0 new) (sym (drop_all xs i h)) ∙ known

-- ---- what chains, signs and brackets read

infix_reads : (k : ℕ) (g : InfixSign) (a b : Ex) → reads k (infix_of g a b) ≡ (reads k a || reads k b)
infix_reads k op.Iff a b = refl
infix_reads k op.Implies a b = refl
infix_reads k op.Explies a b = or_turns (reads k b) (reads k a)
infix_reads k op.And a b = refl
infix_reads k op.Or a b = refl
infix_reads k op.Equal a b = refl
infix_reads k op.Unequal a b = refl
infix_reads k op.Less a b = refl
infix_reads k op.AtMost a b = refl
infix_reads k op.Greater a b = refl
infix_reads k op.AtLeast a b = refl
infix_reads k op.Plus a b = refl
infix_reads k op.Minus a b = refl
infix_reads k op.Times a b = refl

-- the operands behind the first, where the chain from there on is known
module _ (k : ℕ) (ls : List Link) (h : (b : Ex) → reads k (chain_from b (signs ls) (operands ls)) ≡ (reads k b || list_any (reads k) (operands ls))) where
  left_reads : (g : InfixSign) (a e : Ex) → reads k (chain_from (infix_of g a e) (signs ls) (operands ls)) ≡ (reads k a || (reads k e || list_any (reads k) (operands ls)))
  left_reads g a e =
      h (infix_of g a e)
      ∙ ap (λ b. b || list_any (reads k) (operands ls)) (infix_reads k g a e)
      ∙ or_assoc (reads k a) (reads k e) (list_any (reads k) (operands ls))

  link_reads : (g : InfixSign) (a e : Ex) → reads k (chain_from a (g ∷ signs ls) (e ∷ operands ls)) ≡ (reads k a || (reads k e || list_any (reads k) (operands ls)))
  link_reads op.Iff a e = left_reads op.Iff a e
  link_reads op.Implies a e = ap (λ b. reads k a || b) (h e)
  link_reads op.Explies a e = left_reads op.Explies a e
  link_reads op.And a e = left_reads op.And a e
  link_reads op.Or a e = left_reads op.Or a e
  link_reads op.Equal a e = left_reads op.Equal a e
  link_reads op.Unequal a e = left_reads op.Unequal a e
  link_reads op.Less a e = left_reads op.Less a e
  link_reads op.AtMost a e = left_reads op.AtMost a e
  link_reads op.Greater a e = left_reads op.Greater a e
  link_reads op.AtLeast a e = left_reads op.AtLeast a e
  link_reads op.Plus a e = left_reads op.Plus a e
  link_reads op.Minus a e = left_reads op.Minus a e
  link_reads op.Times a e = left_reads op.Times a e

chain_reads : (k : ℕ) (ls : List Link) (a : Ex) → reads k (chain_from a (signs ls) (operands ls)) ≡ (reads k a || list_any (reads k) (operands ls))
chain_reads k [] a = sym (or_none (reads k a))
chain_reads k (l ∷ ls) a = link_reads k ls (chain_reads k ls) l.sign a (meaning l.operand)

signed_reads : (k : ℕ) (xs : List TreePrefix) (e : Ex) → reads k (signed_by (prefixes xs) e) ≡ reads k e
signed_reads k [] e = refl
signed_reads k (x ∷ xs) e = by_sign x.sign ∙ signed_reads k xs e
  where
    by_sign : (p : PrefixSign) → reads k (prefix_of p (signed_by (prefixes xs) e)) ≡ reads k (signed_by (prefixes xs) e)
    by_sign prefix.Not = refl
    by_sign prefix.Minus = refl

behind_none : (k : ℕ) (bs : r.Brackets) (e : Ex) → reads k e ≡ false → reads k (m.behind e bs) ≡ false
behind_none k r.NoBracket e h = h
behind_none k (r.Select p es bs) e h = behind_none k bs (s.Select e (m.exs_of es)) refl
behind_none k (r.Update p es v bs) e h = behind_none k bs (s.Update e (m.exs_of es) (ex_of v)) refl

some_brackets : (k : ℕ) (w : Pos × r.Exs × Option r.Ex) (bs : r.Brackets) (e : Ex) → reads k (m.behind e (u.behind_parts w.0 w.1 w.2 bs)) ≡ false
some_brackets k (p, es, None) bs e = behind_none k bs (s.Select e (m.exs_of es)) refl
some_brackets k (p, es, Some v) bs e = behind_none k bs (s.Update e (m.exs_of es) (ex_of v)) refl

no_brackets : (k : ℕ) (bs : List Bracket) (e : Ex) → length bs ≡ 0 → reads k (m.behind e (u.brackets_of (map u.bracket_view bs))) ≡ reads k e
no_brackets k [] e h = refl
no_brackets k (b ∷ bs) e h = absurd (omega (arith, h))

brackets_none : (k : ℕ) (bs : List Bracket) (e : Ex) → 0 < length bs → reads k (m.behind e (u.brackets_of (map u.bracket_view bs))) ≡ false
brackets_none k [] e h = absurd (omega (arith, h))
brackets_none k (b ∷ bs) e h = some_brackets k (u.bracket_view b) (u.brackets_of (map u.bracket_view bs)) e

any_linked : (k : ℕ) (ls : List Link) → list_any (λ l. reads k (meaning l.operand)) ls ≡ list_any (reads k) (operands ls)
any_linked k [] = refl
any_linked k (l ∷ ls) = ap (λ b. reads k (meaning l.operand) || b) (any_linked k ls)

-- ---- what expressions read, by their forms

pub marks_prefix : (xs : Vec TreePrefix Global) (e : Box Expr Global) (old new : List Bool) → new ≡ marked (λ k. reads k (meaning e.value)) 0 old → new ≡ marked (λ k. reads k (meaning (expr.Prefix xs e))) 0 old
marks_prefix xs e old new h =
    h ∙ sym (marked_same (λ k. reads k (meaning (expr.Prefix xs e))) (λ k. reads k (meaning e.value)) 0 old (λ k. ap (reads k) (meaning-Prefix xs e) ∙ signed_reads k xs.items (meaning e.value)))

pub marks_bare : (e : Box Expr Global) (bs : Vec Bracket Global) (old new : List Bool) → length bs.items ≡ 0 → new ≡ marked (λ k. reads k (meaning e.value)) 0 old → new ≡ marked (λ k. reads k (meaning (expr.Postfix e bs))) 0 old
marks_bare e bs old new n h =
    h ∙ sym (marked_same (λ k. reads k (meaning (expr.Postfix e bs))) (λ k. reads k (meaning e.value)) 0 old (λ k. ap (λ x. reads k (ex_of x)) (ex_of-Postfix e bs) ∙ no_brackets k bs.items (meaning e.value) n))

pub marks_brackets : (e : Box Expr Global) (bs : Vec Bracket Global) (old : List Bool) → 0 < length bs.items → old ≡ marked (λ k. reads k (meaning (expr.Postfix e bs))) 0 old
marks_brackets e bs old n =
    marked_none 0 old ∙ sym (marked_same (λ k. reads k (meaning (expr.Postfix e bs))) (λ k. false) 0 old (λ k. ap (λ x. reads k (ex_of x)) (ex_of-Postfix e bs) ∙ brackets_none k bs.items (meaning e.value) n))

pub marks_chain : (e : Box Expr Global) (ls : Vec Link Global) (old mid new : List Bool) → mid ≡ marked (λ k. reads k (meaning e.value)) 0 old → new ≡ marked (λ k. list_any (λ l. reads k (meaning l.operand)) ls.items) 0 mid → new ≡ marked (λ k. reads k (meaning (expr.Chain e ls))) 0 old
marks_chain e ls old mid new a b =
    b
    ∙ ap (marked (λ k. list_any (λ l. reads k (meaning l.operand)) ls.items) 0) a
    ∙ marked_both (λ k. reads k (meaning e.value)) (λ k. list_any (λ l. reads k (meaning l.operand)) ls.items) 0 old
    ∙ sym (marked_same (λ k. reads k (meaning (expr.Chain e ls))) (λ k. reads k (meaning e.value) || list_any (λ l. reads k (meaning l.operand)) ls.items) 0 old (λ k. ap (reads k) (meaning-Chain e ls) ∙ chain_reads k ls.items (meaning e.value) ∙ ap (λ b. reads k (meaning e.value) || b) (sym (any_linked k ls.items))))

-- ---- terms

any_meant : (k : ℕ) (es : List Expr) → list_any (λ e. reads k (meaning e)) es ≡ any_reads k (listed (meanings es))
any_meant k [] = refl
any_meant k (e ∷ es) = ap (λ b. reads k (meaning e) || b) (any_meant k es)

stands_kept : (fs : List Fun) (k : ℕ) (ts : List kept.Term) → list_any (λ t. list_any (λ e. reads k (meaning e)) t.args.items) ts ≡ stands k (terms_in fs ts)
stands_kept fs k [] = refl
stands_kept fs k (t ∷ ts) =
    ap (λ b. b || list_any (λ t. list_any (λ e. reads k (meaning e)) t.args.items) ts) (any_meant k t.args.items)
    ∙ ap (λ b. any_reads k (listed (meanings t.args.items)) || b) (stands_kept fs k ts)

spread_here : (ts : List Term) (j : ℕ) (hs : List Ty) → both hs (marked (λ k. stands k ts) j (replicate (length hs) false)) ≡ are_spread j hs ts
spread_here ts j [] = refl
spread_here ts j (h ∷ hs) = ap (λ l. (is_spread h && stands j ts) ∷ l) (spread_here ts (suc j) hs)

pub spread_is : (fs : List Fun) (ts : List kept.Term) (hs : List Ty) (ms : List Bool) → ms ≡ marked (λ k. list_any (λ t. list_any (λ e. reads k (meaning e)) t.args.items) ts) 0 (replicate (length hs) false) → both hs ms ≡ are_spread 0 hs (terms_in fs ts)
spread_is fs ts hs ms e =
    ap (both hs) (e ∙ marked_same (λ k. list_any (λ t. list_any (λ e. reads k (meaning e)) t.args.items) ts) (λ k. stands k (terms_in fs ts)) 0 (replicate (length hs) false) (λ k. stands_kept fs k ts))
    ∙ spread_here (terms_in fs ts) 0 hs
