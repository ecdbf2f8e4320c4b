-- One level more, one bracket more.
use Rattle.std.proofs.Common.{◌≡◌, ℕ, suc, ◌-◌, List, [], Option, Some, None, refl, ◌∙◌}
use Rattle.bg_text.specs.Views.{brackets_of, Bracket}
use Rattle.bg_text.specs.declared.token.Kind.TheVariants as kinds
use Rattle.bg_text.specs.Tokens.{Tok}
use Rattle.bg_reader.specs.Reading.{Read, Got, Bad, Deep, Reader, with_read, both, peek, one, many}
use Rattle.bg_text.specs.Trees.{Ex, Exs, Links, Apply, Named, Old, Parens}
use Rattle.bg_reader.specs.Reading.{a_sign}
use Rattle.bg_expr.specs.Exprs.{ladder, chain_at, prefix_at, inner_of, expr_at, links_at, chain_of, bracket_at, brackets_at, args_at, call_at, list_at, atom_at, a_name, closed}
use Rattle.bg_base.specs.declared.pos.Pos.{Pos}
use Rattle.bg_reader.specs.declared.refusal.Refusal.{Refusal}
use Rattle.bg_reader.specs.declared.refusal.Refusal.TheVariants as refusal
use Rattle.bg_reader.specs.Reading.{Refuses}

pub ladder_none : (n : ℕ) (inner : Option (Reader Ex)) (r : ℕ) (ts : List Tok) → r ≡ 0 → ladder n inner r ts ≡ prefix_at n inner ts
unfolding ladder
ladder_none n inner r ts h = rw h refl

pub ladder_more : (n : ℕ) (inner : Option (Reader Ex)) (r q : ℕ) (ts : List Tok) → r ≡ suc q → ladder n inner r ts ≡ with_read (λ v. chain_of v.0 v.1) (both (ladder n inner q) (links_at n (5 - q) (ladder n inner q)) ts)
unfolding ladder chain_at
ladder_more n inner r q ts h = rw h refl

pub inner_none : (n d : ℕ) → d ≡ 0 → inner_of n d ≡ None
unfolding inner_of
inner_none n d h = rw h refl

pub inner_more : (n d e : ℕ) → d ≡ suc e → inner_of n d ≡ Some (expr_at n e)
unfolding inner_of
inner_more n d e h = rw h refl

-- a refusal of a part is one of the whole
pub refuses_on : {A B : Type 0} (from : ℕ → List Tok) (e : Refusal) (r : Read A) (s : Read B) → ((y : List Tok) → r ≡ Bad y → s ≡ Bad y) → ((y : List Tok) → r ≡ Deep y → s ≡ Deep y) → Refuses from e r → Refuses from e s
refuses_on from (refusal.Syntax i) r s bad deep h = bad (from i) h
refuses_on from (refusal.TooDeep i) r s bad deep h = deep (from i) h
refuses_on from refusal.Memory r s bad deep h = tt

module _ (n : ℕ) (inner : Option (Reader Ex)) (r q : ℕ) (ts : List Tok) (m : r ≡ suc q) where
  pub ladder_bad : (y : List Tok) → ladder n inner q ts ≡ Bad y → ladder n inner r ts ≡ Bad y
  ladder_bad y h = ladder_more n inner r q ts m ∙ rw h refl

  pub ladder_deep : (y : List Tok) → ladder n inner q ts ≡ Deep y → ladder n inner r ts ≡ Deep y
  ladder_deep y h = ladder_more n inner r q ts m ∙ rw h refl

  pub ladder_links_bad : (e : Ex) (x y : List Tok) → ladder n inner q ts ≡ Got e x → links_at n (5 - q) (ladder n inner q) x ≡ Bad y → ladder n inner r ts ≡ Bad y
  ladder_links_bad e x y h k = ladder_more n inner r q ts m ∙ rw (h, k) refl

  pub ladder_links_deep : (e : Ex) (x y : List Tok) → ladder n inner q ts ≡ Got e x → links_at n (5 - q) (ladder n inner q) x ≡ Deep y → ladder n inner r ts ≡ Deep y
  ladder_links_deep e x y h k = ladder_more n inner r q ts m ∙ rw (h, k) refl

  pub ladder_got : (e f : Ex) (x y : List Tok) (l : Links) → ladder n inner q ts ≡ Got e x → links_at n (5 - q) (ladder n inner q) x ≡ Got l y → f ≡ chain_of e l → ladder n inner r ts ≡ Got f y
  ladder_got e f x y l h k g = ladder_more n inner r q ts m ∙ rw (h, k, g) refl

-- brackets in a row
module _ (n d : ℕ) (ts : List Tok) where
  pub brackets_zero_none : (bs : List Bracket) → d ≡ 0 → peek (a_sign kinds.OpenBracket) ts ≡ None → bs ≡ [] → brackets_at n (inner_of n d) ts ≡ Got (brackets_of bs) ts
  brackets_zero_none bs h k e = rw (inner_none n d h, e, k) refl

  pub brackets_zero_some : (p : Pos × List Tok) → d ≡ 0 → peek (a_sign kinds.OpenBracket) ts ≡ Some p → brackets_at n (inner_of n d) ts ≡ Deep ts
  brackets_zero_some p h k = rw (inner_none n d h, k) refl

  module _ (e : ℕ) (h : d ≡ suc e) where
    pub brackets_got : (bs : List Bracket) (y : List Tok) → many (a_sign kinds.OpenBracket) (bracket_at n (expr_at n e)) n ts ≡ Got bs y → brackets_at n (inner_of n d) ts ≡ Got (brackets_of bs) y
    brackets_got bs y k = rw (inner_more n d e h, k) refl

    pub brackets_bad : (y : List Tok) → many (a_sign kinds.OpenBracket) (bracket_at n (expr_at n e)) n ts ≡ Bad y → brackets_at n (inner_of n d) ts ≡ Bad y
    brackets_bad y k = rw (inner_more n d e h, k) refl

    pub brackets_deep : (y : List Tok) → many (a_sign kinds.OpenBracket) (bracket_at n (expr_at n e)) n ts ≡ Deep y → brackets_at n (inner_of n d) ts ≡ Deep y
    brackets_deep y k = rw (inner_more n d e h, k) refl

    pub call_got : (b : Pos × List ℕ) (p : Pos × List Tok) (es : Exs) (y : List Tok) → peek (a_sign kinds.Open) ts ≡ Some p → args_at n (expr_at n e) p.1 ≡ Got es y → call_at n (inner_of n d) b ts ≡ Got (Apply b.0 b.1 es) y
    call_got b p es y k a = rw (inner_more n d e h, k, a) refl

    pub call_bad : (b : Pos × List ℕ) (p : Pos × List Tok) (y : List Tok) → peek (a_sign kinds.Open) ts ≡ Some p → args_at n (expr_at n e) p.1 ≡ Bad y → call_at n (inner_of n d) b ts ≡ Bad y
    call_bad b p y k a = rw (inner_more n d e h, k, a) refl

    pub call_deep : (b : Pos × List ℕ) (p : Pos × List Tok) (y : List Tok) → peek (a_sign kinds.Open) ts ≡ Some p → args_at n (expr_at n e) p.1 ≡ Deep y → call_at n (inner_of n d) b ts ≡ Deep y
    call_deep b p y k a = rw (inner_more n d e h, k, a) refl

  call_none_by : (o : Option (Reader Ex)) (b : Pos × List ℕ) → peek (a_sign kinds.Open) ts ≡ None → call_at n o b ts ≡ Got (Named b.0 b.1) ts
  call_none_by None b k = rw k refl
  call_none_by (Some P) b k = rw k refl

  pub call_none : (b : Pos × List ℕ) → peek (a_sign kinds.Open) ts ≡ None → call_at n (inner_of n d) b ts ≡ Got (Named b.0 b.1) ts
  call_none b k = call_none_by (inner_of n d) b k

  pub call_sunk : (b : Pos × List ℕ) (p : Pos × List Tok) → d ≡ 0 → peek (a_sign kinds.Open) ts ≡ Some p → call_at n (inner_of n d) b ts ≡ Deep ts
  call_sunk b p h k = rw (inner_none n d h, k) refl

module _ (n : ℕ) (P : Reader Ex) (q : Pos) (ts x : List Tok) (es : Exs) (l : list_at n P ts ≡ Got es x) where
  pub bracket_none : (p : Pos) (y : List Tok) → peek (a_sign kinds.Becomes) x ≡ None → one (a_sign kinds.CloseBracket) x ≡ Got p y → bracket_at n P q ts ≡ Got (q, es, None) y
  unfolding bracket_at
  bracket_none p y k c = rw (l, k, c) refl

  pub bracket_some : (b : Pos × List Tok) (p : Pos) (v : Ex) (y z : List Tok) → peek (a_sign kinds.Becomes) x ≡ Some b → P b.1 ≡ Got v y → one (a_sign kinds.CloseBracket) y ≡ Got p z → bracket_at n P q ts ≡ Got (q, es, Some v) z
  unfolding bracket_at
  bracket_some b p v y z k a c = rw (l, k, a, c) refl

module _ (n d : ℕ) (ts : List Tok) (no : peek a_name ts ≡ None) where
  module _ (p : Pos × List Tok) (o : peek (a_sign kinds.Old) ts ≡ Some p) (q : Pos × List Tok) (k : peek (a_sign kinds.Open) p.1 ≡ Some q) where
    pub old_sunk : d ≡ 0 → atom_at n (inner_of n d) ts ≡ Deep p.1
    unfolding atom_at
    old_sunk h = rw (no, o, inner_none n d h, k) refl

    module _ (e : ℕ) (h : d ≡ suc e) where
      pub old_got : (v : Ex) (y : List Tok) → closed (expr_at n e) q.1 ≡ Got v y → atom_at n (inner_of n d) ts ≡ Got (Old p.0 v) y
      unfolding atom_at
      old_got v y c = rw (no, o, inner_more n d e h, k, c) refl

      pub old_bad : (y : List Tok) → closed (expr_at n e) q.1 ≡ Bad y → atom_at n (inner_of n d) ts ≡ Bad y
      unfolding atom_at
      old_bad y c = rw (no, o, inner_more n d e h, k, c) refl

      pub old_deep : (y : List Tok) → closed (expr_at n e) q.1 ≡ Deep y → atom_at n (inner_of n d) ts ≡ Deep y
      unfolding atom_at
      old_deep y c = rw (no, o, inner_more n d e h, k, c) refl

  module _ (o : peek (a_sign kinds.Old) ts ≡ None) (q : Pos × List Tok) (k : peek (a_sign kinds.Open) ts ≡ Some q) where
    pub parens_sunk : d ≡ 0 → atom_at n (inner_of n d) ts ≡ Deep ts
    unfolding atom_at
    parens_sunk h = rw (no, o, inner_none n d h, k) refl

    module _ (e : ℕ) (h : d ≡ suc e) where
      pub parens_got : (v : Ex) (y : List Tok) → closed (expr_at n e) q.1 ≡ Got v y → atom_at n (inner_of n d) ts ≡ Got (Parens q.0 v) y
      unfolding atom_at
      parens_got v y c = rw (no, o, inner_more n d e h, k, c) refl

      pub parens_bad : (y : List Tok) → closed (expr_at n e) q.1 ≡ Bad y → atom_at n (inner_of n d) ts ≡ Bad y
      unfolding atom_at
      parens_bad y c = rw (no, o, inner_more n d e h, k, c) refl

      pub parens_deep : (y : List Tok) → closed (expr_at n e) q.1 ≡ Deep y → atom_at n (inner_of n d) ts ≡ Deep y
      unfolding atom_at
      parens_deep y c = rw (no, o, inner_more n d e h, k, c) refl
