-- Expressions open no bracket too many.
use Rattle.std.proofs.Common.{◌≡◌, ℕ, zero, suc, ◌-◌, List, Option, Some, None, refl, sym, subst}
use Rattle.bg_base.specs.declared.pos.Pos.{Pos}
use Rattle.bg_text.specs.declared.token.Kind.{Kind}
use Rattle.bg_text.specs.declared.token.Kind.TheVariants as kinds
use Rattle.bg_text.specs.Tokens.{Tok}
use Rattle.bg_text.specs.declared.expr.InfixSign.{InfixSign}
use Rattle.bg_text.specs.declared.expr.InfixSign.TheVariants as op
use Rattle.bg_text.specs.declared.expr.TreePrefix.{TreePrefix}
use Rattle.bg_text.specs.Trees.{Ex, Named, Apply, Old, Parens, More, NoMore, NoLink, NoBracket, Link}
use Rattle.bg_text.specs.Spelling.{infix_kind}
use Rattle.bg_text.specs.Brackets.{Opens, Neither, turn}
use Rattle.bg_reader.specs.Reading.{Reader, with_read, both, one, branch, nothing, many}
use Rattle.bg_reader.specs.Reading.{a_sign}
use Rattle.bg_text.specs.Views.{links_of, brackets_of, exs_of}
use Rattle.bg_expr.specs.Exprs.{a_name, a_prefix, prefix_by, plain, plain_by, first_sign, next_sign, operand, links_by, links_at, chain_of, chain_at, list_at, args_at, value_at, bracket_at, brackets_at, call_at, closed, enclosed, parens_at, old_at, atom_at, postfix_at, postfix_of, prefix_at, prefix_of, ladder, inner_of, expr_at}
use Rattle.bg_reader.proofs.Fits.{step_sign, step_text, opens_sign}
use Rattle.bg_expr.proofs.Signs.{first_is, next_is}
use Rattle.bg_reader.specs.Exact.{Nests, Step}
use Rattle.bg_reader.proofs.Nests.{nest_with, nest_both, nest_branch, nest_nothing, nest_one, nest_must, nest_many, nest_sink, nest_sunk}

-- signs
infix_turn : (s : InfixSign) → turn (infix_kind s) ≡ Neither
infix_turn op.Iff = refl
infix_turn op.Implies = refl
infix_turn op.Explies = refl
infix_turn op.And = refl
infix_turn op.Or = refl
infix_turn op.Equal = refl
infix_turn op.Unequal = refl
infix_turn op.Less = refl
infix_turn op.AtMost = refl
infix_turn op.Greater = refl
infix_turn op.AtLeast = refl
infix_turn op.Plus = refl
infix_turn op.Minus = refl
infix_turn op.Times = refl

step_first : (k d : ℕ) → Step (first_sign k) d d
step_first k d t b s = let w = first_is k t b s in rw (w.0, infix_turn b.1) refl

step_next : (r : InfixSign) (d : ℕ) → Step (next_sign r) d d
step_next r d t b s = let w = next_is r t b s in rw (w.0, infix_turn b.1) refl

step_name : (d : ℕ) → Step a_name d d
step_name d = step_text kinds.Name refl d d refl

prefix_turn : (k : Kind) (p : Pos) (s : TreePrefix) → prefix_by k p ≡ Some s → turn k ≡ Neither
prefix_turn kinds.Not p s h = refl
prefix_turn kinds.Minus p s h = refl
prefix_turn _ p s h = absurd cc

step_prefix : (d : ℕ) → Step a_prefix d d
step_prefix d t b s = rw (prefix_turn t.kind t.pos b s) refl

plain_turn : (k : Kind) (p : Pos) (e : Ex) → plain_by k p ≡ Some e → turn k ≡ Neither
plain_turn (kinds.Number z) p e h = refl
plain_turn kinds.True p e h = refl
plain_turn kinds.False p e h = refl
plain_turn _ p e h = absurd cc

step_plain : (d : ℕ) → Step plain d d
step_plain d t b s = rw (plain_turn t.kind t.pos b s) refl

module _ (n d : ℕ) (P : Reader Ex) (p : Nests d d P) where
  list_nests : Nests d d (list_at n P)
  unfolding list_at
  list_nests ts = nest_with d d ts (λ v. More v.0 (exs_of v.1)) (both P (many (a_sign kinds.Comma) (λ _. P) n) ts) (nest_both d d d P (many (a_sign kinds.Comma) (λ _. P) n) p (nest_many (a_sign kinds.Comma) d d (λ _. P) (step_sign kinds.Comma refl d d refl) (λ _. p) n) ts)

  close_step : Step (a_sign kinds.Close) d (suc d)
  close_step = step_sign kinds.Close refl d (suc d) refl

  bracket_step : Step (a_sign kinds.CloseBracket) d (suc d)
  bracket_step = step_sign kinds.CloseBracket refl d (suc d) refl

  args_nests : Nests d (suc d) (args_at n P)
  unfolding args_at
  args_nests = nest_branch (a_sign kinds.Close) d (suc d) (suc d) close_step (λ _. nothing NoMore) (λ ts. with_read (λ v. v.0) (both (list_at n P) (one (a_sign kinds.Close)) ts)) (λ _. nest_nothing (suc d) NoMore) (λ ts. nest_with d (suc d) ts (λ v. v.0) (both (list_at n P) (one (a_sign kinds.Close)) ts) (nest_both d d (suc d) (list_at n P) (one (a_sign kinds.Close)) list_nests (nest_one (a_sign kinds.Close) d (suc d) close_step) ts))

  closed_nests : Nests d (suc d) (closed P)
  closed_nests ts = nest_with d (suc d) ts (λ v. v.0) (both P (one (a_sign kinds.Close)) ts) (nest_both d d (suc d) P (one (a_sign kinds.Close)) p (nest_one (a_sign kinds.Close) d (suc d) close_step) ts)

  value_nests : Nests d (suc d) (value_at P)
  value_nests = nest_branch (a_sign kinds.Becomes) d d (suc d) (step_sign kinds.Becomes refl d d refl) (λ _ ts. with_read (λ v. Some v.0) (both P (one (a_sign kinds.CloseBracket)) ts)) (λ ts. with_read (λ _. None) (one (a_sign kinds.CloseBracket) ts))
      (λ _ ts. nest_with d (suc d) ts (λ v. Some v.0) (both P (one (a_sign kinds.CloseBracket)) ts) (nest_both d d (suc d) P (one (a_sign kinds.CloseBracket)) p (nest_one (a_sign kinds.CloseBracket) d (suc d) bracket_step) ts))
      (λ ts. nest_with d (suc d) ts (λ _. None) (one (a_sign kinds.CloseBracket) ts) (nest_one (a_sign kinds.CloseBracket) d (suc d) bracket_step ts))

  inside_nests : (q : Pos) → Nests d (suc d) (bracket_at n P q)
  unfolding bracket_at
  inside_nests q ts = nest_with d (suc d) ts (λ v. (q, v.0, v.1)) (both (list_at n P) (value_at P) ts) (nest_both d d (suc d) (list_at n P) (value_at P) list_nests value_nests ts)

  operand_nests : (b : Pos × InfixSign) → Nests d d (operand P b)
  operand_nests b ts = nest_with d d ts (λ e. (b.0, b.1, e)) (P ts) (p ts)

  by_nests : (b : Pos × InfixSign) → Nests d d (links_by n P b)
  by_nests b ts = nest_with d d ts (λ v. Link b.0 b.1 v.0 (links_of v.1)) (both P (many (next_sign b.1) (operand P) n) ts) (nest_both d d d P (many (next_sign b.1) (operand P) n) p (nest_many (next_sign b.1) d d (operand P) (step_next b.1 d) operand_nests n) ts)

  chain_nests : (k : ℕ) → Nests d d (chain_at n k P)
  unfolding chain_at
  chain_nests k ts = nest_with d d ts (λ v. chain_of v.0 v.1) (both P (links_at n k P) ts) (nest_both d d d P (links_at n k P) p (nest_branch (first_sign k) d d d (step_first k d) (links_by n P) (nothing NoLink) by_nests (nest_nothing d NoLink)) ts)

abbrev InnerNests : ℕ → Option (Reader Ex) → Type 0
InnerNests d None = d ≡ 0
InnerNests d (Some P) = (e : ℕ) × (d ≡ suc e) × Nests e e P

open_opens : (t : Tok) (b : Pos) → a_sign kinds.Open t ≡ Some b → turn t.kind ≡ Opens
open_opens = opens_sign kinds.Open refl refl

module _ (n : ℕ) where
  brackets_nests : (d : ℕ) (inner : Option (Reader Ex)) → InnerNests d inner → Nests d d (brackets_at n inner)
  brackets_nests d None h = subst (λ j. Nests j j (brackets_at n None)) (sym h) (nest_sink (a_sign kinds.OpenBracket) 0 (opens_sign kinds.OpenBracket refl refl) (nothing NoBracket) (nest_nothing 0 NoBracket))
  brackets_nests d (Some P) h = subst (λ j. Nests j j (brackets_at n (Some P))) (sym h.1) (λ ts. nest_with (suc h.0) (suc h.0) ts brackets_of (many (a_sign kinds.OpenBracket) (bracket_at n P) n ts) (nest_many (a_sign kinds.OpenBracket) (suc h.0) h.0 (bracket_at n P) (step_sign kinds.OpenBracket refl (suc h.0) h.0 refl) (inside_nests n h.0 P h.2) n ts))

  call_nests : (d : ℕ) (inner : Option (Reader Ex)) → InnerNests d inner → (b : Pos × List ℕ) → Nests d d (call_at n inner b)
  call_nests d None h b = subst (λ j. Nests j j (call_at n None b)) (sym h) (nest_sink (a_sign kinds.Open) 0 open_opens (nothing (Named b.0 b.1)) (nest_nothing 0 (Named b.0 b.1)))
  call_nests d (Some P) h b = subst (λ j. Nests j j (call_at n (Some P) b)) (sym h.1) (nest_branch (a_sign kinds.Open) (suc h.0) h.0 (suc h.0) (step_sign kinds.Open refl (suc h.0) h.0 refl) (λ _ ts. with_read (Apply b.0 b.1) (args_at n P ts)) (nothing (Named b.0 b.1)) (λ _ ts. nest_with h.0 (suc h.0) ts (Apply b.0 b.1) (args_at n P ts) (args_nests n h.0 P h.2 ts)) (nest_nothing (suc h.0) (Named b.0 b.1)))

  enclosed_nests : (d : ℕ) (inner : Option (Reader Ex)) → InnerNests d inner → Nests d d (enclosed inner)
  enclosed_nests d None h = subst (λ j. Nests j j (enclosed None)) (sym h) (nest_sunk (Pos × Ex) Pos (a_sign kinds.Open) 0 open_opens)
  enclosed_nests d (Some P) h = subst (λ j. Nests j j (enclosed (Some P))) (sym h.1) (nest_must (a_sign kinds.Open) (suc h.0) h.0 (suc h.0) (closed P) (step_sign kinds.Open refl (suc h.0) h.0 refl) (closed_nests n h.0 P h.2))

  parens_nests : (d : ℕ) (inner : Option (Reader Ex)) → InnerNests d inner → Nests d d (parens_at inner)
  parens_nests d None h = subst (λ j. Nests j j (parens_at None)) (sym h) (nest_sink (a_sign kinds.Open) 0 open_opens (one plain) (nest_one plain 0 0 (step_plain 0)))
  parens_nests d (Some P) h = subst (λ j. Nests j j (parens_at (Some P))) (sym h.1) (nest_branch (a_sign kinds.Open) (suc h.0) h.0 (suc h.0) (step_sign kinds.Open refl (suc h.0) h.0 refl) (λ p ts. with_read (Parens p) (closed P ts)) (one plain) (λ p ts. nest_with h.0 (suc h.0) ts (Parens p) (closed P ts) (closed_nests n h.0 P h.2 ts)) (nest_one plain (suc h.0) (suc h.0) (step_plain (suc h.0))))

  atom_nests : (d : ℕ) (inner : Option (Reader Ex)) → InnerNests d inner → Nests d d (atom_at n inner)
  unfolding atom_at
  atom_nests d inner h = nest_branch a_name d d d (step_name d) (call_at n inner) (branch (a_sign kinds.Old) (old_at inner) (parens_at inner)) (call_nests d inner h)
      (nest_branch (a_sign kinds.Old) d d d (step_sign kinds.Old refl d d refl) (old_at inner) (parens_at inner) (λ q ts. nest_with d d ts (λ v. Old q v.1) (enclosed inner ts) (enclosed_nests d inner h ts)) (parens_nests d inner h))

  prefix_nests : (d : ℕ) (inner : Option (Reader Ex)) → InnerNests d inner → Nests d d (prefix_at n inner)
  unfolding prefix_at postfix_at
  prefix_nests d inner h ts = nest_with d d ts (λ v. prefix_of v.0 v.1) (both (many a_prefix nothing n) (postfix_at n inner) ts)
      (nest_both d d d (many a_prefix nothing n) (postfix_at n inner) (nest_many a_prefix d d nothing (step_prefix d) (λ b. nest_nothing d b) n)
      (λ us. nest_with d d us (λ v. postfix_of v.0 v.1) (both (atom_at n inner) (brackets_at n inner) us) (nest_both d d d (atom_at n inner) (brackets_at n inner) (atom_nests d inner h) (brackets_nests d inner h) us)) ts)

  ladder_nests : (d : ℕ) (inner : Option (Reader Ex)) → InnerNests d inner → (rungs : ℕ) → Nests d d (ladder n inner rungs)
  unfolding ladder
  ladder_nests d inner h zero = prefix_nests d inner h
  ladder_nests d inner h (suc rungs) = chain_nests n d (ladder n inner rungs) (ladder_nests d inner h rungs) (5 - rungs)

  inner_nests : (d : ℕ) → InnerNests d (inner_of n d)
  unfolding inner_of
  inner_nests zero = refl
  inner_nests (suc d) = (d, refl, ladder_nests d (inner_of n d) (inner_nests d) 6)

  -- The brackets of an expression are counted: it is refused as too deep at the first that is one too many.
  pub expr_nests : (d : ℕ) → Nests d d (expr_at n d)
  expr_nests d = ladder_nests d (inner_of n d) (inner_nests d) 6
