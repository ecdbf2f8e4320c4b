-- Which term is read behind incarnations.
use Rattle.std.proofs.Common.{◌≡◌, ℕ, zero, suc, ◌+◌, ◌-◌, ◌<◌, ◌≤◌, List, [], ◌∷◌, length, get_or, Option, Some, None, refl, sym, ap, ◌∙◌, arith}
use Rattle.std.specs.Prelude.{slice_get}
use Rattle.bg_ast.specs.Syntax.{Ex, Number, Fact, Constant, Read, Not, Negative, Binary, Apply, Select, Update, Old, Fun, Global, Local}
use Rattle.bg_terms.specs.Terms.{Term}
use Rattle.bg_terms.specs.Instances.{term_at, read_at}
use Rattle.bg_term_table.specs.Locals.{local_in}

module _ (ts : List Term) where
  -- an incarnation is no term
  pub before_terms : (n k : ℕ) → k < n → None ≡ term_at n ts k
  before_terms zero k h = absurd (omega (arith, h))
  before_terms (suc n) zero h = refl
  before_terms (suc n) (suc k) h = before_terms n k (omega (arith, h))

  pub at_terms : (n k : ℕ) → n ≤ k → slice_get ts (k - n) ≡ term_at n ts k
  at_terms zero k h = ap (slice_get ts) (let e : k - 0 ≡ k = omega arith in e)
  at_terms (suc n) zero h = absurd (omega (arith, h))
  at_terms (suc n) (suc k) h = ap (slice_get ts) (omega (arith, h)) ∙ at_terms n k (omega (arith, h))

  -- the term that has the number which is read
  abbrev pub term_or : ℕ → Option ℕ → Option Term
  term_or n None = None
  term_or n (Some k) = term_at n ts k

  pub term_read_at : (n : ℕ) (e : Ex) → term_or n (local_in e) ≡ read_at n ts e
  term_read_at n (Number z) = refl
  term_read_at n (Fact b) = refl
  term_read_at n (Constant k) = refl
  term_read_at n (Read (Global j)) = refl
  term_read_at n (Read (Local j)) = refl
  term_read_at n (Not e) = refl
  term_read_at n (Negative e) = refl
  term_read_at n (Binary op a b) = refl
  term_read_at n (Apply f es) = refl
  term_read_at n (Select m es) = refl
  term_read_at n (Update m es e) = refl
  term_read_at n (Old e) = refl

  pub nothing_read : (n : ℕ) (e : Ex) → local_in e ≡ None → read_at n ts e ≡ None
  nothing_read n e h = sym (term_read_at n e) ∙ ap (term_or n) h

  pub read_before : (n : ℕ) (e : Ex) (k : ℕ) → local_in e ≡ Some k → k < n → read_at n ts e ≡ None
  read_before n e k h l = sym (term_read_at n e) ∙ (ap (term_or n) h ∙ sym (before_terms n k l))

  pub read_behind : (n : ℕ) (e : Ex) (k : ℕ) → local_in e ≡ Some k → n ≤ k → read_at n ts e ≡ slice_get ts (k - n)
  read_behind n e k h l = sym (term_read_at n e) ∙ (ap (term_or n) h ∙ sym (at_terms n k l))
