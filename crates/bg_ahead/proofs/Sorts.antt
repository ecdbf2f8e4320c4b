-- More sorts behind those that are there: what kinds, ranks, refusals and rows stay so.
use Rattle.std.proofs.Common.{◌≡◌, ◌<◌, ◌+◌, ℕ, zero, suc, Bool, true, false, List, [], ◌∷◌, ◌++◌, refl, sym, ap, ◌∙◌, arith, subst, inl, inr}
use Rattle.std.specs.Prelude.{◌&&◌, ◌⊎◌, if◌then◌else◌, Option, Some, None, slice_get}
use Rattle.bg_base.specs.declared.exact.OutOfRange.{OutOfRange}
use Rattle.bg_ast.specs.Syntax.{Ex, Number, Fact, Read, Local, Not, Negative, Binary, Op, And, Or, Implies, Iff, Equal, Unequal, Less, AtMost, Greater, AtLeast, Plus, Minus, Times}
use Rattle.bg_passive.specs.Passive.{PassiveCmd, Claims, Supposes, Edge, PassiveBlock}
use Rattle.bg_formula.specs.Atoms.{AtomOf}
use Rattle.bg_formed.specs.Formed.{fits_candidate}
use Rattle.bg_formed.specs.Used.{first_of}
use Rattle.bg_formed.proofs.Below.{and_left, and_right, and_both}
use Rattle.bg_linear.specs.declared.scalar.Sort.{Sort}
use Rattle.bg_linear.specs.declared.scalar.Sort.TheVariants as sort
use Rattle.bg_linear.specs.declared.scalar.Kind.{Kind}
use Rattle.bg_linear.specs.declared.scalar.Kind.TheVariants as kind
use Rattle.bg_linear.specs.Relations.{relation, relates}
use Rattle.bg_linear.specs.Sorts.{kind_at, is_truth, is_number, is_constant, number_only, truth_if, kind_by, kind_ex, equal_kind, sum_kind, product_kind}
use Rattle.bg_atoms.specs.Ranks.{one_for, truths, rank, ranks_from}
use Rattle.bg_atoms.specs.Over.{relates_numbers, refusal, first_refused}
use Rattle.bg_atoms.specs.Listed.{with_relation, with_ex, with_cmds, with_edges, with_block, with_blocks}
use Rattle.bg_atoms.specs.Sorted.{cmds_sorted, edges_sorted, blocks_sorted}

-- ---- kinds

-- the second one is what the first one is, if that is anything
abbrev IsAtLeast : Option Kind → Option Kind → Type 0
IsAtLeast a b = (k : Kind) → a ≡ Some k → b ≡ Some k

none_left : (op : Op) (b : Option Kind) → kind_by op None b ≡ None
none_left And b = refl
none_left _ b = refl

none_right : (op : Op) (k : Kind) → kind_by op (Some k) None ≡ None
none_right And kind.Truth = refl
none_right And kind.Number = refl
none_right And kind.Constant = refl
none_right _ kind.Truth = refl
none_right _ kind.Number = refl
none_right _ kind.Constant = refl

kinds_more : (op : Op) (a b c d : Option Kind) → IsAtLeast a c → IsAtLeast b d → IsAtLeast (kind_by op a b) (kind_by op c d)
kinds_more op None b c d f g k h = absurd (let no = none_left op b in let bad : ⊥ = cc in bad)
kinds_more op (Some x) None c d f g k h = absurd (let no = none_right op x in let bad : ⊥ = cc in bad)
kinds_more op (Some x) (Some y) c d f g k h =
    ap (λ p. kind_by op p d) (f x refl) ∙ ap (kind_by op (Some x)) (g y refl) ∙ h

not_more : (a b : Option Kind) → IsAtLeast a b → IsAtLeast (truth_if (is_truth a)) (truth_if (is_truth b))
not_more None b f k h = absurd (let bad : ⊥ = cc in bad)
not_more (Some x) b f k h = ap (λ p. truth_if (is_truth p)) (f x refl) ∙ h

negative_more : (a b : Option Kind) → IsAtLeast a b → IsAtLeast (number_only a) (number_only b)
negative_more None b f k h = absurd (let bad : ⊥ = cc in bad)
negative_more (Some x) b f k h = ap number_only (f x refl) ∙ h

got_more : (ss ts : List Sort) (j : ℕ) (s : Sort) → slice_get ss j ≡ Some s → slice_get (ss ++ ts) j ≡ Some s
got_more [] ts j s h = absurd (let bad : ⊥ = cc in bad)
got_more (x ∷ ss) ts zero s h = h
got_more (x ∷ ss) ts (suc j) s h = got_more ss ts j s h

at_more : (a b : Option Sort) → ((s : Sort) → a ≡ Some s → b ≡ Some s) → IsAtLeast (kind_at a) (kind_at b)
at_more None b f k h = absurd (let bad : ⊥ = cc in bad)
at_more (Some s) b f k h = ap kind_at (f s refl) ∙ h

pub kind_more : (ss ts : List Sort) (e : Ex) (k : Kind) → kind_ex ss e ≡ Some k → kind_ex (ss ++ ts) e ≡ Some k
kind_more ss ts (Number z) k h = h
kind_more ss ts (Fact b) k h = h
kind_more ss ts (Read (Local j)) k h = at_more (slice_get ss j) (slice_get (ss ++ ts) j) (got_more ss ts j) k h
kind_more ss ts (Not e) k h = not_more (kind_ex ss e) (kind_ex (ss ++ ts) e) (kind_more ss ts e) k h
kind_more ss ts (Negative e) k h = negative_more (kind_ex ss e) (kind_ex (ss ++ ts) e) (kind_more ss ts e) k h
kind_more ss ts (Binary op a b) k h =
    kinds_more op (kind_ex ss a) (kind_ex ss b) (kind_ex (ss ++ ts) a) (kind_ex (ss ++ ts) b) (kind_more ss ts a) (kind_more ss ts b) k h
kind_more ss ts _ k h = absurd (let bad : ⊥ = cc in bad)

-- ---- ranks

pub truths_more : (ss ts : List Sort) → truths (ss ++ ts) ≡ truths ss + truths ts
truths_more [] ts = omega arith
truths_more (s ∷ ss) ts = ap (λ x. one_for s + x) (truths_more ss ts) ∙ omega arith

pub rank_more : (ss ts : List Sort) (j : ℕ) (s : Sort) → slice_get ss j ≡ Some s → rank (ss ++ ts) j ≡ rank ss j
rank_more [] ts j s h = absurd (let bad : ⊥ = cc in bad)
rank_more (x ∷ ss) ts zero s h = refl
rank_more (x ∷ ss) ts (suc j) s h = ap (λ r. one_for x + r) (rank_more ss ts j s h)

pub rank_below : (ss : List Sort) (j : ℕ) → slice_get ss j ≡ Some sort.Truth → rank ss j < truths ss
rank_below [] j h = absurd (let bad : ⊥ = cc in bad)
rank_below (s ∷ ss) zero h =
    let is : s ≡ sort.Truth = cc in
    subst (λ t. 0 < one_for t + truths ss) (sym is) (omega arith)
rank_below (s ∷ ss) (suc j) h = let m = rank_below ss j h in omega (arith, m)

-- the same of ranks behind n truth incarnations
pub ranks_more_from : (n : ℕ) (ss ts : List Sort) (j a : ℕ) → slice_get (ranks_from n ss) j ≡ Some a → slice_get (ranks_from n (ss ++ ts)) j ≡ Some a
ranks_more_from n [] ts j a h = absurd (let bad : ⊥ = cc in bad)
ranks_more_from n (s ∷ ss) ts zero a h = h
ranks_more_from n (s ∷ ss) ts (suc j) a h = ranks_more_from (n + one_for s) ss ts j a h

pub ranks_more : (ss ts : List Sort) (j a : ℕ) → slice_get (ranks_from 0 ss) j ≡ Some a → slice_get (ranks_from 0 (ss ++ ts)) j ≡ Some a
ranks_more = ranks_more_from 0

ranked : (n : ℕ) (ss : List Sort) (j : ℕ) → slice_get ss j ≡ Some sort.Truth → slice_get (ranks_from n ss) j ≡ Some (n + rank ss j)
ranked n [] j h = absurd (let bad : ⊥ = cc in bad)
ranked n (s ∷ ss) zero h = ap Some (omega arith)
ranked n (s ∷ ss) (suc j) h = ranked (n + one_for s) ss j h ∙ ap Some (omega arith)

-- the rank of a truth incarnation
pub ranked_truth : (ss : List Sort) (j : ℕ) → slice_get ss j ≡ Some sort.Truth → slice_get (ranks_from 0 ss) j ≡ Some (rank ss j)
ranked_truth ss j h = ranked 0 ss j h ∙ ap Some (omega arith)

pub truth_at : (s : Option Sort) → is_truth (kind_at s) ≡ true → s ≡ Some sort.Truth
truth_at None h = absurd (let bad : ⊥ = cc in bad)
truth_at (Some sort.Truth) h = refl
truth_at (Some sort.Number) h = absurd (let bad : ⊥ = cc in bad)
truth_at (Some sort.Other) h = absurd (let bad : ⊥ = cc in bad)

same_some : (x y : ℕ) → Some x ≡ Some y → x ≡ y
same_some x y h = cc

pub truth_rank_below : (ss : List Sort) (j a : ℕ) → slice_get (ranks_from 0 ss) j ≡ Some a → is_truth (kind_at (slice_get ss j)) ≡ true → a < truths ss
truth_rank_below ss j a h t =
    let there = truth_at (slice_get ss j) t in
    subst (λ x. x < truths ss) (same_some (rank ss j) a (sym (ranked_truth ss j there) ∙ h)) (rank_below ss j there)

-- ---- the sides of a truth

truth_given : (b : Bool) → is_truth (truth_if b) ≡ true → b ≡ true
truth_given true h = refl
truth_given false h = absurd (let bad : ⊥ = cc in bad)

no_number : (a : Option Kind) → is_truth a ≡ true → is_number a ≡ true → ⊥
no_number None h k = let bad : ⊥ = cc in bad
no_number (Some kind.Truth) h k = let bad : ⊥ = cc in bad
no_number (Some kind.Constant) h k = let bad : ⊥ = cc in bad
no_number (Some kind.Number) h k = let bad : ⊥ = cc in bad

-- what is a number under a sign is no truth, and neither is a sum or a product
pub not_negative : (a : Option Kind) → is_truth (number_only a) ≡ true → ⊥
not_negative None h = let bad : ⊥ = cc in bad
not_negative (Some kind.Truth) h = let bad : ⊥ = cc in bad
not_negative (Some kind.Constant) h = let bad : ⊥ = cc in bad
not_negative (Some kind.Number) h = let bad : ⊥ = cc in bad

no_number_if : (c : Bool) → is_truth (if c then Some kind.Number else None) ≡ true → ⊥
no_number_if true h = let bad : ⊥ = cc in bad
no_number_if false h = let bad : ⊥ = cc in bad

no_sum : (a b : Option Kind) → is_truth (sum_kind a b) ≡ true → ⊥
no_sum None b h = let bad : ⊥ = cc in bad
no_sum (Some kind.Truth) b h = let bad : ⊥ = cc in bad
no_sum (Some kind.Constant) b h = not_negative b h
no_sum (Some kind.Number) b h = no_number_if (is_number b) h

no_product : (a b : Option Kind) → is_truth (product_kind a b) ≡ true → ⊥
no_product None b h = let bad : ⊥ = cc in bad
no_product (Some kind.Truth) b h = let bad : ⊥ = cc in bad
no_product (Some kind.Constant) b h = not_negative b h
no_product (Some kind.Number) b h = no_number_if (is_constant b) h

-- two numbers that are related, or two truths
abbrev pub Sides : Op → Option Kind → Option Kind → Type 0
Sides op a b = ((relates op && (is_number a && is_number b)) ≡ true) ⊎ ((is_truth a ≡ true) × (is_truth b ≡ true))

truth_pair : (op : Op) (a b : Option Kind) → is_truth (truth_if (is_truth a && is_truth b)) ≡ true → Sides op a b
truth_pair op a b h =
    let both = truth_given (is_truth a && is_truth b) h in
    inr (and_left (is_truth a) (is_truth b) both, and_right (is_truth a) (is_truth b) both)

number_pair : (op : Op) (a b : Option Kind) → relates op ≡ true → is_truth (truth_if (is_number a && is_number b)) ≡ true → Sides op a b
number_pair op a b r h = inl (and_both (relates op) (is_number a && is_number b) r (truth_given (is_number a && is_number b) h))

equal_pair : (op : Op) (a b : Option Kind) → relates op ≡ true → is_truth (equal_kind a b) ≡ true → Sides op a b
equal_pair op None b r h = number_pair op None b r h
equal_pair op (Some kind.Truth) b r h = truth_pair op (Some kind.Truth) b h
equal_pair op (Some kind.Number) b r h = number_pair op (Some kind.Number) b r h
equal_pair op (Some kind.Constant) b r h = number_pair op (Some kind.Constant) b r h

pub sides : (op : Op) (a b : Option Kind) → is_truth (kind_by op a b) ≡ true → Sides op a b
sides And a b h = truth_pair And a b h
sides Or a b h = truth_pair Or a b h
sides Implies a b h = truth_pair Implies a b h
sides Iff a b h = truth_pair Iff a b h
sides Equal a b h = equal_pair Equal a b refl h
sides Unequal a b h = equal_pair Unequal a b refl h
sides Less a b h = number_pair Less a b refl h
sides AtMost a b h = number_pair AtMost a b refl h
sides Greater a b h = number_pair Greater a b refl h
sides AtLeast a b h = number_pair AtLeast a b refl h
sides Plus a b h = absurd (no_sum a b h)
sides Minus a b h = absurd (no_sum a b h)
sides Times a b h = absurd (no_product a b h)

no_pair : (r : Bool) (a b : Option Kind) → is_truth a ≡ true → (r && (is_number a && is_number b)) ≡ false
no_pair false a b h = refl
no_pair true a b h = by_test (is_number a) refl
  where
    by_test : (c : Bool) → is_number a ≡ c → (is_number a && is_number b) ≡ false
    by_test true k = absurd (no_number a h k)
    by_test false k = ap (λ c. c && is_number b) k

number_up : (a b : Option Kind) → IsAtLeast a b → is_number a ≡ true → is_number b ≡ true
number_up None b f h = absurd (let bad : ⊥ = cc in bad)
number_up (Some k) b f h = ap is_number (f k refl) ∙ h

truth_up : (a b : Option Kind) → IsAtLeast a b → is_truth a ≡ true → is_truth b ≡ true
truth_up None b f h = absurd (let bad : ⊥ = cc in bad)
truth_up (Some k) b f h = ap is_truth (f k refl) ∙ h

-- what a truth denies is one
pub truth_denied : (a : Option Kind) → is_truth (truth_if (is_truth a)) ≡ true → is_truth a ≡ true
truth_denied a h = truth_given (is_truth a) h

module _ (ss ts : List Sort) where
  pub truth_more : (e : Ex) → is_truth (kind_ex ss e) ≡ true → is_truth (kind_ex (ss ++ ts) e) ≡ true
  truth_more e h = truth_up (kind_ex ss e) (kind_ex (ss ++ ts) e) (kind_more ss ts e) h

  number_more : (e : Ex) → is_number (kind_ex ss e) ≡ true → is_number (kind_ex (ss ++ ts) e) ≡ true
  number_more e h = number_up (kind_ex ss e) (kind_ex (ss ++ ts) e) (kind_more ss ts e) h

  -- numbers that are related are so over more sorts
  pub relates_more : (op : Op) (a b : Ex) → relates_numbers ss op a b ≡ true → relates_numbers (ss ++ ts) op a b ≡ true
  relates_more op a b h =
      let both = and_right (relates op) (is_number (kind_ex ss a) && is_number (kind_ex ss b)) h in
      and_both (relates op) _ (and_left (relates op) (is_number (kind_ex ss a) && is_number (kind_ex ss b)) h)
      (and_both (is_number (kind_ex (ss ++ ts) a)) _ (number_more a (and_left (is_number (kind_ex ss a)) (is_number (kind_ex ss b)) both)) (number_more b (and_right (is_number (kind_ex ss a)) (is_number (kind_ex ss b)) both)))

-- truths are no numbers that are related
pub unrelated : (ss : List Sort) (op : Op) (a b : Ex) → is_truth (kind_ex ss a) ≡ true → relates_numbers ss op a b ≡ false
unrelated ss op a b h = no_pair (relates op) (kind_ex ss a) (kind_ex ss b) h

-- ---- refusals and rows

module _ (ss ts : List Sort) where
  abbrev refused_by : List Sort → Op → Ex → Ex → Bool → Option OutOfRange
  refused_by l op a b c = if c then refusal (relation op a b) else first_of (first_refused l a) (first_refused l b)

  pub refused_more : (e : Ex) → is_truth (kind_ex ss e) ≡ true → first_refused (ss ++ ts) e ≡ first_refused ss e
  refused_more (Not e) h = refused_more e (truth_denied (kind_ex ss e) h)
  refused_more (Negative e) h = absurd (not_negative (kind_ex ss e) h)
  refused_more (Binary op a b) h = by_sides (refused_more a) (refused_more b) (sides op (kind_ex ss a) (kind_ex ss b) h)
    where
      by_sides : (is_truth (kind_ex ss a) ≡ true → first_refused (ss ++ ts) a ≡ first_refused ss a) → (is_truth (kind_ex ss b) ≡ true → first_refused (ss ++ ts) b ≡ first_refused ss b) → Sides op (kind_ex ss a) (kind_ex ss b) → first_refused (ss ++ ts) (Binary op a b) ≡ first_refused ss (Binary op a b)
      by_sides f g (inl r) = ap (refused_by (ss ++ ts) op a b) (relates_more ss ts op a b r) ∙ sym (ap (refused_by ss op a b) r)
      by_sides f g (inr t) =
          ap (refused_by (ss ++ ts) op a b) (unrelated (ss ++ ts) op a b (truth_more ss ts a t.0))
          ∙ ap (λ x. first_of x (first_refused (ss ++ ts) b)) (f t.0)
          ∙ ap (first_of (first_refused ss a)) (g t.1)
          ∙ sym (ap (refused_by ss op a b) (unrelated ss op a b t.0))
  refused_more (Number z) h = refl
  refused_more _ h = refl

  abbrev rows_by : List Sort → Op → Ex → Ex → List AtomOf → Bool → List AtomOf
  rows_by l op a b rows c = if c then with_relation (relation op a b) rows else with_ex l b (with_ex l a rows)

  pub rows_more : (e : Ex) (rows : List AtomOf) → is_truth (kind_ex ss e) ≡ true → with_ex (ss ++ ts) e rows ≡ with_ex ss e rows
  rows_more (Not e) rows h = rows_more e rows (truth_denied (kind_ex ss e) h)
  rows_more (Negative e) rows h = absurd (not_negative (kind_ex ss e) h)
  rows_more (Binary op a b) rows h = by_sides (λ l. rows_more a l) (λ l. rows_more b l) (sides op (kind_ex ss a) (kind_ex ss b) h)
    where
      by_sides : ((l : List AtomOf) → is_truth (kind_ex ss a) ≡ true → with_ex (ss ++ ts) a l ≡ with_ex ss a l) → ((l : List AtomOf) → is_truth (kind_ex ss b) ≡ true → with_ex (ss ++ ts) b l ≡ with_ex ss b l) → Sides op (kind_ex ss a) (kind_ex ss b) → with_ex (ss ++ ts) (Binary op a b) rows ≡ with_ex ss (Binary op a b) rows
      by_sides f g (inl r) = ap (rows_by (ss ++ ts) op a b rows) (relates_more ss ts op a b r) ∙ sym (ap (rows_by ss op a b rows) r)
      by_sides f g (inr t) =
          ap (rows_by (ss ++ ts) op a b rows) (unrelated (ss ++ ts) op a b (truth_more ss ts a t.0))
          ∙ ap (with_ex (ss ++ ts) b) (f rows t.0)
          ∙ g (with_ex ss a rows) t.1
          ∙ sym (ap (rows_by ss op a b rows) (unrelated ss op a b t.0))
  rows_more (Number z) rows h = refl
  rows_more _ rows h = refl

  module _ (k : ℕ) where
    pub cmds_more : (ks : List PassiveCmd) (rows : List AtomOf) → cmds_sorted ss k ks ≡ true → with_cmds (ss ++ ts) ks rows ≡ with_cmds ss ks rows
    cmds_more [] rows h = refl
    cmds_more (Claims s b e ∷ ks) rows h =
        let more = and_right (fits_candidate k b) (is_truth (kind_ex ss e) && cmds_sorted ss k ks) h in
        ap (with_cmds (ss ++ ts) ks) (rows_more e rows (and_left (is_truth (kind_ex ss e)) (cmds_sorted ss k ks) more))
        ∙ cmds_more ks (with_ex ss e rows) (and_right (is_truth (kind_ex ss e)) (cmds_sorted ss k ks) more)
    cmds_more (Supposes b e ∷ ks) rows h =
        let more = and_right (fits_candidate k b) (is_truth (kind_ex ss e) && cmds_sorted ss k ks) h in
        ap (with_cmds (ss ++ ts) ks) (rows_more e rows (and_left (is_truth (kind_ex ss e)) (cmds_sorted ss k ks) more))
        ∙ cmds_more ks (with_ex ss e rows) (and_right (is_truth (kind_ex ss e)) (cmds_sorted ss k ks) more)

    pub edges_more : (es : List Edge) (rows : List AtomOf) → edges_sorted ss k es ≡ true → with_edges (ss ++ ts) es rows ≡ with_edges ss es rows
    edges_more [] rows h = refl
    edges_more (e ∷ es) rows h =
        ap (with_edges (ss ++ ts) es) (cmds_more e.cmds rows (and_left (cmds_sorted ss k e.cmds) (edges_sorted ss k es) h))
        ∙ edges_more es (with_cmds ss e.cmds rows) (and_right (cmds_sorted ss k e.cmds) (edges_sorted ss k es) h)

    pub blocks_more : (bs : List PassiveBlock) (rows : List AtomOf) → blocks_sorted ss k bs ≡ true → with_blocks (ss ++ ts) bs rows ≡ with_blocks ss bs rows
    blocks_more [] rows h = refl
    blocks_more (b ∷ bs) rows h =
        let more = and_right (cmds_sorted ss k b.cmds) (edges_sorted ss k b.next && blocks_sorted ss k bs) h in
        ap (λ l. with_blocks (ss ++ ts) bs (with_edges (ss ++ ts) b.next l)) (cmds_more b.cmds rows (and_left (cmds_sorted ss k b.cmds) (edges_sorted ss k b.next && blocks_sorted ss k bs) h))
        ∙ ap (with_blocks (ss ++ ts) bs) (edges_more b.next (with_cmds ss b.cmds rows) (and_left (edges_sorted ss k b.next) (blocks_sorted ss k bs) more))
        ∙ blocks_more bs (with_block ss b rows) (and_right (edges_sorted ss k b.next) (blocks_sorted ss k bs) more)
