-- What counts for a place encodes what the whole does.
use Rattle.std.proofs.Common.{◌≡◌, ℕ, zero, suc, ◌+◌, ◌<◌, ℤ, Bool, true, List, [], ◌∷◌, length, Some, sym, ap, ◌∙◌, subst, replicate, arith}
use Rattle.std.specs.Prelude.{nat_lt, slice_get}
use Rattle.bg_ast.specs.Values.{Val, Truth}
use Rattle.bg_ast.specs.Execution.{Spot}
use Rattle.bg_sense.specs.Eval.{Scope}
use Rattle.bg_passive.specs.Passive.{PassiveBlock}
use Rattle.bg_formula.specs.Atoms.{AtomOf}
use Rattle.bg_formula.specs.Formulas.{rows_below}
use Rattle.bg_formula.specs.Meaning.{AtomsAgree}
use Rattle.bg_formed.specs.Agree.{AreRows, RowsAgree}
use Rattle.bg_formed.specs.Formed.{FormBlock, blocks_below}
use Rattle.bg_formed.specs.Said.{SaidBlocks}
use Rattle.bg_forms.specs.Worth.{bools_at}
use Rattle.bg_slice.specs.Slices.{sliced, sliced_rows, guards_in}
use Rattle.bg_linear.specs.declared.scalar.Sort.{Sort}
use Rattle.bg_linear.specs.declared.scalar.Sort.TheVariants as sort
use Rattle.bg_linear.specs.Sorts.{HoldScalars}
use Rattle.bg_atoms.specs.Ranks.{rank, truths}
use Rattle.bg_faithful.specs.Encoded.{Encoding, Encodes}

-- ---- what the laws of slices say

abbrev pub BelowLaw : Type 0
BelowLaw =
    (target : Spot) (atoms : ℕ) (these : ℕ → Bool) (blocks : List FormBlock) → blocks_below atoms these blocks ≡ true →
    blocks_below atoms these (sliced target blocks) ≡ true

abbrev pub NamedLaw : Type 0
NamedLaw =
    (atoms candidates : ℕ) (blocks : List FormBlock) → blocks_below atoms (λ b. nat_lt b candidates) blocks ≡ true →
    blocks_below atoms (bools_at (guards_in candidates blocks)) blocks ≡ true

abbrev pub GuardsLaw : Type 0
GuardsLaw = (candidates : ℕ) (blocks : List FormBlock) → length (guards_in candidates blocks) ≡ candidates

abbrev pub AreLaw : Type 0
AreLaw = (base : ℕ) (blocks : List FormBlock) (rows : List AtomOf) → AreRows rows → AreRows (sliced_rows base blocks rows)

abbrev pub AgreeLaw : Type 0
AgreeLaw = (base : ℕ) (blocks : List FormBlock) (rows : List AtomOf) → AtomsAgree rows → AtomsAgree (sliced_rows base blocks rows)

abbrev pub InsideLaw : Type 0
InsideLaw =
    (base terms : ℕ) (blocks : List FormBlock) (rows : List AtomOf) → rows_below terms rows ≡ true →
    rows_below terms (sliced_rows base blocks rows) ≡ true

abbrev pub CountLaw : Type 0
CountLaw = (base : ℕ) (blocks : List FormBlock) (rows : List AtomOf) → length (sliced_rows base blocks rows) ≡ length rows

abbrev pub SayLaw : Type 0
SayLaw =
    (numbers : ℕ → ℤ) (truth : ℕ → Bool) (base : ℕ) (rows : List AtomOf) (target : Spot) (blocks : List FormBlock) → AreRows rows →
    RowsAgree numbers truth base (sliced_rows base (sliced target blocks) rows) →
    (whole : ℕ → Bool) × ((((j : ℕ) → j < base → whole j ≡ truth j) × RowsAgree numbers whole base rows) ×
    ((values : Scope) (passive : List PassiveBlock) → SaidBlocks whole values passive blocks → SaidBlocks truth values passive (sliced target blocks)))

-- ---- all candidates

before : (n b : ℕ) → bools_at (replicate n true) b ≡ nat_lt b n
before zero b = grind arith
before (suc n) zero = grind arith
before (suc n) (suc b) = before n b ∙ grind arith

-- the first n candidates
pub each_before : (n : ℕ) → bools_at (replicate n true) ≡ (λ b. nat_lt b n)
each_before n = λ i b. before n b i

-- ---- truth incarnations stand in front of the rows

rank_below : (ss : List Sort) (j : ℕ) → slice_get ss j ≡ Some sort.Truth → rank ss j < truths ss
rank_below [] j e = absurd (let bad : ⊥ = cc in bad)
rank_below (sort.Truth ∷ ss) zero e = omega arith
rank_below (sort.Truth ∷ ss) (suc j) e = let h = rank_below ss j e in omega (arith, h)
rank_below (sort.Number ∷ ss) zero e = absurd (let bad : ⊥ = cc in bad)
rank_below (sort.Number ∷ ss) (suc j) e = let h = rank_below ss j e in omega (arith, h)
rank_below (sort.Other ∷ ss) zero e = absurd (let bad : ⊥ = cc in bad)
rank_below (sort.Other ∷ ss) (suc j) e = let h = rank_below ss j e in omega (arith, h)

hold_same : (ss : List Sort) (numbers : ℕ → ℤ) (t u : ℕ → Bool) (frame : List Val) → HoldScalars ss numbers t frame → ((j : ℕ) → slice_get ss j ≡ Some sort.Truth → t j ≡ u j) → HoldScalars ss numbers u frame
hold_same ss numbers t u frame h f = record { number = h.number; truth = λ j e. h.truth j e ∙ ap Truth (f j e) }

-- ---- what is left encodes the same passive blocks

module _ (below : BelowLaw) (names : NamedLaw) (guards : GuardsLaw) (are : AreLaw) (agree : AgreeLaw) (inside : InsideLaw) (count : CountLaw) (say : SayLaw) (sorts : List Sort) (m : ℕ) (ps : List PassiveBlock) (a : Encoding) (is : Encodes sorts m ps a) (all : a.named ≡ replicate m true) (t : Spot) where
  abbrev left : List FormBlock
  left = sliced t a.blocks

  low : (j : ℕ) → slice_get sorts j ≡ Some sort.Truth → rank sorts j < a.first
  low j e = let h = rank_below sorts j e in let g = is.first in omega (arith, h, g)

  says : (numbers : ℕ → ℤ) (truth : ℕ → Bool) (c : Scope) → RowsAgree numbers truth a.first (sliced_rows a.first left a.rows) → HoldScalars sorts numbers (λ j. truth (rank sorts j)) c.frame → SaidBlocks truth c ps left
  says numbers truth c r held =
      let x = say numbers truth a.first a.rows t a.blocks is.rows r in
      let w = x.0 in
      let same = hold_same sorts numbers (λ j. truth (rank sorts j)) (λ j. w (rank sorts j)) c.frame held (λ j e. sym (x.1.0.0 (rank sorts j) (low j e))) in
      x.1.1 c ps (is.said numbers w c x.1.0.1 same)

  -- any candidate may guard a command of the whole
  any : blocks_below (a.first + length a.rows) (λ b. nat_lt b m) a.blocks ≡ true
  any =
      subst (λ (these : ℕ → Bool). blocks_below (a.first + length a.rows) these a.blocks ≡ true) (ap bools_at all ∙ each_before m) is.below

  under : blocks_below (a.first + length (sliced_rows a.first left a.rows)) (bools_at (guards_in m left)) left ≡ true
  under =
      ap (λ k. blocks_below (a.first + k) (bools_at (guards_in m left)) left) (count a.first left a.rows)
      ∙ names (a.first + length a.rows) m left (below t (a.first + length a.rows) (λ b. nat_lt b m) a.blocks any)

  whole : Encodes sorts m ps (record { first = a.first; terms = a.terms; rows = sliced_rows a.first left a.rows; blocks = left; named = guards_in m left })
  whole =
      record {
        first = is.first;
        terms = is.terms;
        said = says;
        below = under;
        count = guards m left;
        rows = are a.first left a.rows is.rows;
        denials = agree a.first left a.rows is.denials;
        inside = inside a.first a.terms left a.rows is.inside;
      }

  pub slice_encodes : (rows : List AtomOf) (blocks : List FormBlock) (named : List Bool) → blocks ≡ left → rows ≡ sliced_rows a.first left a.rows → named ≡ guards_in m left → Encodes sorts m ps (record { first = a.first; terms = a.terms; rows = rows; blocks = blocks; named = named })
  slice_encodes rows blocks named eb er en =
      subst (λ bs. Encodes sorts m ps (record { first = a.first; terms = a.terms; rows = rows; blocks = bs; named = named })) (sym eb)
      (subst (λ rs. Encodes sorts m ps (record { first = a.first; terms = a.terms; rows = rs; blocks = left; named = named })) (sym er)
      (subst (λ ns. Encodes sorts m ps (record { first = a.first; terms = a.terms; rows = sliced_rows a.first left a.rows; blocks = left; named = ns })) (sym en) whole))
