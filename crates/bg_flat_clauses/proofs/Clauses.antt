-- The clauses of an encoding of flat blocks have a valuation exactly where the equations deny the entry under scalars.
use Rattle.std.proofs.Common.{◌≡◌, ℕ, ℤ, ◌+◌, ◌<◌, Bool, true, false, List, length, Some, None, Ok, refl, sym, ap, ◌∙◌, arith}
use Rattle.std.specs.Prelude.{slice_get}
use Rattle.bg_ast.specs.Values.{Val, Truth}
use Rattle.bg_ast.specs.Execution.{Spot}
use Rattle.bg_sense.specs.Eval.{Scope}
use Rattle.bg_passive.specs.Passive.{PassiveBlock}
use Rattle.bg_passive.specs.Equations.{is_well, equations}
use Rattle.bg_terms.specs.Terms.{over}
use Rattle.bg_formula.specs.Atoms.{AtomOf}
use Rattle.bg_formula.specs.Formulas.{Formula}
use Rattle.bg_formula.specs.Meaning.{Valuation, clauses_true}
use Rattle.bg_formed.specs.Agree.{AreRows, RowsAgree}
use Rattle.bg_formed.specs.Formed.{FormBlock, blocks_below}
use Rattle.bg_formed.specs.Wells.{form_equations}
use Rattle.bg_formed.specs.Said.{SaidBlocks}
use Rattle.bg_formed.specs.Used.{refused}
use Rattle.bg_forms.specs.Worth.{bools_at}
use Rattle.bg_clause.specs.Tables.{there_in}
use Rattle.bg_clause.specs.Whole.{clauses_of}
use Rattle.bg_clause.specs.Valued.{worth_in}
use Rattle.bg_linear.specs.declared.scalar.Sort.{Sort}
use Rattle.bg_linear.specs.declared.scalar.Sort.TheVariants as sort
use Rattle.bg_linear.specs.Sorts.{scalar_values, HoldScalars}
use Rattle.bg_atoms.specs.Ranks.{rank}
use Rattle.bg_faithful.specs.Encoded.{Encoding, Encodes}
use Rattle.bg_faithful.proofs.Packed.{packed, packed_at, packed_past, rank_below, row_worths, rows_agree, values_same}

-- ---- what the laws of the crates below say

abbrev AlikeLaw : Type 0
AlikeLaw =
    (set : ℕ → Bool) (target : Spot) (truth : ℕ → Bool) (values : Scope) (blocks : List PassiveBlock) (made : List FormBlock) →
    SaidBlocks truth values blocks made → refused target made ≡ None →
    is_well (slice_get (form_equations set target truth made) 0) ≡ is_well (slice_get (equations set target values blocks) 0)

abbrev MetLaw : Type 0
MetLaw =
    (first terms : ℕ) (named : List Bool) (rows : List AtomOf) (target : Spot) (blocks : List FormBlock) (f : Formula) → clauses_of first named terms rows target blocks ≡ Ok f →
    blocks_below (first + length rows) (bools_at named) blocks ≡ true →
    (numbers : ℕ → ℤ) (truth set : ℕ → Bool) → RowsAgree numbers truth first rows →
    is_well (slice_get (form_equations set target truth blocks) 0) ≡ false →
    (v : Valuation) × ((v.numbers ≡ numbers) × (((j : ℕ) → j < first → v.truths j ≡ truth j) ×
    (((b : ℕ) → bools_at named b ≡ true → there_in f.candidates v.truths b ≡ set b) × (clauses_true v f.atoms f.clauses ≡ true))))

abbrev DeniedLaw : Type 0
DeniedLaw =
    (first terms : ℕ) (named : List Bool) (rows : List AtomOf) (target : Spot) (blocks : List FormBlock) (f : Formula) → clauses_of first named terms rows target blocks ≡ Ok f →
    blocks_below (first + length rows) (bools_at named) blocks ≡ true →
    (v : Valuation) → clauses_true v f.atoms f.clauses ≡ true → is_well (slice_get (form_equations (there_in f.candidates v.truths) target (worth_in v f.atoms) blocks) 0) ≡ false

abbrev InsideLaw : Type 0
InsideLaw =
    (first terms : ℕ) (named : List Bool) (rows : List AtomOf) (target : Spot) (blocks : List FormBlock) (f : Formula) → clauses_of first named terms rows target blocks ≡ Ok f → refused target blocks ≡ None

abbrev TruthsLaw : Type 0
TruthsLaw =
    (first terms : ℕ) (named : List Bool) (rows : List AtomOf) (target : Spot) (blocks : List FormBlock) (f : Formula) → clauses_of first named terms rows target blocks ≡ Ok f →
    blocks_below (first + length rows) (bools_at named) blocks ≡ true →
    (v : Valuation) (j : ℕ) → j < first → worth_in v f.atoms j ≡ v.truths j

abbrev RowsLaw : Type 0
RowsLaw =
    (first terms : ℕ) (named : List Bool) (rows : List AtomOf) (target : Spot) (blocks : List FormBlock) (f : Formula) → clauses_of first named terms rows target blocks ≡ Ok f →
    blocks_below (first + length rows) (bools_at named) blocks ≡ true →
    (v : Valuation) → AreRows rows → RowsAgree v.numbers (worth_in v f.atoms) first rows

abbrev HoldLaw : Type 0
HoldLaw =
    (sorts : List Sort) (numbers : ℕ → ℤ) (bits : ℕ → Bool) → HoldScalars sorts numbers bits (scalar_values numbers bits sorts)

-- what holds truth values holds those that are the same at truth incarnations
hold_same : (ss : List Sort) (numbers : ℕ → ℤ) (t u : ℕ → Bool) (frame : List Val) → HoldScalars ss numbers t frame → ((j : ℕ) → slice_get ss j ≡ Some sort.Truth → t j ≡ u j) → HoldScalars ss numbers u frame
hold_same ss numbers t u frame h f = record { number = h.number; truth = λ j e. h.truth j e ∙ ap Truth (f j e) }

module _ (alike : AlikeLaw) (inside : InsideLaw) (sorts : List Sort) (m : ℕ) (bs : List PassiveBlock) (a : Encoding) (is : Encodes sorts m bs a) (t : Spot) (f : Formula) (made : clauses_of a.first a.named a.terms a.rows t a.blocks ≡ Ok f) where
  same : (set w : ℕ → Bool) (numbers : ℕ → ℤ) (c : Scope) → RowsAgree numbers w a.first a.rows → HoldScalars sorts numbers (λ j. w (rank sorts j)) c.frame → is_well (slice_get (form_equations set t w a.blocks) 0) ≡ is_well (slice_get (equations set t c bs) 0)
  same set w numbers c r h =
      alike set t w c bs a.blocks (is.said numbers w c r h) (inside a.first a.terms a.named a.rows t a.blocks f made)

  low : (j : ℕ) → slice_get sorts j ≡ Some sort.Truth → rank sorts j < a.first
  low j e = let h = rank_below sorts j e in let g = is.first in omega (arith, h, g)

  abbrev pub Valued : List Val → (ℕ → Bool) → Type 0
  Valued values set =
      (v : Valuation) × ((values ≡ scalar_values v.numbers (λ j. v.truths (rank sorts j)) sorts)
      × (((b : ℕ) → bools_at a.named b ≡ true → there_in f.candidates v.truths b ≡ set b)
      × (clauses_true v f.atoms f.clauses ≡ true)))

  module _ (met : MetLaw) (numbers : ℕ → ℤ) (bits set : ℕ → Bool) where
    -- truth values of atoms: truth incarnations, rows
    abbrev w : ℕ → Bool
    w = packed sorts bits (row_worths numbers a.rows)

    of_truths : (j : ℕ) → slice_get sorts j ≡ Some sort.Truth → bits j ≡ w (rank sorts j)
    of_truths j e = sym (packed_at sorts bits (row_worths numbers a.rows) j (rank sorts j) e refl)

    of_rows : RowsAgree numbers w a.first a.rows
    of_rows =
        rows_agree numbers w a.first a.rows is.rows (λ j x e. let g = is.first in packed_past sorts bits (row_worths numbers a.rows) j x (omega (arith, e, g)))

    pub valued : (values : List Val) → values ≡ scalar_values numbers bits sorts → HoldScalars sorts numbers bits values → is_well (slice_get (equations set t (over values) bs) 0) ≡ false → Valued values set
    valued values read held q =
        let held_here = hold_same sorts numbers bits (λ j. w (rank sorts j)) values held of_truths in
        let x = met a.first a.terms a.named a.rows t a.blocks f made is.below numbers w set of_rows (same set w numbers (over values) of_rows held_here ∙ q) in
        let v = x.0 in
        (v, (read ∙ (ap (λ z. scalar_values z bits sorts) (sym x.1.0) ∙ values_same sorts v.numbers bits (λ j. v.truths (rank sorts j)) (λ j e. of_truths j e ∙ sym (x.1.1.0 (rank sorts j) (low j e)))), (x.1.1.1.0, x.1.1.1.1)))

  pub denies : DeniedLaw → TruthsLaw → RowsLaw → HoldLaw → (v : Valuation) → clauses_true v f.atoms f.clauses ≡ true → is_well (slice_get (equations (there_in f.candidates v.truths) t (over (scalar_values v.numbers (λ j. v.truths (rank sorts j)) sorts)) bs) 0) ≡ false
  denies denied truths_law rows_law hold_law v h =
      let w = worth_in v f.atoms in
      let values = scalar_values v.numbers (λ j. v.truths (rank sorts j)) sorts in
      let r = rows_law a.first a.terms a.named a.rows t a.blocks f made is.below v is.rows in
      let held = hold_same sorts v.numbers (λ j. v.truths (rank sorts j)) (λ j. w (rank sorts j)) values (hold_law sorts v.numbers (λ j. v.truths (rank sorts j))) (λ j e. sym (truths_law a.first a.terms a.named a.rows t a.blocks f made is.below v (rank sorts j) (low j e))) in
      sym (same (there_in f.candidates v.truths) w v.numbers (over values) r held) ∙ denied a.first a.terms a.named a.rows t a.blocks f made is.below v h
