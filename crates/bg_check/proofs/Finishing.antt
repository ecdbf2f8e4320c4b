-- What comes of terms with numbers and truth values, whatever these are.
use Rattle.std.proofs.Common.{◌≡◌, ℕ, ◌+◌, ℤ, pos, Bool, true, List, map, ap, ◌∙◌, subst, arith}
use Rattle.std.specs.Prelude.{slice_get, unwrap_or}
use Rattle.bg_ast.specs.Values.{Val, Ty}
use Rattle.bg_ast.specs.Resolved as r
use Rattle.bg_ast.specs.Meaning.{meaning_of}
use Rattle.bg_ast.specs.Syntax as s
use Rattle.bg_sense.specs.Typed.{IsTyped}
use Rattle.bg_kinds.specs.Views.{ref_in}
use Rattle.bg_fits.specs.Valued.{is_over_values}
use Rattle.bg_block_types.specs.Typed.{incarnations_in}
use Rattle.bg_forms.specs.Worth.{bools_at}
use Rattle.bg_linear.specs.declared.scalar.Sort.{Sort}
use Rattle.bg_linear.specs.Sorts.{scalar_values}
use Rattle.bg_atoms.specs.Ranks.{rank}
use Rattle.bg_terms.specs.Terms.{Term}
use Rattle.bg_numbered.specs.Lines.{Line}
use Rattle.bg_term_table.specs.Views as table
use Rattle.bg_term_table.specs.Views.{GiveThese, incs_of}
use Rattle.bg_term_table.specs.declared.around.Around.{Around}
use Rattle.bg_term_table.specs.declared.table.Term as code
use Rattle.bg_scalar.specs.Values.{val_of}
use Rattle.bg_scalar.specs.declared.scalar.Scalar.{Scalar}
use Rattle.bg_finish.specs.Finished.{IsScalarLeaf, IsFinish}
use Rattle.bg_finish.specs.declared.kind.Finish.{Finish}
use Rattle.bg_termed.specs.Lined.{lined_terms, lined_sorts}
use Rattle.bg_task.specs.Lined.{HasLined}
use Rattle.bg_task.specs.Prepared.{IsPrepared}
use Rattle.bg_task.specs.declared.lining.Lined.{Lined}
use Rattle.bg_task.specs.declared.prepared.Prepared.{Prepared}
use Rattle.bg_task.proofs.LawTypes.{TabledLaw}
use Rattle.bg_task.proofs.Prepares.{impl, proc, impl_at, proc_at}
use Rattle.bg_check.specs.Leaves.{scalars_from}
use Rattle.bg_check.proofs.LawTypes.{ResultLaw, IncarnationLaw, TermLaw, LinedLaw, StandInLaw}
use Rattle.bg_check.proofs.Leaves.{scalars_are}

-- a number without one is 0
abbrev pub numbers_by : List ℤ → ℕ → ℤ
numbers_by zs j = unwrap_or (slice_get zs j) (pos 0)

-- truth values in their order are those of what has their sort
abbrev pub truths_by : List Bool → List Sort → ℕ → Bool
truths_by ts ss j = bools_at ts (rank ss j)

pub scalars_of_these : (ts : List Bool) (zs : List ℤ) (ss : List Sort) → map val_of (scalars_from ts zs 0 0 ss) ≡ scalar_values (numbers_by zs) (truths_by ts ss) ss
scalars_of_these ts zs ss =
    scalars_are ts zs (numbers_by zs) (truths_by ts ss) 0 0 ss (λ i l. ap (numbers_by zs) (zero_plus i)) (λ i l. ap (bools_at ts) (zero_plus (rank ss i)))
  where
    zero_plus : (i : ℕ) → 0 + i ≡ i
    zero_plus i = omega arith

module _ (p : r.Program) (n : ℕ) (w : Prepared) (h : IsPrepared p n w) (ls : List Line) (numbers : ℕ → ℤ) (truths : ℕ → Bool) where
  abbrev P : s.Prog
  P = meaning_of p

  abbrev M : s.Impl
  M = impl p n w h

  abbrev Q : s.Proc
  Q = proc p n w h

  -- what they stand for
  abbrev V : List Val
  V = scalar_values numbers truths (lined_sorts P n M Q ls)

  -- typed terms with scalars of their types
  number_leaf : TabledLaw → ResultLaw → IncarnationLaw → TermLaw → LinedLaw → StandInLaw → IsTyped P → is_over_values P ≡ true → IsScalarLeaf P.functions (incarnations_in P n M Q) (lined_terms P n M Q ls) V
  number_leaf tabled results incarnations terms lined stand_ins t o =
      let im = impl_at p n w h in
      let pr = proc_at p n w h in
      let flats = lined P n M Q (terms P n M Q t o im pr) ls in
      record {
        bodiless = (tabled P t o).bodies;
        gives = results P t o;
        incarnations = incarnations P n M Q t o im pr;
        terms = flats.terms;
        indexed = flats.indexed;
        scalars = stand_ins P n M Q ls numbers truths;
      }

  -- what is said of such terms with these scalars
  abbrev Comes : Finish → List Ty → List Term → List Val → Type 0
  Comes made is us zs = IsScalarLeaf P.functions is us zs → IsFinish P.functions is us zs made

  -- what comes of them
  pub finish_at : TabledLaw → ResultLaw → IncarnationLaw → TermLaw → LinedLaw → StandInLaw → IsTyped P → is_over_values P ≡ true → (x : Lined) → HasLined p n h.implementation h.procedure ls x → (a : Around) → a.incarnations.now ≡ x.incarnations.now → a.results.now ≡ x.results.items → (ts : List code.Term) → ts ≡ x.terms.items → (vs : List Scalar) → map val_of vs ≡ V → (made : Finish) → ((fs : List s.Fun) → GiveThese fs a → IsScalarLeaf fs (incs_of a) (table.terms_in fs ts) (map val_of vs) → IsFinish fs (incs_of a) (table.terms_in fs ts) (map val_of vs) made) → IsFinish P.functions (incarnations_in P n M Q) (lined_terms P n M Q ls) V made
  finish_at tabled results incarnations terms lined stand_ins t o x has a ea er ts et vs ev made told =
      subst (Comes made (incarnations_in P n M Q) (lined_terms P n M Q ls)) ev
      (subst (λ us. Comes made (incarnations_in P n M Q) us (map val_of vs)) (ap (table.terms_in P.functions) et ∙ has.terms)
      (subst (λ is. Comes made is (table.terms_in P.functions ts) (map val_of vs)) (ap (map ref_in) ea ∙ has.incarnations) (told P.functions (ap (map ref_in) er ∙ has.results))))
      (number_leaf tabled results incarnations terms lined stand_ins t o)
