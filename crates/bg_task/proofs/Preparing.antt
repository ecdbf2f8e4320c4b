-- Terms, flat blocks and sorts of an implementation that is prepared, and its blocks of forms behind lines.
use Rattle.std.proofs.Common.{◌≡◌, ℕ, ◌+◌, true, List, [], ◌++◌, ℤ, map, take, Some, sym, ap, ◌∙◌, subst}
use Rattle.std.specs.Prelude.{slice_get}
use Rattle.std.proofs.lemmas.List.{take-map}
use Rattle.std.proofs.Math.Seq.{take-append_seam}
use Rattle.bg_ast.specs.Values.{Ty}
use Rattle.bg_ast.specs.Syntax as s
use Rattle.bg_ast.specs.Resolved as r
use Rattle.bg_ast.specs.Meaning.{meaning_of, named_of, fun_of}
use Rattle.bg_sense.specs.Typed.{IsTyped}
use Rattle.bg_sense.specs.Variables.{procedure_of}
use Rattle.bg_fits.specs.Valued.{is_over_values}
use Rattle.bg_passive.specs.Passive.{PassiveBlock}
use Rattle.bg_block_types.specs.Typed.{incarnations_in, passives_in}
use Rattle.bg_incarnate.specs.Views.{passive_block_of}
use Rattle.bg_formed.specs.Views.{blocks_of}
use Rattle.bg_linear.specs.declared.scalar.Sort.{Sort}
use Rattle.bg_atoms.specs.Listed.{rows_of}
use Rattle.bg_atoms.specs.Encoded.{blocks_over}
use Rattle.bg_atoms.specs.Made.{rows_in}
use Rattle.bg_atoms.specs.Sorted.{blocks_sorted}
use Rattle.bg_atoms.specs.declared.product.Atoms.{Atoms}
use Rattle.bg_faithful.specs.Encoded.{Encodes}
use Rattle.bg_terms.specs.Terms.{Term}
use Rattle.bg_terms.specs.Typed.{type_of, types_with}
use Rattle.bg_numbered.specs.Lines.{Line, after_lines, instances_in}
use Rattle.bg_flat.specs.Blocks.{in_front}
use Rattle.bg_flat.specs.Fronts.{stated}
use Rattle.bg_flatten.specs.Numbered.{terms_of, flat_of}
use Rattle.bg_flatten.specs.Plain.{are_mapless, PlainBlocks}
use Rattle.bg_kinds.specs.declared.kinds.ValueType.{ValueType}
use Rattle.bg_kinds.specs.Views.{ref_in}
use Rattle.bg_term_table.specs.declared.table.Term as kept
use Rattle.bg_term_table.specs.Views as table
use Rattle.bg_termed.specs.Termed.{IsTabled, count_in, terms_in, flats_in, types_in, sorts_in}
use Rattle.bg_termed.specs.Lined.{lined_behind, lined_sorts, lined_terms, lined_types}
use Rattle.bg_task.specs.declared.prepared.Prepared.{Prepared}
use Rattle.bg_task.specs.Prepared.{IsBare, IsPrepared, encoding_over}
use Rattle.bg_task.specs.Cuts.{IsOwn}
use Rattle.bg_task.specs.Sorts.{flat_sort}
use Rattle.bg_task.specs.Targets.{targets_of, targets_in}
use Rattle.bg_task.proofs.LawTypes.{SortLaw}
use Rattle.bg_task.proofs.Sorting.{sorts_flat}
use Rattle.bg_task.proofs.Prepares.{impl, proc, impl_at, proc_at, own_here, sorted_own, none_in_front}

-- ---- what the laws of flat blocks say

abbrev pub PlainLaw : Type 0
PlainLaw =
    (p : s.Prog) (k : ℕ) (m : s.Impl) (q : s.Proc) → IsTabled p → p.functions ≡ [] → slice_get p.implementations k ≡ Some m →
    procedure_of p m.procedure ≡ Some q → are_mapless (incarnations_in p k m q) ≡ true → PlainBlocks (passives_in p k m q)

-- ---- what is made once

module _ (p : s.Prog) (n : ℕ) (m : s.Impl) (q : s.Proc) (incs : List Ty) (ps : List PassiveBlock) (these : incs ≡ incarnations_in p n m q) (passives : ps ≡ passives_in p n m q) where
  pub terms_are : (ts : List Term) → ts ≡ terms_of p.functions incs ps → ts ≡ terms_in p n m q
  terms_are ts e =
      e ∙ (ap (λ k. terms_of p.functions k ps) these ∙ ap (terms_of p.functions (incarnations_in p n m q)) passives)

  pub flats_are : (fs : List PassiveBlock) → fs ≡ flat_of p.functions incs ps → fs ≡ flats_in p n m q
  flats_are fs e =
      e ∙ (ap (λ k. flat_of p.functions k ps) these ∙ ap (flat_of p.functions (incarnations_in p n m q)) passives)

pub plain_here : (p : s.Prog) (n : ℕ) (m : s.Impl) (q : s.Proc) (ps : List PassiveBlock) → ps ≡ passives_in p n m q → PlainLaw → IsTabled p → slice_get p.implementations n ≡ Some m → procedure_of p m.procedure ≡ Some q → are_mapless (incarnations_in p n m q) ≡ true → p.functions ≡ [] → PlainBlocks ps
plain_here p n m q ps passives law t im pr mapless none = subst PlainBlocks (sym passives) (law p n m q t none im pr mapless)

pub no_functions : (p : r.Program) → p.functions ≡ [] → (meaning_of p).functions ≡ []
no_functions p e = ap (map (fun_of (named_of p.types))) e

module _ (p : s.Prog) (n : ℕ) (m : s.Impl) (q : s.Proc) where
  -- the types of incarnations and terms
  pub types_all : (incs : List Ty) (ts : List Term) (tys : List Ty) → incs ≡ incarnations_in p n m q → ts ≡ terms_in p n m q → tys ≡ incs ++ map type_of ts → tys ≡ types_in p n m q
  types_all incs ts tys a b e =
      e ∙ (ap (λ is. is ++ map type_of ts) a ∙ ap (λ us. incarnations_in p n m q ++ map type_of us) b)

  -- the sorts of what stands for these
  pub sorts_all : (tys : List Ty) (ss : List Sort) → tys ≡ types_in p n m q → ss ≡ map flat_sort tys → ss ≡ sorts_in p n m q
  sorts_all tys ss h e = e ∙ (ap (map flat_sort) h ∙ sorts_flat (types_in p n m q))

  -- their targets
  pub targets_all : (tys : List Ty) (ts : List Term) (zs : List ℤ) → tys ≡ types_in p n m q → ts ≡ terms_in p n m q → zs ≡ targets_of tys ts → zs ≡ targets_in p n m q
  targets_all tys ts zs a b e =
      e ∙ (ap (λ x. targets_of x ts) a ∙ ap (targets_of (types_in p n m q)) b)

-- flat blocks behind no line
pub behind_none : (p : s.Prog) (n : ℕ) (m : s.Impl) (q : s.Proc) (fs : List PassiveBlock) → fs ≡ flats_in p n m q → fs ≡ lined_behind p n m q []
behind_none p n m q fs e = e ∙ sym (none_in_front (flats_in p n m q))

-- ---- behind lines

module _ (p : r.Program) (n : ℕ) (w : Prepared) (h : IsPrepared p n w) where
  abbrev P : s.Prog
  P = meaning_of p

  abbrev M : s.Impl
  M = impl p n w h

  abbrev Q : s.Proc
  Q = proc p n w h

  abbrev incs : List Ty
  incs = incarnations_in P n M Q

  -- the types of the incarnations
  pub incs_front : (ks xs : List ValueType) → xs ≡ w.kinds.items → ks ≡ take w.count xs → map ref_in ks ≡ incs
  incs_front ks xs same e =
      ap (map ref_in) (e ∙ ap (take w.count) same)
      ∙ sym (take-map ref_in w.count w.kinds.items)
      ∙ ap (take w.count) h.kinds
      ∙ ap (λ k. take k (types_in P n M Q)) h.count
      ∙ take-append_seam incs (map type_of (terms_in P n M Q))

  -- the terms with those that lines bring
  pub terms_lined : (ls : List Line) (tys : List Ty) (olds : List kept.Term) (ts : List Term) → tys ≡ incs → olds ≡ w.terms.items → ts ≡ after_lines tys (table.terms_in P.functions olds) ls → ts ≡ lined_terms P n M Q ls
  terms_lined ls tys olds ts a b e =
      e
      ∙ ap (λ is. after_lines is (table.terms_in P.functions olds) ls) a
      ∙ ap (λ us. after_lines incs us ls) (ap (table.terms_in P.functions) b ∙ h.terms)

  -- the sorts of what stands for values of incarnations and of these
  pub sorts_lined : (ls : List Line) (tys : List Ty) (ts : List Term) (ss : List Sort) → tys ≡ incs → ts ≡ lined_terms P n M Q ls → ss ≡ map flat_sort (types_with tys ts) → ss ≡ lined_sorts P n M Q ls
  sorts_lined ls tys ts ss a b e =
      e
      ∙ ap (λ is. map flat_sort (types_with is ts)) a
      ∙ ap (λ us. map flat_sort (types_with incs us)) b
      ∙ sorts_flat (lined_types P n M Q ls)
