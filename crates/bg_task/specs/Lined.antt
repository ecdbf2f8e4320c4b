-- The terms of a prepared implementation behind lines.
use Rattle.std.specs.Prelude.{◌≡◌, ℕ, List, map}
use Rattle.bg_ast.specs.Resolved as r
use Rattle.bg_ast.specs.Meaning.{meaning_of, named_of, impl_of, proc_of}
use Rattle.bg_kinds.specs.Views.{ref_in}
use Rattle.bg_block_types.specs.Typed.{incarnations_in}
use Rattle.bg_numbered.specs.Lines.{Line}
use Rattle.bg_term_table.specs.Views as table
use Rattle.bg_termed.specs.Lined as termed
use Rattle.bg_task.specs.declared.prepared.Prepared.{Prepared}
use Rattle.bg_task.specs.declared.lining.Lined.{Lined}
use Rattle.bg_task.specs.Prepared.{IsPrepared}

-- the types of the implementation's incarnations and of what functions give, its terms with those that lines bring, and the sorts of what
-- stands for values of its incarnations and of these
pub record HasLined (p : r.Program) (number : ℕ) (m : r.Impl) (q : r.Proc) (ls : List Line) (x : Lined) : Type 0 where
  pub incarnations : map ref_in x.incarnations.now ≡ incarnations_in (meaning_of p) number (impl_of (named_of p.types) m) (proc_of (named_of p.types) q)
  pub results : map ref_in x.results.items ≡ map table.result_ty (meaning_of p).functions
  pub terms : table.terms_in (meaning_of p).functions x.terms.items ≡ termed.lined_terms (meaning_of p) number (impl_of (named_of p.types) m) (proc_of (named_of p.types) q) ls
  pub sorts : x.sorts.items ≡ termed.lined_sorts (meaning_of p) number (impl_of (named_of p.types) m) (proc_of (named_of p.types) q) ls

-- the same of whatever implementation is prepared
abbrev pub IsLined : r.Program → Prepared → List Line → Lined → Type 0
IsLined p w ls x = (number : ℕ) (h : IsPrepared p number w) → HasLined p number h.implementation h.procedure ls x
