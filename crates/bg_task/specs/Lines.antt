-- Lines that name what a prepared implementation has.
use Rattle.std.specs.Prelude.{◌≡◌, ℕ, true, List}
use Rattle.bg_ast.specs.Resolved as r
use Rattle.bg_ast.specs.Meaning.{meaning_of, named_of, impl_of, proc_of}
use Rattle.bg_block_types.specs.Typed.{incarnations_in}
use Rattle.bg_numbered.specs.Lines.{Line, are_there}
use Rattle.bg_termed.specs.Termed.{terms_in}
use Rattle.bg_task.specs.declared.prepared.Prepared.{Prepared}
use Rattle.bg_task.specs.Prepared.{IsPrepared}

-- each line names what is there, over the terms that those before it bring
abbrev pub AreThere : r.Program → ℕ → Prepared → List Line → Type 0
AreThere p n w ls =
    (h : IsPrepared p n w) →
    are_there (incarnations_in (meaning_of p) n (impl_of (named_of p.types) h.implementation) (proc_of (named_of p.types) h.procedure))
    (terms_in (meaning_of p) n (impl_of (named_of p.types) h.implementation) (proc_of (named_of p.types) h.procedure)) ls ≡ true
