-- Declarations say nothing more than a type.
use Rattle.std.proofs.Common.{◌≡◌, ℕ, zero, suc, List, [], ◌∷◌, ◌++◌, map, slice_get, refl, ap, ◌∙◌}
use Rattle.bg_ast.specs.Values.{Ty}
use Rattle.bg_ast.specs.Syntax.{Var, Global, Local}
use Rattle.bg_ast.specs.Resolved as r
use Rattle.bg_ast.specs.Meaning.{meaning_of, named_of, decl_of}
use Rattle.bg_sense.specs.Variables.{wheres_in, wheres_of, wheres_at}
use Rattle.bg_flow.specs.Core.{still}
use Rattle.bg_blocks.specs.EmittedViews.{frame_of}

none_there : (named : ℕ → Ty) (ds : List r.Declared) (k : ℕ) → wheres_in (slice_get (map (decl_of named) ds) k) ≡ []
none_there named [] k = refl
none_there named (d ∷ ds) zero = refl
none_there named (d ∷ ds) (suc k) = none_there named ds k

pub no_wheres : (named : ℕ → Ty) (ds : List r.Declared) → wheres_of (map (decl_of named) ds) ≡ []
no_wheres named [] = refl
no_wheres named (d ∷ ds) = no_wheres named ds

pub no_wheres_at : (p : r.Program) (rs : List r.Declared) (xs : List Var) → wheres_at (still (meaning_of p) (frame_of p rs)) xs ≡ []
no_wheres_at p rs [] = refl
no_wheres_at p rs (Global k ∷ xs) = ap (λ l. l ++ wheres_at (still (meaning_of p) (frame_of p rs)) xs) (none_there (named_of p.types) p.globals k) ∙ no_wheres_at p rs xs
no_wheres_at p rs (Local k ∷ xs) = ap (λ l. l ++ wheres_at (still (meaning_of p) (frame_of p rs)) xs) (none_there (named_of p.types) rs k) ∙ no_wheres_at p rs xs
