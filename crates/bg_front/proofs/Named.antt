-- Declarations that mean a program have no fault of names, and it is the one with numbers for names.
use Rattle.std.proofs.Common.{◌≡◌, ℕ, List, []}
use Rattle.bg_text.specs.Tokens.{Tok}
use Rattle.bg_text.specs.Trees.{Decl}
use Rattle.bg_ast.specs.Resolved as r
use Rattle.bg_resolve.specs.Program.{plain_faults, named}
use Rattle.bg_resolve.specs.Resolves.{Recursion}
use Rattle.bg_meant.proofs.Meant.{program_fine}
use Rattle.bg_front.specs.Programs.{IsMeaningOf}

abbrev pub AreNamed : List Decl → Type 0
AreNamed ds = (plain_faults ds ≡ []) × Recursion ds []

pub are_named_in : (bytes : List ℕ) (ts : List Tok) (p : r.Program) (m : IsMeaningOf bytes ts p) → AreNamed m.decls
are_named_in bytes ts p m = let w = program_fine m.decls p m.meant in (w.0, w.1)

pub is_named_in : (bytes : List ℕ) (ts : List Tok) (p : r.Program) (m : IsMeaningOf bytes ts p) → p ≡ named m.decls
is_named_in bytes ts p m = (program_fine m.decls p m.meant).2
