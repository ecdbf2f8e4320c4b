-- The program of a text keeps the rules of types, and has numbers of its own.
use Rattle.std.proofs.Common.{◌≡◌, ℕ, Bool, List, [], sym, subst}
use Rattle.bg_text.specs.Tokens.{Tok}
use Rattle.bg_text.specs.Trees.{Decl}
use Rattle.bg_text.specs.Types.{All}
use Rattle.bg_text.specs.Declarations.{IsDecl}
use Rattle.bg_ast.specs.Resolved as r
use Rattle.bg_ast.specs.Meaning.{meaning_of}
use Rattle.bg_resolve.specs.Program.{plain_faults, named}
use Rattle.bg_types.specs.Verdicts.{IsWellTyped}
use Rattle.bg_sense.specs.Resolved.{IsResolved}
use Rattle.bg_sense.specs.Typed.{IsTyped}
use Rattle.bg_sense.specs.Recursion.{HasNoRecursion}
use Rattle.bg_guess.specs.Guessed.{guessed}
use Rattle.bg_typed.specs.Programs.{IsNamedProgram}
use Rattle.bg_typed.specs.Rules.{KeepsTypes}
use Rattle.bg_front.specs.Programs.{IsMeaningOf, IsProgramOf}
use Rattle.bg_front.proofs.Guessing.{typed_with, resolved_with, no_recursion_with}
use Rattle.bg_front.proofs.Named.{are_named_in, is_named_in}

-- what holds of each program of the grammar without faults of names holds of what declarations mean
by_names : (P : r.Program → Type 0) → ((ds : List Decl) → All IsDecl ds → plain_faults ds ≡ [] → P (named ds)) → (bytes : List ℕ) (ts : List Tok) (p : r.Program) → IsMeaningOf bytes ts p → P p
by_names P holds bytes ts p m = subst P (sym (is_named_in bytes ts p m)) (holds m.decls m.tree.1.places.0 (are_named_in bytes ts p m).0)

pub keeps_types : ((ds : List Decl) → All IsDecl ds → plain_faults ds ≡ [] → IsNamedProgram (named ds)) → ((p : r.Program) → IsWellTyped p → IsNamedProgram p → KeepsTypes p) → (bytes : List ℕ) (ts : List Tok) (p : r.Program) → IsMeaningOf bytes ts p → IsWellTyped p → KeepsTypes p
keeps_types are_named keep bytes ts p m w = keep p w (by_names IsNamedProgram are_named bytes ts p m)

-- ---- programs, with their guesses where these are asked for
-- what is known of declarations
abbrev pub AreResolved : Type 0
AreResolved = (ds : List Decl) → All IsDecl ds → plain_faults ds ≡ [] → IsResolved (meaning_of (named ds))

-- what the text spells is resolved
pub written_resolved : AreResolved → (guess : Bool) (bytes : List ℕ) (p : r.Program) → (h : IsProgramOf guess bytes p) → IsResolved (meaning_of h.written)
written_resolved are_resolved guess bytes p h = by_names (λ q. IsResolved (meaning_of q)) are_resolved bytes h.tokens h.written h.spelled

pub program_resolved : AreResolved → ((p : r.Program) → IsResolved (meaning_of p) → IsResolved (meaning_of (guessed p))) → (guess : Bool) (bytes : List ℕ) (p : r.Program) → IsProgramOf guess bytes p → IsResolved (meaning_of p)
program_resolved are_resolved stay guess bytes p h =
    subst (λ q. IsResolved (meaning_of q)) (sym h.is) (resolved_with stay guess h.written (written_resolved are_resolved guess bytes p h))

pub program_typed : AreResolved → ((p : r.Program) → IsTyped (meaning_of p) → IsResolved (meaning_of p) → IsTyped (meaning_of (guessed p))) → (guess : Bool) (bytes : List ℕ) (p : r.Program) → IsProgramOf guess bytes p → IsTyped (meaning_of p) × HasNoRecursion (meaning_of p)
program_typed are_resolved stay guess bytes p h =
    subst (λ q. IsTyped (meaning_of q) × HasNoRecursion (meaning_of q)) (sym h.is)
    (typed_with stay guess h.written h.typed.typed (written_resolved are_resolved guess bytes p h), no_recursion_with guess h.written h.spelled.meant.no_recursion)
