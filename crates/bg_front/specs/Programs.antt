-- The program of a text, and why it has none.
use Rattle.std.specs.Prelude.{◌≡◌, ◌≤◌, ◌<◌, ◌-◌, ◌^◌, ℕ, min, nat_lt, Bool, true, false, if◌then◌else◌, List, length, Option, Some, None}
use Rattle.bg_text.specs.Tokens.{Tok}
use Rattle.bg_text.specs.Trees.{Decl}
use Rattle.bg_ast.specs.Resolved as r
use Rattle.bg_resolve.specs.Resolves.{IsToldFault}
use Rattle.bg_places.specs.Counts.{most_places, most_expanded, place_counts, first_above, is_any_above}
use Rattle.bg_expanded.specs.Chains.{most_bodies, longest_chain}
use Rattle.bg_expanded.specs.Counts.{opened_counts}
use Rattle.bg_meant.specs.Declared.{MeansProgram}
use Rattle.bg_types.specs.Verdicts.{IsFault}
use Rattle.bg_typed.specs.Rules.{KeepsTypes}
use Rattle.bg_guess.specs.Guessed.{guessed}
use Rattle.bg_front.specs.Limits.{most_bytes, most_implementations, most_candidates}
use Rattle.bg_front.specs.Refusals as f
use Rattle.bg_front.specs.Refusals.{refusal_of}
use Rattle.bg_front.specs.Trees.{IsTreeOf, HasNoTree}
use Rattle.bg_front.specs.declared.refusal.ReadError.{ReadError}
use Rattle.bg_front.specs.declared.refusal.ReadError.TheVariants as errors

-- the bytes, few enough, hold these tokens, which spell declarations that mean this program
pub record IsMeaningOf (bytes : List ℕ) (ts : List Tok) (program : r.Program) : Type 0 where
  pub decls : List Decl
  pub short : length bytes ≤ most_bytes
  pub tree : IsTreeOf bytes ts decls
  pub meant : MeansProgram decls program

-- the same, of these declarations
abbrev pub IsMeaningFrom : List ℕ → List Tok → List Decl → r.Program → Type 0
IsMeaningFrom bytes ts decls program = (m : IsMeaningOf bytes ts program) × (m.decls ≡ decls)

-- too many places of the first implementation that has too many, too many bodies in one chain, or too many nodes
abbrev pub size_limit : Option ℕ → (chain : ℕ) → Bool → Option f.Refusal
size_limit (Some places) chain large = Some (f.Places places)
size_limit None chain large =
    if nat_lt most_bodies chain then Some (f.Bodies chain) else if large then Some f.Expanded else None

-- the places of the implementations of a program, the longest chain of its bodies, and the expression nodes of what is claimed of its
-- constants and of its implementations, with bodies in the place of applications
abbrev pub too_large : r.Program → Option f.Refusal
too_large p =
    size_limit (first_above most_places (place_counts p)) (longest_chain p) (is_any_above most_expanded (opened_counts most_bodies p))

-- too many implementations, or too many candidates
abbrev pub count_limit : (implementations candidates : ℕ) → Option f.Refusal
count_limit n m =
    if nat_lt most_implementations n then Some (f.Implementations n) else if nat_lt most_candidates m then Some (f.Candidates m) else None

-- how many candidates a program has, as far as 64 bits tell it
abbrev pub candidate_count : r.Program → ℕ
candidate_count p = min (2 ^ 64 - 1) (length p.candidates)

-- those of a program
abbrev pub too_many : r.Program → Option f.Refusal
too_many p = count_limit (length p.implementations) (candidate_count p)

abbrev pub or_else : Option f.Refusal → Option f.Refusal → Option f.Refusal
or_else None y = y
or_else (Some x) y = Some x

-- the first limit that the program exceeds: of implementations, of candidates, of the places of an implementation, of bodies in a chain, of
-- expression nodes
abbrev pub limit_of : r.Program → Option f.Refusal
limit_of p = or_else (too_many p) (too_large p)

-- a program, with its guesses where these are asked for
abbrev pub with_guesses : Bool → r.Program → r.Program
with_guesses false p = p
with_guesses true p = guessed p

-- the bytes spell a program that keeps the rules of types; this is the program, with its guesses where these are asked for, and it exceeds
-- no limit
pub record IsProgramOf (guess : Bool) (bytes : List ℕ) (program : r.Program) : Type 0 where
  pub tokens : List Tok
  pub written : r.Program
  pub spelled : IsMeaningOf bytes tokens written
  pub typed : KeepsTypes written
  pub is : program ≡ with_guesses guess written
  pub within : limit_of program ≡ None

-- the same, where the bytes spell these declarations
abbrev pub IsProgramFrom : Bool → List ℕ → List Decl → r.Program → Type 0
IsProgramFrom guess bytes decls program = (p : IsProgramOf guess bytes program) × (p.spelled.decls ≡ decls)

-- the bytes spell a program that is typed, and exceeds this limit first, with its guesses where these are asked for
abbrev pub ExceedsLimit : Bool → List ℕ → f.Refusal → Type 0
ExceedsLimit guess bytes limit =
    (ts : List Tok) × (p : r.Program) × IsMeaningOf bytes ts p × KeepsTypes p × (limit_of (with_guesses guess p) ≡ Some limit)

-- why a text has no program; each reason stands only where none before it does, and limits alone look at guesses
abbrev pub IsRefusedBy : Bool → List ℕ → f.Refusal → Type 0
IsRefusedBy guess bytes f.TooLong = most_bytes < length bytes
IsRefusedBy guess bytes (f.Names fault) = (length bytes ≤ most_bytes) × (ts : List Tok) × (ds : List Decl) × IsTreeOf bytes ts ds × IsToldFault ds fault
IsRefusedBy guess bytes (f.Types ds fault) = (ts : List Tok) × (p : r.Program) × IsMeaningOf bytes ts p × IsFault p fault × (ds ≡ p.types)
IsRefusedBy guess bytes (f.Implementations n) = ExceedsLimit guess bytes (f.Implementations n)
IsRefusedBy guess bytes (f.Candidates n) = ExceedsLimit guess bytes (f.Candidates n)
IsRefusedBy guess bytes (f.Places n) = ExceedsLimit guess bytes (f.Places n)
IsRefusedBy guess bytes (f.Bodies n) = ExceedsLimit guess bytes (f.Bodies n)
IsRefusedBy guess bytes f.Expanded = ExceedsLimit guess bytes f.Expanded
IsRefusedBy guess bytes reason = (length bytes ≤ most_bytes) × HasNoTree bytes reason

-- what is said of an answer, unless memory ran out
abbrev pub IsRefused : Bool → List ℕ → ReadError → Type 0
IsRefused guess bytes (errors.Refused e) = IsRefusedBy guess bytes (refusal_of e)
IsRefused guess bytes errors.Memory = Unit {0}

-- the answer is the first limit that the program exceeds, unless memory ran out
abbrev pub IsLimitOf : r.Program → ReadError → Type 0
IsLimitOf p (errors.Refused e) = limit_of p ≡ Some (refusal_of e)
IsLimitOf p errors.Memory = Unit {0}
