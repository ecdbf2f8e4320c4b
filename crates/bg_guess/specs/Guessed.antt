-- The guesses of a program, and the program with them.
use Rattle.std.specs.Prelude.{ℕ, zero, suc, ◌+◌, false, Bool, if◌then◌else◌, List, [], ◌∷◌, ◌++◌, length, replicate, Option, Some, None, get_or, slice_get, slice_set, codes}
use Rattle.std.specs.Fmt.{decimal}
use Rattle.bg_text.specs.Trees.{Id}
use Rattle.bg_ast.specs.Resolved as r
use Rattle.bg_guess.specs.Claims.{Subjects, nothing, claims}
use Rattle.bg_guess.specs.Lists.{Base, Sight, number_globals, subjects}
use Rattle.bg_guess.specs.Calls.{called, implemented, marks, above_procs, above_impls}
use Rattle.bg_guess.specs.Loops.{guesses, size, sts_guesses, guessed_sts}

-- what lists are made of: the globals, a mark for each procedure that an implementation of another one calls, and one for each that
-- has an implementation
pub record Survey : Type 0 where
  pub base : Base
  pub called : List Bool
  pub implemented : List Bool

-- that of these types, globals, procedures and implementations
abbrev pub survey : List r.TypeName → List r.Declared → List r.Proc → List r.Impl → Survey
survey ts gs qs ms =
    record {
      base = record { types = ts; globals = gs; numbers = number_globals ts gs };
      called = marks 0 (length qs) (called ms);
      implemented = marks 0 (length qs) (implemented ms);
    }

-- preconditions see parameters, postconditions see results too, and what their procedure modifies may have changed
abbrev pub requires_sight : r.Proc → Sight
requires_sight q =
    record {
      names = record { params = q.params; results = []; locals = [] };
      types = record { params = q.params; results = []; locals = [] };
      modifies = [];
    }

abbrev pub ensures_sight : r.Proc → Sight
ensures_sight q =
    record {
      names = record { params = q.params; results = q.results; locals = [] };
      types = record { params = q.params; results = q.results; locals = [] };
      modifies = q.modifies;
    }

-- invariants see locals too; the names of the frame are the implementation's own
abbrev pub loop_sight : r.Proc → r.Impl → Sight
loop_sight q m =
    record {
      names = record { params = m.params; results = m.results; locals = m.locals };
      types = record { params = q.params; results = q.results; locals = m.locals };
      modifies = q.modifies;
    }

-- of what the guesses behind the preconditions of a procedure speak: there are some only where another one calls it
abbrev pub required : Survey → ℕ → r.Proc → Subjects
required v k q = if get_or v.called k false then subjects v.base (requires_sight q) else nothing

-- and those behind its postconditions, only where it has an implementation
abbrev pub ensured : Survey → ℕ → r.Proc → Subjects
ensured v k q = if get_or v.implemented k false then subjects v.base (ensures_sight q) else nothing

-- and those of the loops of an implementation
abbrev pub invariant : Survey → r.Proc → r.Impl → Subjects
invariant v q m = subjects v.base (loop_sight q m)

-- how many guesses the clauses of a procedure have
abbrev pub proc_count : Survey → ℕ → r.Proc → ℕ
proc_count v k q = size (required v k q) + size (ensured v k q)

-- and those of procedures, from number k on
abbrev pub procs_count : Survey → ℕ → List r.Proc → ℕ
procs_count v k [] = 0
procs_count v k (q ∷ qs) = proc_count v k q + procs_count v (suc k) qs

-- how many the loops of an implementation have
abbrev pub count_of : Survey → r.Impl → Option r.Proc → ℕ
count_of v m None = 0
count_of v m (Some q) = sts_guesses (size (invariant v q m)) m.body

-- the same, where its procedure is found by its number
abbrev pub impl_count : Survey → List r.Proc → r.Impl → ℕ
impl_count v qs m = count_of v m (slice_get qs m.procedure)

-- and those of implementations
abbrev pub impls_count : Survey → List r.Proc → List r.Impl → ℕ
impls_count v qs [] = 0
impls_count v qs (m ∷ ms) = impl_count v qs m + impls_count v qs ms

-- how many guesses a program has
abbrev pub whole_count : Survey → List r.Proc → List r.Impl → ℕ
whole_count v qs ms = procs_count v 0 qs + impls_count v qs ms

-- that of a program, and how many guesses it has
abbrev pub survey_of : r.Program → Survey
survey_of p = survey p.types p.globals p.procedures p.implementations

abbrev pub guess_count : r.Program → ℕ
guess_count p = whole_count (survey_of p) p.procedures p.implementations

-- the k-th number, with so many more
abbrev pub add_at : (k n : ℕ) → List ℕ → List ℕ
add_at k n ns = slice_set ns k (get_or ns k 0 + n)

-- to the number of each procedure, how many guesses the loops of its implementations have
abbrev pub with_loops : Survey → List r.Proc → List r.Impl → List ℕ → List ℕ
with_loops v qs [] ns = ns
with_loops v qs (m ∷ ms) ns = with_loops v qs ms (add_at m.procedure (impl_count v qs m) ns)

-- those of all, by procedure
abbrev pub loop_counts : Survey → List r.Proc → List r.Impl → List ℕ
loop_counts v qs ms = with_loops v qs ms (replicate (length qs) 0)

-- the candidates of procedures, from number k and candidate b on: first those of its clauses, then those of its loops
abbrev pub next_proc : Survey → List ℕ → (b k : ℕ) → r.Proc → ℕ
next_proc v loops b k q = b + proc_count v k q + get_or loops k 0

-- the first candidate of the loops of each
abbrev pub loop_starts : Survey → List ℕ → (b k : ℕ) → List r.Proc → List ℕ
loop_starts v loops b k [] = []
loop_starts v loops b k (q ∷ qs) = (b + proc_count v k q) ∷ loop_starts v loops (next_proc v loops b k q) (suc k) qs

-- a procedure with its guesses, of candidates from b on
abbrev pub guessed_proc : Survey → (above b k : ℕ) → r.Proc → r.Proc
guessed_proc v above b k q =
    record {
      pos = q.pos;
      name = q.name;
      params = q.params;
      results = q.results;
      modifies = q.modifies;
      requires_ = q.requires_ ++ guesses above q.pos b (claims (required v k q));
      ensures_ = q.ensures_ ++ guesses above q.pos (b + size (required v k q)) (claims (ensured v k q));
    }

-- procedures in turn, from number k on
abbrev pub guessed_procs : Survey → List ℕ → (above b k : ℕ) → List r.Proc → List r.Proc
guessed_procs v loops above b k [] = []
guessed_procs v loops above b k (q ∷ qs) =
    guessed_proc v above b k q ∷ guessed_procs v loops above (next_proc v loops b k q) (suc k) qs

-- an implementation with its guesses, of candidates from b on
abbrev pub guessed_body : Survey → (above b : ℕ) → r.Impl → Option r.Proc → r.Sts
guessed_body v above b m None = m.body
guessed_body v above b m (Some q) = guessed_sts above (invariant v q m) b m.body

-- the same, where its procedure is found by its number
abbrev pub guessed_impl : Survey → List r.Proc → (above b : ℕ) → r.Impl → r.Impl
guessed_impl v qs above b m =
    record {
      pos = m.pos;
      name = m.name;
      procedure = m.procedure;
      params = m.params;
      results = m.results;
      locals = m.locals;
      body = guessed_body v above b m (slice_get qs m.procedure);
    }

-- implementations in turn: each has its candidates behind those of the earlier ones of its procedure
abbrev pub guessed_impls : Survey → List r.Proc → ℕ → List ℕ → List r.Impl → List r.Impl
guessed_impls v qs above ns [] = []
guessed_impls v qs above ns (m ∷ ms) =
    guessed_impl v qs above (get_or ns m.procedure 0) m
    ∷ guessed_impls v qs above (add_at m.procedure (impl_count v qs m) ns) ms

-- the name of the n-th guess, which stands nowhere in the text
abbrev pub guess_name : ℕ → Id
guess_name n = record { pos = record { line = 0; column = 0 }; text = codes "guess:" ++ decimal n }

-- guess:1 to guess:n
abbrev pub guess_names : ℕ → List Id
guess_names zero = []
guess_names (suc n) = guess_names n ++ guess_name (suc n) ∷ []

-- a number above those of all clauses
abbrev pub above_all : List r.Proc → List r.Impl → ℕ
above_all qs ms = above_impls (above_procs 0 qs) ms

-- procedures and implementations with their guesses, of candidates from b on
abbrev pub new_procs : Survey → ℕ → List r.Proc → List r.Impl → List r.Proc
new_procs v b qs ms = guessed_procs v (loop_counts v qs ms) (above_all qs ms) b 0 qs

abbrev pub new_impls : Survey → ℕ → List r.Proc → List r.Impl → List r.Impl
new_impls v b qs ms = guessed_impls v qs (above_all qs ms) (loop_starts v (loop_counts v qs ms) b 0 qs) ms

-- the program with its guesses; nothing else is changed
abbrev pub guessed : r.Program → r.Program
guessed p =
    record {
      types = p.types;
      constants = p.constants;
      candidates = p.candidates ++ guess_names (guess_count p);
      globals = p.globals;
      functions = p.functions;
      axioms = p.axioms;
      procedures = new_procs (survey_of p) (length p.candidates) p.procedures p.implementations;
      implementations = new_impls (survey_of p) (length p.candidates) p.procedures p.implementations;
    }
