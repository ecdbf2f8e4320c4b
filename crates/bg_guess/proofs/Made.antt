-- A program with other candidates, procedures and implementations is the one with guesses.
use Rattle.std.proofs.Common.{◌≡◌, ℕ, List, ◌++◌, length, refl}
use Rattle.bg_text.specs.Trees.{Id}
use Rattle.bg_ast.specs.Resolved as r
use Rattle.bg_guess.specs.Guessed.{survey_of, guess_count, guess_names, new_procs, new_impls, guessed}

pub made_is : (p : r.Program) (cs : List Id) (qs : List r.Proc) (ms : List r.Impl) (first count : ℕ) → cs ≡ p.candidates ++ guess_names count → count ≡ guess_count p → first ≡ length p.candidates →
    qs ≡ new_procs (survey_of p) first p.procedures p.implementations → ms ≡ new_impls (survey_of p) first p.procedures p.implementations →
    record { types = p.types; constants = p.constants; candidates = cs; globals = p.globals; functions = p.functions; axioms = p.axioms; procedures = qs; implementations = ms } ≡ guessed p
made_is p cs qs ms first count a b c d e = rw (a, b, d, e, c) refl
