-- A program with its retained annotations, the guesses too.
use Rattle.std.specs.Prelude.{Bool, true, false, List}
use Rattle.bg_text.specs.Trees.{Decl}
use Rattle.bg_words.specs.Sets.{Numbers}
use Rattle.bg_resolve.specs.Program.{named}
use Rattle.bg_guess.specs.Guessed.{guessed}
use Rattle.bg_keep.specs.Kept.{kept}
use Rattle.bg_keep.specs.Told.{told}

-- the same with each retained guess behind the clauses of its place
abbrev pub kept_guessing : Numbers → List Decl → List Decl
kept_guessing set ds = told set (guessed (named ds)) ds

-- with guesses where these are asked for
abbrev pub annotated : Bool → Numbers → List Decl → List Decl
annotated false set ds = kept set ds
annotated true set ds = kept_guessing set ds
