-- What is kept, with guesses where these are asked for.
use Rattle.std.proofs.Common.{◌≡◌, Bool, true, false, List}
use Rattle.bg_text.specs.Trees.{Decl}
use Rattle.bg_ast.specs.Resolved.{Program}
use Rattle.bg_words.specs.Sets.{Numbers}
use Rattle.bg_resolve.specs.Program.{named}
use Rattle.bg_guess.specs.Guessed.{guessed}
use Rattle.bg_front.specs.Programs.{with_guesses}
use Rattle.bg_keep.specs.Kept.{kept}
use Rattle.bg_keep.specs.Annotated.{kept_guessing, annotated}

pub annotated_is : (guess : Bool) (p : Program) (ds : List Decl) (set : Numbers) (made : List Decl) → p ≡ with_guesses guess (named ds) → (p ≡ named ds → made ≡ kept set ds) → (p ≡ guessed (named ds) → made ≡ kept_guessing set ds) → made ≡ annotated guess set ds
annotated_is false p ds set made is plain guesses = plain is
annotated_is true p ds set made is plain guesses = guesses is
