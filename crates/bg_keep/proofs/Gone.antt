-- What is kept has no candidates.
use Rattle.std.proofs.Common.{◌≡◌, Bool, true, false, List, [], ◌∷◌, ◌++◌, flat_map, drop, refl, ◌∙◌}
use Rattle.std.specs.Prelude.{if◌then◌else◌}
use Rattle.bg_text.specs.Trees as t
use Rattle.bg_words.specs.Sets.{Numbers}
use Rattle.bg_spaces.specs.Declarations.{are_candidates, candidate_ids_of, Spaces, spaces_of}
use Rattle.bg_resolve.specs.Program.{named}
use Rattle.bg_ast.specs.Resolved as r
use Rattle.bg_guess.specs.Guessed.{guessed}
use Rattle.bg_keep.specs.Kept.{kept_decl}
use Rattle.bg_keep.specs.Told.{told_decls, implementation_count}
use Rattle.bg_keep.specs.Annotated.{annotated}

constants_gone : (c : t.Consts) (rest : List t.Decl) (b : Bool) → are_candidates c ≡ b → flat_map candidate_ids_of ((if b then [] else t.Constants c ∷ []) ++ rest) ≡ flat_map candidate_ids_of rest
constants_gone c rest true h = refl
constants_gone c rest false h = rw h refl

gone : (set : Numbers) (g : Spaces) (ds : List t.Decl) → flat_map candidate_ids_of (flat_map (kept_decl set g) ds) ≡ []
gone set g [] = refl
gone set g (t.Constants c ∷ ds) = constants_gone c (flat_map (kept_decl set g) ds) (are_candidates c) refl ∙ gone set g ds
gone set g (t.Types p attrs ts ∷ ds) = gone set g ds
gone set g (t.Function f ∷ ds) = gone set g ds
gone set g (t.Axiom p attrs e ∷ ds) = gone set g ds
gone set g (t.Globals v ∷ ds) = gone set g ds
gone set g (t.Procedure q ∷ ds) = gone set g ds
gone set g (t.Implementation m ∷ ds) = gone set g ds

module _ (set : Numbers) (gs : List r.Declared) where
  told_gone : (qs : List r.Proc) (ms : List r.Impl) (ds : List t.Decl) → flat_map candidate_ids_of (told_decls set gs qs ms ds) ≡ []
  told_gone qs ms [] = refl
  told_gone qs ms (t.Constants c ∷ ds) = constants_gone c (told_decls set gs (drop 0 qs) (drop 0 ms) ds) (are_candidates c) refl ∙ told_gone (drop 0 qs) (drop 0 ms) ds
  told_gone qs ms (t.Types p attrs ts ∷ ds) = told_gone (drop 0 qs) (drop 0 ms) ds
  told_gone qs ms (t.Function f ∷ ds) = told_gone (drop 0 qs) (drop 0 ms) ds
  told_gone qs ms (t.Axiom p attrs e ∷ ds) = told_gone (drop 0 qs) (drop 0 ms) ds
  told_gone qs ms (t.Globals v ∷ ds) = told_gone (drop 0 qs) (drop 0 ms) ds
  told_gone qs ms (t.Procedure q ∷ ds) = told_gone (drop 1 qs) (drop (implementation_count (t.Procedure q)) ms) ds
  told_gone qs ms (t.Implementation m ∷ ds) = told_gone (drop 0 qs) (drop 1 ms) ds

pub no_candidate : (guess : Bool) (set : Numbers) (ds : List t.Decl) → (named (annotated guess set ds)).candidates ≡ []
no_candidate false set ds = gone set (spaces_of ds) ds
no_candidate true set ds = let p = guessed (named ds) in told_gone set p.globals p.procedures p.implementations ds
