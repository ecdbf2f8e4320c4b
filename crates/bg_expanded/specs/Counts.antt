-- How many expression nodes a program has, with the bodies of its functions in the place of their applications.
use Rattle.std.specs.Prelude.{ℕ, List, [], ◌∷◌}
use Rattle.bg_ast.specs.Resolved.{Ex, Program}
use Rattle.bg_ast.specs.Views.{exs_of}
use Rattle.bg_places.specs.Counts.{nodes_of, expanded_counts}
use Rattle.bg_opened.specs.Written.{all_opened, claims, opened_in, opened_program}

-- the nodes of these expressions, in which bodies are put in so often
abbrev pub opened_nodes : ℕ → Program → List Ex → ℕ
opened_nodes depth p es = nodes_of (all_opened (opened_in depth p) (exs_of es))

-- the program without its constants and axioms, so that nothing is assumed in front of a body
abbrev pub without_claims : Program → Program
without_claims p = record p { constants = []; axioms = [] }

-- what is claimed of constants counts, all together, as one more implementation, before the others
abbrev pub opened_counts : ℕ → Program → List ℕ
opened_counts depth p = opened_nodes depth p (claims p) ∷ expanded_counts (opened_program depth (without_claims p))
