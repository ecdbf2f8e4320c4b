-- Terms that are there, or aren't.
use Rattle.std.proofs.Common.{◌≡◌, ℕ, ◌<◌, ◌≤◌, List, length, get_or, Option, Some, None, refl, ap, ◌∙◌}
use Rattle.std.specs.Prelude.{slice_get}
use Rattle.std.specs.Option.{option_map}
use Rattle.std.proofs.lemmas.Option.{slice_get-map, slice_get_past, slice_get_read}
use Rattle.bg_ast.specs.Syntax.{Fun}
use Rattle.bg_terms.specs.Terms.{Term}
use Rattle.bg_term_table.specs.declared.table.Term as kept
use Rattle.bg_term_table.specs.Views.{term_of, terms_in}

module _ (fs : List Fun) (ts : List kept.Term) where
  abbrev pub here : ℕ → Option Term
  here a = slice_get (terms_in fs ts) a

  pub some_here : (a : ℕ) (t : kept.Term) → a < length ts → t ≡ get_or ts a t → here a ≡ Some (term_of fs t)
  some_here a t h e =
      slice_get-map (term_of fs) ts a ∙ ap (option_map (term_of fs)) (slice_get_read ts (length ts) a t refl h e)

  pub none_here : (a : ℕ) → length ts ≤ a → here a ≡ None
  none_here a h = slice_get-map (term_of fs) ts a ∙ ap (option_map (term_of fs)) (slice_get_past ts a h)
