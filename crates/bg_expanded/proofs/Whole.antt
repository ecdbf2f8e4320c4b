-- The counts of a whole program: of what is claimed of its constants, or else of its implementations.
use Rattle.std.proofs.Common.{◌≡◌, ℕ, List, [], map, nat_lt, true, false, sym, ap, ◌∙◌}
use Rattle.std.specs.Prelude.{◌||◌}
use Rattle.bg_ast.specs.Resolved.{Program}
use Rattle.bg_places.specs.Counts.{most_expanded, capped, spec_nodes, expanded_count, is_any_above}
use Rattle.bg_places.proofs.Capped.{capped_are_above}
use Rattle.bg_opened.specs.Written.{claims, opened_in, opened_proc, opened_impl}
use Rattle.bg_expanded.specs.Counts.{opened_nodes, opened_counts}

module _ (depth : ℕ) (p : Program) where
  abbrev Sizes : List ℕ
  Sizes = map spec_nodes (map (opened_proc (opened_in depth p)) p.procedures)

  abbrev Above : List ℕ → Type 0
  Above sizes = is_any_above most_expanded (opened_counts depth p) ≡ is_any_above most_expanded (map (expanded_count sizes) (map (opened_impl (opened_in depth p) []) p.implementations))

  pub claims_above : true ≡ nat_lt most_expanded (opened_nodes depth p (claims p)) → true ≡ is_any_above most_expanded (opened_counts depth p)
  claims_above h = ap (λ b. b || is_any_above most_expanded (map (expanded_count Sizes) (map (opened_impl (opened_in depth p) []) p.implementations))) h

  pub others_above : false ≡ nat_lt most_expanded (opened_nodes depth p (claims p)) → Above (map capped Sizes)
  others_above h =
      ap (λ b. b || is_any_above most_expanded (map (expanded_count Sizes) (map (opened_impl (opened_in depth p) []) p.implementations))) (sym h)
      ∙ sym (capped_are_above Sizes (map (opened_impl (opened_in depth p) []) p.implementations))
