use Rattle.std.proofs.Common.{◌≡◌, true, map, sym, ◌∙◌, subst}
use Rattle.bg_incarnate.specs.Views.{passive_block_of}
use Rattle.bg_formed.specs.Views.{blocks_of}
use Rattle.bg_formula.specs.Formulas.{rows_below}
use Rattle.bg_atoms.specs.Literals.{are_apart}
use Rattle.bg_atoms.specs.Made.{rows_in}
use Rattle.bg_atoms.specs.Sources.{AreFrom}
use Rattle.bg_atoms.proofs.Listing.{apart_blocks}
use Rattle.bg_atoms.proofs.Sourcing.{all_from, from_below, listed_now}
use Rattle.bg_atoms.proofs.Finally.{are_rows, rows_agree, blocks_said, blocks_under, blocks_exact, told_now}
use Rattle.bg_atoms.proofs.whole.atoms.Goals as goal

pub returns-clause-said : goal.returns-clause-said
returns-clause-said c =
    let told = told_now c.in_ok-names.names.sorts.items c.args.sorts.now c.in_ok-names.names.base c.in_ok-first.first c.blocks_told.new.table.rows.items c.into_rows-rows.result.items (map passive_block_of c.args.blocks.now) (blocks_of c.in_ok-made.made) c.in_ok-names.ensures.sorts c.in_ok-names.ensures.base c.into_rows-rows.ensures c.in_ok-made.ensures.told in
    λ z w s a held. blocks_said c.args.sorts.now c.args.candidates c.in_ok-first.first (rows_in c.into_rows-rows.result) z w s a (rows_agree c.into_rows-rows.result.items) held _ _ (sym c.blocks_sorted.ensures ∙ c.if-not-blocks_sorted.false) told

pub returns-clause-below : goal.returns-clause-below
returns-clause-below c =
    let told = told_now c.in_ok-names.names.sorts.items c.args.sorts.now c.in_ok-names.names.base c.in_ok-first.first c.blocks_told.new.table.rows.items c.into_rows-rows.result.items (map passive_block_of c.args.blocks.now) (blocks_of c.in_ok-made.made) c.in_ok-names.ensures.sorts c.in_ok-names.ensures.base c.into_rows-rows.ensures c.in_ok-made.ensures.told in
    blocks_under c.args.sorts.now c.args.candidates c.in_ok-first.first (rows_in c.into_rows-rows.result) _ _ (sym c.blocks_sorted.ensures ∙ c.if-not-blocks_sorted.false) told

pub returns-clause-rows : goal.returns-clause-rows
returns-clause-rows c = are_rows c.into_rows-rows.result.items

pub returns-clause-denials : goal.returns-clause-denials
returns-clause-denials c = rows_agree c.into_rows-rows.result.items

pub returns-clause-exact : goal.returns-clause-exact
returns-clause-exact c =
    let told = told_now c.in_ok-names.names.sorts.items c.args.sorts.now c.in_ok-names.names.base c.in_ok-first.first c.blocks_told.new.table.rows.items c.into_rows-rows.result.items (map passive_block_of c.args.blocks.now) (blocks_of c.in_ok-made.made) c.in_ok-names.ensures.sorts c.in_ok-names.ensures.base c.into_rows-rows.ensures c.in_ok-made.ensures.told in
    blocks_exact c.args.sorts.now c.args.candidates c.in_ok-first.first (rows_in c.into_rows-rows.result) _ _ (sym c.blocks_sorted.ensures ∙ c.if-not-blocks_sorted.false) told

pub returns-clause-apart : goal.returns-clause-apart
returns-clause-apart c =
    subst (λ l. are_apart l ≡ true) (sym (listed_now c.in_ok-names.names.sorts.items c.args.sorts.now c.in_ok-names.names.base c.new-table.result c.blocks_told.new.table c.into_rows-rows.result.items (map passive_block_of c.args.blocks.now) c.in_ok-names.ensures.sorts c.new-table.ensures.rows c.into_rows-rows.ensures c.in_ok-made.ensures.grows)) (apart_blocks c.args.sorts.now (map passive_block_of c.args.blocks.now))

pub returns-clause-inside : goal.returns-clause-inside
returns-clause-inside c =
    let from = subst (AreFrom c.args.sorts.now (map passive_block_of c.args.blocks.now)) (sym (listed_now c.in_ok-names.names.sorts.items c.args.sorts.now c.in_ok-names.names.base c.new-table.result c.blocks_told.new.table c.into_rows-rows.result.items (map passive_block_of c.args.blocks.now) c.in_ok-names.ensures.sorts c.new-table.ensures.rows c.into_rows-rows.ensures c.in_ok-made.ensures.grows)) (all_from c.args.sorts.now c.args.candidates (map passive_block_of c.args.blocks.now) (sym c.blocks_sorted.ensures ∙ c.if-not-blocks_sorted.false)) in
    subst (λ n. rows_below n (rows_in c.into_rows-rows.result) ≡ true) (sym c.in_ok-terms.ensures) (from_below c.args.sorts.now (map passive_block_of c.args.blocks.now) (rows_in c.into_rows-rows.result) from)

pub returns-clause-sources : goal.returns-clause-sources
returns-clause-sources c =
    subst (AreFrom c.args.sorts.now (map passive_block_of c.args.blocks.now)) (sym (listed_now c.in_ok-names.names.sorts.items c.args.sorts.now c.in_ok-names.names.base c.new-table.result c.blocks_told.new.table c.into_rows-rows.result.items (map passive_block_of c.args.blocks.now) c.in_ok-names.ensures.sorts c.new-table.ensures.rows c.into_rows-rows.ensures c.in_ok-made.ensures.grows)) (all_from c.args.sorts.now c.args.candidates (map passive_block_of c.args.blocks.now) (sym c.blocks_sorted.ensures ∙ c.if-not-blocks_sorted.false))

pub returns-clause-listed : goal.returns-clause-listed
returns-clause-listed c =
    listed_now c.in_ok-names.names.sorts.items c.args.sorts.now c.in_ok-names.names.base c.new-table.result c.blocks_told.new.table c.into_rows-rows.result.items (map passive_block_of c.args.blocks.now) c.in_ok-names.ensures.sorts c.new-table.ensures.rows c.into_rows-rows.ensures c.in_ok-made.ensures.grows

pub blocks_told-requires : goal.blocks_told-requires
blocks_told-requires c = record { table = c.new-table.ensures.table c.in_ok-names.names.base }
