use Rattle.std.proofs.Common.{◌≡◌, ◌≤◌, ◌+◌, map, length, sym, ap, ◌∙◌, subst, arith}
use Rattle.bg_places.specs.Views.{spot_of}
use Rattle.bg_formula.specs.Atoms.{view_linear, atom_of}
use Rattle.bg_formed.specs.Used.{Use}
use Rattle.bg_formed.specs.Views.{form_block_of}
use Rattle.bg_slice.specs.Slices.{sliced}
use Rattle.bg_slice.specs.Marks.{marked_rows}
use Rattle.bg_clause.specs.Told.{Told, entry_told}
use Rattle.bg_clause.specs.Tables.{marked}
use Rattle.bg_clause.specs.Telling.{told_in}
use Rattle.bg_clause.proofs.Wholes.{entry_more}
use Rattle.bg_clause.proofs.Making.{count_marked, formula_made}
use Rattle.bg_clause.proofs.whole.formula.Goals as goal

pub all_atoms-requires : goal.all_atoms-requires
all_atoms-requires c =
    let free = c.in_ok-units.field-0.next in
    let more = entry_more c.deref.result.now (spot_of c.args.target) free (sliced (spot_of c.args.target) (map form_block_of c.args.blocks.now)) in
    let told : free ≤ c.in_ok-told.field-0.told.next = subst (λ (s : Told). free ≤ s.next) (sym c.in_ok-told.ensures.told) more in
    let behind : free ≡ c.in_ok-base.base + marked c.args.names.now.named.now = c.in_ok-units.ensures.next in
    omega (arith, told, behind)

pub returns-clause-formula : goal.returns-clause-formula
returns-clause-formula c =
    let names = c.args.names.now in
    let t = spot_of c.args.target in
    let bs = sliced t (map form_block_of c.args.blocks.now) in
    let rows = marked_rows names.kept.now (map view_linear names.rows.now) in
    let k = c.in_ok-base.base in
    let free = c.in_ok-units.field-0.next in
    let base : k ≡ names.first + length rows = c.in_ok-base.ensures ∙ ap (λ n. names.first + n) (c.in_ok-count.ensures ∙ sym (count_marked names.kept.now (map view_linear names.rows.now))) in
    let told = c.in_ok-told.ensures.told ∙ ap (λ l. entry_told l t free bs) c.deref.ensures.value in
    formula_made names.first names.named.now names.terms rows t bs k c.in_ok-units.field-0.units.items free (told_in c.in_ok-told.field-0.told) (map atom_of c.in_ok-atoms.atoms.items) base c.in_ok-units.ensures.units c.in_ok-units.ensures.next told c.in_ok-atoms.ensures

pub returns-clause-refusal : goal.returns-clause-refusal
returns-clause-refusal c = ap (λ (u : Use). u.refusal) c.in_ok-told.ensures.on
