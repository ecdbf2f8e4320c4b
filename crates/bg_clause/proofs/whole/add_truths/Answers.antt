use Rattle.std.proofs.Common.{◌-◌, ◌∷◌, [], ◌++◌, map, sym, ap, ◌∙◌, append_assoc, rules}
use Rattle.bg_sense.specs.Variables.{count_from}
use Rattle.bg_formula.specs.Atoms.{atom_of, IsTruth}
use Rattle.bg_formula.specs.declared.atom.Atom.TheVariants.{Truth}
use Rattle.bg_clause.proofs.Onward.{map_last}
use Rattle.bg_clause.proofs.Counted.{counted_on}
use Rattle.bg_clause.proofs.whole.add_truths.Goals as goal

pub loop-x-preserved : goal.loop-x-preserved
loop-x-preserved c =
    let old = map atom_of c.args.atoms.now.items in
    let some = map IsTruth (count_from c.args.first (c.loop-x.x - c.args.first)) in
    ap (map atom_of) c.in_ok-push.ensures.items
    ∙ map_last atom_of c.loop-x.atoms.items (Truth c.loop-x.x)
    ∙ ap (λ l. l ++ IsTruth c.loop-x.x ∷ []) c.loop-x.invariant
    ∙ append_assoc old some (IsTruth c.loop-x.x ∷ [])
    ∙ ap (λ l. old ++ l) (sym (counted_on IsTruth c.args.first c.loop-x.x (search rules)))
