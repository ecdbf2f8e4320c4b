use Rattle.std.proofs.Common.{map, sym, subst}
use Rattle.bg_linear.specs.Sorts.{HoldScalars}
use Rattle.bg_terms.specs.Alike.{scalar_ty}
use Rattle.bg_faithful.proofs.Values.{numbers_of, truths_of, values_read}
use Rattle.bg_flat_clauses.specs.Sorts.{flat_sorts}
use Rattle.bg_flat_clauses.proofs.Sorted.{scalars_of}
use Rattle.bg_flat_clauses.proofs.Clauses.{valued, denies}
use Rattle.bg_flat_clauses.proofs.laws.flat_clauses_fail_alike.Goals as goal

pub returns : goal.returns
returns c =
    let alike = c.blocks_of_forms_are_well_alike.ensures in
    let met = c.clauses_fail_alike.ensures.met in
    let inside = c.clauses_fail_alike.ensures.inside in
    let hold = c.scalar_values_hold.ensures in
    record {
      met =
          λ tys candidates blocks a target f is made s set h e.
          let sorts = flat_sorts tys in
          let read = values_read (map scalar_ty tys) s (scalars_of tys) h in
          let held = subst (λ vs. HoldScalars sorts (numbers_of s) (truths_of s) vs) (sym read) (hold sorts (numbers_of s) (truths_of s)) in
          valued alike inside sorts candidates blocks a is target f made met (numbers_of s) (truths_of s) set s read held e;
      denied =
          λ tys candidates blocks a target f is made v h.
          denies alike inside (flat_sorts tys) candidates blocks a is target f made c.clauses_fail_alike.ensures.denied c.atoms_of_clauses.ensures.truths c.atoms_of_clauses.ensures.rows hold v h;
    }
