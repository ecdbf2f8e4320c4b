-- What is made of the rows of a path that decides every atom.
use Rattle.std.proofs.Common.{◌≡◌, ℕ, ◌<◌, Bool, true, false, not, List, ℤ, map, length, refl, sym, subst}
use Rattle.std.specs.Prelude.{Some}
use Rattle.bg_rows.specs.declared.row.Row.{Row}
use Rattle.bg_rows.specs.Rows.{RowOf, row_of}
use Rattle.bg_formula.specs.declared.clauses.Clauses.{Clauses}
use Rattle.bg_formula.specs.Formulas.{Formula, formula_of, is_whole}
use Rattle.bg_formula.proofs.Agree.{atoms_agree}
use Rattle.bg_cert.specs.declared.cert.Decision.{Decision}
use Rattle.bg_cert.specs.Paths.{rows_on}
use Rattle.bg_cert.specs.Certs.{root}
use Rattle.bg_cert.specs.Causes.{all_decided, has_bound}
use Rattle.bg_cert.specs.Walks.{path_of, stack_of, decided_on}
use Rattle.bg_cert.proofs.Follow.{and_of}
use Rattle.bg_pick.specs.Picks.{IsComplete}
use Rattle.bg_pick.proofs.Below.{whole_rows}
use Rattle.bg_tree.specs.declared.part.Kept.{Kept}
use Rattle.bg_tree.specs.declared.outcome.Beyond.TheVariants.{Elimination, Value}
use Rattle.bg_tree.specs.declared.outcome.Budget.{Budget}
use Rattle.bg_tree.specs.declared.outcome.Halt.{Halt}
use Rattle.bg_tree.specs.declared.outcome.Halt.TheVariants.{Point, Rows, Range}
use Rattle.bg_tree.specs.declared.outcome.End.{End}
use Rattle.bg_tree.specs.declared.outcome.End.TheVariants.{Refuted, Split, Halted}
use Rattle.bg_tree.specs.declared.step.Search.{Search}
use Rattle.bg_tree.specs.Once.{bounds_in}
use Rattle.bg_tree.specs.Ways.{IsWay, ArePaths}
use Rattle.bg_tree.specs.Ends.{outcome_of, KeepsGap, IsHalt, IsBeyond, IsEnd, IsPlacedEnd}
use Rattle.bg_tree.specs.Trees.{IsBound, IsOutcome, Steps}
use Rattle.bg_tree.proofs.Paths.{paths_open, way_once}
use Rattle.bg_tree.proofs.Terms.{AllBelow, path_below, gap_is_there}
use Rattle.bg_tree.proofs.Gaps.{gap_is_new}

placed_end : (targets : ℕ → ℤ) (n budget : ℕ) (path : List Row) (given : List RowOf) (end : End) → map row_of path ≡ given → AllBelow n given → IsPlacedEnd targets (map row_of path) end → IsEnd targets given n budget end
placed_end targets n budget path given (Refuted steps) e b i = absurd i
placed_end targets n budget path given (Split k) e b i =
    let t = gap_is_there targets n path k.order.variables.items k.order.reasons.items (map row_of k.order.rows.items) k.spots.items k.gap.variable k.gap.below k.gap.low k.gap.up (subst (AllBelow n) (sym e) b) i.solved.made i.gap in
    (subst (λ (g : List RowOf). KeepsGap targets g k) e i, t)
placed_end targets n budget path given (Halted (Rows o)) e b i = absurd i
placed_end targets n budget path given (Halted (Range (Elimination o f))) e b i = absurd i
placed_end targets n budget path given (Halted (Point o spots)) e b i = subst (λ (g : List RowOf). IsHalt targets g budget (Point o spots)) e i
placed_end targets n budget path given (Halted (Range (Value o spots far))) e b i = subst (λ (g : List RowOf). IsBeyond targets g (Value o spots far)) e i

pub placed_ends : (targets : ℕ → ℤ) (f : Clauses) (budget : ℕ) (ds : List Decision) (path : List Row) (end : End) → is_whole (formula_of f) ≡ true → bounds_in (formula_of f).terms ds ≡ true → map row_of path ≡ rows_on (formula_of f).atoms ds → IsPlacedEnd targets (map row_of path) end → IsEnd targets (rows_on (formula_of f).atoms ds) (formula_of f).terms budget end
placed_ends targets f budget ds path end w b e i =
    placed_end targets (formula_of f).terms budget path (rows_on (formula_of f).atoms ds) end e (path_below (formula_of f).terms (formula_of f).atoms ds (whole_rows (formula_of f) w) (atoms_agree f.atoms.items) b) i

not_so : (b : Bool) → b ≡ false → not b ≡ true
not_so true h = absurd (cc)
not_so false h = refl

-- the bound at a gap may be split
pub gap_may : (targets : ℕ → ℤ) (f : Formula) (set : ℕ → Bool) (ds : List Decision) (k : Kept) → IsComplete f set ds → KeepsGap targets (rows_on f.atoms ds) k × (k.gap.variable < f.terms) → IsBound targets f set (path_of f ds) k
gap_may targets f set ds k c g =
    record {
      fine = c.fine;
      there = g.1;
      rule = and_of (all_decided (length f.atoms) ds) (not (has_bound k.gap.variable k.gap.below ds)) c.decided (not_so _ (gap_is_new targets f.atoms ds k g.0));
      gap = g.0;
    }

-- what the search answers where it ends
pub halted : (targets : ℕ → ℤ) (f : Formula) (set : ℕ → Bool) (budget : Budget) (old new : Search) (halt : Halt) → Steps targets f set budget.rows old new (Some halt) → ArePaths targets f set (stack_of f old.walk) → old.walk.is_open ≡ true → IsOutcome targets f set budget (outcome_of new.walk.trail.decisions halt)
halted targets f set budget old new halt s p o =
    subst (λ (z : Search). IsOutcome targets f set budget (outcome_of z.walk.trail.decisions halt)) (sym s.2) (by_halt halt s.1)
  where
    way : IsWay targets f set (root f) (decided_on old.walk)
    way = (paths_open targets f set old.walk o p).0

    by_halt : (h : Halt) → IsHalt targets (rows_on f.atoms (decided_on old.walk)) budget.rows h → IsOutcome targets f set budget (outcome_of old.walk.trail.decisions h)
    by_halt (Point order spots) h = record {
      way = way;
      complete = s.0;
      once = way_once targets f set (decided_on old.walk) way;
      solved = h.0;
      point = h.1;
    }
    by_halt (Rows order) h = (record { way = way; complete = s.0 }, h)
    by_halt (Range beyond) h = (record { way = way; complete = s.0 }, h)
