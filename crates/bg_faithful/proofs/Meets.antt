-- Interpretations that meet a program over values.
use Rattle.std.proofs.Common.{◌≡◌, true, [], ap, ◌∙◌}
use Rattle.std.specs.Prelude.{IsTrue}
use Rattle.bg_ast.specs.Syntax.{Prog}
use Rattle.bg_ast.specs.Execution.{Interp}
use Rattle.bg_sense.specs.Types.{are_of, const_types}
use Rattle.bg_sense.specs.Tables.{are_tables}
use Rattle.bg_sense.specs.Interps.{are_distinct, all_hold, Meets}
use Rattle.bg_fits.specs.Valued.{is_over_values}
use Rattle.bg_faithful.proofs.Whole.{no_constants, no_axioms}

pub met : (p : Prog) (i : Interp) → is_over_values p ≡ true → i.constants ≡ [] → IsTrue (are_tables p.functions i.tables) → Meets p i
met p i o none tables =
    let cs = no_constants p o in
    record {
      interp = record {
        constants = ap (λ l. are_of (const_types l) i.constants) cs ∙ ap (λ vs. are_of [] vs) none;
        tables = tables;
      };
      unique = ap (λ l. are_distinct l i.constants) cs;
      axioms = ap (all_hold p i) (no_axioms p o);
    }
