-- How the code's spaces are read.
use Rattle.std.specs.Prelude.{map}
use Rattle.bg_names.specs.Views.{listed}
use Rattle.bg_spaces.specs.Declarations.{Spaces, Counts}
use Rattle.bg_spaces.specs.declared.entries.Tally.{Tally}
use Rattle.bg_spaces.specs.declared.space.Space.{Space}

abbrev pub counts_of : Tally → Counts
counts_of k = record { constants = k.constants; candidates = k.candidates; globals = k.globals }

abbrev pub spaces_in : Space → Spaces
spaces_in g =
    record {
      types = listed g.types;
      values = listed g.values.names;
      meanings = g.values.meanings.items;
      functions = listed g.functions;
      procedures = listed g.procedures;
      globals = map (λ x. x.now) g.globals.items;
      changes = map (λ ks. ks.items) g.changes.items;
    }
