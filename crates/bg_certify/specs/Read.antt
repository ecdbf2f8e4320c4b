-- The names and types of constants and functions, as an outcome has them.
use Rattle.std.specs.Prelude.{List, drop}
use Rattle.bg_ast.specs.Resolved as r
use Rattle.bg_ast.specs.Views.{program_of}
use Rattle.bg_inference.specs.declared.outcome.Outcome.{Outcome}
use Rattle.bg_certify.specs.Given.{NamesOf, type_names, declared_names, declared_types, heads}

-- constants are the globals of the opened program behind those of the program
abbrev pub constants_in : Outcome → List r.Declared
constants_in o = drop o.globals (program_of o.opened).globals

abbrev pub names_in : Outcome → NamesOf
names_in o =
    record {
      types = type_names (program_of o.opened).types;
      constants = declared_names (constants_in o);
      constant_types = declared_types (program_of o.opened).types (constants_in o);
      functions = heads (program_of o.opened).types (program_of o.opened).functions;
      bodies = o.bodies.items;
    }
