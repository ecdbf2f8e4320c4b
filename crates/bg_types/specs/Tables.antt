-- How the code's tables are read.
use Rattle.std.specs.Prelude.{◌≡◌, ℕ, List, map}
use Rattle.bg_ast.specs.Resolved as r
use Rattle.bg_types.specs.declared.tables.Frame.{Frame}
use Rattle.bg_types.specs.declared.tables.Tables.{Tables}
use Rattle.bg_kinds.specs.Kinds.{Kind}
use Rattle.bg_types.specs.Programs.{const_kind, declared_kinds, function_shape, procedure_shape, procedure_frame, implementation_frame}
use Rattle.bg_kinds.specs.KindViews.{kinds_in}
use Rattle.bg_typing.specs.SideViews.{shape_of}

abbrev pub frame_of : Frame → List Kind
frame_of f = kinds_in f.kinds.items

-- the tables hold the types of a program's declarations
pub record IsTables (named : ℕ → Kind) (p : r.Program) (t : Tables) : Type 0 where
  pub constants : kinds_in t.constants.items ≡ map (const_kind named) p.constants
  pub globals : kinds_in t.globals.items ≡ declared_kinds named p.globals
  pub functions : map shape_of t.functions.items ≡ map (function_shape named) p.functions
  pub procedures : map shape_of t.procedures.items ≡ map (procedure_shape named) p.procedures
  pub specifications : map frame_of t.procedure_frames.items ≡ map (procedure_frame named) p.procedures
  pub implementations : map frame_of t.implementation_frames.items ≡ map (implementation_frame named) p.implementations
