-- How the code's sides are read.
use Rattle.std.specs.Prelude.{map}
use Rattle.bg_typing.specs.declared.sides.Side.{Side}
use Rattle.bg_typing.specs.declared.scope.Shape.{Shape}
use Rattle.bg_typing.specs.declared.scope.Scope.{Scope}
use Rattle.bg_base.specs.declared.pos.Pos.{Pos}
use Rattle.bg_typing.specs.declared.exprs.Waiting.{Waiting}
use Rattle.bg_typing.specs.Sides as s
use Rattle.bg_kinds.specs.KindViews.{kind_of, kinds_in}

abbrev pub side_of : Side → s.Side
side_of a = record { start = a.start; kind = kind_of a.kind; is_constant = a.is_constant }

abbrev pub shape_of : Shape → s.Shape
shape_of f = record { params = kinds_in f.params.items; results = kinds_in f.results.items }

abbrev pub scope_of : Scope → s.Scope
scope_of g =
    record {
      constants = kinds_in g.constants.now;
      globals = kinds_in g.globals.now;
      frame = kinds_in g.frame.now;
      functions = map shape_of g.functions.now;
      procedures = map shape_of g.procedures.now;
    }

abbrev pub waiting_of : Waiting → Pos × s.Side
waiting_of x = (x.pos, side_of x.side)
