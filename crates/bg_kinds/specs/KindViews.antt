-- How the code's kinds are read: types, where there are any.
use Rattle.std.specs.Prelude.{List, map, Option}
use Rattle.bg_text.specs.Views.{option_of}
use Rattle.bg_kinds.specs.declared.kinds.Base.{Base}
use Rattle.bg_kinds.specs.declared.kinds.TypeRef.{TypeRef}
use Rattle.bg_kinds.specs.declared.kinds.ValueType.{ValueType}
use Rattle.bg_kinds.specs.Kinds.{Kind}
use Rattle.bg_kinds.specs.Views.{base_of, ref_of, ref_in}

abbrev pub kind_of : Option TypeRef → Kind
kind_of t = option_of ref_of t

abbrev pub kind_of_base : Option Base → Kind
kind_of_base t = option_of base_of t

abbrev pub kind_in_of : Option ValueType → Kind
kind_in_of t = option_of ref_in t

-- the types of declarations
abbrev pub kinds_in : List (Option ValueType) → List Kind
kinds_in ts = map kind_in_of ts
