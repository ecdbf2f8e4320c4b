-- Types that are no maps.
use Rattle.std.specs.Prelude.{◌≡◌, ℕ, List, Option, Some, None}
use Rattle.bg_ast.specs.Values as v
use Rattle.bg_kinds.specs.declared.kinds.Base.{Base}
use Rattle.bg_kinds.specs.declared.kinds.Base.TheVariants as base
use Rattle.bg_kinds.specs.Views.{base_of}
use Rattle.bg_fits.specs.declared.types.Outside.{Outside}
use Rattle.bg_fits.specs.declared.types.Outside.TheVariants as outside
use Rattle.bg_fits.specs.declared.written.End.{End}
use Rattle.bg_fits.specs.declared.written.End.TheVariants as end

-- the type, where it is no map
abbrev pub base_in : v.Ty → Option Base
base_in v.IntTy = Some base.Int
base_in v.BoolTy = Some base.Bool
base_in (v.UserTy u) = Some (base.User u)
base_in (v.MapTy ks t) = None

-- the type is this one; it is a map, where there is none
abbrev pub IsBase : Option Base → v.Ty → Type 0
IsBase (Some b) t = t ≡ base_of b
IsBase None t = (ks : List v.KeyType) × ((u : v.Ty) × (t ≡ v.MapTy ks u))

-- the same of a type that is this outside, where each declared one is what the first argument says
abbrev pub outside_in : (ℕ → v.Ty) → Outside → Option Base
outside_in named (outside.Plain b) = Some b
outside_in named (outside.Named k) = base_in (named k)
outside_in named outside.Map = None

-- as an index type: all that is no user type is `int`
abbrev pub key_by : Option Base → v.KeyType
key_by (Some (base.User u)) = v.UserKey u
key_by _ = v.IntKey

-- what stands behind the brackets of a type, where each declared one is what the first argument says
abbrev pub end_in : (ℕ → v.Ty) → End → v.Ty
end_in named (end.Plain b) = base_of b
end_in named (end.Named k) = named k
