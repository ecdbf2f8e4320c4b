-- Types, attributes and groups of names without their positions have their marks, at no place.
use Rattle.std.proofs.Common.{List, [], ◌∷◌, map}
use Rattle.bg_text.specs.declared.token.Kind.TheVariants as kinds
use Rattle.bg_text.specs.Trees.{Id, Ty, IntType, BoolType, NamedType, InParens, MapType, Tys, NoType, OneType, Indices, NoIndex, Index, Arg, Formula, Quoted, Attr, Group}
use Rattle.bg_text.specs.Marks.{sign, sign_at, name_at, id_mark, each}
use Rattle.bg_text.specs.Types.{quoted, type_marks, index_marks, types_marks, more_types_marks, arg_marks, attr_marks, ids_marks, group_marks}
use Rattle.bg_reread.specs.Bare.{bare_id, bare_type, bare_types, bare_indices, bare_arg, bare_attr, bare_group}
use Rattle.bg_reread.proofs.Stripped.{Strips, none, put, last, join, each_strips, commas_strip}
use Rattle.bg_reread.proofs.ExMarks.{ex_strips}

mutual
  pub type_strips : (t : Ty) → Strips (type_marks (bare_type t)) (type_marks t)
  type_strips (IntType p) = last (sign_at p kinds.Int)
  type_strips (BoolType p) = last (sign_at p kinds.Bool)
  type_strips (NamedType p x) = last (name_at p x)
  type_strips (InParens p t) = join (put (sign_at p kinds.Open) (type_strips t)) (last (sign kinds.Close))
  type_strips (MapType is t) = join (indices_strip is) (type_strips t)

  indices_strip : (is : Indices) → Strips (index_marks (bare_indices is)) (index_marks is)
  indices_strip NoIndex = none
  indices_strip (Index p ts is) = join (put (sign_at p kinds.OpenBracket) (types_strip ts)) (put (sign kinds.CloseBracket) (indices_strip is))

  types_strip : (ts : Tys) → Strips (types_marks (bare_types ts)) (types_marks ts)
  types_strip NoType = none
  types_strip (OneType t ts) = join (type_strips t) (more_types_strip ts)

  more_types_strip : (ts : Tys) → Strips (more_types_marks (bare_types ts)) (more_types_marks ts)
  more_types_strip NoType = none
  more_types_strip (OneType t ts) = join (put (sign kinds.Comma) (type_strips t)) (more_types_strip ts)

pub ids_strip : (xs : List Id) → Strips (ids_marks (map bare_id xs)) (ids_marks xs)
ids_strip xs = commas_strip (λ x. id_mark x ∷ []) bare_id (λ x. last (id_mark x)) xs

arg_strips : (a : Arg) → Strips (arg_marks (bare_arg a)) (arg_marks a)
arg_strips (Formula e) = ex_strips e
arg_strips (Quoted text) = last (quoted text)

attr_strips : (a : Attr) → Strips (attr_marks (bare_attr a)) (attr_marks a)
attr_strips a = join (put (sign kinds.OpenBrace) (put (sign kinds.Colon) (put (id_mark a.name) (commas_strip arg_marks bare_arg arg_strips a.args)))) (last (sign kinds.CloseBrace))

pub attrs_strip : (xs : List Attr) → Strips (each attr_marks (map bare_attr xs)) (each attr_marks xs)
attrs_strip xs = each_strips attr_marks bare_attr attr_strips xs

pub group_strips : (g : Group) → Strips (group_marks (bare_group g)) (group_marks g)
group_strips g = join (join (attrs_strip g.attrs) (ids_strip g.names)) (put (sign kinds.Colon) (type_strips g.ty))
