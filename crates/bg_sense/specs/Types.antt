-- Values of given types, and when types are the same.
use Rattle.std.specs.Prelude.{Bool, true, false, ◌&&◌, List, [], ◌∷◌, ◌==◌}
use Rattle.bg_ast.specs.Values.{IntKey, KeyType, UserKey, UserTy, IntTy, Ty, MapTy, BoolTy, Val, is_of}
use Rattle.bg_ast.specs.Syntax.{Decl, Const}

-- whether values are of these types, one for each
abbrev pub are_of : List Ty → List Val → Bool
are_of [] [] = true
are_of [] (v ∷ vs) = false
are_of (t ∷ ts) [] = false
are_of (t ∷ ts) (v ∷ vs) = is_of t v && are_of ts vs

-- the types of declared variables
abbrev pub types_of : List Decl → List Ty
types_of [] = []
types_of (d ∷ ds) = d.ty ∷ types_of ds

-- the types of constants
abbrev pub const_types : List Const → List Ty
const_types [] = []
const_types (c ∷ cs) = c.ty ∷ const_types cs

-- whether two index types are the same
abbrev pub key_eq : KeyType → KeyType → Bool
key_eq IntKey IntKey = true
key_eq (UserKey t) (UserKey u) = t == u
key_eq _ _ = false

-- whether two lists of index types are the same
abbrev pub key_types_eq : List KeyType → List KeyType → Bool
key_types_eq [] [] = true
key_types_eq [] (l ∷ ls) = false
key_types_eq (k ∷ ks) [] = false
key_types_eq (k ∷ ks) (l ∷ ls) = key_eq k l && key_types_eq ks ls

-- whether two types are the same
abbrev pub ty_eq : Ty → Ty → Bool
ty_eq IntTy IntTy = true
ty_eq BoolTy BoolTy = true
ty_eq (UserTy t) (UserTy u) = t == u
ty_eq (MapTy ks t) (MapTy ls u) = key_types_eq ks ls && ty_eq t u
ty_eq _ _ = false
