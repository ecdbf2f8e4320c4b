-- Reading types.
use Rattle.std.specs.Prelude.{ℕ, zero, suc, List, [], ◌∷◌, Option, Some, None}
use Rattle.bg_text.specs.declared.token.Kind.TheVariants as kinds
use Rattle.bg_text.specs.Trees.{Id, Ty, IntType, BoolType, NamedType, InParens, MapType}
use Rattle.bg_text.specs.Views.{tys_of, Indexed, indexed_of}
use Rattle.bg_reader.specs.Reading.{Reader, with_read, both, one, a_sign, a_text}
use Rattle.bg_grammar.specs.Rules.{choose, rows, commas_at, enclosed, inner}

-- a name
unfoldable pub id_at : Reader Id
id_at ts = with_read (λ b. record { pos = b.0; text = b.1 }) (one (a_text kinds.Name) ts)

abbrev pub map_type : List Indexed → Ty → Ty
map_type [] t = t
map_type (b ∷ bs) t = MapType (indexed_of (b ∷ bs)) t

-- a type that is no map
unfoldable pub base_at : Option (Reader Ty) → Reader Ty
base_at R =
    choose (a_sign kinds.Int) (λ ts. with_read IntType (one (a_sign kinds.Int) ts))
    (choose (a_sign kinds.Bool) (λ ts. with_read BoolType (one (a_sign kinds.Bool) ts))
    (choose (a_text kinds.Name) (λ ts. with_read (λ b. NamedType b.0 b.1) (one (a_text kinds.Name) ts))
    (λ ts. with_read (λ v. InParens v.0 v.1) (enclosed kinds.Open kinds.Close R ts))))

-- index types in brackets
unfoldable pub index_at : ℕ → Option (Reader Ty) → Reader Indexed
index_at n R ts = with_read (λ v. (v.0, tys_of v.1)) (enclosed kinds.OpenBracket kinds.CloseBracket (inner (λ P. commas_at P n) R) ts)

unfoldable pub type_at : ℕ → Option (Reader Ty) → Reader Ty
type_at n R ts = with_read (λ v. map_type v.0 v.1) (both (rows (a_sign kinds.OpenBracket) (index_at n R) n) (base_at R) ts)

-- a type that doesn't begin with a name
unfoldable pub unnamed_at : ℕ → Option (Reader Ty) → Reader Ty
unnamed_at n R =
    choose (a_sign kinds.OpenBracket) (λ ts. with_read (λ v. map_type (v.0 ∷ v.1.0) v.1.1) (both (index_at n R) (both (rows (a_sign kinds.OpenBracket) (index_at n R) n) (base_at R)) ts))
    (choose (a_sign kinds.Int) (λ ts. with_read IntType (one (a_sign kinds.Int) ts))
    (choose (a_sign kinds.Bool) (λ ts. with_read BoolType (one (a_sign kinds.Bool) ts))
    (λ ts. with_read (λ v. InParens v.0 v.1) (enclosed kinds.Open kinds.Close R ts))))

-- a type with at most d brackets in one another, each list with at most n parts behind its first
unfoldable pub type_in : ℕ → ℕ → Reader Ty
type_in n zero = type_at n None
type_in n (suc d) = type_at n (Some (type_in n d))
