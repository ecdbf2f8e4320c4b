-- The types of declared variables, one after the other.
use Rattle.std.proofs.Common.{◌≡◌, ℕ, ap, sym, ◌∙◌, List, [], ◌∷◌, ◌++◌, append_assoc, refl}
use Rattle.std.specs.Prelude.{map}
use Rattle.bg_ast.specs.Values as v
use Rattle.bg_ast.specs.Resolved as r
use Rattle.bg_ast.specs.Meaning.{type_in, decl_of}
use Rattle.bg_sense.specs.Types.{types_of}

module _ (named : ℕ → v.Ty) where
  abbrev types_all : List r.Declared → List v.Ty
  types_all ds = types_of (map (decl_of named) ds)

  types_append : (xs ys : List r.Declared) → types_all (xs ++ ys) ≡ types_all xs ++ types_all ys
  types_append [] ys = refl
  types_append (x ∷ xs) ys = ap (λ l. type_in named x.ty ∷ l) (types_append xs ys)

  -- declarations of three kinds
  pub in_a_row : (xs ys zs : List r.Declared) (a b c : List v.Ty) → a ≡ types_of (map (decl_of named) xs) → b ≡ a ++ types_of (map (decl_of named) ys) → c ≡ b ++ types_of (map (decl_of named) zs) → c ≡ types_of (map (decl_of named) (xs ++ (ys ++ zs)))
  in_a_row xs ys zs a b c h k l =
      l
      ∙ ap (λ x. x ++ types_all zs) k
      ∙ ap (λ x. (x ++ types_all ys) ++ types_all zs) h
      ∙ append_assoc (types_all xs) (types_all ys) (types_all zs)
      ∙ ap (λ x. types_all xs ++ x) (sym (types_append ys zs))
      ∙ sym (types_append xs (ys ++ zs))
