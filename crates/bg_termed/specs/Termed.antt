-- An implementation's passive blocks made flat.
use Rattle.std.specs.Prelude.{◌≡◌, ℕ, List, [], length}
use Rattle.bg_ast.specs.Values.{Ty}
use Rattle.bg_ast.specs.Syntax.{Proc, Impl, Prog}
use Rattle.bg_sense.specs.Typed.{IsTyped}
use Rattle.bg_passive.specs.Passive.{PassiveBlock}
use Rattle.bg_block_types.specs.Typed.{incarnations_in, passives_in}
use Rattle.bg_linear.specs.declared.scalar.Sort.{Sort}
use Rattle.bg_terms.specs.Terms.{Term}
use Rattle.bg_terms.specs.Flat.{HaveNoBodies}
use Rattle.bg_terms.specs.Typed.{types_with}
use Rattle.bg_flatten.specs.Numbered.{terms_of, flat_of}
use Rattle.bg_flat_clauses.specs.Sorts.{flat_sorts}

-- a typed program without constants, whose functions have tables and no bodies
pub record IsTabled (p : Prog) : Type 0 where
  pub typed : IsTyped p
  pub constants : p.constants ≡ []
  pub bodies : HaveNoBodies p.functions

-- how many incarnations the implementation with this number has, which is one of this procedure
abbrev pub count_in : Prog → ℕ → Impl → Proc → ℕ
count_in p k m q = length (incarnations_in p k m q)

-- its terms, and its passive blocks made flat over them
abbrev pub terms_in : Prog → ℕ → Impl → Proc → List Term
terms_in p k m q = terms_of p.functions (incarnations_in p k m q) (passives_in p k m q)

abbrev pub flats_in : Prog → ℕ → Impl → Proc → List PassiveBlock
flats_in p k m q = flat_of p.functions (incarnations_in p k m q) (passives_in p k m q)

-- the types of its incarnations and terms, and the sorts of what stands for them
abbrev pub types_in : Prog → ℕ → Impl → Proc → List Ty
types_in p k m q = types_with (incarnations_in p k m q) (terms_in p k m q)

abbrev pub sorts_in : Prog → ℕ → Impl → Proc → List Sort
sorts_in p k m q = flat_sorts (types_in p k m q)
