-- An implementation's flat blocks behind lines, which bring terms and say what instances say.
use Rattle.std.specs.Prelude.{ℕ, List}
use Rattle.bg_ast.specs.Values.{Val, Ty}
use Rattle.bg_ast.specs.Syntax.{Proc, Impl, Prog}
use Rattle.bg_passive.specs.Passive.{PassiveBlock}
use Rattle.bg_block_types.specs.Typed.{incarnations_in, passives_in}
use Rattle.bg_linear.specs.declared.scalar.Sort.{Sort}
use Rattle.bg_terms.specs.Terms.{Term}
use Rattle.bg_terms.specs.Typed.{types_with}
use Rattle.bg_flat.specs.Blocks.{in_front}
use Rattle.bg_flat.specs.Fronts.{stated}
use Rattle.bg_flat_clauses.specs.Sorts.{flat_sorts}
use Rattle.bg_flatten.specs.Flattens.{AreFlattened}
use Rattle.bg_faithful.specs.Encoded.{Encoding, Encodes}
use Rattle.bg_numbered.specs.Lines.{Line, after_lines, instances_in}
use Rattle.bg_read_off.specs.Built.{built_all}
use Rattle.bg_termed.specs.Termed.{count_in, terms_in, flats_in}

-- its passive blocks are made flat over its terms
abbrev pub HasFlats : Prog → ℕ → Impl → Proc → Type 0
HasFlats p k m q =
    AreFlattened p.functions (incarnations_in p k m q) (passives_in p k m q) (terms_in p k m q) (flats_in p k m q)

-- its terms, and those that lines bring
abbrev pub lined_terms : Prog → ℕ → Impl → Proc → List Line → List Term
lined_terms p k m q ls = after_lines (incarnations_in p k m q) (terms_in p k m q) ls

-- the types of incarnations and terms, and the sorts of what stands for them
abbrev pub lined_types : Prog → ℕ → Impl → Proc → List Line → List Ty
lined_types p k m q ls = types_with (incarnations_in p k m q) (lined_terms p k m q ls)

abbrev pub lined_sorts : Prog → ℕ → Impl → Proc → List Line → List Sort
lined_sorts p k m q ls = flat_sorts (lined_types p k m q ls)

-- the flat blocks behind the instances of lines
abbrev pub lined_behind : Prog → ℕ → Impl → Proc → List Line → List PassiveBlock
lined_behind p k m q ls =
    in_front (stated (count_in p k m q) (lined_terms p k m q ls) (instances_in ls)) (flats_in p k m q)

-- blocks of forms that say what the implementation's flat blocks say behind these lines
abbrev pub IsLinedEncoding : Prog → ℕ → Impl → Proc → List Line → Encoding → Type 0
IsLinedEncoding p k m q ls a = Encodes (lined_sorts p k m q ls) p.candidates (lined_behind p k m q ls) a

-- the values behind the scalars of incarnations and terms
abbrev pub lined_built : Prog → ℕ → Impl → Proc → List Line → List Val → List Val
lined_built p k m q ls vs = built_all (count_in p k m q) (lined_terms p k m q ls) (lined_types p k m q ls) vs
