-- What is known of the parts of a node tells of the expressions there.
use Rattle.std.proofs.Common.{◌≡◌, true, List, [], ◌∷◌, length, map, Some, refl, ◌∙◌, arith}
use Rattle.std.proofs.lemmas.List.{length-map}
use Rattle.bg_base.specs.declared.pos.Pos.{Pos}
use Rattle.bg_ast.specs.Values as v
use Rattle.bg_ast.specs.Syntax.{Ex, Exs, NoMore, More}
use Rattle.bg_sense.specs.Typing.{Sig, HasType, HaveTypes}
use Rattle.bg_sense.specs.Typed.{IsConstant, IsLinear, AreLinear}
use Rattle.bg_kinds.specs.Faults.{is_none}
use Rattle.bg_typing.specs.Sides.{Side, is_typed_kind, are_typed, pair_faults, pairs_faults, matched_faults}
use Rattle.bg_typed.proofs.Bits.{and_left, and_right, split_none, wanted_kind, typed_some, matched_none}

-- where a side has a type, the expression has it and is linear; a constant side is a constant
pub record Good (s : Sig) (a : Side) (x : Ex) : Type 0 where
  pub typed : (t : v.Ty) → a.kind ≡ Some t → HasType x s t
  pub linear : (t : v.Ty) → a.kind ≡ Some t → IsLinear x
  pub constant : a.is_constant ≡ true → IsConstant x

abbrev pub AllGood : Sig → List Side → Exs → Type 0
AllGood s [] NoMore = Unit {0}
AllGood s [] (More x xs) = ⊥
AllGood s (a ∷ as_) NoMore = ⊥
AllGood s (a ∷ as_) (More x xs) = Good s a x × AllGood s as_ xs

paired : (s : Sig) (as_ : List Side) (xs : Exs) (ts : List v.Ty) → AllGood s as_ xs → length as_ ≡ length ts → are_typed as_ ≡ true → is_none (pairs_faults (map Some ts) as_) ≡ true → HaveTypes xs s ts
paired s [] NoMore [] g l t n = refl
paired s [] NoMore (w ∷ ts) g l t n = absurd (omega (arith, l))
paired s [] (More x xs) ts g l t n = absurd g
paired s (a ∷ as_) NoMore ts g l t n = absurd g
paired s (a ∷ as_) (More x xs) [] g l t n = absurd (omega (arith, l))
paired s (a ∷ as_) (More x xs) (w ∷ ts) g l t n =
    let here = split_none (pair_faults (Some w) a) (pairs_faults (map Some ts) as_) n in
    let is_typed = and_left (is_typed_kind a.kind) (are_typed as_) t in
    let rest = and_right (is_typed_kind a.kind) (are_typed as_) t in
    let long : length as_ ≡ length ts = omega (arith, l) in
    (g.0.typed w (wanted_kind a.start w a.kind is_typed here.0), paired s as_ xs ts g.1 long rest here.1)

pub matched_types : (s : Sig) (p : Pos) (as_ : List Side) (xs : Exs) (ts : List v.Ty) → AllGood s as_ xs → are_typed as_ ≡ true → is_none (matched_faults p (map Some ts) as_) ≡ true → HaveTypes xs s ts
matched_types s p as_ xs ts g t n =
    let both = matched_none p (map Some ts) as_ n in
    paired s as_ xs ts g (both.0 ∙ length-map ts Some) t both.1

pub are_linear : (s : Sig) (as_ : List Side) (xs : Exs) → AllGood s as_ xs → are_typed as_ ≡ true → AreLinear xs
are_linear s [] NoMore g t = tt
are_linear s [] (More x xs) g t = absurd g
are_linear s (a ∷ as_) NoMore g t = absurd g
are_linear s (a ∷ as_) (More x xs) g t =
    let is_typed = typed_some a.kind (and_left (is_typed_kind a.kind) (are_typed as_) t) in
    (g.0.linear is_typed.0 is_typed.1, are_linear s as_ xs g.1 (and_right (is_typed_kind a.kind) (are_typed as_) t))
