-- What a leaf comes to.
use Rattle.std.proofs.Common.{◌≡◌, ℕ, zero, suc, ◌+◌, ◌<◌, Bool, true, false, List, [], ◌∷◌, ◌++◌, length, map, Some, refl, sym, ap, ◌∙◌, subst, arith, inl}
use Rattle.std.specs.Prelude.{slice_get, not, nat_lt, ◌||◌, if◌then◌else◌}
use Rattle.std.proofs.lemmas.Bool.Decides.{nat_tests}
use Rattle.bg_ast.specs.Values.{Val, Ty, MapTy, KeyType, truth_of, val_eq}
use Rattle.bg_ast.specs.Syntax.{Fact, Binary, Implies, Fun}
use Rattle.bg_sense.specs.Eval.{value_at, ev}
use Rattle.bg_sense.specs.Types.{are_of}
use Rattle.bg_sense.proofs.Bools.{and_left, and_right, both}
use Rattle.bg_terms.specs.Terms.{Term, over, head_eq}
use Rattle.bg_terms.specs.Alike.{scalar_ty}
use Rattle.bg_terms.specs.Typed.{TermsTyped, types_with}
use Rattle.bg_terms.specs.Instances as i
use Rattle.bg_terms.specs.Instances.{term, equal, all_equal, congruent, instance_ex}
use Rattle.bg_terms.specs.Closed.{IsFinished}
use Rattle.bg_terms.proofs.Heads.{head_refl}
use Rattle.bg_terms.proofs.True.{equal_back}
use Rattle.bg_numbered.specs.Indexed.{is_indexed, are_indexed}
use Rattle.bg_numbered.specs.Lines.{Says, Names, after_line, after_lines, said_by, instances_in, is_there, are_there}
use Rattle.bg_term_table.specs.declared.line.Line as code
use Rattle.bg_term_table.specs.declared.line.Line.TheVariants.{Congruent}
use Rattle.bg_term_table.specs.Lines.{line_of, lines_of}
use Rattle.bg_scalar.specs.declared.scalar.Scalar.{Scalar}
use Rattle.bg_scalar.specs.Values.{val_of}
use Rattle.bg_wanted.specs.Scalars.{scalars_in}
use Rattle.bg_wanted.specs.declared.class.Class.{Class}
use Rattle.bg_wanted.specs.declared.names.Pair.{Pair}
use Rattle.bg_wanted.specs.Rows.{RowOf, AreRows}
use Rattle.bg_wanted.specs.Firsts.{IsApart}
use Rattle.bg_wanted.specs.Updates.{AreSettled}
use Rattle.bg_wanted.specs.Wanting.{Each, IsWanted, IsWanting}
use Rattle.bg_wanted.specs.Alike.{AreApart, AreOfOne, IsAlike}
use Rattle.bg_wanted.proofs.ClassLaws.{one_class}
use Rattle.bg_wanted.proofs.Settlement.{Its, of_row, functions, here, elsewhere, rows_settled}
use Rattle.bg_wanted.proofs.Settling.{finished, settled}
use Rattle.bg_wanted.proofs.Leaves.{each_scalar}
use Rattle.bg_wanted.proofs.Naming.{wanted_names}

none_behind : {A : Type 0} (xs : List A) → xs ++ [] ≡ xs
none_behind [] = refl
none_behind (x ∷ xs) = ap (λ l. x ∷ l) (none_behind xs)

not_or : (a b : Bool) → a ≡ true → b ≡ false → (not a || b) ≡ false
not_or true b e f = f
not_or false b e f = absurd (let bad : ⊥ = cc in bad)

below : {A : Type 0} (xs : List A) (a : ℕ) (x : A) → slice_get xs a ≡ Some x → a < length xs
below [] a x e = absurd (let bad : ⊥ = cc in bad)
below (y ∷ xs) zero x e = omega arith
below (y ∷ xs) (suc a) x e = let h = below xs a x e in omega (arith, h)

lt_is : (a b : ℕ) → a < b → nat_lt a b ≡ true
lt_is a b h = grind (arith, nat_tests, h)

-- ---- congruences that are false

module _ (values : List Scalar) (incs : List Ty) (ts : List Term) (rs : List RowOf) (rows : AreRows values (length incs) ts 0 ts rs) where
  abbrev s : List Val
  s = scalars_in values

  abbrev n : ℕ
  n = length incs

  -- a congruence of terms that are there, and false
  record IsWrong (e : code.Line) : Type 0 where
    a : ℕ
    b : ℕ
    is : e ≡ Congruent a b
    first : a < length ts
    second : b < length ts
    says : truth_of (ev (instance_ex (length incs) ts (i.Congruent a b)) (over (scalars_in values))) ≡ false

  congruence_false : (a b : ℕ) (x y : Term) (r q : RowOf) → Its values (length incs) ts rs rows a x r → Its values (length incs) ts rs rows b y q → (r.class ≡ q.class) × (r.args ≡ q.args) → val_eq (val_of r.value) (val_of q.value) ≡ false → truth_of (ev (instance_ex (length incs) ts (i.Congruent a b)) (over (scalars_in values))) ≡ false
  congruence_false a b x y r q u v key differ =
      ap (λ o. truth_of (ev (congruent n a b o (slice_get ts b)) (over s))) u.term_there
      ∙ (ap (λ o. truth_of (ev (congruent n a b (Some x) o) (over s))) v.term_there
      ∙ on (head_eq x.head y.head) (head_refl x.head y.head (one_class ts a b x y u.term_there v.term_there (sym u.its_class ∙ (key.0 ∙ v.its_class)))))
    where
      on : (c : Bool) → c ≡ true → truth_of (ev (if c then Binary Implies (all_equal x.args y.args) (equal (term n a) (term n b)) else Fact true) (over s)) ≡ false
      on false k = absurd (let bad : ⊥ = cc in bad)
      on true k =
          not_or (truth_of (ev (all_equal x.args y.args) (over s))) (val_eq (value_at s (n + a)) (value_at s (n + b)))
          (equal_back s x.args y.args (u.args ∙ (ap scalars_in key.1 ∙ sym v.args)))
          (ap (λ z. val_eq z (value_at s (n + b))) u.value ∙ (ap (val_eq (val_of r.value)) v.value ∙ differ))

  wrong : (e : code.Line) → IsApart rs e → IsWrong e
  wrong e w =
      let u = of_row values n ts rs rows w.a w.r w.first in
      let v = of_row values n ts rs rows w.b w.q w.other in
      record {
        a = w.a;
        b = w.b;
        is = w.is;
        first = below ts w.a u.0 u.1.term_there;
        second = below ts w.b v.0 v.1.term_there;
        says =
            congruence_false w.a w.b u.0 v.0 w.r w.q u.1 v.1 (ap (λ (k : Class × List Scalar). k.0) w.key, ap (λ (k : Class × List Scalar). k.1) w.key) w.differ;
      }

  all_wrong : (es : List code.Line) → Each (IsApart rs) es → Each IsWrong es
  all_wrong [] h = tt
  all_wrong (e ∷ es) h = (wrong e h.0, all_wrong es h.1)

  -- they bring no terms
  after_one : (e : code.Line) → IsWrong e → after_line incs ts (line_of e) ≡ ts
  after_one e w = ap (λ x. after_line incs ts (line_of x)) w.is ∙ none_behind ts

  after_all : (es : List code.Line) → Each IsWrong es → after_lines incs ts (lines_of es) ≡ ts
  after_all [] h = refl
  after_all (e ∷ es) h =
      ap (λ us. after_lines incs us (lines_of es)) (after_one e h.0) ∙ after_all es h.1

  there_all : (es : List code.Line) → Each IsWrong es → are_there incs ts (lines_of es) ≡ true
  there_all [] h = refl
  there_all (e ∷ es) h =
      both (is_there incs ts (line_of e)) (are_there incs (after_line incs ts (line_of e)) (lines_of es))
      (ap (λ x. is_there incs ts (line_of x)) w.is ∙ both (nat_lt w.a (length ts)) (nat_lt w.b (length ts)) (lt_is w.a (length ts) w.first) (lt_is w.b (length ts) w.second))
      (ap (λ us. are_there incs us (lines_of es)) (after_one e w) ∙ there_all es h.1)
    where
      w : IsWrong e
      w = h.0

  said : (e : code.Line) (w : IsWrong e) → said_by (line_of e) ≡ i.Congruent w.a w.b ∷ []
  said e w = ap (λ x. said_by (line_of x)) w.is

  wanted_all : (es : List code.Line) → Each IsWrong es → Each (IsWanted s n ts ts) (instances_in (lines_of es))
  wanted_all [] h = tt
  wanted_all (e ∷ es) h =
      subst (λ l. Each (IsWanted s n ts ts) (l ++ instances_in (lines_of es))) (sym (said e h.0)) (inl h.0.says, wanted_all es h.1)

  some_said : (e : code.Line) (es : List code.Line) → IsWrong e → 0 < length (instances_in (lines_of (e ∷ es)))
  some_said e es w = subst (λ l. 0 < length (l ++ instances_in (lines_of es))) (sym (said e w)) (omega arith)

  not_finished : (e : code.Line) → IsWrong e → IsFinished s n ts (types_with incs ts) → ⊥
  not_finished e w done =
      let bad : false ≡ true = sym w.says ∙ done.congruent w.a w.b in let no : ⊥ = cc in no

  -- false congruences are wanted, where there are any
  pub wrong_wanted : (es : List code.Line) → (es ≡ [] → ⊥) → Each (IsApart rs) es → IsWanting incs ts (scalars_in values) (lines_of es)
  wrong_wanted [] some h = absurd (some refl)
  wrong_wanted (e ∷ es) some h =
      let all = all_wrong (e ∷ es) h in
      record {
        there = there_all (e ∷ es) all;
        some = some_said e es all.0;
        wanted =
            subst (λ us. Each (IsWanted s n ts us) (instances_in (lines_of (e ∷ es)))) (sym (after_all (e ∷ es) all)) (wanted_all (e ∷ es) all);
        used =
            λ a low high. absurd (let size : length (after_lines incs ts (lines_of (e ∷ es))) ≡ length ts = ap length (after_all (e ∷ es) all) in omega (arith, size, low, high));
        unfinished = not_finished e all.0;
      }

  -- ---- settled rows

  module _ (fs : List Fun) (terms : TermsTyped fs incs ts) (scalars : are_of (map scalar_ty (types_with incs ts)) (scalars_in values) ≡ true) where
    pub leaf_finished : AreSettled rs → AreApart s n ts (types_with incs ts) → IsFinished (scalars_in values) (length incs) ts (types_with incs ts)
    leaf_finished done apart =
        finished fs incs ts terms s (each_scalar incs ts s scalars)
        (record {
          functions = functions values n ts rs rows done;
          here = λ u ks t m v qs up. here values n ts rs rows done u ks t m v qs up;
          elsewhere = λ u ks t m v qs up. elsewhere values n ts rs rows done u ks t m v qs up;
          apart = apart;
        })

    pub leaf_settled : IsFinished (scalars_in values) (length incs) ts (types_with incs ts) → AreSettled rs
    leaf_settled done =
        rows_settled values n ts rs rows (types_with incs ts) (settled fs incs ts terms s (each_scalar incs ts s scalars) done)

-- ---- names of maps that are alike

indexed_at : (tys : List Ty) (j : ℕ) (t : Ty) → are_indexed tys ≡ true → slice_get tys j ≡ Some t → is_indexed t ≡ true
indexed_at [] j t h e = absurd (let bad : ⊥ = cc in bad)
indexed_at (u ∷ tys) zero t h e =
    let same : u ≡ t = cc in
    ap is_indexed (sym same) ∙ and_left (is_indexed u) (are_indexed tys) h
indexed_at (u ∷ tys) (suc j) t h e = indexed_at tys j t (and_right (is_indexed u) (are_indexed tys) h) e

pub names_wanted : (incs : List Ty) (ts : List Term) (s : List Val) (a b parts one two : ℕ) → are_indexed (types_with incs ts) ≡ true → AreOfOne (types_with incs ts) a b parts → one ≡ length ts + parts → two ≡ one + 1 → (IsFinished s (length incs) ts (types_with incs ts) → ⊥) → IsWanting incs ts s (Names a b ∷ Says (i.Apart one two) ∷ [])
names_wanted incs ts s a b parts one two indexed w at next unfinished =
    by w.keys refl
  where
    by : (keys : List KeyType) → w.keys ≡ keys → IsWanting incs ts s (Names a b ∷ Says (i.Apart one two) ∷ [])
    by [] e =
        let none : is_indexed (MapTy w.keys w.gives) ≡ true = indexed_at (types_with incs ts) a (MapTy w.keys w.gives) indexed w.first in
        let bad : false ≡ true = sym (ap (λ ks. is_indexed (MapTy ks w.gives)) e) ∙ none in
        absurd (let no : ⊥ = cc in no)
    by (k ∷ ks) e =
        let many : parts ≡ length (k ∷ ks) = w.its_parts ∙ ap length e in
        wanted_names incs ts s k ks w.gives a b (w.first ∙ ap (λ l. Some (MapTy l w.gives)) e) (w.second ∙ ap (λ l. Some (MapTy l w.gives)) e) one two (omega (arith, at, many)) (omega (arith, next)) unfinished

-- two maps with different numbers and one table are of one type, and the terms aren't finished
module _ (s : List Val) (n : ℕ) (ts : List Term) (tys : List Ty) (pair : Pair) (w : IsAlike s n ts tys pair) where
  pub alike_of_one : AreOfOne tys pair.first pair.second pair.parts
  alike_of_one =
      record { keys = w.keys; gives = w.gives; first = w.first; second = w.second; its_parts = w.parts }

  pub alike_unfinished : IsFinished s n ts tys → ⊥
  alike_unfinished done =
      let apart = done.apart pair.first pair.second w.keys w.gives w.first w.second w.differ in
      let bad : false ≡ true = sym apart ∙ w.alike in
      let no : ⊥ = cc in
      no

-- ---- lists as the code has them

pub empty_is : {A : Type 0} (xs : List A) → length xs ≡ 0 → xs ≡ []
empty_is [] h = refl
empty_is (x ∷ xs) h = absurd (let bad : ⊥ = cc in bad)

pub not_empty : {A : Type 0} (xs : List A) → 0 < length xs → xs ≡ [] → ⊥
not_empty [] h e = omega (arith, h)
not_empty (x ∷ xs) h e = let bad : ⊥ = cc in bad

pub two_pushed : (first second third : List code.Line) (a b : code.Line) → first ≡ [] → second ≡ first ++ a ∷ [] → third ≡ second ++ b ∷ [] → third ≡ a ∷ b ∷ []
two_pushed first second third a b e f g =
    g ∙ (ap (λ l. l ++ b ∷ []) f ∙ ap (λ l. (l ++ a ∷ []) ++ b ∷ []) e)
