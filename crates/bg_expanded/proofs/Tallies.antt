-- Constants that are counted by their types, from the last one on.
use Rattle.std.proofs.Common.{◌≡◌, ℕ, zero, suc, ◌+◌, ◌*◌, ◌-◌, ◌^◌, ◌<◌, ◌≤◌, nat_lt, min, map, Bool, true, false, List, [], ◌∷◌, ◌++◌, length, get_or, drop, refl, sym, ap, ◌∙◌, subst, arith}
use Rattle.std.specs.Prelude.{if◌then◌else◌}
use Rattle.std.proofs.lemmas.Bool.{ltb-true, ltb-false}
use Rattle.std.proofs.lemmas.List.{drop_all, get_or_push, length_push}
use Rattle.bg_ast.specs.Values.{Ty}
use Rattle.bg_sense.specs.Types.{ty_eq}
use Rattle.bg_kinds.specs.Views.{ref_in}
use Rattle.bg_kinds.proofs.Sameness.{types_same}
use Rattle.bg_opened.specs.Unique.{pairs_with}
use Rattle.bg_opening.specs.Constants.{unique_of}
use Rattle.bg_opening.specs.declared.uniques.Unique.{Unique}
use Rattle.bg_opening.specs.Nexts.{type_code, code_of, IsNext, AreNexts}
use Rattle.bg_opening.proofs.NextSteps.{at_mapped, at_front, next_in, to_next}
use Rattle.bg_expanded.specs.Bodies.{IsAlike}
use Rattle.bg_expanded.specs.Pairs.{one_with, count_with, pair_count, AreCounts}
use Rattle.bg_expanded.proofs.Within.{drop_here}
use Rattle.bg_expanded.proofs.PairNodes.{length_with}

-- ---- one by one

-- one more is compared
pub one_compared : (t : Ty) (told : List Unique) (i : ℕ) (x : Unique) (old new n : ℕ) (whole : ℕ) → i < length told → x ≡ get_or told i x → n ≡ one_with t (ref_in x.kind) → new ≡ min (old + n) (2 ^ 64 - 1) → IsAlike (old + count_with t (map unique_of (drop i told))) whole → IsAlike (new + count_with t (map unique_of (drop (i + 1) told))) whole
one_compared t told i x old new n whole l e is more inv =
    let here : count_with t (map unique_of (drop i told)) ≡ n + count_with t (map unique_of (drop (i + 1) told)) = ap (λ (xs : List Unique). count_with t (map unique_of xs)) (drop_here told i x l e) ∙ ap (λ (m : ℕ). m + count_with t (map unique_of (drop (i + 1) told))) (sym is) in
    omega (arith, here, more, inv)

pub all_compared : (t : Ty) (told : List Unique) (i now whole : ℕ) → length told ≤ i → IsAlike (now + count_with t (map unique_of (drop i told))) whole → IsAlike now whole
all_compared t told i now whole l inv =
    let nothing : count_with t (map unique_of (drop i told)) ≡ 0 = ap (λ (xs : List Unique). count_with t (map unique_of xs)) (drop_all i told l) in
    omega (arith, nothing, inv)

-- ---- from the last one on

module _ (all : List Unique) where
  -- the last so many
  abbrev pub last : ℕ → List (ℕ × Ty)
  last n = map unique_of (drop (length all - n) all)

  last_more : (done : ℕ) (x : Unique) → done < length all → x ≡ get_or all ((length all - 1) - done) x → last (done + 1) ≡ unique_of x ∷ last done
  last_more done x h e =
      let place : length all - (done + 1) ≡ (length all - 1) - done = omega (arith, h) in
      let more : ((length all - 1) - done) + 1 ≡ length all - done = omega (arith, h) in
      ap (λ (i : ℕ). map unique_of (drop i all)) place
      ∙ (ap (map unique_of) (drop_here all ((length all - 1) - done) x (omega (arith, h)) e)
      ∙ ap (λ (i : ℕ). unique_of x ∷ map unique_of (drop i all)) more)

  none : last 0 ≡ []
  none = ap (map unique_of) (drop_all (length all - 0) all (omega arith))

  whole : (done : ℕ) → length all ≤ done → last done ≡ map unique_of all
  whole done h =
      let from : length all - done ≡ 0 = omega (arith, h) in ap (λ (i : ℕ). map unique_of (drop i all)) from

  -- those behind a place
  behind : (done place : ℕ) → done < length all → place ≡ (length all - 1) - done → map unique_of (drop (place + 1) all) ≡ last done
  behind done place h e =
      let from : place + 1 ≡ length all - done = omega (arith, h, e) in ap (λ (i : ℕ). map unique_of (drop i all)) from

  pub as_last : (done place : ℕ) (x : Unique) (n : ℕ) → done < length all → place ≡ (length all - 1) - done → IsAlike n (count_with (ref_in x.kind) (map unique_of (drop (place + 1) all))) → IsAlike n (count_with (ref_in x.kind) (last done))
  as_last done place x n h e is = is ∙ ap (λ (xs : List (ℕ × Ty)). min 1000001 (count_with (ref_in x.kind) xs)) (behind done place h e)

  -- so many nodes have the pairs of the last ones
  abbrev pub Has : ℕ → ℕ → ℕ → Type 0
  Has old now done = IsAlike now (old + 3 * pair_count (last done))

  pub none_has : (old : ℕ) → Has old old 0
  none_has old = let nothing : pair_count (last 0) ≡ 0 = ap pair_count none in omega (arith, nothing)

  pub all_has : (old now done : ℕ) → length all ≤ done → Has old now done → IsAlike now (old + 3 * pair_count (map unique_of all))
  all_has old now done l h = h ∙ ap (λ (xs : List (ℕ × Ty)). min 1000001 (old + 3 * pair_count xs)) (whole done l)

  pub has_more : (done : ℕ) (x : Unique) (k old now next : ℕ) → done < length all → x ≡ get_or all ((length all - 1) - done) x → IsAlike k (count_with (ref_in x.kind) (last done)) → Has old now done → IsAlike next (now + 3 * k) → Has old next (done + 1)
  has_more done x k old now next l e counts has more =
      subst (λ (xs : List (ℕ × Ty)). IsAlike next (old + 3 * pair_count xs)) (sym (last_more done x l e))
      (added_pairs (count_with (ref_in x.kind) (last done)) (pair_count (last done)) k old now next counts has more)
    where
      added_pairs : (n m k old now next : ℕ) → IsAlike k n → IsAlike now (old + 3 * m) → IsAlike next (now + 3 * k) → IsAlike next (old + 3 * (n + m))
      added_pairs n m k old now next a b c = omega (arith, a, b, c)

-- ---- from the next place on

-- as many are behind a place as from the next one on
counts_to : (told : List Unique) (t : Ty) (p m : ℕ) → IsNext (map code_of told) p m → get_or (map code_of told) p 0 ≡ type_code 0 t → count_with t (map unique_of (drop (p + 1) told)) ≡ count_with t (map unique_of (drop m told))
counts_to told t p m next code =
    sym (length_with 0 t (map unique_of (drop (p + 1) told)))
    ∙ (ap (λ (qs : List (ℕ × ℕ)). length qs) (to_next told 0 t p m next code)
    ∙ length_with 0 t (map unique_of (drop m told)))

module _ (told : List Unique) (nexts : List ℕ) (p m : ℕ) (first : Unique) (inside : p < length told) (is : first ≡ get_or told p first) (are : AreNexts (map code_of told) nexts) (e : m ≡ get_or nexts ((length nexts - 1) - p) 0) where
  abbrev pub T : Ty
  T = ref_in first.kind

  pub next_is : IsNext (map code_of told) p m
  next_is = next_in told nexts p m inside are e

  same_behind : count_with T (map unique_of (drop (p + 1) told)) ≡ count_with T (map unique_of (drop m told))
  same_behind = counts_to told T p m next_is (sym (at_mapped code_of told p first inside is))

  pub counted_from : (n : ℕ) → IsAlike n (count_with T (map unique_of (drop m told))) → IsAlike n (count_with T (map unique_of (drop (p + 1) told)))
  counted_from n h = h ∙ ap (λ (k : ℕ). min 1000001 k) (sym same_behind)

  pub none_from : length told ≤ m → IsAlike 0 (count_with T (map unique_of (drop (p + 1) told)))
  none_from l =
      let nothing : count_with T (map unique_of (drop m told)) ≡ 0 = ap (λ (xs : List Unique). count_with T (map unique_of xs)) (drop_all m told l) in
      let all : count_with T (map unique_of (drop (p + 1) told)) ≡ 0 = same_behind ∙ nothing in
      ap (λ (k : ℕ). min 1000001 k) (sym all)

-- one more than are behind the one there, which is of the same type
pub one_more : (told : List Unique) (t : Ty) (i : ℕ) (x : Unique) (n new : ℕ) → i < length told → x ≡ get_or told i x → ty_eq t (ref_in x.kind) ≡ true → IsAlike n (count_with (ref_in x.kind) (map unique_of (drop (i + 1) told))) → new ≡ min (n + 1) (2 ^ 64 - 1) → IsAlike new (count_with t (map unique_of (drop i told)))
one_more told t i x n new l e same counts is =
    let one : one_with t (ref_in x.kind) ≡ 1 = ap (λ (b : Bool). if b then 1 else 0) same in
    let here : count_with t (map unique_of (drop i told)) ≡ 1 + count_with t (map unique_of (drop (i + 1) told)) = ap (λ (xs : List Unique). count_with t (map unique_of xs)) (drop_here told i x l e) ∙ ap (λ (m : ℕ). m + count_with t (map unique_of (drop (i + 1) told))) one in
    let types : count_with (ref_in x.kind) (map unique_of (drop (i + 1) told)) ≡ count_with t (map unique_of (drop (i + 1) told)) = ap (λ (u : Ty). count_with u (map unique_of (drop (i + 1) told))) (sym (types_same t (ref_in x.kind) same)) in
    omega (arith, here, types, counts, is)

-- ---- what is known when so many are done

-- what is in one place is the same
there_same : (xs : List Unique) (i : ℕ) (x y : Unique) → i < length xs → x ≡ get_or xs i x → y ≡ get_or xs i y → x ≡ y
there_same [] i x y l e f = absurd (omega (arith, l))
there_same (z ∷ zs) zero x y l e f = e ∙ sym f
there_same (z ∷ zs) (suc i) x y l e f = there_same zs i x y (omega (arith, l)) e f

same_there : (xs : List Unique) (i j : ℕ) (x y : Unique) → i < length xs → i ≡ j → x ≡ get_or xs i x → y ≡ get_or xs j y → x ≡ y
same_there xs i j x y l one e f = there_same xs i x y l e (f ∙ ap (λ (k : ℕ). get_or xs k y) (sym one))

pub record Counted (told : List Unique) (done : ℕ) (counts : List ℕ) : Type 0 where
  pub are : AreCounts told (length told - done) counts
  pub many : length counts ≡ done

pub none_counted : (told : List Unique) (counts : List ℕ) → counts ≡ [] → Counted told 0 counts
none_counted told counts e = record {
  are = λ j x a b is. absurd (omega (arith, a, b));
  many = ap length e;
}

module _ (told : List Unique) (done p : ℕ) (counts : List ℕ) (h : done < length told) (at : p ≡ (length told - 1) - done) (s : Counted told done counts) where
  pub from_here : AreCounts told (p + 1) counts
  from_here =
      let from : length told - done ≡ p + 1 = omega (arith, h, at) in
      subst (λ (i : ℕ). AreCounts told i counts) from s.are

  pub one_counted : (x : Unique) (n : ℕ) (more : List ℕ) → x ≡ get_or told p x → IsAlike n (count_with (ref_in x.kind) (map unique_of (drop (p + 1) told))) → more ≡ counts ++ n ∷ [] → Counted told (done + 1) more
  one_counted x n more e is pushed = record {
    are = subst (AreCounts told (length told - (done + 1))) (sym pushed) each;
    many =
        let many = s.many in
        ap (λ (xs : List ℕ). length xs) pushed ∙ (length_push counts n ∙ ap (λ (k : ℕ). k + 1) many);
  }
    where
      each : AreCounts told (length told - (done + 1)) (counts ++ n ∷ [])
      each j y a b is_there = by (nat_lt p j) refl
        where
          by : (c : Bool) → nat_lt p j ≡ c → IsAlike (get_or (counts ++ n ∷ []) ((length told - 1) - j) 0) (count_with (ref_in y.kind) (map unique_of (drop (j + 1) told)))
          by true u =
              let less = ltb-true p j u in
              let many = s.many in
              ap (λ (k : ℕ). min 1000001 k) (at_front counts n ((length told - 1) - j) (omega (arith, less, at, many, h, b))) ∙ s.are j y (omega (arith, less, at, h)) b is_there
          by false u =
              let more' = ltb-false p j u in
              let many = s.many in
              let one : p ≡ j = omega (arith, more', a, at, h) in
              let place : length counts ≡ (length told - 1) - j = omega (arith, one, at, many, h) in
              let same : x ≡ y = same_there told p j x y (omega (arith, at, h)) one e is_there in
              ap (λ (k : ℕ). min 1000001 k) (get_or_push counts n 0 ((length told - 1) - j) place)
              ∙ (is
              ∙ (ap (λ (i : ℕ). min 1000001 (count_with (ref_in x.kind) (map unique_of (drop (i + 1) told)))) one
              ∙ ap (λ (z : Unique). min 1000001 (count_with (ref_in z.kind) (map unique_of (drop (j + 1) told)))) same))
