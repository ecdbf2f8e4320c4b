use Rattle.std.proofs.Common.{◌≡◌, ◌<◌, ℕ, zero, suc, Bool, true, false, ◌||◌, List, [], ◌∷◌, refl, ap, ◌∙◌, if◌then◌else◌, length, slice_index_or, arith}
use Rattle.std.specs.Prelude.{◌↔◌, All}
use Rattle.std.specs.List.{list_any, list_all}
use Rattle.std.specs.Cmp.Derive.{both_true}
use Rattle.std.proofs.lemmas.Bool.{and_parts}
use Rattle.bg_sound.specs.Told.{Axioms, Consistent, Contradictory, Undecided, Verdict, Proved, Refuted, Unknown, Judged, Outcome, is_proved, is_refuted, is_unknown, is_contradictory, is_undecided, has_refuted, has_unknown, Word, AllProved, SomeRefuted, SomeUnknown, word_of, status_of}

-- the word by whether a place is refuted, and whether one is unknown
abbrev pub word_by : Bool → Bool → Word
word_by r u = if r then SomeRefuted else if u then SomeUnknown else AllProved

neither : (a b : Bool) → word_by a b ≡ AllProved → (a ≡ false) × (b ≡ false)
neither true b h = absurd (let e : SomeRefuted ≡ AllProved = h in cc)
neither false true h = absurd (let e : SomeUnknown ≡ AllProved = h in cc)
neither false false h = (refl, refl)

word_is : (a b : Bool) → a ≡ false → b ≡ false → word_by a b ≡ AllProved
word_is a b e f = ap (λ (c : Bool). word_by c b) e ∙ ap (word_by false) f

or_none : (a b : Bool) → (a || b) ≡ false → (a ≡ false) × (b ≡ false)
or_none true b h = absurd (let e : true ≡ false = h in cc)
or_none false b h = (refl, h)

or_is : (a b : Bool) → a ≡ false → b ≡ false → (a || b) ≡ false
or_is a b e f = ap (λ (c : Bool). c || b) e ∙ f

-- ---- an implementation

known_from : (v : Verdict) → is_refuted v ≡ false → is_unknown v ≡ false → is_proved v ≡ true
known_from Proved a b = refl
known_from (Refuted i s ts choices) a b = cc
known_from (Unknown why) a b = cc

known_to : (v : Verdict) → is_proved v ≡ true → (is_refuted v ≡ false) × (is_unknown v ≡ false)
known_to Proved h = (refl, refl)
known_to (Refuted i s ts choices) h = cc
known_to (Unknown why) h = cc

proved_from : (js : List Judged) → has_refuted js ≡ false → has_unknown js ≡ false → list_all (λ (j : Judged). is_proved j.verdict) js ≡ true
proved_from [] a b = refl
proved_from (j ∷ js) a b =
    let r = or_none (is_refuted j.verdict) (has_refuted js) a in
    let u = or_none (is_unknown j.verdict) (has_unknown js) b in
    both_true (known_from j.verdict r.0 u.0) (proved_from js r.1 u.1)

verified_from : (js : List Judged) → list_all (λ (j : Judged). is_proved j.verdict) js ≡ true → (has_refuted js ≡ false) × (has_unknown js ≡ false)
verified_from [] h = (refl, refl)
verified_from (j ∷ js) h =
    let both = and_parts (is_proved j.verdict) (list_all (λ (k : Judged). is_proved k.verdict) js) h in
    let here = known_to j.verdict both.0 in
    let rest = verified_from js both.1 in
    (or_is (is_refuted j.verdict) (has_refuted js) here.0 rest.0, or_is (is_unknown j.verdict) (has_unknown js) here.1 rest.1)

pub verified_exactly : (js : List Judged) → (word_of js ≡ AllProved) ↔ (list_all (λ (j : Judged). is_proved j.verdict) js ≡ true)
verified_exactly js = (
  λ h. (let n = neither (has_refuted js) (has_unknown js) h in proved_from js n.0 n.1),
  λ h. (let n = verified_from js h in word_is (has_refuted js) (has_unknown js) n.0 n.1),
)

-- ---- a program

each_at : (os : List (List Judged)) → list_any has_refuted os ≡ false → list_any has_unknown os ≡ false → (k : ℕ) (d : List Judged) → k < length os → word_of (slice_index_or os k d) ≡ AllProved
each_at [] a b k d l = absurd (omega (arith, l))
each_at (js ∷ os) a b zero d l =
    word_is (has_refuted js) (has_unknown js) (or_none (has_refuted js) (list_any has_refuted os) a).0 (or_none (has_unknown js) (list_any has_unknown os) b).0
each_at (js ∷ os) a b (suc k) d l =
    each_at os (or_none (has_refuted js) (list_any has_refuted os) a).1 (or_none (has_unknown js) (list_any has_unknown os) b).1 k d (omega (arith, l))

each_to : (os : List (List Judged)) → All (λ (js : List Judged). word_of js ≡ AllProved) os → (list_any has_refuted os ≡ false) × (list_any has_unknown os ≡ false)
each_to [] h = (refl, refl)
each_to (js ∷ os) h =
    let here = neither (has_refuted js) (has_unknown js) (h 0 js (omega arith)) in
    let rest = each_to os (λ (k : ℕ) (d : List Judged) (l : k < length os). h (suc k) d (omega (arith, l))) in
    (or_is (has_refuted js) (list_any has_refuted os) here.0 rest.0, or_is (has_unknown js) (list_any has_unknown os) here.1 rest.1)

settled_from : (a : Axioms) → is_contradictory a ≡ false → is_undecided a ≡ false → a ≡ Consistent
settled_from Consistent c u = refl
settled_from Contradictory c u = cc
settled_from (Undecided why) c u = cc

abbrev status_by : Bool → Bool → ℕ
status_by a b = if a then 1 else if b then 2 else 0

both_false : (a b : Bool) → status_by a b ≡ 0 → (a ≡ false) × (b ≡ false)
both_false true b h = absurd (let no : ⊥ = omega (arith, h) in no)
both_false false true h = absurd (let no : ⊥ = omega (arith, h) in no)
both_false false false h = (refl, refl)

zero_from : (o : Outcome) → status_of o ≡ 0 → (o.axioms ≡ Consistent) × All (λ (js : List Judged). word_of js ≡ AllProved) o.implementations
zero_from o h =
    let w = both_false (is_contradictory o.axioms || list_any has_refuted o.implementations) (is_undecided o.axioms || list_any has_unknown o.implementations) h in
    let a = or_none (is_contradictory o.axioms) (list_any has_refuted o.implementations) w.0 in
    let b = or_none (is_undecided o.axioms) (list_any has_unknown o.implementations) w.1 in
    (settled_from o.axioms a.0 b.0, each_at o.implementations a.1 b.1)

zero_to : (o : Outcome) → (o.axioms ≡ Consistent) × All (λ (js : List Judged). word_of js ≡ AllProved) o.implementations → status_of o ≡ 0
zero_to o h =
    let n = each_to o.implementations h.1 in
    ap (λ (a : Axioms). status_by (is_contradictory a || list_any has_refuted o.implementations) (is_undecided a || list_any has_unknown o.implementations)) h.0
    ∙ ap (λ (r : Bool). status_by r (list_any has_unknown o.implementations)) n.0
    ∙ ap (status_by false) n.1

pub program_exactly : (o : Outcome) → (status_of o ≡ 0) ↔ ((o.axioms ≡ Consistent) × All (λ (js : List Judged). word_of js ≡ AllProved) o.implementations)
program_exactly o = (zero_from o, zero_to o)
