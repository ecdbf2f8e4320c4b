-- The relations of numbers with which chains begin.
use Rattle.std.proofs.Common.{◌≡◌, ◌<◌, ◌≤◌, ◌+◌, ℕ, suc, Bool, true, false, List, [], ◌∷◌, ◌++◌, length, take, drop, map, get_or, refl, sym, ap, ◌∙◌, subst, arith}
use Rattle.std.specs.Prelude.{◌&&◌, if◌then◌else◌}
use Rattle.std.proofs.lemmas.List.{take-append-drop, take_more, drop_all}
use Rattle.bg_text.specs.declared.expr.InfixSign.{InfixSign}
use Rattle.bg_text.specs.declared.expr.InfixSign.TheVariants as op
use Rattle.bg_ast.specs.declared.resolved.Link.{Link}
use Rattle.bg_ast.specs.Syntax as s
use Rattle.bg_ast.specs.Meaning as m
use Rattle.bg_ast.specs.Resolved as r
use Rattle.bg_ast.specs.Views as u
use Rattle.bg_formed.proofs.Below.{and_left, and_right, and_both}
use Rattle.bg_linear.specs.declared.scalar.Sort.{Sort}
use Rattle.bg_linear.specs.Chains.{is_implies}
use Rattle.bg_linear.specs.Relations.{relates, op_of}
use Rattle.bg_linear.specs.Sorts.{kind_ex, is_number}
use Rattle.bg_linear.proofs.Sides.{no_truth, no_equal}
use Rattle.bg_linear.proofs.Chained.{drop_item}
use Rattle.bg_atoms.specs.Kinds.{IsTruth, IsNumber}
use Rattle.bg_atoms.specs.Over.{relates_numbers}
use Rattle.bg_atoms.specs.Made.{behind}
use Rattle.bg_atoms.specs.Turned.{until_implies}
use Rattle.bg_atoms.specs.Heads.{is_arithmetic, all_arithmetic, begins_arithmetic, IsSums, Relates, IsRelation, NoneRelates, IsHead, IsNext}
use Rattle.bg_atoms.proofs.Chained.{is_logical, NoNumber, no_sum, no_product, no_numbers, infix_other, next_is, relation_is, left_truth, relation_sides, relation_other}

-- ---- signs between numbers

arithmetic_left : (sign : InfixSign) → is_arithmetic sign ≡ true → is_implies sign ≡ false
arithmetic_left op.Iff h = absurd (let bad : ⊥ = cc in bad)
arithmetic_left op.Implies h = absurd (let bad : ⊥ = cc in bad)
arithmetic_left op.Explies h = absurd (let bad : ⊥ = cc in bad)
arithmetic_left op.And h = absurd (let bad : ⊥ = cc in bad)
arithmetic_left op.Or h = absurd (let bad : ⊥ = cc in bad)
arithmetic_left op.Equal h = absurd (let bad : ⊥ = cc in bad)
arithmetic_left op.Unequal h = absurd (let bad : ⊥ = cc in bad)
arithmetic_left op.Less h = absurd (let bad : ⊥ = cc in bad)
arithmetic_left op.AtMost h = absurd (let bad : ⊥ = cc in bad)
arithmetic_left op.Greater h = absurd (let bad : ⊥ = cc in bad)
arithmetic_left op.AtLeast h = absurd (let bad : ⊥ = cc in bad)
arithmetic_left op.Plus h = refl
arithmetic_left op.Minus h = refl
arithmetic_left op.Times h = refl

no_arithmetic : (sorts : List Sort) (sign : InfixSign) (a e : s.Ex) → is_arithmetic sign ≡ true → IsTruth sorts (m.infix_of sign a e) → ⊥
no_arithmetic sorts op.Iff a e h t = let bad : ⊥ = cc in bad
no_arithmetic sorts op.Implies a e h t = let bad : ⊥ = cc in bad
no_arithmetic sorts op.Explies a e h t = let bad : ⊥ = cc in bad
no_arithmetic sorts op.And a e h t = let bad : ⊥ = cc in bad
no_arithmetic sorts op.Or a e h t = let bad : ⊥ = cc in bad
no_arithmetic sorts op.Equal a e h t = let bad : ⊥ = cc in bad
no_arithmetic sorts op.Unequal a e h t = let bad : ⊥ = cc in bad
no_arithmetic sorts op.Less a e h t = let bad : ⊥ = cc in bad
no_arithmetic sorts op.AtMost a e h t = let bad : ⊥ = cc in bad
no_arithmetic sorts op.Greater a e h t = let bad : ⊥ = cc in bad
no_arithmetic sorts op.AtLeast a e h t = let bad : ⊥ = cc in bad
no_arithmetic sorts op.Plus a e h t = no_sum (kind_ex sorts a) (kind_ex sorts e) t
no_arithmetic sorts op.Minus a e h t = no_sum (kind_ex sorts a) (kind_ex sorts e) t
no_arithmetic sorts op.Times a e h t = no_product (kind_ex sorts a) (kind_ex sorts e) t

-- a sign that is neither between truths alone nor between numbers alone is a relation
relation_left : (sign : InfixSign) → is_logical sign ≡ false → is_arithmetic sign ≡ false → relates (op_of sign) ≡ true
relation_left op.Iff h k = absurd (let bad : ⊥ = cc in bad)
relation_left op.Implies h k = absurd (let bad : ⊥ = cc in bad)
relation_left op.Explies h k = absurd (let bad : ⊥ = cc in bad)
relation_left op.And h k = absurd (let bad : ⊥ = cc in bad)
relation_left op.Or h k = absurd (let bad : ⊥ = cc in bad)
relation_left op.Equal h k = refl
relation_left op.Unequal h k = refl
relation_left op.Less h k = refl
relation_left op.AtMost h k = refl
relation_left op.Greater h k = refl
relation_left op.AtLeast h k = refl
relation_left op.Plus h k = absurd (let bad : ⊥ = cc in bad)
relation_left op.Minus h k = absurd (let bad : ⊥ = cc in bad)
relation_left op.Times h k = absurd (let bad : ⊥ = cc in bad)

all_of : (l : Link) (ls : List Link) → all_arithmetic (l ∷ ls) ≡ true → (is_arithmetic l.sign ≡ true) × (all_arithmetic ls ≡ true)
all_of l ls h = (and_left (is_arithmetic l.sign) (all_arithmetic ls) h, and_right (is_arithmetic l.sign) (all_arithmetic ls) h)

pub all_end : (ls : List Link) (l : Link) → all_arithmetic ls ≡ true → is_arithmetic l.sign ≡ true → all_arithmetic (ls ++ l ∷ []) ≡ true
all_end [] l h k = and_both (is_arithmetic l.sign) true k refl
all_end (x ∷ ls) l h k =
    let both = all_of x ls h in
    and_both (is_arithmetic x.sign) (all_arithmetic (ls ++ l ∷ [])) both.0 (all_end ls l both.1 k)

pub sums_more : (links : List Link) (i : ℕ) (l : Link) → i < length links → l ≡ get_or links i l → is_arithmetic l.sign ≡ true → all_arithmetic (take i links) ≡ true → all_arithmetic (take (i + 1) links) ≡ true
sums_more links i l lt is k h =
    subst (λ x. all_arithmetic x ≡ true) (sym (take_more links i l lt ∙ ap (λ x. take i links ++ x ∷ []) (sym is))) (all_end (take i links) l h k)

pub sums_stop : (links : List Link) (n i : ℕ) (l : Link) → n ≡ i → i < length links → l ≡ get_or links i l → is_arithmetic l.sign ≡ false → all_arithmetic (take i links) ≡ true → IsSums links n
sums_stop links n i l same lt is k h =
    subst (IsSums links) (sym same) (record { within = omega arith; sums = h; ends = subst (λ x. begins_arithmetic x ≡ false) (sym (drop_item links i l lt is)) k })

pub sums_all : (links : List Link) (n i : ℕ) → n ≡ i → n ≤ length links → length links ≤ i → all_arithmetic (take i links) ≡ true → IsSums links n
sums_all links n i same within end h =
    subst (IsSums links) (sym same) (record { within = omega (arith, same, within); sums = h; ends = subst (λ x. begins_arithmetic x ≡ false) (sym (drop_all i links end)) refl })

abbrev first_made : s.Ex → Link → s.Ex
first_made a l = m.infix_of l.sign a (m.ex_of (u.ex_of l.operand))

next_made : (l : Link) (ls : List Link) (a : s.Ex) → is_arithmetic l.sign ≡ true → behind a (l ∷ ls) ≡ behind (first_made a l) ls
next_made l ls a h = next_is l.sign (arithmetic_left l.sign h) l.pos (u.ex_of l.operand) (u.links_of (map u.link_view ls)) a

-- what stands behind signs between numbers
sums_apart : (front rest : List Link) (a : s.Ex) → all_arithmetic front ≡ true → behind a (front ++ rest) ≡ behind (behind a front) rest
sums_apart [] rest a h = refl
sums_apart (l ∷ front) rest a h =
    let both = all_of l front h in
    next_made l (front ++ rest) a both.0
    ∙ sums_apart front rest (first_made a l) both.1
    ∙ ap (λ b. behind b rest) (sym (next_made l front a both.0))

-- signs between numbers make no truth
sums_truth : (sorts : List Sort) (front : List Link) (a : s.Ex) → all_arithmetic front ≡ true → IsTruth sorts (behind a front) → IsTruth sorts a
sums_truth sorts [] a h t = t
sums_truth sorts (l ∷ front) a h t =
    let both = all_of l front h in
    let made = sums_truth sorts front (first_made a l) both.1 (subst (IsTruth sorts) (next_made l front a both.0) t) in
    absurd (no_arithmetic sorts l.sign a (m.ex_of (u.ex_of l.operand)) both.0 made)

relation_apart : (front : List Link) (l : Link) (rest : List Link) (a : s.Ex) → all_arithmetic front ≡ true → relates (op_of l.sign) ≡ true → behind a (front ++ l ∷ rest) ≡ behind (s.Binary (op_of l.sign) (behind a front) (m.ex_of (u.ex_of l.operand))) rest
relation_apart front l rest a h k =
    sums_apart front (l ∷ rest) a h
    ∙ relation_is l.pos l.sign (u.ex_of l.operand) (u.links_of (map u.link_view rest)) (behind a front) k

-- ---- links before the next `==>`

pub until_more : (links : List Link) (n i : ℕ) (l : Link) → i < length links → l ≡ get_or links i l → is_implies l.sign ≡ false → n + until_implies (drop i links) ≡ until_implies links → n + 1 + until_implies (drop (i + 1) links) ≡ until_implies links
until_more links n i l lt is k h =
    let here : until_implies (drop i links) ≡ suc (until_implies (drop (i + 1) links)) = ap until_implies (drop_item links i l lt is) ∙ ap (λ b. if b then 0 else suc (until_implies (drop (i + 1) links))) k in
    omega (arith, here, h)

pub until_stop : (links : List Link) (n i : ℕ) (l : Link) → i < length links → l ≡ get_or links i l → is_implies l.sign ≡ true → n + until_implies (drop i links) ≡ until_implies links → n ≡ until_implies links
until_stop links n i l lt is k h =
    let here : until_implies (drop i links) ≡ 0 = ap until_implies (drop_item links i l lt is) ∙ ap (λ b. if b then 0 else suc (until_implies (drop (i + 1) links))) k in
    omega (arith, here, h)

pub until_end : (links : List Link) (n i : ℕ) → length links ≤ i → n + until_implies (drop i links) ≡ until_implies links → n ≡ until_implies links
until_end links n i end h =
    let here : until_implies (drop i links) ≡ 0 = ap until_implies (drop_all i links end) in
    omega (arith, here, h)

-- ---- signs that relate no numbers

-- whether a link relates this number with another one
abbrev relates_it : List Sort → s.Ex → Link → Bool
relates_it sorts b l = relates_numbers sorts (op_of l.sign) b (m.ex_of (u.ex_of l.operand))

arithmetic_apart : (sorts : List Sort) (sign : InfixSign) (a e : s.Ex) → is_arithmetic sign ≡ true → relates_numbers sorts (op_of sign) a e ≡ false
arithmetic_apart sorts op.Iff a e h = absurd (let bad : ⊥ = cc in bad)
arithmetic_apart sorts op.Implies a e h = absurd (let bad : ⊥ = cc in bad)
arithmetic_apart sorts op.Explies a e h = absurd (let bad : ⊥ = cc in bad)
arithmetic_apart sorts op.And a e h = absurd (let bad : ⊥ = cc in bad)
arithmetic_apart sorts op.Or a e h = absurd (let bad : ⊥ = cc in bad)
arithmetic_apart sorts op.Equal a e h = absurd (let bad : ⊥ = cc in bad)
arithmetic_apart sorts op.Unequal a e h = absurd (let bad : ⊥ = cc in bad)
arithmetic_apart sorts op.Less a e h = absurd (let bad : ⊥ = cc in bad)
arithmetic_apart sorts op.AtMost a e h = absurd (let bad : ⊥ = cc in bad)
arithmetic_apart sorts op.Greater a e h = absurd (let bad : ⊥ = cc in bad)
arithmetic_apart sorts op.AtLeast a e h = absurd (let bad : ⊥ = cc in bad)
arithmetic_apart sorts op.Plus a e h = refl
arithmetic_apart sorts op.Minus a e h = refl
arithmetic_apart sorts op.Times a e h = refl

-- what a sign makes that stands not between numbers alone is no number
other_number : (sorts : List Sort) (sign : InfixSign) (a e : s.Ex) → is_arithmetic sign ≡ false → NoNumber sorts (m.infix_of sign a e)
other_number sorts op.Iff a e h = no_truth _
other_number sorts op.Implies a e h = no_truth _
other_number sorts op.Explies a e h = no_truth _
other_number sorts op.And a e h = no_truth _
other_number sorts op.Or a e h = no_truth _
other_number sorts op.Equal a e h = no_equal (kind_ex sorts a) (kind_ex sorts e)
other_number sorts op.Unequal a e h = no_equal (kind_ex sorts a) (kind_ex sorts e)
other_number sorts op.Less a e h = no_truth _
other_number sorts op.AtMost a e h = no_truth _
other_number sorts op.Greater a e h = no_truth _
other_number sorts op.AtLeast a e h = no_truth _
other_number sorts op.Plus a e h = absurd (let bad : ⊥ = cc in bad)
other_number sorts op.Minus a e h = absurd (let bad : ⊥ = cc in bad)
other_number sorts op.Times a e h = absurd (let bad : ⊥ = cc in bad)

-- behind what is no number
none_behind : (sorts : List Sort) (ls : List Link) (a : s.Ex) → NoNumber sorts a → NoneRelates sorts a ls
none_behind sorts [] a h = tt
none_behind sorts (l ∷ ls) a h =
    let right = m.ex_of (u.ex_of l.operand) in
    λ i. (no_numbers sorts (op_of l.sign) a right h, none_behind sorts ls (m.infix_of l.sign a right) (infix_other sorts l.sign i a right h))

-- behind signs between numbers
none_sums : (sorts : List Sort) (front rest : List Link) (a : s.Ex) → all_arithmetic front ≡ true → NoneRelates sorts (behind a front) rest → NoneRelates sorts a (front ++ rest)
none_sums sorts [] rest a h k = k
none_sums sorts (l ∷ front) rest a h k =
    let both = all_of l front h in
    let right = m.ex_of (u.ex_of l.operand) in
    λ i. (arithmetic_apart sorts l.sign a right both.0, none_sums sorts front rest (m.infix_of l.sign a right) both.1 (subst (λ b. NoneRelates sorts b rest) (next_made l front a both.0) k))

-- ---- lists

no_end : (before : List Link) (l : Link) → [] ≡ before ++ l ∷ [] → ⊥
no_end [] l h = let bad : ⊥ = cc in bad
no_end (x ∷ before) l h = let bad : ⊥ = cc in bad

same_end : (xs ys : List Link) (x y : Link) → xs ++ x ∷ [] ≡ ys ++ y ∷ [] → (xs ≡ ys) × (x ≡ y)
same_end [] [] x y h = (refl, cc)
same_end [] (b ∷ ys) x y h = absurd (no_end ys y (let rest : [] ≡ ys ++ y ∷ [] = cc in rest))
same_end (a ∷ xs) [] x y h = absurd (no_end xs x (let rest : [] ≡ xs ++ x ∷ [] = cc in rest))
same_end (a ∷ xs) (b ∷ ys) x y h =
    let heads : a ≡ b = cc in
    let rest : xs ++ x ∷ [] ≡ ys ++ y ∷ [] = cc in
    let both = same_end xs ys x y rest in
    (ap (λ z. z ∷ xs) heads ∙ ap (λ z. b ∷ z) both.0, both.1)

-- ---- how many links the relation takes

pub no_relation : (sorts : List Sort) (a : s.Ex) → IsRelation sorts a []
no_relation sorts a before l h = absurd (no_end before l h)

module _ (sorts : List Sort) (l : Link) (rest : List Link) (b : s.Ex) where
  abbrev e : s.Ex
  e = m.ex_of (u.ex_of l.operand)

  abbrev ls : r.Links
  ls = u.links_of (map u.link_view rest)

  other_left : is_logical l.sign ≡ false → is_arithmetic l.sign ≡ false → relates_it sorts b l ≡ false → IsTruth sorts (behind b (l ∷ rest)) → IsTruth sorts b
  other_left i n not_so w =
      let related = relation_left l.sign i n in
      let sides : (is_number (kind_ex sorts b) && is_number (kind_ex sorts e)) ≡ false = sym (ap (λ c. c && (is_number (kind_ex sorts b) && is_number (kind_ex sorts e))) related) ∙ not_so in
      let whole = left_truth sorts ls (s.Binary (op_of l.sign) b e) (λ q. relation_other sorts l.sign b e related) (subst (IsTruth sorts) (relation_is l.pos l.sign (u.ex_of l.operand) ls b related) w) in
      relation_sides sorts l.sign b e related whole sides

  logical_left : is_logical l.sign ≡ true → IsTruth sorts (behind b (l ∷ rest)) → IsTruth sorts b
  logical_left i w =
      left_truth sorts (r.Link l.pos l.sign (u.ex_of l.operand) ls) b (λ q. absurd (let k : is_logical l.sign ≡ false = q in let bad : ⊥ = cc in bad)) w

  -- what stands on the left of a sign that relates no numbers is a truth where the chain is one
  left_of : is_arithmetic l.sign ≡ false → relates_it sorts b l ≡ false → IsTruth sorts (behind b (l ∷ rest)) → IsTruth sorts b
  left_of n not_so w = by_logical (is_logical l.sign) refl
    where
      by_logical : (c : Bool) → is_logical l.sign ≡ c → IsTruth sorts b
      by_logical true i = logical_left i w
      by_logical false i = other_left i n not_so w

module _ (sorts : List Sort) (a : s.Ex) (links : List Link) (n : ℕ) (sums : IsSums links n) where
  -- no link belongs to a relation of numbers
  none_by : (rest : List Link) → take n links ++ rest ≡ links → begins_arithmetic rest ≡ false → ((l : Link) (ls : List Link) → rest ≡ l ∷ ls → relates_it sorts (behind a (take n links)) l ≡ false) → IsTruth sorts (behind a links) → IsTruth sorts a
  none_by [] split ends not_so w =
      sums_truth sorts (take n links) a sums.sums (subst (IsTruth sorts) (ap (behind a) (sym split) ∙ sums_apart (take n links) [] a sums.sums) w)
  none_by (l ∷ rest) split ends not_so w =
      sums_truth sorts (take n links) a sums.sums (left_of sorts l rest (behind a (take n links)) ends (not_so l rest refl) (subst (IsTruth sorts) (ap (behind a) (sym split) ∙ sums_apart (take n links) (l ∷ rest) a sums.sums) w))

  -- and no sign relates numbers
  none_left : (rest : List Link) → take n links ++ rest ≡ links → begins_arithmetic rest ≡ false → ((l : Link) (ls : List Link) → rest ≡ l ∷ ls → relates_it sorts (behind a (take n links)) l ≡ false) → NoneRelates sorts a links
  none_left [] split ends not_so = subst (NoneRelates sorts a) split (none_sums sorts (take n links) [] a sums.sums tt)
  none_left (l ∷ rest) split ends not_so =
      subst (NoneRelates sorts a) split (none_sums sorts (take n links) (l ∷ rest) a sums.sums (λ i. (not_so l rest refl, none_behind sorts rest _ (other_number sorts l.sign (behind a (take n links)) (m.ex_of (u.ex_of l.operand)) ends))))

  head_none : ((l : Link) (ls : List Link) → drop n links ≡ l ∷ ls → relates_it sorts (behind a (take n links)) l ≡ false) → IsHead sorts a links 0
  head_none not_so =
      record {
        within = omega arith;
        apart = refl;
        leads = none_by (drop n links) (take-append-drop n links) sums.ends not_so;
        relation = no_relation sorts a;
        others = none_left (drop n links) (take-append-drop n links) sums.ends not_so;
      }

  pub head_at_end : length links ≤ n → IsHead sorts a links 0
  head_at_end h = head_none (λ l ls is. let none : drop n links ≡ [] = drop_all n links h in absurd (let bad : ⊥ = cc in bad))

  pub head_other : (l : Link) → n < length links → l ≡ get_or links n l → relates_it sorts (behind a (take n links)) l ≡ false → IsHead sorts a links 0
  head_other l lt is not_so =
      head_none (λ k ls split.
      let item : drop n links ≡ l ∷ drop (n + 1) links = drop_item links n l lt is in
      let same : l ≡ k = cc in
      subst (λ x. relates_it sorts (behind a (take n links)) x ≡ false) same not_so)

  -- the relation's links are those of its left side, and its own
  module _ (l : Link) (lt : n < length links) (is : l ≡ get_or links n l) (related : relates (op_of l.sign) ≡ true) (left : IsNumber sorts (behind a (take n links))) (right : IsNumber sorts (m.ex_of (u.ex_of l.operand))) where
    abbrev made : s.Ex
    made = s.Binary (op_of l.sign) (behind a (take n links)) (m.ex_of (u.ex_of l.operand))

    split : take n links ++ l ∷ drop (n + 1) links ≡ links
    split = ap (λ x. take n links ++ x) (sym (drop_item links n l lt is)) ∙ take-append-drop n links

    taken : take (n + 1) links ≡ take n links ++ l ∷ []
    taken = take_more links n l lt ∙ ap (λ x. take n links ++ x ∷ []) (sym is)

    whole : behind a links ≡ behind made (drop (n + 1) links)
    whole = ap (behind a) (sym split) ∙ relation_apart (take n links) l (drop (n + 1) links) a sums.sums related

    front : behind a (take n links ++ l ∷ []) ≡ made
    front = relation_apart (take n links) l [] a sums.sums related

    front_taken : behind a (take (n + 1) links) ≡ made
    front_taken = ap (behind a) taken ∙ front

    is_related : Relates sorts a (take n links) l
    is_related = record { whole = front; related = related; left = left; right = right }

    related_at : IsRelation sorts a (take (n + 1) links)
    related_at before k h =
        let same = same_end (take n links) before l k (sym taken ∙ h) in
        subst (λ x. Relates sorts a x k) same.0 (subst (λ x. Relates sorts a (take n links) x) same.1 is_related)

    pub head_relation : IsHead sorts a links (n + 1)
    head_relation =
        record {
          within = omega arith;
          apart = whole ∙ ap (λ x. behind x (drop (n + 1) links)) (sym front_taken);
          leads = λ w. subst (IsTruth sorts) (sym front_taken) (left_truth sorts (u.links_of (map u.link_view (drop (n + 1) links))) made (λ q. relation_other sorts l.sign (behind a (take n links)) (m.ex_of (u.ex_of l.operand)) related) (subst (IsTruth sorts) whole w));
          relation = related_at;
          others = none_behind sorts (drop (n + 1) links) _ (subst (NoNumber sorts) (sym front_taken) (relation_other sorts l.sign (behind a (take n links)) (m.ex_of (u.ex_of l.operand)) related));
        }

pub three : (a b c : Bool) → (a && (b && c)) ≡ true → (a ≡ true) × (b ≡ true) × (c ≡ true)
three true true true h = (refl, refl, refl)
three true true false h = absurd (let bad : ⊥ = cc in bad)
three true false c h = absurd (let bad : ⊥ = cc in bad)
three false b c h = absurd (let bad : ⊥ = cc in bad)

-- ---- behind a sign

pub next_anew : (sorts : List Sort) (l : Link) (links : List Link) (n : ℕ) → is_implies l.sign ≡ true → IsHead sorts (m.ex_of (u.ex_of l.operand)) links n → IsNext sorts l links n
next_anew sorts l links n i h =
    record { within = h.within; relation = h.relation; anew = λ q. h; alone = λ q. absurd (let bad : ⊥ = cc in bad) }

pub next_alone : (sorts : List Sort) (l : Link) (links : List Link) → is_implies l.sign ≡ false → IsNext sorts l links 0
next_alone sorts l links i =
    record {
      within = omega arith;
      relation = no_relation sorts (m.ex_of (u.ex_of l.operand));
      anew = λ q. absurd (let bad : ⊥ = cc in bad);
      alone = λ q. refl;
    }
