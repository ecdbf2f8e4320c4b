-- Links before the next `==>`.
use Rattle.std.proofs.Common.{◌≡◌, ℕ, zero, suc, ◌+◌, ◌<◌, ◌≤◌, Bool, true, false, List, [], ◌∷◌, length, get_or, drop, refl, sym, ap, ◌∙◌, arith}
use Rattle.std.specs.Prelude.{if◌then◌else◌}
use Rattle.std.proofs.lemmas.List.{drop_more, drop_all, drop-drop, length-drop}
use Rattle.bg_ast.specs.declared.resolved.Link.{Link}
use Rattle.bg_term_table.specs.Views.{meaning}
use Rattle.bg_term_table.specs.Chains.{is_implies}
use Rattle.bg_term_table.specs.Linked.{is_explies}
use Rattle.bg_term_table.specs.Made.{turned_in}
use Rattle.bg_term_table.specs.Until.{until_implies}

pub drop_item : (links : List Link) (i : ℕ) (l : Link) → i < length links → l ≡ get_or links i l → drop i links ≡ l ∷ drop (i + 1) links
drop_item links i l lt is = drop_more links i l lt ∙ ap (λ x. x ∷ drop (i + 1) links) (sym is)

-- ---- counting

pub until_more : (links : List Link) (n i : ℕ) (l : Link) → i < length links → l ≡ get_or links i l → is_implies l.sign ≡ false → n + until_implies (drop i links) ≡ until_implies links → n + 1 + until_implies (drop (i + 1) links) ≡ until_implies links
until_more links n i l lt is k h =
    let here : until_implies (drop i links) ≡ suc (until_implies (drop (i + 1) links)) = ap until_implies (drop_item links i l lt is) ∙ ap (λ b. if b then 0 else suc (until_implies (drop (i + 1) links))) k in
    omega (arith, here, h)

pub until_stop : (links : List Link) (n i : ℕ) (l : Link) → i < length links → l ≡ get_or links i l → is_implies l.sign ≡ true → n + until_implies (drop i links) ≡ until_implies links → n ≡ until_implies links
until_stop links n i l lt is k h =
    let here : until_implies (drop i links) ≡ 0 = ap until_implies (drop_item links i l lt is) ∙ ap (λ b. if b then 0 else suc (until_implies (drop (i + 1) links))) k in
    omega (arith, here, h)

pub until_end : (links : List Link) (n i : ℕ) → length links ≤ i → n + until_implies (drop i links) ≡ until_implies links → n ≡ until_implies links
until_end links n i end h =
    let here : until_implies (drop i links) ≡ 0 = ap until_implies (drop_all i links end) in
    omega (arith, here, h)

-- ---- what stands there

turned_none : (l : Link) (ls : List Link) → is_implies l.sign ≡ true → turned_in (l ∷ ls) ≡ []
turned_none l ls i =
    ap (λ b. if b then [] else if is_explies l.sign then meaning l.operand ∷ turned_in ls else turned_in ls) i

turned_more : (l : Link) (ls : List Link) → is_implies l.sign ≡ false → turned_in (l ∷ ls) ≡ (if is_explies l.sign then meaning l.operand ∷ turned_in ls else turned_in ls)
turned_more l ls i =
    ap (λ b. if b then [] else if is_explies l.sign then meaning l.operand ∷ turned_in ls else turned_in ls) i

until_none : (links : List Link) → turned_in (drop (until_implies links) links) ≡ []
until_none [] = refl
until_none (l ∷ ls) = by_implies (is_implies l.sign) refl (until_none ls)
  where
    by_implies : (b : Bool) → is_implies l.sign ≡ b → turned_in (drop (until_implies ls) ls) ≡ [] → turned_in (drop (if b then zero else suc (until_implies ls)) (l ∷ ls)) ≡ []
    by_implies true i h = turned_none l ls i
    by_implies false i h = h

pub turned_end : (links part : List Link) (from n : ℕ) → part ≡ drop from links → n ≡ until_implies part → turned_in (drop (from + n) links) ≡ []
turned_end links part from n rest last =
    ap turned_in (sym (drop-drop n from links))
    ∙ ap (λ j. turned_in (drop j (drop from links))) (last ∙ ap until_implies rest)
    ∙ until_none (drop from links)

until_within : (links : List Link) → until_implies links ≤ length links
until_within [] = omega arith
until_within (l ∷ ls) = by_implies (is_implies l.sign) (until_within ls)
  where
    by_implies : (b : Bool) → until_implies ls ≤ length ls → (if b then zero else suc (until_implies ls)) ≤ suc (length ls)
    by_implies true h = omega arith
    by_implies false h = omega (arith, h)

pub until_behind : (links : List Link) (from : ℕ) → from ≤ length links → from + until_implies (drop from links) ≤ length links
until_behind links from h = let k = until_within (drop from links) in omega (arith, h, k, length-drop from links)

sign_first : (links : List Link) (k : ℕ) (l : Link) → k < until_implies links → l ≡ get_or links k l → is_implies l.sign ≡ false
sign_first [] k l lt is = absurd (omega (arith, lt))
sign_first (x ∷ ls) zero l lt is = by_implies (is_implies x.sign) refl lt
  where
    by_implies : (b : Bool) → is_implies x.sign ≡ b → zero < (if b then zero else suc (until_implies ls)) → is_implies l.sign ≡ false
    by_implies true i h = absurd (omega (arith, h))
    by_implies false i h = ap (λ y. is_implies y.sign) is ∙ i
sign_first (x ∷ ls) (suc k) l lt is = by_implies (is_implies x.sign) refl lt (λ h. sign_first ls k l h is)
  where
    by_implies : (b : Bool) → is_implies x.sign ≡ b → suc k < (if b then zero else suc (until_implies ls)) → (k < until_implies ls → is_implies l.sign ≡ false) → is_implies l.sign ≡ false
    by_implies true i h f = absurd (omega (arith, h))
    by_implies false i h f = f (omega (arith, h))

sign_before : (links : List Link) (from k : ℕ) (l : Link) → from ≤ k → k < from + until_implies (drop from links) → l ≡ get_or links k l → is_implies l.sign ≡ false
sign_before links zero k l le lt is = sign_first links k l (omega (arith, lt)) is
sign_before [] (suc from) k l le lt is = absurd (omega (arith, le, lt))
sign_before (x ∷ ls) (suc from) zero l le lt is = absurd (omega (arith, le))
sign_before (x ∷ ls) (suc from) (suc k) l le lt is = sign_before ls from k l (omega (arith, le)) (omega (arith, lt)) is

pub turned_at : (links : List Link) (from k i : ℕ) (l : Link) → from ≤ length links → k + 1 ≡ i → from ≤ k → i ≤ from + until_implies (drop from links) → l ≡ get_or links k l → turned_in (drop k links) ≡ (if is_explies l.sign then meaning l.operand ∷ turned_in (drop i links) else turned_in (drop i links))
turned_at links from k i l within at le lt is =
    let all = until_behind links from within in
    let there : k < length links = omega (arith, all, at, lt) in
    ap turned_in (drop_item links k l there is)
    ∙ turned_more l (drop (k + 1) links) (sign_before links from k l le (omega (arith, at, lt)) is)
    ∙ ap (λ j. if is_explies l.sign then meaning l.operand ∷ turned_in (drop j links) else turned_in (drop j links)) at
