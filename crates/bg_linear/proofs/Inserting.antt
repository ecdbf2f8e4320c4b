-- Entries that rise, put into a map one after the other.
use Rattle.std.proofs.Common.{◌≡◌, ℕ, suc, ◌+◌, ◌<◌, ◌≤◌, ◌==◌, true, false, List, [], ◌∷◌, ◌++◌, ℤ, refl, sym, ap, ◌∙◌, subst, arith, nat_lt, drop, length, drop-cons, get_or, append_assoc}
use Rattle.std.specs.Ordering.{nat_cmp}
use Rattle.std.specs.BTreeMap.{insert_entry}
use Rattle.std.proofs.lemmas.Bool.Decides.{nat_tests}
use Rattle.bg_rows.specs.declared.entry.Entry.{Entry}
use Rattle.bg_rows.specs.Entries.{rising}
use Rattle.bg_rows.proofs.Normal.{Normal, from_rising}
use Rattle.bg_rows.proofs.Steps.{nothing}
use Rattle.bg_linear.specs.Lins.{listed, with_entry}
use Rattle.bg_linear.proofs.Mapped.{inserted_is}

above : (low : ℕ) (xs : List Entry) (t : Entry) (rest : List Entry) → Normal low (xs ++ t ∷ rest) → low ≤ t.variable
above low [] t rest n = n.0
above low (x ∷ xs) t rest n =
    let here = n.0 in
    let behind : suc x.variable ≤ t.variable = above (suc x.variable) xs t rest n.2 in
    omega arith

greater : (x t : Entry) → suc x.variable ≤ t.variable → nat_lt t.variable x.variable ≡ false
greater x t h = grind (arith, nat_tests)

other : (x t : Entry) → suc x.variable ≤ t.variable → (t.variable == x.variable) ≡ false
other x t h = grind (arith, nat_tests)

-- the last entry goes behind the others
appended : (low : ℕ) (xs : List Entry) (t : Entry) (rest : List Entry) → Normal low (xs ++ t ∷ rest) → with_entry t.variable t.by xs ≡ xs ++ t ∷ []
appended low [] t rest n = refl
appended low (x ∷ xs) t rest n =
    let behind = above (suc x.variable) xs t rest n.2 in
    rw (greater x t behind, other x t behind) (ap (λ l. x ∷ l) (appended (suc x.variable) xs t rest n.2))

pub map_more : (ts : List Entry) (i : ℕ) (es fs : List (ℕ × ℤ)) → rising 0 ts ≡ true → i < length ts → listed es ++ drop i ts ≡ ts → fs ≡ insert_entry nat_cmp es (get_or ts i nothing).variable (get_or ts i nothing).by → listed fs ++ drop (i + 1) ts ≡ ts
map_more ts i es fs r lt inv h =
    let t = get_or ts i nothing in
    let next : suc i ≡ i + 1 = omega arith in
    let left : drop i ts ≡ t ∷ drop (i + 1) ts = drop-cons ts i nothing lt ∙ ap (λ j. t ∷ drop j ts) next in
    let whole : listed es ++ t ∷ drop (i + 1) ts ≡ ts = ap (λ l. listed es ++ l) (sym left) ∙ inv in
    let n : Normal 0 (listed es ++ t ∷ drop (i + 1) ts) = subst (λ l. Normal 0 l) (sym whole) (from_rising 0 ts r) in
    let a : listed fs ≡ listed es ++ t ∷ [] = ap listed h ∙ inserted_is t.variable t.by es ∙ appended 0 (listed es) t (drop (i + 1) ts) n in
    ap (λ l. l ++ drop (i + 1) ts) a ∙ append_assoc (listed es) (t ∷ []) (drop (i + 1) ts) ∙ whole
