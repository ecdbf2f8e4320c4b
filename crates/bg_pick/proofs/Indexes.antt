-- Hints that are put into lists.
use Rattle.std.proofs.Common.{◌≡◌, ℕ, zero, suc, ◌+◌, ◌<◌, ◌≤◌, Bool, true, false, ◌&&◌, ◌||◌, ◌==◌, List, [], ◌∷◌, ◌++◌, length, drop, map, get_or, add-one, drop-cons, refl, sym, ap, ◌∙◌, arith, ◌⊎◌, inl, inr, Vec, Global}
use Rattle.std.specs.Prelude.{Option, Some, None, slice_set, slice_index_or, nat_lt}
use Rattle.std.proofs.lemmas.Bool.Decides.{nat_tests}
use Rattle.bg_formula.specs.declared.atom.Literal.{Literal}
use Rattle.bg_formula.specs.Atoms.{at}
use Rattle.bg_formula.specs.Formulas.{Formula, literals_below, clauses_below, is_whole}
use Rattle.bg_formula.specs.Meaning.{same}
use Rattle.bg_cert.specs.Causes.{member_atom}
use Rattle.bg_cert.proofs.Follow.{either}
use Rattle.bg_cert.proofs.Places.{at_map_there}
use Rattle.bg_pick.specs.declared.hint.Hint.{Hint}
use Rattle.bg_pick.specs.declared.hint.Hint.TheVariants.{Nth, Member}
use Rattle.bg_pick.specs.declared.index.Index.{Index}
use Rattle.bg_pick.specs.Index.{unit_of, clause_at, stands, Names, hints_at, list_of, Covers, Grows, IsIndex}
use Rattle.bg_pick.proofs.Below.{split_and, whole_clauses}
use Rattle.bg_pick.proofs.Places.{at_last, among_left}
use Rattle.bg_pick.proofs.Members.{candidate_there, unit_atom_of}

-- ---- one hint behind the others

pub last_named : (xs new : List Hint) (x : Hint) → new ≡ xs ++ (x ∷ []) → Names new x
last_named xs new x e = rw e (length xs, at_last xs x)

pub still_named : (xs new : List Hint) (x y : Hint) → new ≡ xs ++ (x ∷ []) → Names xs y → Names new y
still_named xs new x y e h = rw e (among_left xs (x ∷ []) y h)

pub pushed : (ls : List (Vec Hint Global)) (a : ℕ) (w v : Vec Hint Global) (x : Hint) → a < length ls → w.items ≡ v.items ++ (x ∷ []) → Names (hints_at (slice_set ls a w) a) x
pushed [] a w v x l e = absurd (omega arith)
pushed (u ∷ ls) zero w v x l e = last_named v.items w.items x e
pushed (u ∷ ls) (suc a) w v x l e = pushed ls a w v x (omega arith) e

pub kept : (ls : List (Vec Hint Global)) (a b : ℕ) (w v : Vec Hint Global) (x y : Hint) → v ≡ slice_index_or ls a v → w.items ≡ v.items ++ (x ∷ []) → Names (hints_at ls b) y → Names (hints_at (slice_set ls a w) b) y
kept [] a b w v x y q e h = h
kept (u ∷ ls) zero zero w v x y q e h = still_named v.items w.items x y e (rw q h)
kept (u ∷ ls) zero (suc b) w v x y q e h = h
kept (u ∷ ls) (suc a) zero w v x y q e h = h
kept (u ∷ ls) (suc a) (suc b) w v x y q e h = kept ls a b w v x y q e h

-- ---- the lists of an index

pub grows_yes : (old new : Index) → new.start ≡ old.start → new.no ≡ old.no → ((b : ℕ) (y : Hint) → Names (hints_at old.yes.items b) y → Names (hints_at new.yes.items b) y) → Grows old new
grows_yes old new s n g =
    record { start = λ x h. rw s h; lists = by_sign }
  where
    by_sign : (a : ℕ) (t : Bool) (x : Hint) → Names (list_of old a t) x → Names (list_of new a t) x
    by_sign a true x h = g a x h
    by_sign a false x h = rw n h

pub grows_no : (old new : Index) → new.start ≡ old.start → new.yes ≡ old.yes → ((b : ℕ) (y : Hint) → Names (hints_at old.no.items b) y → Names (hints_at new.no.items b) y) → Grows old new
grows_no old new s n g =
    record { start = λ x h. rw s h; lists = by_sign }
  where
    by_sign : (a : ℕ) (t : Bool) (x : Hint) → Names (list_of old a t) x → Names (list_of new a t) x
    by_sign a true x h = rw n h
    by_sign a false x h = g a x h

pub grows_start : (old new : Index) (x : Hint) → new.start.items ≡ old.start.items ++ (x ∷ []) → new.yes ≡ old.yes → new.no ≡ old.no → Grows old new
grows_start old new x s p n =
    record { start = λ y h. still_named old.start.items new.start.items x y s h; lists = by_sign }
  where
    by_sign : (a : ℕ) (t : Bool) (y : Hint) → Names (list_of old a t) y → Names (list_of new a t) y
    by_sign a true y h = rw p h
    by_sign a false y h = rw n h

pub grows_same : (i : Index) → Grows i i
grows_same i = record { start = λ x h. h; lists = λ a s x h. h }

pub grows_then : (i j k : Index) → Grows i j → Grows j k → Grows i k
grows_then i j k g h =
    record { start = λ x n. h.start x (g.start x n); lists = λ a s x n. h.lists a s x (g.lists a s x n) }

pub covers_more : (i j : Index) (x : Hint) (c : List Literal) → Grows i j → Covers i x c → Covers j x c
covers_more i j x c g h =
    record { whole = g.start x h.whole; each = λ a s e. g.lists a s x (h.each a s e) }

-- ---- a clause's literals, one after the other

abbrev pub NamedSoFar : Index → Hint → List Literal → List Literal → Type 0
NamedSoFar i x c rest = (a : ℕ) (s : Bool) → stands a s c ≡ true → (stands a s rest ≡ true) ⊎ Names (list_of i a s) x

same_sign : (s t : Bool) → same s t ≡ true → s ≡ t
same_sign true true h = refl
same_sign true false h = absurd (cc)
same_sign false true h = absurd (cc)
same_sign false false h = refl

pub named_next : (i j : Index) (x : Hint) (c rest whole : List Literal) (l : Literal) → whole ≡ l ∷ rest → Grows i j → Names (list_of j l.atom l.sign) x → NamedSoFar i x c whole → NamedSoFar j x c rest
named_next i j x c rest whole l w g n h a s e =
    elim (let z = h a s e in rw w at z) [ inl r ↦ by_first r | inr k ↦ inr (g.lists a s x k) ]
  where
    by_first : ((l.atom == a && same l.sign s) || stands a s rest) ≡ true → (stands a s rest ≡ true) ⊎ Names (list_of j a s) x
    by_first r =
        elim (either (l.atom == a && same l.sign s) (stands a s rest) r) [
          | inl k ↦
              let p = split_and (l.atom == a) (same l.sign s) k in
              let u : l.atom ≡ a = let z = p.0 in grind (arith, nat_tests) in
              let v : l.sign ≡ s = same_sign l.sign s p.1 in
              inr (rw (← u, ← v) n)
          | inr k ↦ inl k
        ]

pub drop_next : (xs : List Literal) (n : ℕ) (d : Literal) → n < length xs → drop n xs ≡ get_or xs n d ∷ drop (n + 1) xs
drop_next xs n d h = rw (add-one, drop-cons xs n d)

pub low_next : (n : ℕ) (rest whole : List Literal) (l : Literal) → whole ≡ l ∷ rest → literals_below n whole ≡ true → (nat_lt l.atom n ≡ true) × (literals_below n rest ≡ true)
low_next n rest whole l e h = let g = rw e at h in split_and (nat_lt l.atom n) (literals_below n rest) g

pub covers_all : (i : Index) (x : Hint) (c rest : List Literal) → rest ≡ [] → Names i.start.items x → NamedSoFar i x c rest → Covers i x c
covers_all i x c rest e n h = record { whole = n; each = λ a s k. by_case a s (h a s k) }
  where
    by_case : (a : ℕ) (s : Bool) → (stands a s rest ≡ true) ⊎ Names (list_of i a s) x → Names (list_of i a s) x
    by_case a s (inl r) = absurd (let z = rw e at r in cc)
    by_case a s (inr k) = k

-- ---- all clauses, and all members

pub literals_at : (n : ℕ) (cs : List (List Literal)) (k : ℕ) (c : List Literal) → clauses_below n cs ≡ true → at cs k ≡ Some c → literals_below n c ≡ true
literals_at n [] k c h e = absurd (cc)
literals_at n (d ∷ cs) zero c h e = let q : d ≡ c = cc in rw (← q) (split_and (literals_below n d) (clauses_below n cs) h).0
literals_at n (d ∷ cs) (suc k) c h e = literals_at n cs k c (split_and (literals_below n d) (clauses_below n cs) h).1 e

pub low_at : (f : Formula) (n k : ℕ) (c : List Literal) → is_whole f ≡ true → n ≡ length f.atoms → at f.clauses k ≡ Some c → literals_below n c ≡ true
low_at f n k c w e q =
    rw e (literals_at (length f.atoms) f.clauses k c (whole_clauses f w) q)

pub item_at : (xs ys : List (Vec Literal Global)) (k : ℕ) (v : Vec Literal Global) → ys ≡ xs → k < length ys → v ≡ get_or ys k v → at (map (λ c. c.items) xs) k ≡ Some v.items
item_at xs ys k v e l q =
    let m = rw e at l in
    let r = rw e at q in
    at_map_there (λ c. c.items) xs k v m ∙ ap (λ u. Some u.items) (sym r)

abbrev pub ClausesNamed : Formula → Index → ℕ → Type 0
ClausesNamed f i n = (k : ℕ) (c : List Literal) → k < n → at f.clauses k ≡ Some c → Covers i (Nth k) c

abbrev pub MembersNamed : Formula → (ℕ → Bool) → Index → ℕ → Type 0
MembersNamed f set i n = (m : ℕ) (c : List Literal) → m < n → clause_at f set (Member m) ≡ Some c → Covers i (Member m) c

pub clauses_next : (f : Formula) (i j : Index) (n : ℕ) (d : List Literal) → Grows i j → at f.clauses n ≡ Some d → Covers j (Nth n) d → ClausesNamed f i n → ClausesNamed f j (n + 1)
clauses_next f i j n d g e v h k c l q = by_lt (nat_lt k n) refl
  where
    by_lt : (t : Bool) → nat_lt k n ≡ t → Covers j (Nth k) c
    by_lt true r = covers_more i j (Nth k) c g (h k c (grind (arith, nat_tests)) q)
    by_lt false r =
        let u : k ≡ n = grind (arith, nat_tests) in
        let w : Some c ≡ Some d = sym q ∙ ap (at f.clauses) u ∙ e in
        let y : c ≡ d = cc in
        rw (u, y) v

pub clauses_more : (f : Formula) (i j : Index) (n : ℕ) → Grows i j → ClausesNamed f i n → ClausesNamed f j n
clauses_more f i j n g h k c l q = covers_more i j (Nth k) c g (h k c l q)

pub members_next : (f : Formula) (set : ℕ → Bool) (i j : Index) (n : ℕ) → Grows i j → ((d : List Literal) → clause_at f set (Member n) ≡ Some d → Covers j (Member n) d) → MembersNamed f set i n → MembersNamed f set j (n + 1)
members_next f set i j n g v h k c l q = by_lt (nat_lt k n) refl
  where
    by_lt : (t : Bool) → nat_lt k n ≡ t → Covers j (Member k) c
    by_lt true r = covers_more i j (Member k) c g (h k c (grind (arith, nat_tests)) q)
    by_lt false r =
        let u : k ≡ n = grind (arith, nat_tests) in
        let w = rw u at q in
        rw u (v c w)

pub all_named : (f : Formula) (set : ℕ → Bool) (i : Index) (n m : ℕ) → length f.clauses ≤ n → length f.candidates ≤ m → ClausesNamed f i n → MembersNamed f set i m → IsIndex f set i
all_named f set i n m l r h g (Nth k) c e = let s = clause_low f.clauses k c e in h k c (omega arith) e
  where
    clause_low : (cs : List (List Literal)) (k : ℕ) (c : List Literal) → at cs k ≡ Some c → k < length cs
    clause_low [] k c e = absurd (cc)
    clause_low (d ∷ cs) zero c e = omega arith
    clause_low (d ∷ cs) (suc k) c e = let s = clause_low cs k c e in omega arith
all_named f set i n m l r h g (Member k) c e = by_atom (member_atom f set k) refl e
  where
    by_atom : (o : Option ℕ) → member_atom f set k ≡ o → unit_of o ≡ Some c → Covers i (Member k) c
    by_atom None q u = absurd (cc)
    by_atom (Some a) q u =
        let s = candidate_there f.candidates k a (unit_atom_of f set k a q) in g k c (omega arith) e
