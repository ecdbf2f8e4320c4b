-- Candidates that guard commands: how many have a mark, and that blocks have no others.
use Rattle.std.proofs.Common.{◌≡◌, ℕ, zero, suc, ◌+◌, ◌<◌, Bool, true, false, List, [], ◌∷◌, length, replicate, refl, ap, ◌∙◌, arith}
use Rattle.std.specs.Prelude.{nat_lt, ◌&&◌, ◌||◌, Option, Some, None}
use Rattle.std.proofs.lemmas.Bool.Decides.{nat_tests}
use Rattle.bg_forms.specs.Worth.{bools_at}
use Rattle.bg_formed.specs.Formed.{FormCmd, Asks, Takes, FormEdge, FormBlock, said, form_below, is_of, cmds_below, edges_below, blocks_below}
use Rattle.bg_formed.proofs.Below.{and_left, and_right, and_both}
use Rattle.bg_slice.specs.Slices.{is_guard, guards_cmds, guards_edges, guards_blocks, guards_from, guards_in}
use Rattle.bg_slice.specs.Marks.{marked}
use Rattle.bg_slice.proofs.Saying.{or_left, or_right, own}

-- marks by commands of blocks are those of the candidates that guard them
guards_from_are : (bs : List FormBlock) (n m : ℕ) → marked (λ c. guards_blocks c bs) n (replicate m false) ≡ guards_from n m bs
guards_from_are bs n zero = refl
guards_from_are bs n (suc m) = ap (λ l. guards_blocks n bs ∷ l) (guards_from_are bs (suc n) m)

pub guards_are : (bs : List FormBlock) (m : ℕ) → marked (λ c. guards_blocks c bs) 0 (replicate m false) ≡ guards_in m bs
guards_are bs m = guards_from_are bs 0 m

pub guards_count : (bs : List FormBlock) (n m : ℕ) → length (guards_from n m bs) ≡ m
guards_count bs n zero = refl
guards_count bs n (suc m) = ap suc (guards_count bs (suc n) m)

guard_at : (bs : List FormBlock) (n m i : ℕ) → i < m → bools_at (guards_from n m bs) i ≡ guards_blocks (n + i) bs
guard_at bs n zero i h = absurd (search (h, arith))
guard_at bs n (suc m) zero h = ap (λ c. guards_blocks c bs) (none n)
  where
    none : (n : ℕ) → n ≡ n + 0
    none n = search arith
guard_at bs n (suc m) (suc i) h =
    guard_at bs (suc n) m i (search (h, arith)) ∙ ap (λ c. guards_blocks c bs) (shift n i)
  where
    shift : (n i : ℕ) → suc n + i ≡ n + suc i
    shift n i = search arith

less : (i m : ℕ) → nat_lt i m ≡ true → i < m
less i m e = grind (arith, nat_tests)

module _ (n m : ℕ) (these : ℕ → Bool) where
  -- whether each candidate below m with a property is one of these
  abbrev AreThese : (ℕ → Bool) → Type 0
  AreThese p = (c : ℕ) → nat_lt c m ≡ true → p c ≡ true → these c ≡ true

  guard_named : (b : Option ℕ) → is_of (λ c. nat_lt c m) b ≡ true → AreThese (λ c. is_guard c b) → is_of these b ≡ true
  guard_named None h all = refl
  guard_named (Some b) h all = all b h (own b)

  cmd_named : (b : Option ℕ) (here on new_on : Bool) → (is_of (λ c. nat_lt c m) b && (here && on)) ≡ true → AreThese (λ c. is_guard c b) → (on ≡ true → new_on ≡ true) → (is_of these b && (here && new_on)) ≡ true
  cmd_named b here on new_on h all next =
      let more = and_right (is_of (λ c. nat_lt c m) b) (here && on) h in
      and_both (is_of these b) (here && new_on) (guard_named b (and_left (is_of (λ c. nat_lt c m) b) (here && on) h) all) (and_both here new_on (and_left here on more) (next (and_right here on more)))

  cmds_named : (ks : List FormCmd) → cmds_below n (λ c. nat_lt c m) ks ≡ true → AreThese (λ c. guards_cmds c ks) → cmds_below n these ks ≡ true
  cmds_named [] h all = refl
  cmds_named (Asks s b r ∷ ks) h all =
      cmd_named b (form_below n (said r)) (cmds_below n (λ c. nat_lt c m) ks) (cmds_below n these ks) h (λ c l e. all c l (or_left (is_guard c b) (guards_cmds c ks) e)) (λ k. cmds_named ks k (λ c l e. all c l (or_right (is_guard c b) (guards_cmds c ks) e)))
  cmds_named (Takes b r ∷ ks) h all =
      cmd_named b (form_below n (said r)) (cmds_below n (λ c. nat_lt c m) ks) (cmds_below n these ks) h (λ c l e. all c l (or_left (is_guard c b) (guards_cmds c ks) e)) (λ k. cmds_named ks k (λ c l e. all c l (or_right (is_guard c b) (guards_cmds c ks) e)))

  edges_named : (es : List FormEdge) → edges_below n (λ c. nat_lt c m) es ≡ true → AreThese (λ c. guards_edges c es) → edges_below n these es ≡ true
  edges_named [] h all = refl
  edges_named (e ∷ es) h all =
      let here = cmds_below n (λ c. nat_lt c m) e.cmds in
      let on = edges_below n (λ c. nat_lt c m) es in
      and_both (cmds_below n these e.cmds) (edges_below n these es) (cmds_named e.cmds (and_left here on h) (λ c l k. all c l (or_left (guards_cmds c e.cmds) (guards_edges c es) k))) (edges_named es (and_right here on h) (λ c l k. all c l (or_right (guards_cmds c e.cmds) (guards_edges c es) k)))

  blocks_named : (bs : List FormBlock) → blocks_below n (λ c. nat_lt c m) bs ≡ true → AreThese (λ c. guards_blocks c bs) → blocks_below n these bs ≡ true
  blocks_named [] h all = refl
  blocks_named (b ∷ bs) h all =
      let here = cmds_below n (λ c. nat_lt c m) b.cmds in
      let ways = edges_below n (λ c. nat_lt c m) b.next in
      let on = blocks_below n (λ c. nat_lt c m) bs in
      let more = and_right here (ways && on) h in
      let first = cmds_named b.cmds (and_left here (ways && on) h) (λ c l k. all c l (or_left (guards_cmds c b.cmds || guards_edges c b.next) (guards_blocks c bs) (or_left (guards_cmds c b.cmds) (guards_edges c b.next) k))) in
      let second = edges_named b.next (and_left ways on more) (λ c l k. all c l (or_left (guards_cmds c b.cmds || guards_edges c b.next) (guards_blocks c bs) (or_right (guards_cmds c b.cmds) (guards_edges c b.next) k))) in
      let third = blocks_named bs (and_right ways on more) (λ c l k. all c l (or_right (guards_cmds c b.cmds || guards_edges c b.next) (guards_blocks c bs) k)) in
      and_both (cmds_below n these b.cmds) (edges_below n these b.next && blocks_below n these bs) first (and_both (edges_below n these b.next) (blocks_below n these bs) second third)

-- each candidate of the blocks guards a command of theirs
pub guards_named : (n m : ℕ) (bs : List FormBlock) → blocks_below n (λ c. nat_lt c m) bs ≡ true → blocks_below n (bools_at (guards_in m bs)) bs ≡ true
guards_named n m bs h =
    blocks_named n m (bools_at (guards_in m bs)) bs h (λ c l k. guard_at bs 0 m c (less c m l) ∙ (ap (λ j. guards_blocks j bs) (from c) ∙ k))
  where
    from : (c : ℕ) → 0 + c ≡ c
    from c = search arith
