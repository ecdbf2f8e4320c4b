-- The table of the shared set: word 0 is the draw counter, and the candidate words follow.
use Rattle.std.specs.Prelude.{◌≡◌, ℕ, suc, pred, ◌+◌, ◌*◌, ◌/◌, ◌%◌, ◌<◌, ◌≤◌, true, false, List, [], ◌∷◌, map, length, get_or, nat_lt, Option, Some, None}
use mathlib.Core.Option.{some}
use lib.ListN.{get_elem?}
use Rattle.atomic_table.specs.Table.{State, Me, Step}
use Rattle.bg_base.specs.Totals.{total}
use Rattle.bg_base.specs.declared.ids.CandId.{CandId}
use Rattle.bg_shared.specs.declared.view.View.{View}
use Rattle.bg_words.specs.declared.machine.Seen.{Seen}
use Rattle.bg_words.specs.declared.machine.Entry.{Entry}
use Rattle.bg_words.specs.Sets.{has, present, bit, words_for, mask}
use Rattle.bg_shared.specs.Views.{looking, drawing, clearing}
use Rattle.bg_words.specs.Rule.{Kept}

-- the words of a table of n candidates as it opens: nothing is drawn, and each candidate is present
pub record IsOpening (n : ℕ) (words : List ℕ) : Type 0 where
  pub length : length words ≡ words_for n + 1
  pub first : get_or words 0 0 ≡ 0
  pub full : (j k : ℕ) → j < words_for n → k < 64 → bit (get_or words (j + 1) 0) k ≡ nat_lt (j * 64 + k) n

-- a seat draws fewer than 2 ^ 32 numbers, and a seat that is in no other's stead has nothing
pub record Afford (n : ℕ) (v : View) : Type 0 where
  pub cands : v.live ≡ true → v.cands ≡ n
  pub own : v.own ≤ 4294967296
  pub draws : 0 < v.parts → v.draws + 4294967296 ≤ v.parts * 4294967296 + v.own
  pub idle : v.parts ≡ 0 → (v.draws ≡ 0) × (v.seen.entries ≡ []) × (v.seen.pending ≡ None)

-- the count of the first seat in the list
abbrev pub leading : List View → ℕ
leading [] = 0
leading (v ∷ vs) = v.first

-- The counts: every seat is in one, or may still be forked; one seat is the first, at place 0; and the counter is no more than all draws
pub record Budget (n seats next : ℕ) (views : List View) : Type 0 where
  pub parts : total (λ v. v.parts + v.right) views ≡ seats
  pub one : total (λ v. v.first) views ≡ 1
  pub lead : leading views ≡ 1
  pub drawn : next ≤ total (λ v. v.draws) views
  pub each : (i : ℕ) (v : View) → get_elem? views i ≡ some v → Afford n v

abbrev Seated : Type 0
Seated = Me (Unit {0}) View

-- what the seats know
abbrev pub seens : List View → List Seen
seens views = map (λ (v : View). v.seen) views

-- the rule of the table
abbrev pub Ruled : ℕ → ℕ → State (Unit {0}) View → Type 0
Ruled n seats s = (next : ℕ) × (ws : List ℕ) × (s.words ≡ next ∷ ws) × (length ws ≡ words_for n) × Kept n next (present ws) (seens s.views) × Budget n seats next s.views

-- a load of a candidate word: what the seat knew to be gone is gone
abbrev pub Looks : Step (Unit {0}) → Seated → ℕ → Seated → Type 0
Looks st me found new =
    (new ≡ (looking me.0 (pred st.word) (λ c. bit found (c % 64)), me.1))
    × ((c : ℕ) → c / 64 ≡ pred st.word → has me.0.seen.missing c ≡ true → bit found (c % 64) ≡ false)

-- a draw: the number is above those of the seat's entries
abbrev pub Draws : Step (Unit {0}) → Seated → ℕ → Seated → Type 0
Draws st me found new = (new ≡ (drawing me.0 found, me.1)) × ((k : ℕ) (e : Entry) → get_elem? me.0.seen.entries k ≡ some e → e.number < found)

-- a clearing of the candidate that the word and the mask tell
abbrev pub Clears : Step (Unit {0}) → Seated → ℕ → Seated → Type 0
Clears st me found new = (number c : ℕ) → me.0.seen.pending ≡ Some number → st.word ≡ suc (c / 64) → st.first ≡ mask c → new ≡ (clearing me.0 number c (bit found (c % 64)), me.1)

-- what a seat's own field says of its pending draw: the number and the candidate
abbrev pub Matches : View → Option (ℕ × CandId) → Type 0
Matches v pending =
    (pending ≡ None → v.seen.pending ≡ None)
    × ((number : ℕ) (c : CandId) → pending ≡ Some (number, c) → (v.seen.pending ≡ Some number) × (c.0 < v.cands) × (has v.seen.snapshot c.0 ≡ true))
