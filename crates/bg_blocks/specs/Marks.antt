-- Where points lie: marks that may be taken back.
use Rattle.std.specs.Prelude.{ℕ, ◌+◌, ◌*◌, ◌-◌, if◌then◌else◌, List, [], ◌∷◌, Option, unwrap_or, ◌==◌}
use Rattle.bg_sense.specs.Flow.{Point, ToLabel, Behind, ToEnd}

-- what is marked at each key
abbrev pub Marked : Type 0
Marked = ℕ → Option ℕ

-- the key of a point
abbrev pub key : Point → ℕ
key ToEnd = 0
key (ToLabel l) = 2 * l + 1
key (Behind n) = 2 * n + 2

abbrev pub set_to : ℕ → Option ℕ → Marked → Marked
set_to k o marks j = if k == j then o else marks j

-- what was marked before: at each key that was marked since then, the last first, what was there
abbrev pub undone : List (ℕ × Option ℕ) → Marked → Marked
undone [] marks = marks
undone (e ∷ es) marks = set_to e.0 e.1 (undone es marks)

-- how far a point lies ahead, where so many blocks stand behind: it was marked when so many stood there, or else when there was one
abbrev pub ahead : Marked → ℕ → Point → ℕ
ahead marks n p = n - unwrap_or (marks (key p)) 1
