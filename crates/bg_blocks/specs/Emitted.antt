-- Blocks that are made from the last one on.
use Rattle.std.specs.Prelude.{◌≡◌, ℕ, zero, suc, ◌+◌, Bool, true, false, List, [], ◌∷◌, ◌++◌, length, Option, Some, unwrap_or}
use Rattle.bg_sense.specs.Flow.{Point, Behind}
use Rattle.bg_flow.specs.Core.{Cmd, Core}
use Rattle.bg_flow.specs.Blocks.{Block, Places, Coded, led, code}
use Rattle.bg_blocks.specs.Marks.{Marked, key, set_to, undone, ahead}

-- the blocks so far, whether the first one takes in commands, and where points lie
pub record State : Type 0 where
  pub blocks : List Block
  pub takes_in : Bool
  pub marks : Marked
  pub undo : List (ℕ × Option ℕ)

abbrev pub where_in : State → Places
where_in s = ahead s.marks (length s.blocks)

-- the same without what takes marks back: a point that isn't marked lies at the last block
abbrev pub coded : State → Coded
coded s = record { blocks = s.blocks; from_end = λ p. unwrap_or (s.marks (key p)) 1; takes_in = s.takes_in }

-- one more block in front
abbrev pub pushed : Block → State → State
pushed b s = record { blocks = b ∷ s.blocks; takes_in = true; marks = s.marks; undo = s.undo }

-- commands in front
abbrev pub performed : List Cmd → State → State
performed ks s = record { blocks = led s.takes_in ks s.blocks; takes_in = true; marks = s.marks; undo = s.undo }

-- jumps lead here
abbrev pub closed : State → State
closed s = record { blocks = s.blocks; takes_in = false; marks = s.marks; undo = s.undo }

-- the point lies here
abbrev pub marked_at : Point → State → State
marked_at p s =
    record {
      blocks = s.blocks;
      takes_in = false;
      marks = set_to (key p) (Some (length s.blocks)) s.marks;
      undo = s.undo ++ (key p, s.marks (key p)) ∷ [];
    }

-- the points behind so many conditionals with numbers from n on lie here
abbrev pub marked_each : ℕ → ℕ → State → State
marked_each n zero s = s
marked_each n (suc k) s = marked_at (Behind (n + k)) (marked_each n k s)

-- the marks of another state
abbrev pub with_marks_of : State → State → State
with_marks_of old s = record { blocks = s.blocks; takes_in = s.takes_in; marks = old.marks; undo = old.undo }

-- the blocks of a body stand in front of those that were there, with the points where they lie then, and what was marked can be taken
-- back
pub record Emits (core : Core) (old new : State) : Type 0 where
  pub built : coded new ≡ code core (coded old)
  pub extra : List (ℕ × Option ℕ)
  pub kept : new.undo ≡ old.undo ++ extra
  pub undoes : undone extra new.marks ≡ old.marks
