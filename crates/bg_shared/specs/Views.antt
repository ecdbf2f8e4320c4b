-- A seat's view: what it knows, and what its steps have cost.
use Rattle.std.specs.Prelude.{ℕ, suc, ◌+◌, ◌-◌, Bool, true, false, [], replicate, slice_index, slice_set}
use Rattle.bg_words.specs.declared.machine.Seen.{Seen}
use Rattle.bg_words.specs.Sets.{words_for}
use Rattle.bg_words.specs.Steps.{newcomer, looked, drew, cleared, joined}
use Rattle.bg_shared.specs.declared.view.View.{View}

-- a seat that knows this, and has made no step
abbrev pub seat : Seen → ℕ → ℕ → ℕ → ℕ → View
seat s n seats first right = record { seen = s; live = true; cands = n; seats = seats; first = first; right = right; parts = 1; own = 0; draws = 0; undrawn = false; loads = replicate (words_for n) 0 }

-- the first seat at the start
abbrev pub opening_view : ℕ → ℕ → View
opening_view n seats = seat (newcomer []) n seats 1 (seats - 1)

-- a seat that was joined into the first
abbrev pub spent : View
spent = record { seen = newcomer []; live = false; cands = 0; seats = 0; first = 0; right = 0; parts = 0; own = 0; draws = 0; undrawn = false; loads = [] }

-- the seat after a load of candidate word i, which q tells
abbrev pub looking : View → ℕ → (ℕ → Bool) → View
looking v i q = record {
  seen = looked v.cands v.seen i q;
  live = v.live;
  cands = v.cands;
  seats = v.seats;
  first = v.first;
  right = v.right;
  parts = v.parts;
  own = v.own;
  draws = v.draws;
  undrawn = true;
  loads = slice_set v.loads i (suc (slice_index v.loads i));
}

-- the seat after a draw that found this number
abbrev pub drawing : View → ℕ → View
drawing v number = record { seen = drew v.seen number; live = v.live; cands = v.cands; seats = v.seats; first = v.first; right = v.right; parts = v.parts; own = suc v.own; draws = suc v.draws; undrawn = false; loads = v.loads }

-- the seat after it cleared candidate c
abbrev pub clearing : View → ℕ → ℕ → Bool → View
clearing v number c was_there = record { seen = cleared v.cands v.seen number c was_there; live = v.live; cands = v.cands; seats = v.seats; first = v.first; right = v.right; parts = v.parts; own = v.own; draws = v.draws; undrawn = v.undrawn; loads = v.loads }

-- the first seat after a fork
abbrev pub forking : View → View
forking v = record { seen = v.seen; live = v.live; cands = v.cands; seats = v.seats; first = v.first; right = v.right - 1; parts = v.parts; own = v.own; draws = v.draws; undrawn = v.undrawn; loads = v.loads }

-- the new seat
abbrev pub forked : View → View
forked v = seat (newcomer v.seen.missing) v.cands v.seats 0 0

-- the first seat after the other is joined into it
abbrev pub joining : View → View → View
joining v w = record {
  seen = joined v.cands v.seen w.seen;
  live = v.live;
  cands = v.cands;
  seats = v.seats;
  first = v.first;
  right = v.right + w.right;
  parts = v.parts + w.parts;
  own = v.own;
  draws = v.draws + w.draws;
  undrawn = v.undrawn;
  loads = v.loads;
}
