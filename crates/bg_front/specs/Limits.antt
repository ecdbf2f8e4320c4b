-- How large a text may be.
use Rattle.std.specs.Prelude.{ℕ}

-- the most bytes that a text may have
abbrev pub most_bytes : ℕ
most_bytes = 4194304

-- the most implementations that a program may have
abbrev pub most_implementations : ℕ
most_implementations = 10000

-- the most candidates that a program may have
abbrev pub most_candidates : ℕ
most_candidates = 4096
