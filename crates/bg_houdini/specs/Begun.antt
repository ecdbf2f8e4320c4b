-- A set of candidates that is being made of truth values.
use Rattle.std.specs.Prelude.{◌≡◌, ℕ, ◌<◌, ◌≤◌, true, length}
use Rattle.bg_words.specs.Sets.{Numbers, has}

-- the first c of n candidates are as the truth values say, and the others are there
pub record IsBegun (n c : ℕ) (truths made : Numbers) : Type 0 where
  pub count : length made ≡ n
  pub done : (d : ℕ) → d < c → has made d ≡ has truths d
  pub left : (d : ℕ) → c ≤ d → d < n → has made d ≡ true
