-- What the workers of a trial have.
use Rattle.std.specs.Prelude.{◌≡◌, ℕ, ◌*◌, ◌<◌, ◌≤◌, true, length}
use Rattle.bg_claims.specs.declared.table.Claims.{Claims}
use Rattle.bg_shared.specs.declared.shared.Shared.{Shared}
use Rattle.bg_shared.specs.declared.view.View.{View}
use Rattle.bg_words.specs.Sets.{has}
use Rattle.bg_shared.specs.Seats.{view, IsOf, IsIdle}
use Rattle.bg_trial.specs.declared.sitter.Sitter.{Sitter}
use Rattle.bg_trial.specs.declared.script.Worker.{Worker}
use Rattle.bg_claims.specs.Seats as claim

-- the seat is of this table, no draw is pending there, and the set is of the table's candidates
pub record IsReady (shared : Shared) (s : Sitter) : Type 0 where
  pub seat : IsOf s.seat shared
  pub idle : IsIdle s.seat
  pub count : length s.set ≡ shared.cands

-- the set is the seat's last snapshot, whole, from which nothing is drawn
pub record HasShot (shared : Shared) (s : Sitter) : Type 0 where
  pub shot : (d : ℕ) → d < shared.cands → has s.set d ≡ has (view s.seat).seen.snapshot d
  pub whole : shared.cands ≤ 64 * (view s.seat).seen.loaded
  pub undrawn : (view s.seat).undrawn ≡ true

-- neither the seat's standing among the others nor theirs with it is changed
pub record SameStanding (old new : View) : Type 0 where
  pub first : new.first ≡ old.first
  pub right : new.right ≡ old.right
  pub parts : new.parts ≡ old.parts

-- the worker's seats are of these tables, and its seat at the shared set is a forked one alone
pub record Works (claims : Claims) (shared : Shared) (w : Worker) : Type 0 where
  pub claim_seat : claim.IsOf w.claim claims
  pub ready : IsReady shared w.sitter
  pub part : (view w.sitter.seat).parts ≡ 1
  pub right : (view w.sitter.seat).right ≡ 0
