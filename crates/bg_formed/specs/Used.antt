-- Which commands count for a target: those from which its check is reached.
use Rattle.std.specs.Prelude.{ℕ, Bool, true, false, ◌||◌, if◌then◌else◌, List, [], ◌∷◌, Option, Some, None, Ok, Err, slice_get, unwrap_or}
use Rattle.bg_base.specs.declared.exact.OutOfRange.{OutOfRange}
use Rattle.bg_ast.specs.Execution.{Spot}
use Rattle.bg_passive.specs.Passive.{spot_eq}
use Rattle.bg_formed.specs.Formed.{Says, FormCmd, Asks, Takes, FormEdge, FormBlock}

-- whether the target's check is reached from here on, and the first operation on the way that leaves the range
pub record Use : Type 0 where
  pub reached : Bool
  pub refusal : Option OutOfRange

-- nothing is reached
abbrev pub unused : Use
unused = record { reached = false; refusal = None }

abbrev pub refusal_of : Says → Option OutOfRange
refusal_of (Ok f) = None
refusal_of (Err e) = Some e

abbrev pub first_of : Option OutOfRange → Option OutOfRange → Option OutOfRange
first_of None o = o
first_of (Some e) o = Some e

-- one command in front of what is behind it: it counts where something is reached
abbrev pub in_front : Says → Use → Use
in_front r u = if u.reached then record { reached = true; refusal = first_of (refusal_of r) u.refusal } else u

abbrev pub use_cmds : Spot → List FormCmd → Use → Use
use_cmds t [] u = u
use_cmds t (Asks s b r ∷ ks) u =
    let v = use_cmds t ks u in
    if spot_eq s t then record { reached = true; refusal = first_of (refusal_of r) v.refusal } else in_front r v
use_cmds t (Takes b r ∷ ks) u = in_front r (use_cmds t ks u)

abbrev pub use_either : Use → Use → Use
use_either u v = record { reached = u.reached || v.reached; refusal = first_of u.refusal v.refusal }

abbrev pub use_later : List Use → ℕ → Use
use_later later k = unwrap_or (slice_get later k) unused

abbrev pub use_edges : Spot → List Use → List FormEdge → Use
use_edges t later [] = unused
use_edges t later (e ∷ es) = use_either (use_cmds t e.cmds (use_later later e.to)) (use_edges t later es)

abbrev pub use_block : Spot → List Use → FormBlock → Use
use_block t later b = use_cmds t b.cmds (use_edges t later b.next)

abbrev pub uses : Spot → List FormBlock → List Use
uses t [] = []
uses t (b ∷ bs) = let later = uses t bs in use_block t later b ∷ later

-- the first operation that leaves the range, of those that count for the target
abbrev pub refused : Spot → List FormBlock → Option OutOfRange
refused t bs = (use_later (uses t bs) 0).refusal
