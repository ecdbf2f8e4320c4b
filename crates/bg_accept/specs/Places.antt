-- A table of a program's places.
use Rattle.std.specs.Prelude.{◌≡◌, ℕ, ◌<◌, List, length, Vec}
use Rattle.std.specs.declared.alloc.Global.{Global}
use Rattle.bg_ast.specs.Resolved as r
use Rattle.bg_places.specs.declared.place.Place.{Place}
use Rattle.bg_accept.specs.Accepted.{places_at}
use Rattle.bg_accept.specs.Tables.{places_in}

-- the places of the implementations whose numbers are below n
pub record ArePlacesOf (p : r.Program) (n : ℕ) (all : List (Vec Place Global)) : Type 0 where
  pub long : length all ≡ n
  pub places : (k : ℕ) → k < n → places_in all k ≡ places_at p k

-- those of each implementation
pub record ArePlaces (p : r.Program) (all : List (Vec Place Global)) : Type 0 where
  pub long : length all ≡ length p.implementations
  pub places : (k : ℕ) → places_in all k ≡ places_at p k
