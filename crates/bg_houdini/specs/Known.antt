-- What is known of places.
use Rattle.std.specs.Prelude.{◌≡◌, ℕ, Bool, true, List, map}
use Rattle.std.specs.List.{list_all}
use Rattle.bg_ast.specs.Syntax.{Prog}
use Rattle.bg_ast.specs.Resolved as r
use Rattle.bg_places.specs.declared.place.Place.{Place}
use Rattle.bg_places.specs.Views.{placed_in}
use Rattle.bg_check.specs.declared.effort.Effort.{Effort}
use Rattle.bg_check.specs.declared.verdict.Judged.{Judged}
use Rattle.bg_check.specs.Verdicts.{placed_at, AreRightAt, AreRightFrom, have_all}

-- one right verdict for each of these places, in order, under a set of candidates; where certificates and causes are kept each has its own
pub record AreRightOn (effort : Effort) (p : Prog) (set : ℕ → Bool) (ps : List Place) (js : List Judged) : Type 0 where
  pub places : map placed_at js ≡ placed_in ps
  pub right : AreRightAt effort.budget p set js
  pub whole : effort.keeps ≡ true → have_all js ≡ true

-- one right verdict for each ordinary place of these implementations, numbered from k on; where certificates and causes are kept each has
-- its own
pub record AreKnownFrom (effort : Effort) (p : r.Program) (set : ℕ → Bool) (k : ℕ) (ms : List r.Impl) (os : List (List Judged)) : Type 0 where
  pub right : AreRightFrom effort.budget p set k ms os
  pub whole : effort.keeps ≡ true → list_all have_all os ≡ true

-- of a program
abbrev pub AreKnownUnder : (ℕ → Bool) → Effort → r.Program → List (List Judged) → Type 0
AreKnownUnder set effort p outcome = AreKnownFrom effort p set 0 p.implementations outcome
