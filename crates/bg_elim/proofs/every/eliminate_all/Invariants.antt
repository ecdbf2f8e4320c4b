use Rattle.std.proofs.Common.{◌≡◌, ℕ, ◌≤◌, ◌||◌, length, true, false}
use Rattle.bg_elim.specs.Kept.{is_in, no_twice}
use Rattle.bg_elim.specs.Work.{work_of, IsIndexed, KeepsRows, KeepsSound, Placed}
use Rattle.bg_elim.proofs.every.eliminate_all.Given as goal

abbrev pub invariant-every : goal.invariant-every
invariant-every l = record {
  indexed : IsIndexed l.work;
  room : length (work_of l.work).rows ≤ l.budget;
  rows : KeepsRows (work_of l.initial.work) (work_of l.work);
  sound : KeepsSound (work_of l.initial.work) (work_of l.work);
  placed : Placed l.variables (work_of l.work).order (work_of l.work);
  once : no_twice l.rest.items ≡ true;
  done : no_twice (work_of l.work).order ≡ true;
  same : length l.places.items ≡ length l.rest.items;
  apart : (q : ℕ) → is_in q l.rest.items ≡ true → is_in q (work_of l.work).order ≡ false;
  all : (q : ℕ) → is_in q l.variables ≡ (is_in q (work_of l.work).order || is_in q l.rest.items);
}

abbrev pub decreases-every : goal.decreases-every
decreases-every l = length l.rest.items
