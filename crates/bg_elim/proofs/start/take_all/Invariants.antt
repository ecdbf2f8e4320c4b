use Rattle.std.proofs.Common.{◌≡◌, ℕ, ◌<◌, ◌≤◌, List, [], map, length, Some}
use Rattle.bg_rows.specs.Rows.{RowOf, row_of}
use Rattle.bg_rows.specs.Steps.{row_at}
use Rattle.bg_elim.specs.Work.{work_of, IsIndexed, Holds, IsThere, AllInside, Placed}
use Rattle.bg_elim.proofs.start.take_all.Given as goal

abbrev pub invariant-loop-j : goal.invariant-loop-j
invariant-loop-j l = record {
  indexed : IsIndexed l.work;
  room : length (work_of l.work).rows ≤ l.budget;
  order : (work_of l.work).order ≡ [];
  holds : Holds (map row_of l.given) (work_of l.work);
  there : (n : ℕ) (r : RowOf) → n < l.j → row_at (map row_of l.given) n ≡ Some r → IsThere r (work_of l.work);
  placed : (all : List ℕ) → AllInside all (map row_of l.given) → Placed all [] (work_of l.work);
}
