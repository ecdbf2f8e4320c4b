use Rattle.std.proofs.Common.{◌≡◌, ◌<◌, ℕ, false, length, take, get_or}
use Rattle.bg_names.specs.Inside.{has_number}
use Rattle.bg_spaces.proofs.modifies.marks.Given as goal

abbrev pub invariant-loop-k : goal.invariant-loop-k
invariant-loop-k l =
    record {
      long : length l.marks.items ≡ l.count;
      exact : (n : ℕ) → n < l.count → get_or l.marks.items n false ≡ has_number (take l.k-index l.ks) n;
    }
