use Rattle.std.proofs.Common.{◌≡◌, ◌<◌, ◌+◌, ◌-◌, ◌++◌, length, map, get_or}
use Rattle.bg_ast.specs.Views.{ex_of}
use Rattle.bg_kinds.specs.Views.{ref_in}
use Rattle.bg_opened.specs.Written.{apart}
use Rattle.bg_opening.specs.Nexts.{code_of, type_code}
use Rattle.bg_opening.proofs.NextSteps.{Pairs}
use Rattle.bg_opening.proofs.uniques.push_apart.Given as goal

abbrev pub invariant-loop-at : goal.invariant-loop-at
invariant-loop-at l = record {
  is :
      map ex_of l.out.items ++ map apart (Pairs l.told l.first.number (ref_in l.first.kind) l.at)
      ≡ map ex_of l.fn.out.items ++ map apart (Pairs l.told l.first.number (ref_in l.first.kind) (l.place + 1));
  code : l.at < length (map code_of l.told) → get_or (map code_of l.told) l.at 0 ≡ type_code 0 (ref_in l.first.kind);
}

abbrev pub decreases-loop-at : goal.decreases-loop-at
decreases-loop-at l = length l.told - l.at
