use Rattle.std.proofs.Common.{◌≡◌, map, length}
use Rattle.bg_ast.specs.Views.{fun_of}
use Rattle.bg_expanded.proofs.Table.{Ready}
use Rattle.bg_expanded.proofs.chains.chains.Given as goal

abbrev pub invariant-loop-ranked : goal.invariant-loop-ranked
invariant-loop-ranked l = record {
  long : length l.deep.items ≡ length l.functions;
  ready : Ready (map fun_of l.functions) l.ranks l.ranked-items l.deep.items l.ranked-index;
}
