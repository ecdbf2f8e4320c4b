use Rattle.std.proofs.Common.{◌≡◌, ◌&&◌, map, drop}
use Rattle.bg_kinds.specs.Faults.{first_of, is_none}
use Rattle.bg_typing.specs.Sides.{pairs_faults}
use Rattle.bg_kinds.specs.FaultViews.{best_of}
use Rattle.bg_typing.specs.SideViews.{side_of}
use Rattle.bg_kinds.specs.KindViews.{kinds_in}
use Rattle.bg_typing.proofs.nodes.want_pairs.Given as goal

abbrev pub invariant-loop-i : goal.invariant-loop-i
invariant-loop-i l =
    record {
      best : first_of (best_of l.best) (pairs_faults (kinds_in (drop l.i l.ws)) (map side_of (drop l.i l.es))) ≡ first_of (best_of l.fn.best) (pairs_faults (kinds_in l.ws) (map side_of l.es));
      fits : (l.fits && is_none (pairs_faults (kinds_in (drop l.i l.ws)) (map side_of (drop l.i l.es)))) ≡ is_none (pairs_faults (kinds_in l.ws) (map side_of l.es));
    }
