use Rattle.bg_kinds.proofs.Gathered.{start_map}
use Rattle.bg_kinds.proofs.written.+start.Goals as goal

pub returns-in-Map : goal.returns-in-Map
returns-in-Map t c = start_map _ _ _ _ _ _ _ c.in-Map.is c.deref.ensures.value c.deref-in-Map.ensures c.start.ensures c.start_in.ensures
