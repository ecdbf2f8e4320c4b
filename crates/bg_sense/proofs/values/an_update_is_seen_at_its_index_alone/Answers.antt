use Rattle.bg_sense.proofs.Keys.{keys_apart}
use Rattle.bg_sense.proofs.MapLaws.{select_updated, select_elsewhere}
use Rattle.bg_sense.proofs.values.an_update_is_seen_at_its_index_alone.Goals as goal

pub returns-clause-here : goal.returns-clause-here
returns-clause-here c ks t m v q h = select_updated ks t m q v h

pub returns-clause-elsewhere : goal.returns-clause-elsewhere
returns-clause-elsewhere c ks t m v q r h d = select_elsewhere ks t m q r v h (keys_apart q r d)
