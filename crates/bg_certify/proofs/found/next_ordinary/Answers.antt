use Rattle.std.proofs.Common.{sym}
use Rattle.std.proofs.lemmas.List.{drop-drop}
use Rattle.bg_certify.proofs.found.next_ordinary.Goals as goal

pub returns-in-None : goal.returns-in-None
returns-in-None c = rw c.in-None.is (sym (drop-drop 1 c.args.ordinary c.args.judged.now))
