use Rattle.std.specs.Prelude.{codes}
use Rattle.bg_ends.proofs.Joined.{in_pieces}
use Rattle.bg_ends.proofs.lines.refuse_file.Goals as goal

pub returns-in-Ok-write_all-2-clause-wrote : goal.returns-in-Ok-write_all-2-clause-wrote
returns-in-Ok-write_all-2-clause-wrote g c = λ _.
    in_pieces (g.E.Sink.written c.args.err.now) (g.E.Sink.written c.write_all.new.sink) (g.E.Sink.written c.write_all-2.new.sink) (g.E.Sink.written c.write_all-3.new.sink)
    (codes "error: cannot read ") c.as_bytes.result.now c.args.file.now (codes "\n")
    c.in-Ok.ensures.ok c.in-Ok-write_all.ensures.ok c.as_bytes.ensures.value c.in-Ok-write_all-2.ensures.ok
