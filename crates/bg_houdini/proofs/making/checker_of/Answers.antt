use Rattle.std.proofs.Common.{arith}
use Rattle.bg_ast.specs.Meaning.{meaning_of}
use Rattle.bg_ast.specs.Views.{program_of}
use Rattle.bg_houdini.proofs.Members.{owed}
use Rattle.bg_houdini.proofs.making.checker_of.Goals as goal

pub returns-clause-stands : goal.returns-clause-stands
returns-clause-stands g c =
    let p = meaning_of (program_of c.args.program.now) in
    record {
      typed = c.requires.typed;
      scalars = c.requires.scalars;
      resolved = c.requires.resolved;
      prepared = c.in_ok-prepared.ensures;
      tasks_are = c.in_ok-tasks.ensures;
      few = omega arith;
      candidates_are = c.in_ok-candidates.ensures;
      owed = owed c.args.effort.budget p c.requires.resolved (λ set other t es cert h u. c.proved_places_do_not_fail.ensures p set other t es cert c.requires.typed c.requires.scalars h u);
    }
