use Rattle.std.proofs.Common.{arith}
use Rattle.std.proofs.lemmas.Bool.Decides.{nat_tests}
use Rattle.bg_term_table.specs.Views.{term_of}
use Rattle.bg_wanted.proofs.Rowed.{mapped_length}
use Rattle.bg_wanted.proofs.way.is_there.Goals as goal

pub returns : goal.returns
returns c =
    record {
      so = λ fs e. let q = mapped_length (term_of fs) c.args.sight.terms.now in grind (arith, nat_tests, q, e);
      not = λ fs e. let q = mapped_length (term_of fs) c.args.sight.terms.now in grind (arith, nat_tests, q, e);
    }
