use Rattle.std.proofs.Common.{◌≡◌, length, drop}
use Rattle.bg_cert.proofs.Members.{Marks}
use Rattle.bg_cert.proofs.units.used.Given as goal

abbrev pub invariant-loop-node : goal.invariant-loop-node
invariant-loop-node l =
    record {
      long : length l.set.items ≡ l.candidates;
      marks : Marks l.set.items l.candidates (drop l.node-index l.cert) l.cert;
    }
