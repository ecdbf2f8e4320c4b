use Rattle.std.proofs.Common.{◌≡◌, length, sym, arith}
use Rattle.bg_guess.specs.Claims.{subjects_of}
use Rattle.bg_guess.proofs.Sizes.{size_is}
use Rattle.bg_guess.proofs.claim.size.Goals as goal

pub returns : goal.returns
returns c =
    let n : c.len-n.result ≡ length c.args.s.now.numbers.items = omega (arith, c.len-n.ensures, c.args.s.now.numbers.ok.0) in
    let k : c.len.result ≡ length c.args.s.now.kept.items = omega (arith, c.len.ensures, c.args.s.now.kept.ok.0) in
    rw (n, k) (sym (size_is (subjects_of c.args.s.now)))
