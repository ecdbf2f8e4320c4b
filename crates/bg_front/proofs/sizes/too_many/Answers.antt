use Rattle.std.proofs.Common.{◌≡◌, nat_lt, false, refl, lt-ltb, le-ltb, length, map, arith}
use Rattle.std.proofs.lemmas.List.{length-map}
use Rattle.bg_ast.specs.Views.{program_of, impl_of}
use Rattle.bg_front.specs.Programs.{candidate_count, with_guesses}
use Rattle.bg_front.proofs.Guessing.{limit_with}
use Rattle.bg_front.proofs.sizes.too_many.Goals as goal

pub returns-then-implementations-gt-MOST_IMPLEMENTATIONS : goal.returns-then-implementations-gt-MOST_IMPLEMENTATIONS
returns-then-implementations-gt-MOST_IMPLEMENTATIONS c =
    let many : c.len-implementations.result ≡ length (map impl_of c.args.program.now.implementations.items) = let l = length-map c.args.program.now.implementations.items impl_of in omega (arith, c.len-implementations.ensures, c.args.program.now.implementations.ok.0, l) in
    let same = limit_with c.args.guess (program_of c.args.program.now) c.len-implementations.result (candidate_count (with_guesses c.args.guess (program_of c.args.program.now))) many refl in
    rw (lt-ltb 10000 c.len-implementations.result c.if-implementations-gt-MOST_IMPLEMENTATIONS.true) at same

pub returns-then-candidates-gt-MOST_CANDIDATES : goal.returns-then-candidates-gt-MOST_CANDIDATES
returns-then-candidates-gt-MOST_CANDIDATES c =
    let many : c.len-implementations.result ≡ length (map impl_of c.args.program.now.implementations.items) = let l = length-map c.args.program.now.implementations.items impl_of in omega (arith, c.len-implementations.ensures, c.args.program.now.implementations.ok.0, l) in
    let same = limit_with c.args.guess (program_of c.args.program.now) c.len-implementations.result c.in_ok-candidates.candidates many c.in_ok-candidates.ensures in
    let few : nat_lt 10000 c.len-implementations.result ≡ false = le-ltb 10000 c.len-implementations.result (omega (arith, c.if-implementations-gt-MOST_IMPLEMENTATIONS.false)) in
    rw (few, lt-ltb 4096 c.in_ok-candidates.candidates c.if-candidates-gt-MOST_CANDIDATES.true) at same

pub returns : goal.returns
returns c =
    let many : c.len-implementations.result ≡ length (map impl_of c.args.program.now.implementations.items) = let l = length-map c.args.program.now.implementations.items impl_of in omega (arith, c.len-implementations.ensures, c.args.program.now.implementations.ok.0, l) in
    let same = limit_with c.args.guess (program_of c.args.program.now) c.len-implementations.result c.in_ok-candidates.candidates many c.in_ok-candidates.ensures in
    let few : nat_lt 10000 c.len-implementations.result ≡ false = le-ltb 10000 c.len-implementations.result (omega (arith, c.if-implementations-gt-MOST_IMPLEMENTATIONS.false)) in
    let few_too : nat_lt 4096 c.in_ok-candidates.candidates ≡ false = le-ltb 4096 c.in_ok-candidates.candidates (omega (arith, c.if-candidates-gt-MOST_CANDIDATES.false)) in
    rw (few, few_too) at same
