use Rattle.std.proofs.Common.{rules, ap, Option, Some, None, IsSomeAnd, ◌≡◌}
use Rattle.clap.specs.Lexer.{usize_max}
use Rattle.bg_cli.proofs.line.files.Goals as goal

some_is : {A : Type 0} (o : Option A) (v : A) → IsSomeAnd o (λ x. x ≡ v) → o ≡ Some v
some_is (Some x) v h = ap Some h
some_is None v h = absurd h

pub returns-clause-rule : goal.returns-clause-rule
returns-clause-rule c =
    let many : c.num_args.result.num_vals ≡ Some (record { start_inclusive = 1; end_inclusive = usize_max }) = some_is c.num_args.result.num_vals _ c.num_args.ensures.1 in
    search (rules, many)
