use Rattle.std.proofs.Common.{inl, inr}
use Rattle.bg_elim.proofs.Lists.{stands_even, stands_odd}
use Rattle.bg_elim.proofs.columns.note.Goals as goal

pub returns-in_ok-push_at-in-Even-clause-keeps : goal.returns-in_ok-push_at-in-Even-clause-keeps
returns-in_ok-push_at-in-Even-clause-keeps c = λ y m s. stands_even c.args.columns.now c.push_at.new.lists y m c.in_ok-push_at-in-Even.ensures.keeps s

pub returns-in_ok-push_at-in-Even-clause-there : goal.returns-in_ok-push_at-in-Even-clause-there
returns-in_ok-push_at-in-Even-clause-there c = λ y f. record { place = c.args.p; found = f; inside = inl c.in_ok-push_at-in-Even.ensures.there }

pub returns-in_ok-push_at-in-Odd-clause-keeps : goal.returns-in_ok-push_at-in-Odd-clause-keeps
returns-in_ok-push_at-in-Odd-clause-keeps c = λ y m s. stands_odd c.args.columns.now c.push_at-in-Odd.new.lists y m c.in_ok-push_at-in-Odd.ensures.keeps s

pub returns-in_ok-push_at-in-Odd-clause-there : goal.returns-in_ok-push_at-in-Odd-clause-there
returns-in_ok-push_at-in-Odd-clause-there c = λ y f. record { place = c.args.p; found = f; inside = inr c.in_ok-push_at-in-Odd.ensures.there }
