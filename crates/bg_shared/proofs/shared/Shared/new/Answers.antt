use Rattle.std.proofs.Common.{ℕ, List, [], sym, subst}
use Rattle.bg_shared.specs.Views.{opening_view}
use Rattle.bg_shared.specs.Table.{Ruled}
use Rattle.atomic_table.specs.Table.{opening}
use Rattle.bg_shared.proofs.Shots.{starts}
use Rattle.bg_shared.proofs.shared.Shared.new.Goals as goal

pub of_words-requires : goal.of_words-requires
of_words-requires c = let o = c.in_ok-words.ensures in subst (λ (l : List ℕ). Ruled c.args.cands c.args.seats (opening l [] (opening_view c.args.cands c.args.seats))) (sym c.as_slice.ensures.value)
    (starts c.in_ok-words.words.items c.args.cands c.args.seats c.requires.0 o.length o.first o.full)
