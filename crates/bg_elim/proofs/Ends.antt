-- The end of an elimination.
use Rattle.std.proofs.Common.{◌≡◌, ℕ, List, refl, sym, ◌∙◌}
use Rattle.bg_rows.specs.Rows.{RowOf}
use Rattle.bg_elim.specs.declared.work.Round.{Round}
use Rattle.bg_elim.specs.declared.work.Round.TheVariants.{Whole, RefutedBy, Filled, Left}
use Rattle.bg_elim.specs.Work.{WorkOf, Holds, EndsAs, IsStarted, IsOver, SolvesAs, KeepsRows}
use Rattle.bg_elim.proofs.Orders.{before_in}
use Rattle.bg_elim.proofs.Names.{entries_more, rows_in_from}
use Rattle.bg_elim.proofs.Begins.{there_more, all_kept}

pub ends_as : (given : List RowOf) (budget : ℕ) (w : WorkOf) (f g : Type 0) (r : Round) → (f → g) → EndsAs given budget w f r → EndsAs given budget w g r
ends_as given budget w f g Whole k h = k h
ends_as given budget w f g (RefutedBy reason) k h = h
ends_as given budget w f g Filled k h = h
ends_as given budget w f g (Left o) k h = h

pub ends_other : (given : List RowOf) (budget : ℕ) (w : WorkOf) (f g : Type 0) (r : Round) → (r ≡ Whole → ⊥) → EndsAs given budget w f r → EndsAs given budget w g r
ends_other given budget w f g Whole n h = absurd (n refl)
ends_other given budget w f g (RefutedBy reason) n h = h
ends_other given budget w f g Filled n h = h
ends_other given budget w f g (Left o) n h = h

pub solves : (given : List RowOf) (all : List ℕ) (start w : WorkOf) → IsStarted given start → KeepsRows start w → Holds given w → IsOver all w → SolvesAs given w
solves given all start w s k h o = record {
  made = h.made;
  fine = h.fine;
  once = o.1;
  inside = rows_in_from w.order w.rows (λ n r e. entries_more all w.order r.entries (λ q i. sym (o.2 q) ∙ i) (o.0.inside n r e));
  kept = all_kept given w (λ n r e. there_more start w r k (s.0 n r e));
  agree = λ v x m up low au al nu nl pu pl. o.0.agree v x (before_in w.order x up nu) m up low au al nu nl pu pl;
}
