use Rattle.std.proofs.Common.{inr, sym, subst}
use Rattle.bg_rows.specs.Rows.{row_of}
use Rattle.bg_elim.specs.Work.{WorkOf, work_of, Holds, Extends, StaysPlaced, IsThere}
use Rattle.bg_elim.proofs.Rounds.{holds_kept, holds_live, settled_sound, settled_placed, aside_placed, place_some, stays_kept, extends_kept, extends_on, extends_live}
use Rattle.bg_elim.specs.declared.order.Reason.TheVariants.{Tightened}
use Rattle.bg_elim.proofs.Places.{at_below}
use Rattle.bg_elim.proofs.take.settle.Goals as goal

pub join-requires-clause-there : goal.join-requires-clause-there
join-requires-clause-there c =
    at_below row_of c.keep_tight.new.work.rows.items c.in-Some-2.m (row_of c.args.tight.row)
    (place_some c.args.budget (row_of c.args.tight.row) (work_of c.keep_tight.new.work) _ c.in-Some-2.m c.in_ok-m.ensures.place c.in-Some-2.is)

pub returns-in_default-clause-sound : goal.returns-in_default-clause-sound
returns-in_default-clause-sound c = λ given h made.
    holds_kept given (work_of c.args.work.now) (work_of c.keep.new.work) (row_of c.args.row) c.args.reason c.in_ok-n.ensures.kept h made c.requires.fine

pub returns-in_default-2-clause-sound : goal.returns-in_default-2-clause-sound
returns-in_default-2-clause-sound c =
    settled_sound (work_of c.args.work.now) (work_of c.keep.new.work) (work_of c.keep_tight.new.work) (row_of c.args.row) (row_of c.args.tight.row) c.args.reason c.in-Some.n
    c.requires.tight c.requires.fine c.in_ok-n.ensures.kept
    (place_some c.args.budget (row_of c.args.row) (work_of c.keep.new.work) _ c.in-Some.n c.in_ok-n.ensures.place c.in-Some.is)
    c.in_ok-m.ensures.kept

pub returns-clause-sound : goal.returns-clause-sound
returns-clause-sound c = λ given h made.
    subst (Holds given) (sym c.in_ok-join.ensures.joined.same)
    (holds_live given (work_of c.keep_tight.new.work) (work_of c.join.new.work).live
    (settled_sound (work_of c.args.work.now) (work_of c.keep.new.work) (work_of c.keep_tight.new.work) (row_of c.args.row) (row_of c.args.tight.row) c.args.reason c.in-Some.n
    c.requires.tight c.requires.fine c.in_ok-n.ensures.kept
    (place_some c.args.budget (row_of c.args.row) (work_of c.keep.new.work) _ c.in-Some.n c.in_ok-n.ensures.place c.in-Some.is)
    c.in_ok-m.ensures.kept given h made))

pub returns-clause-taken : goal.returns-clause-taken
returns-clause-taken c =
    subst (λ (z : WorkOf). StaysPlaced (work_of c.args.work.now) (row_of c.args.row) z) (sym c.in_ok-join.ensures.joined.same)
    (settled_placed (work_of c.args.work.now) (work_of c.keep.new.work) (work_of c.keep_tight.new.work) (row_of c.args.row) (row_of c.args.tight.row) c.args.reason c.in-Some.n c.in-Some-2.m c.args.tight.stand (work_of c.join.new.work).live
    c.requires.tight c.args.row.normal c.args.tight.row.normal c.in_ok-n.ensures.kept c.in_ok-m.ensures.kept
    (place_some c.args.budget (row_of c.args.tight.row) (work_of c.keep_tight.new.work) _ c.in-Some-2.m c.in_ok-m.ensures.place c.in-Some-2.is)
    c.requires.stand
    c.in_ok-join.ensures.joined.live)

pub returns-in-Implied-clause-taken : goal.returns-in-Implied-clause-taken
returns-in-Implied-clause-taken c =
    aside_placed (work_of c.args.work.now) (work_of c.keep.new.work) (row_of c.args.row) (row_of c.args.tight.row) c.args.reason _ c.args.tight.stand
    c.requires.tight c.args.row.normal c.args.tight.row.normal c.in_ok-n.ensures.kept c.requires.stand c.in-Implied.is

pub returns-in-Implied-clause-sound : goal.returns-in-Implied-clause-sound
returns-in-Implied-clause-sound c = λ given h made.
    holds_kept given (work_of c.args.work.now) (work_of c.keep.new.work) (row_of c.args.row) c.args.reason c.in_ok-n.ensures.kept h made c.requires.fine

pub returns-in-Implied-clause-extends : goal.returns-in-Implied-clause-extends
returns-in-Implied-clause-extends c = extends_kept (work_of c.args.work.now) (work_of c.keep.new.work) (row_of c.args.row) c.args.reason c.in_ok-n.ensures.kept

pub returns-in-Implied-clause-there : goal.returns-in-Implied-clause-there
returns-in-Implied-clause-there c = λ e.
    inr (c.in-Some.n, place_some c.args.budget (row_of c.args.row) (work_of c.keep.new.work) _ c.in-Some.n c.in_ok-n.ensures.place c.in-Some.is)

pub returns-clause-there : goal.returns-clause-there
returns-clause-there c = λ e.
    subst (IsThere (row_of c.args.row)) (sym c.in_ok-join.ensures.joined.same)
    (inr (
      c.in-Some.n,
      stays_kept (work_of c.keep.new.work) (work_of c.keep_tight.new.work) (row_of c.args.tight.row) (Tightened c.in-Some.n) c.in-Some.n (row_of c.args.row) c.in_ok-m.ensures.kept
          (place_some c.args.budget (row_of c.args.row) (work_of c.keep.new.work) _ c.in-Some.n c.in_ok-n.ensures.place c.in-Some.is),
    ))

pub returns-in_default-clause-extends : goal.returns-in_default-clause-extends
returns-in_default-clause-extends c = extends_kept (work_of c.args.work.now) (work_of c.keep.new.work) (row_of c.args.row) c.args.reason c.in_ok-n.ensures.kept

pub returns-in_default-2-clause-extends : goal.returns-in_default-2-clause-extends
returns-in_default-2-clause-extends c =
    extends_on (work_of c.args.work.now) (work_of c.keep.new.work) (work_of c.keep_tight.new.work)
    (extends_kept (work_of c.args.work.now) (work_of c.keep.new.work) (row_of c.args.row) c.args.reason c.in_ok-n.ensures.kept)
    (extends_kept (work_of c.keep.new.work) (work_of c.keep_tight.new.work) (row_of c.args.tight.row) (Tightened c.in-Some.n) c.in_ok-m.ensures.kept)

pub returns-clause-extends : goal.returns-clause-extends
returns-clause-extends c =
    subst (Extends (work_of c.args.work.now)) (sym c.in_ok-join.ensures.joined.same)
    (extends_live (work_of c.args.work.now) (work_of c.keep_tight.new.work) (work_of c.join.new.work).live
    (extends_on (work_of c.args.work.now) (work_of c.keep.new.work) (work_of c.keep_tight.new.work)
    (extends_kept (work_of c.args.work.now) (work_of c.keep.new.work) (row_of c.args.row) c.args.reason c.in_ok-n.ensures.kept)
    (extends_kept (work_of c.keep.new.work) (work_of c.keep_tight.new.work) (row_of c.args.tight.row) (Tightened c.in-Some.n) c.in_ok-m.ensures.kept)))
