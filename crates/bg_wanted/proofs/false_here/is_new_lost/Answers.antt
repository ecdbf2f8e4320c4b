use Rattle.bg_wanted.proofs.false_here.is_new_lost.Goals as goal

pub returns-in-Some-select_at : goal.returns-in-Some-select_at
returns-in-Some-select_at c =
    λ e.
    record {
      update = c.in-Some.update;
      select = c.in-Some-select_at.x;
      its_update = c.in-Some.ensures.0;
      its_select = c.in-Some-select_at.ensures.0;
      first = c.in-Some.ensures.1;
      second = c.in-Some-select_at.ensures.1;
      wrong = c.is_new_wrong.ensures e;
    }
