use Rattle.bg_wanted.proofs.false_here.is_old_lost.Goals as goal

pub returns-in-Some-select_at-2 : goal.returns-in-Some-select_at-2
returns-in-Some-select_at-2 c =
    λ e.
    record {
      update = c.in-Some.update;
      select = c.in-Some-select_at.x;
      another = c.in-Some-select_at-2.y;
      its_update = c.in-Some.ensures.0;
      its_select = c.in-Some-select_at.ensures.0;
      its_other = c.in-Some-select_at-2.ensures.0;
      first = c.in-Some.ensures.1;
      second = c.in-Some-select_at.ensures.1;
      third = c.in-Some-select_at-2.ensures.1;
      wrong = c.is_old_wrong.ensures e;
    }
