use Rattle.std.proofs.Common.{rules, ◌≡◌, map, ap, sym, ◌∙◌, length}
use Rattle.std.proofs.lemmas.List.{length-map}
use Rattle.bg_rows.specs.Rows.{row_of}
use Rattle.bg_elim.specs.Keys.{place_of}
use Rattle.bg_elim.specs.Work.{work_of, marked}
use Rattle.bg_elim.proofs.Places.{place_put, map_last}
use Rattle.bg_elim.proofs.Live.{marked_last, pushed_work}
use Rattle.bg_elim.proofs.Listed.{push_listed}
use Rattle.bg_elim.proofs.keep.push.Goals as goal

pub returns-clause-indexed : goal.returns-clause-indexed
returns-clause-indexed c =
    let rows = c.args.work.now.rows.items in
    let r = row_of c.args.row in
    let len : c.len-n.result ≡ length (map row_of rows) = rw length-map (search rules) in
    let more = ap (map row_of) c.in_ok-push.ensures.items ∙ map_last row_of rows c.args.row in
    record {
      keys = λ k.
          place_put (c.args.key.0.items, c.args.key.1) (k.0.items, k.1) r (map row_of rows) _ _ _ len c.requires.key c.requires.new
          (c.requires.indexed.keys k)
          (c.in_ok-insert.ensures.updates.0 k)
          ∙ ap (λ xs. place_of (k.0.items, k.1) 0 xs) (sym more);
      sized = search rules;
      listed = push_listed c.args.work.now r (map row_of c.push.new.self.items) c.push-3.new.self.items c.requires.indexed more c.in_ok-push-3.ensures.items;
    }

pub returns-clause-work : goal.returns-clause-work
returns-clause-work c =
    let w = c.args.work.now in
    pushed_work (work_of w) (row_of c.args.row) c.args.reason _ _ _
    c.in_ok-push-2.ensures.items
    (ap (map row_of) c.in_ok-push.ensures.items ∙ map_last row_of w.rows.items c.args.row)
    (ap (λ bs. marked 0 bs) c.in_ok-push-3.ensures.items ∙ marked_last 0 w.live.items)
