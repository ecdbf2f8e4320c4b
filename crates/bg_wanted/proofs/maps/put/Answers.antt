use Rattle.bg_wanted.proofs.Mapping.{put_at}
use Rattle.bg_wanted.proofs.maps.put.Goals as goal

pub returns : goal.returns
returns c =
    λ k.
    put_at c.args.selects.now c.taken-places.new.selects c.insert.new.self c.args.map k c.args.place c.taken-places.result.items c.push.new.self c.taken-places.ensures.places (c.taken-places.ensures.others k) c.in_ok-push.ensures.items (c.in_ok-insert.ensures.updates.0 k)
