use Rattle.std.proofs.Common.{append_assoc}
use Rattle.bg_accept.proofs.text.put_named.Goals as goal

pub returns : goal.returns
returns c = rw (c.in_ok-push-2.ensures.items, c.in_ok-put_position.ensures, c.in_ok-push.ensures.items, c.in_ok-extend_from_slice.ensures.items, c.deref.ensures.value) (simp append_assoc)
