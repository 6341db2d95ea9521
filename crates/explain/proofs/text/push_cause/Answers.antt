use Rattle.std.proofs.Common.{append_assoc}
use Rattle.explain.proofs.text.push_cause.Goals as goal

pub returns : goal.returns
returns c = simp (c.in-Some.is, c.in_ok-push.ensures.items, c.in_ok-extend_from_slice-2.ensures.items, c.in_ok-extend_from_slice.ensures.items, c.as_bytes.ensures.value, c.in_ok-place.ensures.ok, c.deref.ensures.value, c.in_ok-deed.ensures, append_assoc)
