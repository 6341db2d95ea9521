use Rattle.std.proofs.Common.{refl}
use Rattle.ll_layout.proofs.layouts.Layouts.offset_of.Goals as goal

pub returns : goal.returns
returns c = rw (c.offset.ensures, c.front_in-front.ensures, c.field_in-field.ensures, c.before-2.ensures, c.deref.ensures.value, c.deref-2.ensures.value) refl
