use Rattle.std.proofs.Common.{◌-◌, ◌<◌, length, ap, ◌∙◌, arith}
use Rattle.std.proofs.lemmas.List.{length-map}
use Rattle.protectors.specs.Lists.{RoomyLists}
use Rattle.protectors.proofs.Tops.{map-set_kept}
use Rattle.protectors.proofs.frames.Frames.reserve.Goals as goal

pub returns-clause-lists : goal.returns-clause-lists
returns-clause-lists c =
    let some : 0 < length c.self.inside.frames.items = omega (arith, c.requires, ap (λ (v : RoomyLists). length v.lists) c.self.view_is, length-map c.self.inside.frames.items (λ f. f.list)) in
    map-set_kept (λ f. f.list) c.self.inside.frames.items (c.len-top.result - 1) c.index_mut.result.now c.reserve.new.self (omega (arith, some, c.len-top.ensures)) c.index_mut.ensures.value c.reserve.ensures.list
    ∙ ap (λ (v : RoomyLists). v.lists) c.self.view_is
