use Rattle.std.proofs.Common.{◌≡◌, ◌-◌, ◌<◌, length, ap, sym, arith}
use Rattle.std.specs.Prelude.{map}
use Rattle.std.proofs.lemmas.List.{length-map}
use Rattle.protectors.specs.Lists.{RoomyList, RoomyLists}
use Rattle.protectors.proofs.Tops.{map-set_top}
use Rattle.protectors.proofs.frames.Frames.push.Goals as goal

pub returns-clause-lists : goal.returns-clause-lists
returns-clause-lists c =
    let same = length-map c.self.inside.frames.items (λ (f : RoomyList). f.list) in
    let some : 0 < length c.self.inside.frames.items = omega (arith, c.requires.some, ap (λ (v : RoomyLists). length v.lists) c.self.view_is, same) in
    let at : c.len-top.result - 1 ≡ length (map (λ (f : RoomyList). f.list) c.self.inside.frames.items) - 1 = omega (arith, same, c.len-top.ensures) in
    rw (at, ← c.self.view_is)
    (map-set_top (λ f. f.list) c.self.inside.frames.items (length (map (λ (f : RoomyList). f.list) c.self.inside.frames.items) - 1) c.index_mut.result.now c.push.new.self c.args.prov
    (omega (arith, same, some))
    (rw (sym at) c.index_mut.ensures.value)
    c.push.ensures.list)
