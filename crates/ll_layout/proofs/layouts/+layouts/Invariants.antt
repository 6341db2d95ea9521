use Rattle.std.proofs.Common.{◌≡◌, map, drop}
use Rattle.ll_layout.specs.Structs.{all_placed}
use Rattle.ll_layout.specs.Types.{layout_in, front_in}
use Rattle.ll_layout.proofs.layouts.+layouts.Given as goal

abbrev pub invariant-front_in-loop-field : goal.invariant-front_in-loop-field
invariant-front_in-loop-field l =
    all_placed l.packed l.front (map (layout_in l.target l.table) (drop l.field-index l.fields)) ≡ front_in l.target l.table l.packed l.fields
