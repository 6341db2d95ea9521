use Rattle.std.proofs.Common.{arith, ◌≡◌, ◌+◌, ◌∙◌, ap, length}
use Rattle.std.specs.List.{filter}
use Rattle.range_map.proofs.RunLemmas.{written, Writes, rising-order, length-bytes_of, starts-filter, length-overwrite}
use Rattle.range_map.specs.Runs.{bytes_of, starts_of}
use Rattle.range_map.specs.Ranges.{stays, with_start, with_end, overwrite}
use Rattle.range_map.proofs.RangeMap.set_run.Goals as goal

pub overflow_add-end : goal.overflow_add-end
overflow_add-end g c =
    let within = rw (← c.self.view_is) at c.requires.within in
    omega (arith, within, c.self.ranges.1.1.0.1, length-bytes_of c.self.inside.len c.self.inside.first c.self.inside.later.items)

-- the runs between the two ends go
kept : (g : _) (c : goal.After-drop_between g) → c.drop_between.new.later.items ≡ filter (λ r. stays c.args.span.start (c.args.span.start + c.args.span.len) r.start) c.self-2.inside.later.items
kept g c = c.drop_between.ensures.kept

same_bytes : (g : _) (c : goal.After-drop_between g) → bytes_of c.self-2.inside.len c.self-2.inside.first c.self-2.inside.later.items ≡ c.args.self.now.bytes
same_bytes g c = ap (λ m. m.bytes) c.self-2.view_is ∙ c.split_at.ensures.bytes ∙ c.end_at.ensures.bytes

split_starts : (g : _) (c : goal.After-drop_between g) → starts_of c.self-2.inside.later.items ≡ with_start c.args.span.start (with_end (length c.args.self.now.bytes) (c.args.span.start + c.args.span.len) c.args.self.now.starts)
split_starts g c = ap (λ m. m.starts) c.self-2.view_is ∙ c.split_at.ensures.starts ∙ ap (with_start c.args.span.start) c.end_at.ensures.starts

after_split : (g : _) (c : goal.After-drop_between g) → Writes c.self-2.inside.len c.args.span.start (c.args.span.start + c.args.span.len) c.self-2.inside.first c.args.value c.self-2.inside.later.items c.drop_between.new.later.items
after_split g c = written _ _ _ _ _ _ _ c.args.self.now.bytes c.args.self.now.starts c.self-2.invariant (same_bytes g c) (split_starts g c) (omega arith) c.requires.within (kept g c)

pub invariant_of-self : goal.invariant_of-self
invariant_of-self g c = (after_split g c).rising

pub put-requires-clause-within : goal.put-requires-clause-within
put-requires-clause-within g c =
    let before = ap length (ap (λ m. m.bytes) c.self-2.view_is ∙ c.split_at.ensures.bytes ∙ c.end_at.ensures.bytes) in
    omega (
      arith,
      before,
      length-bytes_of c.self-2.inside.len c.self-2.inside.first c.self-2.inside.later.items,
      length-bytes_of c.self-2.inside.len c.self-2.inside.first c.drop_between.new.later.items,
    )

pub put-requires-clause-begins : goal.put-requires-clause-begins
put-requires-clause-begins g c = (after_split g c.before).begins

pub returns-clause-bytes : goal.returns-clause-bytes
returns-clause-bytes g c =
    let before = ap (λ m. m.bytes) c.self-2.view_is ∙ c.split_at.ensures.bytes ∙ c.end_at.ensures.bytes in
    let after = (after_split g c.before.before).bytes in
    c.put.ensures.bytes ∙ after ∙ ap (overwrite c.args.span.start (c.args.span.start + c.args.span.len) c.args.value) before

pub returns-clause-starts : goal.returns-clause-starts
returns-clause-starts g c =
    let before = ap (λ m. m.starts) c.self-2.view_is ∙ c.split_at.ensures.starts ∙ ap (with_start c.args.span.start) c.end_at.ensures.starts in
    let gone = c.drop_between.ensures.kept in
    c.put.ensures.starts ∙ ap starts_of gone ∙ starts-filter c.args.span.start (c.args.span.start + c.args.span.len) _ ∙ ap (filter (stays c.args.span.start (c.args.span.start + c.args.span.len))) before

pub returns-clause-size : goal.returns-clause-size
returns-clause-size g c =
    ap length (returns-clause-bytes g c)
    ∙ length-overwrite c.args.span.start (c.args.span.start + c.args.span.len) c.args.value c.args.self.now.bytes (omega arith) c.requires.within

pub drop_between-requires : goal.drop_between-requires
drop_between-requires g c = rising-order _ _ _ c.self-2.invariant
