use Rattle.std.proofs.Common.{◌≡◌, ◌⊎◌, ◌+◌, ◌*◌, ◌≤◌, ◌<◌, ℕ, Bool, true, false, List, length, Result, Ok, Err, IfOk, OnOk, sym, ap, subst, arith}
use Rattle.lazy_tree.specs.declared.tree.Node.{Node}
use Rattle.lazy_tree.specs.Shape.{Shape}
use Rattle.lazy_tree.specs.Skip.{node_at, bool_at, IsSound}
use Rattle.lazy_tree.specs.Quiet.{IsQuietNode}
use Rattle.lazy_access.specs.Walk.{IsPath, IsMet, IsCovered, IsQuietAll, ring_of}
use Rattle.lazy_access.specs.Requests.{local_in, HasRoom}
use Rattle.lazy_access.proofs.Visiting.{path-links}
use Rattle.lazy_access.proofs.Reserving.{room-all, quiet-all}
use Rattle.lazy_tree.specs.Ring.{pieces}
use Rattle.lazy_access.proofs.Ties.{path-eager}
use Rattle.lazy_access.proofs.Ringing.{times-upto, ring-flags, quiet-flags}
use Rattle.lazy_access.proofs.reserve.reserve_cuts.Goals as goal

pub clear_path-requires-clause-path : goal.clear_path-requires-clause-path
clear_path-requires-clause-path c =
    path-links c.take_scratch-path.new.self.nodes c.reserve_marked-made.new.tree.nodes c.args.access.node c.mark_path.new.marks.items c.reserve_marked-made.ensures.same.links c.mark_path.ensures.path

on-ok : {A E : Type 0} (P Q : Type 0) (r : Result A E) → (P → Q) → OnOk r P → OnOk r Q
on-ok P Q (Ok a) f h = f h
on-ok P Q (Err e) f h = tt

if-ok : {E : Type 0} (P Q : Bool → Type 0) (r : Result Bool E) → ((b : Bool) → P b → Q b) → IfOk r P → IfOk r Q
if-ok P Q (Ok a) f h = f a h
if-ok P Q (Err e) f h = tt

pub returns-clause-room : goal.returns-clause-room
returns-clause-room c =
    let nodes : List Node = c.args.tree.now.nodes in
    let same : c.take_scratch-path.new.self.nodes ≡ nodes = ap (λ (t : Shape). t.nodes) c.take_scratch-path.ensures.tree in
    let size : c.take_scratch-path.new.self.size ≡ c.args.tree.now.size = ap (λ (t : Shape). t.size) c.take_scratch-path.ensures.tree in
    let last : c.return_scratch.new.self.nodes ≡ c.reserve_marked-made.new.tree.nodes = ap (λ (t : Shape). t.nodes) c.return_scratch.ensures.tree in
    let path : IsPath c.take_scratch-path.new.self.nodes c.args.access.node c.as_slice.result.now = subst (IsPath c.take_scratch-path.new.self.nodes c.args.access.node) (sym c.as_slice.ensures.value) c.mark_path.ensures.path in
    on-ok ((i : ℕ) → IsMet c.take_scratch-path.new.self.nodes c.args.access.node c.args.access.below (length c.take_scratch-path.new.self.nodes) i → (c.args.runs ≤ (node_at c.reserve_marked-made.new.tree.nodes i).runs.spare) ⊎ (bool_at c.as_slice.result.now i ≡ false × IsCovered c.take_scratch-path.new.self.nodes c.args.access.kind c.args.access.span i))
    (HasRoom c.return_scratch.new.self.nodes c.args.access.node c.args.access.below c.args.access.span c.args.access.kind c.args.runs) c.reserve_marked-made.result
    (λ room.
    subst (λ (ns : List Node). HasRoom ns c.args.access.node c.args.access.below c.args.access.span c.args.access.kind c.args.runs) (sym last)
    (room-all c.take_scratch-path.new.self.size c.take_scratch-path.new.self.nodes c.reserve_marked-made.new.tree.nodes c.args.access.node c.as_slice.result.now c.args.access.below c.args.access.kind c.args.access.span c.args.runs
    (subst (λ s. IsSound s c.take_scratch-path.new.self.nodes) (sym size) (subst (λ (ns : List Node). IsSound c.args.tree.now.size ns) (sym same) c.soundness.ensures.sound))
    (omega (arith, c.requires.node, ap length same)) path c.reserve_marked-made.ensures.same room))
    c.reserve_marked-made.ensures.room

pub returns-clause-ring : goal.returns-clause-ring
returns-clause-ring c = λ all_below all.
    let nodes : List Node = c.args.tree.now.nodes in
    let same : c.take_scratch-path.new.self.nodes ≡ nodes = ap (λ (t : Shape). t.nodes) c.take_scratch-path.ensures.tree in
    let was : c.take_scratch-path.new.self.visits ≡ c.args.tree.now.visits = ap (λ (t : Shape). t.visits) c.take_scratch-path.ensures.tree in
    let is : c.return_scratch.new.self.visits ≡ c.reserve_marked-made.new.tree.visits = ap (λ (t : Shape). t.visits) c.return_scratch.ensures.tree in
    let path : IsPath nodes c.args.access.node c.as_slice.result.now = subst (IsPath nodes c.args.access.node) (sym c.as_slice.ensures.value) (rw same at c.mark_path.ensures.path) in
    let flags : (i : ℕ) → i < length nodes → bool_at c.as_slice.result.now i ≡ local_in nodes c.args.access.node i = λ i lt.
    path-eager c.args.tree.now.size nodes c.args.access.node c.as_slice.result.now i c.soundness.ensures.sound c.requires.node path lt in
    let visited : c.reserve_marked-made.new.tree.visits ≤ c.take_scratch-path.new.self.visits + ring_of nodes (bool_at c.as_slice.result.now) * pieces nodes c.args.access.span =
    (rw same at c.reserve_marked-made.ensures.ring) all_below (quiet-flags nodes (local_in nodes c.args.access.node) (bool_at c.as_slice.result.now) c.args.access.kind c.args.access.span (λ i lt. sym (flags i lt)) all) in
    let ring = times-upto (ring_of nodes (bool_at c.as_slice.result.now)) (ring_of nodes (local_in nodes c.args.access.node)) (pieces nodes c.args.access.span) (ring-flags nodes (bool_at c.as_slice.result.now) (local_in nodes c.args.access.node) flags c.soundness.ensures.sound.linked) in
    omega (arith, was, is, visited, ring)

pub returns-clause-quiet : goal.returns-clause-quiet
returns-clause-quiet c =
    let nodes : List Node = c.args.tree.now.nodes in
    let same : c.take_scratch-path.new.self.nodes ≡ nodes = ap (λ (t : Shape). t.nodes) c.take_scratch-path.ensures.tree in
    let last : c.return_scratch.new.self.nodes ≡ c.reserve_marked-made.new.tree.nodes = ap (λ (t : Shape). t.nodes) c.return_scratch.ensures.tree in
    let path : IsPath c.take_scratch-path.new.self.nodes c.args.access.node c.as_slice.result.now = subst (IsPath c.take_scratch-path.new.self.nodes c.args.access.node) (sym c.as_slice.ensures.value) c.mark_path.ensures.path in
    if-ok (λ changes. changes ≡ false → (i : ℕ) → IsMet c.take_scratch-path.new.self.nodes c.args.access.node c.args.access.below (length c.take_scratch-path.new.self.nodes) i → IsQuietNode c.take_scratch-path.new.self.nodes (bool_at c.as_slice.result.now) c.args.access.kind c.args.access.span i)
    (λ changes. changes ≡ false → c.args.access.below ≡ true → IsQuietAll c.return_scratch.new.self.nodes (local_in c.return_scratch.new.self.nodes c.args.access.node) c.args.access.kind c.args.access.span) c.reserve_marked-made.result
    (λ changes quiet none all.
    subst (λ (ns : List Node). IsQuietAll ns (local_in ns c.args.access.node) c.args.access.kind c.args.access.span) (sym last)
    (quiet-all c.args.tree.now.size c.take_scratch-path.new.self.nodes c.reserve_marked-made.new.tree.nodes c.args.access.node c.as_slice.result.now c.args.access.below c.args.access.kind c.args.access.span
    (subst (λ (ns : List Node). IsSound c.args.tree.now.size ns) (sym same) c.soundness.ensures.sound)
    (omega (arith, c.requires.node, ap length same)) path c.reserve_marked-made.ensures.same all (quiet none)))
    c.reserve_marked-made.ensures.quiet
