-- The last access changes nothing when it is repeated, and the tree's cuts are those of the entries.
use Rattle.std.proofs.Common.{◌≡◌, ◌⊎◌, ℕ, ◌+◌, ◌-◌, ◌*◌, ◌<◌, ◌≤◌, is_some, ◌==◌, ◌&&◌, ◌||◌, not, eqb, eq-eqb, Bool, true, false, if◌then◌else◌, List, [], ◌∷◌, ◌++◌, Option, Some, None, MatchOption, Result, Ok, Err, IfOk, length, refl, sym, ap, subst, ◌∙◌, arith, inl, inr}
use Rattle.bsan_ids.specs.declared.numbers.Tag.{Tag}
use Rattle.bsan_ids.specs.declared.numbers.Stamp.{Stamp}
use Rattle.bsan_ids.specs.declared.numbers.Span.{Span}
use Rattle.bsan_ids.specs.declared.numbers.Prov.{Prov}
use Rattle.perm_table.specs.declared.Kind.{Kind}
use Rattle.perm_table.specs.declared.Kind.TheVariants.{Read, Write}
use Rattle.ir_ast.specs.Words.{width_bytes, ty_bytes}
use Rattle.eager_tree.specs.declared.violation.Violation.TheVariants.{Stranger, Freed as WasFreed, OutOfRange}
use Rattle.eager_tree.specs.Tree.{Tree, is_node, links}
use Rattle.history.specs.declared.trap.Trap.{Trap}
use Rattle.history.specs.declared.entry.Entry.{Entry}
use Rattle.history.specs.declared.entry.Request.{Request}
use Rattle.history.specs.declared.entry.Request.TheVariants.{Make, Load, Store, Modify, CmpXchg, CopyOut, CopyIn, Retag, EndProtector, Free, Print, Host, Spawn, Join}
use Rattle.history.specs.declared.entry.Plain.TheVariants.{Trapped}
use Rattle.history.specs.declared.entry.Reply.{Reply}
use Rattle.history.specs.declared.entry.Verdict.{Verdict}
use Rattle.history.specs.declared.entry.Verdict.TheVariants.{Clean, Closed, Violated}
use Rattle.history.specs.Memory.{span_of, is_outside, trap_in, Memory}
use Rattle.history.specs.Objects.{Made, Judged, Reborrow, reborrow, answer, data_unless, judged, node_through, step_of, through, kind_of, Object}
use Rattle.history.specs.Histories.{is_make}
use Rattle.lazy_tree.specs.Quiet.{IsQuiet, KeepsQuiet, KeepsCuts}
use Rattle.lazy_tree.specs.Ring.{is_cut, pieces, ring_size}
use Rattle.lazy_tree.specs.Eager.{eager_of}
use Rattle.lazy_tree.proofs.Counting.{count-within}
use Rattle.lazy_tree.specs.Shape.{Shape}
use Rattle.lazy_access.specs.Ready.{IsWithinRing}
use Rattle.lazy_access.specs.declared.request.TreeRequest.{TreeRequest}
use Rattle.lazy_access.specs.declared.request.TreeRequest.TheVariants.{Retag as AskRetag, EndProtector as AskEnd}
use Rattle.alloc_state.specs.Asking.{asks_on, asks_through, asked, asked_unless, refusal, judged_as}
use Rattle.alloc_state.specs.Counted.{IsStill, IsEndAsked, IsCounted, IsIdle}
use Rattle.alloc_state.specs.Repeats.{Reach, reach_of, IsCleanAccess, StaysStill, IsStillAfter, is_end_of, is_end, is_cut_by, pieces_by, HasCutsBy, IsMadeOrCounted, IsRunCounted, IsPrepareCounted, IsRepeat, IsWithinRepeat, ring_times_pieces, visits_of}
use Rattle.history.specs.Fragments.{Shadow}
use Rattle.std.specs.Option.{option_map, option_map_or}
use Rattle.std.proofs.Math.Nat.{mul-le-mul_left}
use Rattle.alloc_state.proofs.Answering.{data-of}

-- The last access.

by-node : (u : Shape) (tag : Tag) (span : Span) (kind : Kind) (t : Tree) (new : Tag) (verdict : Verdict) (there : Bool) → verdict ≡ (judged_as t (asks_through (if there then Some tag else None) (asks_on (Some span) kind)) new).verdict → verdict ≡ Clean → IfOk (asks_through (if there then Some tag else None) (asks_on (Some span) kind)) (IsStill u) → IsQuiet u tag span kind
by-node u tag span kind t new verdict true is clean still = still
by-node u tag span kind t new verdict false is clean still = absurd (let wrong : Violated Stranger ≡ Clean = sym is ∙ clean in cc)

by-prov : (number : ℕ) (t : Tree) (u : Shape) (prov : Option Prov) (span : Span) (kind : Kind) (new : Tag) (verdict : Verdict) → verdict ≡ (judged_as t (asks_through (node_through number t prov) (asks_on (Some span) kind)) new).verdict → verdict ≡ Clean → IfOk (asks_through (node_through number t prov) (asks_on (Some span) kind)) (IsStill u) → StaysStill u (record { prov = prov; span = span; kind = kind })
by-prov number t u None span kind new verdict is clean still = absurd (let wrong : Violated Stranger ≡ Clean = sym is ∙ clean in cc)
by-prov number t u (Some prov) span kind new verdict is clean still = by-node u prov.tag span kind t new verdict (prov.alloc.0 == number && is_node t prov.tag) is clean still

by-closed : (number : ℕ) (t : Tree) (u : Shape) (prov : Option Prov) (span : Span) (kind : Kind) (new : Tag) (verdict : Verdict) (closed : Bool) → verdict ≡ (judged_as t (if closed then Err Closed else asks_through (node_through number t prov) (asks_on (Some span) kind)) new).verdict → verdict ≡ Clean → IfOk (if closed then Err Closed else asks_through (node_through number t prov) (asks_on (Some span) kind)) (IsStill u) → StaysStill u (record { prov = prov; span = span; kind = kind })
by-closed number t u prov span kind new verdict true is clean still = absurd (let wrong : Closed ≡ Clean = sym is ∙ clean in cc)
by-closed number t u prov span kind new verdict false is clean still = by-prov number t u prov span kind new verdict is clean still

-- what is asked for an access
abbrev access_asks : ℕ → Made → Option Prov → Span → Kind → Result TreeRequest Verdict
access_asks number m prov span kind = if m.closed then Err Closed else asks_through (node_through number m.tree prov) (asks_on (Some span) kind)

by-trap : (number : ℕ) (m : Made) (t u : Shape) (request : Request) (span : Span) (reply : Reply) (trap : Option Trap) → judged number m (through request) (step_of m.tree request) ≡ judged_as m.tree (access_asks number m (through request) span (kind_of request)) (record { 0 = 0 }) → reply ≡ (data_unless (record { number = number; made = Some m }) m request trap).reply → ((x : Trap) → reply.plain ≡ Trapped x → ⊥) → reply.verdict ≡ Clean → IsCounted t u (asked_unless trap (access_asks number m (through request) span (kind_of request))) reply.verdict →
    StaysStill u (record { prov = through request; span = span; kind = kind_of request })
by-trap number m t u request span reply (Some trap) judge is done clean counted = absurd (done trap (ap (λ (r : Reply). r.plain) is))
by-trap number m t u request span reply None judge is done clean counted =
    by-closed number m.tree u (through request) span (kind_of request) (record { 0 = 0 }) reply.verdict m.closed
    (ap (λ (r : Reply). r.verdict) is ∙ ap (λ (j : Judged). j.verdict) judge) clean (counted.still clean)

same-reach : (u : Shape) (a r : Reach) → Some a ≡ Some r → StaysStill u a → StaysStill u r
same-reach u a r e h = subst (λ (x : Reach). StaysStill u x) (let same : a ≡ r = cc in same) h

-- an access that was neither refused nor denied changes nothing afterwards
pub clean-still : (number : ℕ) (m : Made) (t u : Shape) (request : Request) (stamp : Stamp) (reply : Reply) (r : Reach) → reach_of request ≡ Some r → reply ≡ (answer (record { number = number; made = Some m }) request stamp).reply → ((x : Trap) → reply.plain ≡ Trapped x → ⊥) → reply.verdict ≡ Clean → IsCounted t u (asked_unless (refusal m.memory request) (asked number m request)) reply.verdict → StaysStill u r
clean-still number m t u (Make size place) stamp reply r access is done clean counted = absurd (let no_reach : None ≡ Some r = access in cc)
clean-still number m t u (Load at ty prov) stamp reply r access is done clean counted =
    same-reach u _ r access (by-trap number m t u (Load at ty prov) (record { start = at; len = ty_bytes ty }) reply (trap_in m.memory (Load at ty prov)) ((data-of number m (Load at ty prov) stamp refl).1 (record { 0 = 0 })) is done clean counted)
clean-still number m t u (Store at ty value carried prov) stamp reply r access is done clean counted =
    same-reach u _ r access (by-trap number m t u (Store at ty value carried prov) (record { start = at; len = ty_bytes ty }) reply (trap_in m.memory (Store at ty value carried prov)) ((data-of number m (Store at ty value carried prov) stamp refl).1 (record { 0 = 0 })) is done clean counted)
clean-still number m t u (Modify at width op value prov) stamp reply r access is done clean counted =
    same-reach u _ r access (by-trap number m t u (Modify at width op value prov) (record { start = at; len = width_bytes width }) reply (trap_in m.memory (Modify at width op value prov)) ((data-of number m (Modify at width op value prov) stamp refl).1 (record { 0 = 0 })) is done clean counted)
clean-still number m t u (CmpXchg at width expected value prov) stamp reply r access is done clean counted =
    same-reach u _ r access (by-trap number m t u (CmpXchg at width expected value prov) (record { start = at; len = width_bytes width }) reply (trap_in m.memory (CmpXchg at width expected value prov)) ((data-of number m (CmpXchg at width expected value prov) stamp refl).1 (record { 0 = 0 })) is done clean counted)
clean-still number m t u (CopyOut at len prov) stamp reply r access is done clean counted =
    same-reach u _ r access (by-trap number m t u (CopyOut at len prov) (record { start = at; len = len }) reply (trap_in m.memory (CopyOut at len prov)) ((data-of number m (CopyOut at len prov) stamp refl).1 (record { 0 = 0 })) is done clean counted)
clean-still number m t u (CopyIn at piece prov) stamp reply r access is done clean counted =
    same-reach u _ r access (by-trap number m t u (CopyIn at piece prov) (record { start = at; len = length piece }) reply (trap_in m.memory (CopyIn at piece prov)) ((data-of number m (CopyIn at piece prov) stamp refl).1 (record { 0 = 0 })) is done clean counted)
clean-still number m t u (Retag at len kind guard prov) stamp reply r access is done clean counted = absurd (let no_reach : None ≡ Some r = access in cc)
clean-still number m t u (EndProtector tag) stamp reply r access is done clean counted = absurd (let no_reach : None ≡ Some r = access in cc)
clean-still number m t u (Free at stack prov) stamp reply r access is done clean counted = absurd (let no_reach : None ≡ Some r = access in cc)
clean-still number m t u (Print value) stamp reply r access is done clean counted = absurd (let no_reach : None ≡ Some r = access in cc)
clean-still number m t u (Host n first second) stamp reply r access is done clean counted = absurd (let no_reach : None ≡ Some r = access in cc)
clean-still number m t u (Spawn function) stamp reply r access is done clean counted = absurd (let no_reach : None ≡ Some r = access in cc)
clean-still number m t u (Join child) stamp reply r access is done clean counted = absurd (let no_reach : None ≡ Some r = access in cc)

-- where the allocation isn't made an access is refused
unmade-access : (number : ℕ) (request : Request) (stamp : Stamp) (reply : Reply) (r : Reach) → reach_of request ≡ Some r → reply ≡ (answer (record { number = number; made = None }) request stamp).reply → ((x : Trap) → reply.plain ≡ Trapped x → ⊥) → ⊥
unmade-access number (Make size place) stamp reply r access is done = absurd (let no_reach : None ≡ Some r = access in cc)
unmade-access number (Load at ty prov) stamp reply r access is done = done _ (ap (λ (x : Reply). x.plain) is)
unmade-access number (Store at ty value carried prov) stamp reply r access is done = done _ (ap (λ (x : Reply). x.plain) is)
unmade-access number (Modify at width op value prov) stamp reply r access is done = done _ (ap (λ (x : Reply). x.plain) is)
unmade-access number (CmpXchg at width expected value prov) stamp reply r access is done = done _ (ap (λ (x : Reply). x.plain) is)
unmade-access number (CopyOut at len prov) stamp reply r access is done = done _ (ap (λ (x : Reply). x.plain) is)
unmade-access number (CopyIn at piece prov) stamp reply r access is done = done _ (ap (λ (x : Reply). x.plain) is)
unmade-access number (Retag at len kind guard prov) stamp reply r access is done = absurd (let no_reach : None ≡ Some r = access in cc)
unmade-access number (EndProtector tag) stamp reply r access is done = absurd (let no_reach : None ≡ Some r = access in cc)
unmade-access number (Free at stack prov) stamp reply r access is done = absurd (let no_reach : None ≡ Some r = access in cc)
unmade-access number (Print value) stamp reply r access is done = absurd (let no_reach : None ≡ Some r = access in cc)
unmade-access number (Host n first second) stamp reply r access is done = absurd (let no_reach : None ≡ Some r = access in cc)
unmade-access number (Spawn function) stamp reply r access is done = absurd (let no_reach : None ≡ Some r = access in cc)
unmade-access number (Join child) stamp reply r access is done = absurd (let no_reach : None ≡ Some r = access in cc)

no-access : (request : Request) (r : Reach) → is_make request ≡ true → reach_of request ≡ Some r → ⊥
no-access (Make size place) r make access = absurd (let no_reach : None ≡ Some r = access in cc)
no-access (Load at ty prov) r make access = absurd (let f : false ≡ true = make in cc)
no-access (Store at ty value carried prov) r make access = absurd (let f : false ≡ true = make in cc)
no-access (Modify at width op value prov) r make access = absurd (let f : false ≡ true = make in cc)
no-access (CmpXchg at width expected value prov) r make access = absurd (let f : false ≡ true = make in cc)
no-access (CopyOut at len prov) r make access = absurd (let f : false ≡ true = make in cc)
no-access (CopyIn at piece prov) r make access = absurd (let f : false ≡ true = make in cc)
no-access (Retag at len kind guard prov) r make access = absurd (let f : false ≡ true = make in cc)
no-access (EndProtector tag) r make access = absurd (let f : false ≡ true = make in cc)
no-access (Free at stack prov) r make access = absurd (let f : false ≡ true = make in cc)
no-access (Print value) r make access = absurd (let f : false ≡ true = make in cc)
no-access (Host n first second) r make access = absurd (let f : false ≡ true = make in cc)
no-access (Spawn function) r make access = absurd (let f : false ≡ true = make in cc)
no-access (Join child) r make access = absurd (let f : false ≡ true = make in cc)

last-same : (es before : List Entry) (e f : Entry) → es ++ e ∷ [] ≡ before ++ f ∷ [] → e ≡ f
last-same [] [] e f h = cc
last-same [] (g ∷ []) e f h = absurd (let wrong : e ∷ [] ≡ g ∷ f ∷ [] = h in cc)
last-same [] (g ∷ k ∷ before) e f h = absurd (let wrong : e ∷ [] ≡ g ∷ k ∷ (before ++ f ∷ []) = h in cc)
last-same (g ∷ []) [] e f h = absurd (let wrong : g ∷ e ∷ [] ≡ f ∷ [] = h in cc)
last-same (g ∷ k ∷ es) [] e f h = absurd (let wrong : g ∷ k ∷ (es ++ e ∷ []) ≡ f ∷ [] = h in cc)
last-same (g ∷ es) (k ∷ before) e f h = last-same es before e f (tails g k (es ++ e ∷ []) (before ++ f ∷ []) h) where
  tails : (x y : Entry) (xs ys : List Entry) → x ∷ xs ≡ y ∷ ys → xs ≡ ys
  tails x y xs ys p = cc

by-make : (number : ℕ) (m : Made) (t u : Shape) (e : Entry) (r : Reach) (make : Bool) → is_make e.request ≡ make → IsCleanAccess e r → e.reply ≡ (answer (record { number = number; made = Some m }) e.request e.stamp).reply → IsMadeOrCounted make number m t u e.request e.reply.verdict → StaysStill u r
by-make number m t u e r true make a is counted = absurd (no-access e.request r make a.access)
by-make number m t u e r false make a is counted = clean-still number m t u e.request e.stamp e.reply r a.access is a.done a.clean counted

run-still : (number : ℕ) (made : Option Made) (before after : Option Shape) (e : Entry) (r : Reach) → IsCleanAccess e r → e.reply ≡ (answer (record { number = number; made = made }) e.request e.stamp).reply → IsRunCounted number made before after e.request e.reply.verdict → MatchOption after ⊥ (λ u. StaysStill u r)
run-still number (Some m) (Some t) (Some u) e r a is counted = by-make number m t u e r (is_make e.request) refl a is counted
run-still number (Some m) (Some t) None e r a is counted = absurd counted
run-still number (Some m) None after e r a is counted = absurd counted
run-still number None before after e r a is counted = absurd (unmade-access number e.request e.stamp e.reply r a.access is a.done)

-- the last access changes nothing of the tree that it leaves
pub still-after : (number : ℕ) (made : Option Made) (before after : Option Shape) (entries : List Entry) (e : Entry) → e.reply ≡ (answer (record { number = number; made = made }) e.request e.stamp).reply → IsRunCounted number made before after e.request e.reply.verdict → IsStillAfter (entries ++ e ∷ []) after
still-after number made before after entries e is counted earlier f r same a =
    let last : e ≡ f = last-same entries earlier e f same in
    run-still number made before after e r (subst (λ (x : Entry). IsCleanAccess x r) (sym last) a) is counted

-- The cuts.

either-end : (at : ℕ) (span : Span) → (at ≡ span.start) ⊎ (at ≡ span.start + span.len) → is_end_of (Some span) at ≡ true
either-end at span (inl e) = rw (eq-eqb at span.start e) refl
either-end at span (inr e) = second (eqb at span.start) (eqb at (span.start + span.len)) (eq-eqb at (span.start + span.len) e) where
  second : (a b : Bool) → b ≡ true → (a || b) ≡ true
  second true b h = refl
  second false b h = h

end-on : (x : Option Tag) (span : Option Span) (kind : Kind) (at : ℕ) → IsEndAsked (asks_through x (asks_on span kind)) at → is_end_of span at ≡ true
end-on None span kind at h = absurd h
end-on (Some x) None kind at h = absurd h
end-on (Some x) (Some span) kind at h = either-end at span h

end-data : (trap : Option Trap) (closed : Bool) (x : Option Tag) (span : Option Span) (kind : Kind) (at : ℕ) → IsEndAsked (asked_unless trap (if closed then Err Closed else asks_through x (asks_on span kind))) at → is_end_of span at ≡ true
end-data (Some trap) closed x span kind at h = absurd h
end-data None true x span kind at h = absurd h
end-data None false x span kind at h = end-on x span kind at h

end-retag : (closed live outside : Bool) (x : Option Tag) (r : Reborrow) (at : ℕ) → IsEndAsked (if closed then Err Closed else (if not live then Err (Violated WasFreed) else if outside then Err (Violated OutOfRange) else asks_through x (λ y. AskRetag y r.span r.kind r.guard))) at → is_end_of (Some r.span) at ≡ true
end-retag true live outside x r at h = absurd h
end-retag false false outside x r at h = absurd h
end-retag false true true x r at h = absurd h
end-retag false true false None r at h = absurd h
end-retag false true false (Some x) r at h = either-end at r.span h

end-end : (closed both : Bool) (tag : Tag) (at : ℕ) → IsEndAsked (if closed then Err Closed else if both then Ok (AskEnd tag) else Err Clean) at → ⊥
end-end true both tag at h = h
end-end false true tag at h = h
end-end false false tag at h = h

end-other : (trap : Option Trap) (closed : Bool) (at : ℕ) → IsEndAsked (asked_unless trap (if closed then Err Closed else Err (Violated Stranger))) at → ⊥
end-other (Some trap) closed at h = h
end-other None true at h = h
end-other None false at h = h

pub end-asked : (number : ℕ) (m : Made) (request : Request) (place : ℕ) → IsEndAsked (asked_unless (refusal m.memory request) (asked number m request)) place → is_end request place ≡ true
end-asked number m (Make size where_it_is) place h = absurd (end-other (refusal m.memory (Make size where_it_is)) m.closed place h)
end-asked number m (Load at ty prov) place h = end-data (trap_in m.memory (Load at ty prov)) m.closed (node_through number m.tree prov) (span_of (Load at ty prov)) Read place h
end-asked number m (Store at ty value carried prov) place h = end-data (trap_in m.memory (Store at ty value carried prov)) m.closed (node_through number m.tree prov) (span_of (Store at ty value carried prov)) Write place h
end-asked number m (Modify at width op value prov) place h = end-data (trap_in m.memory (Modify at width op value prov)) m.closed (node_through number m.tree prov) (span_of (Modify at width op value prov)) Write place h
end-asked number m (CmpXchg at width expected value prov) place h = end-data (trap_in m.memory (CmpXchg at width expected value prov)) m.closed (node_through number m.tree prov) (span_of (CmpXchg at width expected value prov)) Write place h
end-asked number m (CopyOut at len prov) place h = end-data (trap_in m.memory (CopyOut at len prov)) m.closed (node_through number m.tree prov) (span_of (CopyOut at len prov)) Read place h
end-asked number m (CopyIn at piece prov) place h = end-data (trap_in m.memory (CopyIn at piece prov)) m.closed (node_through number m.tree prov) (span_of (CopyIn at piece prov)) Write place h
end-asked number m (Retag at len kind guard prov) place h = end-retag m.closed m.memory.live (is_outside (length m.memory.bytes) (record { start = at; len = len })) (node_through number m.tree prov) (reborrow at len kind guard prov) place h
end-asked number m (EndProtector tag) place h = absurd (end-end m.closed (m.memory.live && is_node m.tree tag) tag place h)
end-asked number m (Free at stack prov) place h = end-data (trap_in m.memory (Free at stack prov)) m.closed (node_through number m.tree prov) None Write place h
end-asked number m (Print value) place h = absurd (end-other (refusal m.memory (Print value)) m.closed place h)
end-asked number m (Host n first second) place h = absurd (end-other (refusal m.memory (Host n first second)) m.closed place h)
end-asked number m (Spawn function) place h = absurd (end-other (refusal m.memory (Spawn function)) m.closed place h)
end-asked number m (Join child) place h = absurd (end-other (refusal m.memory (Join child)) m.closed place h)

-- the cuts of more entries
cut-old : (entries : List Entry) (e : Entry) (at : ℕ) → is_cut_by entries at ≡ true → is_cut_by (entries ++ e ∷ []) at ≡ true
cut-old [] e at h = absurd (let f : false ≡ true = h in cc)
cut-old (f ∷ entries) e at h = more (is_end f.request at) (is_cut_by entries at) (is_cut_by (entries ++ e ∷ []) at) (cut-old entries e at) h where
  more : (a b c : Bool) → (b ≡ true → c ≡ true) → (a || b) ≡ true → (a || c) ≡ true
  more true b c g k = refl
  more false b c g k = g k

cut-new : (entries : List Entry) (e : Entry) (at : ℕ) → is_end e.request at ≡ true → is_cut_by (entries ++ e ∷ []) at ≡ true
cut-new [] e at h = rw h refl
cut-new (f ∷ entries) e at h = more (is_end f.request at) (is_cut_by (entries ++ e ∷ []) at) (cut-new entries e at h) where
  more : (a c : Bool) → c ≡ true → (a || c) ≡ true
  more true c g = refl
  more false c g = g

no-cut : (u : Shape) (at : ℕ) → u.nodes ≡ [] → is_cut u.nodes at ≡ true → ⊥
unfolding is_cut
no-cut u at none h = absurd (let f : (not (eqb at 0) && false) ≡ true = subst (λ ns. is_cut ns at ≡ true) none h in both (not (eqb at 0)) f) where
  both : (a : Bool) → (a && false) ≡ true → ⊥
  both true f = (let g : false ≡ true = f in cc)
  both false f = (let g : false ≡ true = f in cc)

counted-cuts : (entries : List Entry) (e : Entry) (number : ℕ) (m : Made) (t u : Shape) → HasCutsBy entries (Some t) → IsCounted t u (asked_unless (refusal m.memory e.request) (asked number m e.request)) e.reply.verdict → HasCutsBy (entries ++ e ∷ []) (Some u)
counted-cuts entries e number m t u h counted at lt cut =
    let low : at < t.size = (let s = counted.size in omega (arith, lt, s)) in
    elim (counted.cuts at low cut) [
      | inl old ↦ cut-old entries e at (h at low old)
      | inr new ↦ cut-new entries e at (end-asked number m e.request at new)
    ]

make-cuts : (entries : List Entry) (e : Entry) (number : ℕ) (m : Made) (t u : Shape) (make : Bool) → HasCutsBy entries (Some t) → IsMadeOrCounted make number m t u e.request e.reply.verdict → HasCutsBy (entries ++ e ∷ []) (Some u)
make-cuts entries e number m t u true h counted = λ at lt cut. absurd (no-cut u at counted cut)
make-cuts entries e number m t u false h counted = counted-cuts entries e number m t u h counted

-- the cuts of a tree after one more entry
pub run-cuts : (entries : List Entry) (e : Entry) (number : ℕ) (made : Option Made) (before after : Option Shape) → HasCutsBy entries before → IsRunCounted number made before after e.request e.reply.verdict → HasCutsBy (entries ++ e ∷ []) after
run-cuts entries e number (Some m) (Some t) (Some u) h counted = make-cuts entries e number m t u (is_make e.request) h counted
run-cuts entries e number (Some m) (Some t) None h counted = absurd counted
run-cuts entries e number (Some m) None after h counted = absurd counted
run-cuts entries e number None before None h counted = tt
run-cuts entries e number None before (Some u) h counted = λ at lt cut. absurd (no-cut u at counted.1 cut)

-- Room.

still-kept : (t u : Shape) (r : Reach) → KeepsQuiet t u → StaysStill t r → StaysStill u r
still-kept t u r keeps h = by-through r.prov h where
  by-through : (prov : Option Prov) → MatchOption prov ⊥ (λ p. IsQuiet t p.tag r.span r.kind) → MatchOption prov ⊥ (λ p. IsQuiet u p.tag r.span r.kind)
  by-through None g = g
  by-through (Some p) g = keeps p.tag r.span r.kind g

some-kept : (entries : List Entry) (t u : Shape) → KeepsQuiet t u → IsStillAfter entries (Some t) → IsStillAfter entries (Some u)
some-kept entries t u keeps h before e r same a = still-kept t u r keeps (h before e r same a)

pub prepare-still : (entries : List Entry) (number : ℕ) (made : Option Made) (before after : Option Shape) (request : Request) → IsStillAfter entries before → IsPrepareCounted number made before after request → IsStillAfter entries after
prepare-still entries number (Some m) (Some t) (Some u) request h counted = some-kept entries t u counted.quiet h
prepare-still entries number (Some m) (Some t) None request h counted = subst (IsStillAfter entries) (sym counted) h
prepare-still entries number (Some m) None after request h counted = subst (IsStillAfter entries) (sym counted) h
prepare-still entries number None before after request h counted = subst (IsStillAfter entries) (sym counted) h

taken-cuts : (entries : List Entry) (t u : Shape) → u.size ≡ t.size → KeepsCuts t u → HasCutsBy entries (Some t) → HasCutsBy entries (Some u)
taken-cuts entries t u size keeps h at lt cut = h at (omega (arith, lt, size)) (sym (keeps at) ∙ cut)

pub prepare-cuts : (entries : List Entry) (number : ℕ) (made : Option Made) (before after : Option Shape) (request : Request) → HasCutsBy entries before → IsPrepareCounted number made before after request → HasCutsBy entries after
prepare-cuts entries number (Some m) (Some t) (Some u) request h counted = taken-cuts entries t u counted.size counted.cuts h
prepare-cuts entries number (Some m) (Some t) None request h counted = tt
prepare-cuts entries number (Some m) None after request h counted = subst (HasCutsBy entries) (sym counted) h
prepare-cuts entries number None before after request h counted = subst (HasCutsBy entries) (sym counted) h

-- The counter.

-- the tree's pieces of a span are at most those of the entries
pieces-few : (entries : List Entry) (t : Shape) (span : Span) → span.start + span.len ≤ t.size → HasCutsBy entries (Some t) → pieces t.nodes span ≤ pieces_by entries span
unfolding pieces pieces_by
pieces-few entries t span within h =
    let more = count-within (is_cut t.nodes) (is_cut_by entries) (span.start + 1) (span.len - 1) (λ b low high cut. h b (omega (arith, low, high, within)) cut) in
    omega (arith, more)

asked-bound : (number : ℕ) (entries : List Entry) (t u : Shape) (tag : Tag) (span : Span) (kind : Kind) (there : Bool) → IsQuiet t tag span kind → HasCutsBy entries (Some t) → IsIdle (asks_through (if there then Some tag else None) (asks_on (Some span) kind)) t u → IfOk (asks_through (if there then Some tag else None) (asks_on (Some span) kind)) (IsWithinRing t u) →
    u.visits ≤ t.visits + ring_size (links (eager_of t).nodes) tag * pieces_by entries span
asked-bound number entries t u tag span kind true quiet cuts idle ring =
    let few = pieces-few entries t span quiet.within cuts in
    let some : u.visits ≤ t.visits + ring_size (links (eager_of t).nodes) tag * pieces t.nodes span = ring quiet in
    omega (arith, some, mul-le-mul_left (ring_size (links (eager_of t).nodes) tag) few)
asked-bound number entries t u tag span kind false quiet cuts idle ring = omega (arith, idle)

-- an access that changes nothing raises the counter by no more than ring times pieces
access-bound : (number : ℕ) (entries : List Entry) (t u : Shape) (prov : Option Prov) (span : Span) (kind : Kind) (closed : Bool) → StaysStill t (record { prov = prov; span = span; kind = kind }) → HasCutsBy entries (Some t) → IsIdle (if closed then Err Closed else asks_through (node_through number (eager_of t) prov) (asks_on (Some span) kind)) t u → IfOk (if closed then Err Closed else asks_through (node_through number (eager_of t) prov) (asks_on (Some span) kind)) (IsWithinRing t u) →
    u.visits ≤ t.visits + option_map_or (λ (p : Prov). ring_size (links (eager_of t).nodes) p.tag) prov 0 * pieces_by entries span
access-bound number entries t u prov span kind true still cuts idle ring = omega (arith, idle)
access-bound number entries t u None span kind false still cuts idle ring = absurd still
access-bound number entries t u (Some prov) span kind false still cuts idle ring = asked-bound number entries t u prov.tag span kind (prov.alloc.0 == number && is_node (eager_of t) prov.tag) still cuts idle ring

made_with : Memory → Shadow → Shape → Bool → Made
made_with memory shadow t closed = record { memory = memory; shadow = shadow; tree = eager_of t; closed = closed }

-- the bound of a request that repeats an access which changes nothing
asks-bound : (number : ℕ) (entries : List Entry) (memory : Memory) (shadow : Shadow) (closed : Bool) (t u : Shape) (request : Request) (r : Reach) → reach_of request ≡ Some r → StaysStill t r → HasCutsBy entries (Some t) → IsIdle (asked number (made_with memory shadow t closed) request) t u → IfOk (asked number (made_with memory shadow t closed) request) (IsWithinRing t u) → u.visits ≤ t.visits + ring_times_pieces (made_with memory shadow t closed) entries r
unfolding made_with
asks-bound number entries memory shadow closed t u request r access still cuts idle ring = by-request request access idle ring where
  -- the access is the request's
  same : (a : Reach) → Some a ≡ Some r → (StaysStill t a → u.visits ≤ t.visits + ring_times_pieces (made_with memory shadow t closed) entries a) → u.visits ≤ t.visits + ring_times_pieces (made_with memory shadow t closed) entries r
  same a e h = subst (λ (x : Reach). u.visits ≤ t.visits + ring_times_pieces (made_with memory shadow t closed) entries x) (let f : a ≡ r = cc in f) (h (subst (λ (x : Reach). StaysStill t x) (let f : r ≡ a = cc in f) still))

  by-request : (q : Request) → reach_of q ≡ Some r → IsIdle (asked number (made_with memory shadow t closed) q) t u → IfOk (asked number (made_with memory shadow t closed) q) (IsWithinRing t u) → u.visits ≤ t.visits + ring_times_pieces (made_with memory shadow t closed) entries r
  by-request (Make size place) e i w = absurd (let no_reach : None ≡ Some r = e in cc)
  by-request (Load at ty prov) e i w = same _ e (λ s. access-bound number entries t u prov (record { start = at; len = ty_bytes ty }) Read closed s cuts i w)
  by-request (Store at ty value carried prov) e i w = same _ e (λ s. access-bound number entries t u prov (record { start = at; len = ty_bytes ty }) Write closed s cuts i w)
  by-request (Modify at width op value prov) e i w = same _ e (λ s. access-bound number entries t u prov (record { start = at; len = width_bytes width }) Write closed s cuts i w)
  by-request (CmpXchg at width expected value prov) e i w = same _ e (λ s. access-bound number entries t u prov (record { start = at; len = width_bytes width }) Write closed s cuts i w)
  by-request (CopyOut at len prov) e i w = same _ e (λ s. access-bound number entries t u prov (record { start = at; len = len }) Read closed s cuts i w)
  by-request (CopyIn at piece prov) e i w = same _ e (λ s. access-bound number entries t u prov (record { start = at; len = length piece }) Write closed s cuts i w)
  by-request (Retag at len kind guard prov) e i w = absurd (let no_reach : None ≡ Some r = e in cc)
  by-request (EndProtector tag) e i w = absurd (let no_reach : None ≡ Some r = e in cc)
  by-request (Free at stack prov) e i w = absurd (let no_reach : None ≡ Some r = e in cc)
  by-request (Print value) e i w = absurd (let no_reach : None ≡ Some r = e in cc)
  by-request (Host n first second) e i w = absurd (let no_reach : None ≡ Some r = e in cc)
  by-request (Spawn function) e i w = absurd (let no_reach : None ≡ Some r = e in cc)
  by-request (Join child) e i w = absurd (let no_reach : None ≡ Some r = e in cc)

made-bound : (number : ℕ) (entries : List Entry) (m : Made) (t u : Shape) (request : Request) (r : Reach) → eager_of t ≡ m.tree → reach_of request ≡ Some r → StaysStill t r → HasCutsBy entries (Some t) → IsIdle (asked number m request) t u → IfOk (asked number m request) (IsWithinRing t u) → u.visits ≤ t.visits + ring_times_pieces m entries r
unfolding made_with
made-bound number entries m t u request r stands access still cuts idle ring =
    let same : made_with m.memory m.shadow t m.closed ≡ m = ap (λ (e : Tree). (let x : Made = record { memory = m.memory; shadow = m.shadow; tree = e; closed = m.closed } in x)) stands in
    subst (λ (x : Made). u.visits ≤ t.visits + ring_times_pieces x entries r) same
    (asks-bound number entries m.memory m.shadow m.closed t u request r access still cuts
    (subst (λ (x : Made). IsIdle (asked number x request) t u) (sym same) idle)
    (subst (λ (x : Made). IfOk (asked number x request) (IsWithinRing t u)) (sym same) ring))

unless-bound : (trap : Option Trap) (asks : Result TreeRequest Verdict) (t u : Shape) (most : ℕ) → (IsIdle asks t u → IfOk asks (IsWithinRing t u) → u.visits ≤ t.visits + most) → IsIdle (asked_unless trap asks) t u → IfOk (asked_unless trap asks) (IsWithinRing t u) → u.visits ≤ t.visits + most
unless-bound None asks t u most h idle ring = h idle ring
unless-bound (Some trap) asks t u most h idle ring = omega (arith, idle)

some-stands : (t : Shape) (m : Made) → option_map eager_of (Some t) ≡ option_map (λ (x : Made). x.tree) (Some m) → eager_of t ≡ m.tree
some-stands t m e = cc

repeat-made : (number : ℕ) (entries : List Entry) (m : Made) (t u : Shape) (request : Request) (verdict : Verdict) (r : Reach) (make : Bool) → is_make request ≡ make → eager_of t ≡ m.tree → IsStillAfter entries (Some t) → HasCutsBy entries (Some t) → IsRepeat entries request r → IsMadeOrCounted make number m t u request verdict → u.visits ≤ t.visits + ring_times_pieces m entries r
repeat-made number entries m t u request verdict r true make stands still cuts again counted = absurd (no-access request r make again.again)
repeat-made number entries m t u request verdict r false make stands still cuts again counted =
    unless-bound (refusal m.memory request) (asked number m request) t u (ring_times_pieces m entries r)
    (λ idle ring. made-bound number entries m t u request r stands again.again (still again.before again.last r again.ends again.access) cuts idle ring)
    counted.idle counted.ring

-- the commit of a repeat
pub run-repeat : (o : Object) (entries : List Entry) (before after : Option Shape) (request : Request) (verdict : Verdict) → option_map eager_of before ≡ option_map (λ (m : Made). m.tree) o.made → IsStillAfter entries before → HasCutsBy entries before → IsRunCounted o.number o.made before after request verdict → IsWithinRepeat o entries request (visits_of before) (visits_of after)
run-repeat o entries before after request verdict stands still cuts counted r again = by-case o.made before after stands still cuts counted where
  by-case : (made : Option Made) (t u : Option Shape) → option_map eager_of t ≡ option_map (λ (m : Made). m.tree) made → IsStillAfter entries t → HasCutsBy entries t → IsRunCounted o.number made t u request verdict → MatchOption made (visits_of u ≤ visits_of t) (λ m. visits_of u ≤ visits_of t + ring_times_pieces m entries r)
  by-case (Some m) (Some t) (Some u) e s c k = repeat-made o.number entries m t u request verdict r (is_make request) refl (some-stands t m e) s c again k
  by-case (Some m) (Some t) None e s c k = absurd k
  by-case (Some m) None u e s c k = absurd k
  by-case None (Some t) u e s c k = absurd (let wrong : Some t ≡ None = k.0 in cc)
  by-case None None u e s c k = absurd (s again.before again.last r again.ends again.access)

-- the room for a repeat
pub prepare-repeat : (o : Object) (entries : List Entry) (before after : Option Shape) (request : Request) → option_map eager_of before ≡ option_map (λ (m : Made). m.tree) o.made → IsStillAfter entries before → HasCutsBy entries before → IsPrepareCounted o.number o.made before after request → IsWithinRepeat o entries request (visits_of before) (visits_of after)
prepare-repeat o entries before after request stands still cuts counted r again = by-case o.made before after stands still cuts counted where
  by-case : (made : Option Made) (t u : Option Shape) → option_map eager_of t ≡ option_map (λ (m : Made). m.tree) made → IsStillAfter entries t → HasCutsBy entries t → IsPrepareCounted o.number made t u request → MatchOption made (visits_of u ≤ visits_of t) (λ m. visits_of u ≤ visits_of t + ring_times_pieces m entries r)
  by-case (Some m) (Some t) (Some u) e s c k = made-bound o.number entries m t u request r (some-stands t m e) again.again (s again.before again.last r again.ends again.access) c k.idle k.ring
  by-case (Some m) (Some t) None e s c k = absurd (let wrong : None ≡ Some t = k in cc)
  by-case (Some m) None u e s c k = absurd (s again.before again.last r again.ends again.access)
  by-case None t u e s c k = (let same : visits_of u ≡ visits_of t = ap visits_of k in omega (arith, same))

made-rises : (make : Bool) (number : ℕ) (m : Made) (t u : Shape) (request : Request) (verdict : Verdict) → (make ≡ true → ⊥) → IsMadeOrCounted make number m t u request verdict → t.visits ≤ u.visits
made-rises true number m t u request verdict no_make counted = absurd (no_make refl)
made-rises false number m t u request verdict no_make counted = counted.rises

-- the counter doesn't fall
pub run-rises : (number : ℕ) (made : Option Made) (before after : Option Shape) (request : Request) (verdict : Verdict) → (is_make request ≡ true → is_some made ≡ false) → IsRunCounted number made before after request verdict → visits_of before ≤ visits_of after
run-rises number (Some m) (Some t) (Some u) request verdict once counted = made-rises (is_make request) number m t u request verdict (λ make. (let wrong : true ≡ false = once make in cc)) counted
run-rises number (Some m) (Some t) None request verdict once counted = absurd counted
run-rises number (Some m) None after request verdict once counted = absurd counted
run-rises number None before after request verdict once counted = (let none : visits_of before ≡ 0 = ap visits_of counted.0 in omega (arith, none))

pub prepare-rises : (number : ℕ) (made : Option Made) (before after : Option Shape) (request : Request) → IsPrepareCounted number made before after request → visits_of before ≤ visits_of after
prepare-rises number (Some m) (Some t) (Some u) request counted = counted.rises
prepare-rises number (Some m) (Some t) None request counted = (let same : visits_of None ≡ visits_of (Some t) = ap visits_of counted in omega (arith, same))
prepare-rises number (Some m) None after request counted = (let same : visits_of after ≡ visits_of None = ap visits_of counted in omega (arith, same))
prepare-rises number None before after request counted = (let same : visits_of after ≡ visits_of before = ap visits_of counted in omega (arith, same))
