-- What an allocation answers, by what plain memory and the tree make of a request.
use Rattle.std.proofs.Common.{◌≡◌, ℕ, ◌+◌, ◌<◌, ◌≤◌, ◌==◌, ◌&&◌, ◌||◌, not, nat_le, Bool, true, false, if◌then◌else◌, IsTrue, Option, Some, None, Result, Ok, Err, IfOk, List, length, All, refl, sym, ap, subst, ◌∙◌, arith, inl}
use Rattle.std.proofs.lemmas.Bool.{ltb-false}
use Rattle.std.proofs.lemmas.List.{length-replicate}
use Rattle.std.proofs.lemmas.Bool.Decides.{nat_tests}
use Rattle.bsan_ids.specs.declared.numbers.Tag.{Tag}
use Rattle.bsan_ids.specs.declared.numbers.Stamp.{Stamp}
use Rattle.bsan_ids.specs.declared.numbers.Span.{Span}
use Rattle.bsan_ids.specs.declared.numbers.Prov.{Prov}
use Rattle.perm_table.specs.declared.Kind.{Kind}
use Rattle.perm_table.specs.declared.Kind.TheVariants.{Read, Write}
use Rattle.ir_ast.specs.declared.types.Ty.{Ty}
use Rattle.ir_ast.specs.declared.types.Ty.TheVariants.{Int, Ptr}
use Rattle.ir_ast.specs.declared.types.Width.{Width}
use Rattle.ir_ast.specs.declared.types.Width.TheVariants.{W8, W16, W32, W64}
use Rattle.ir_ast.specs.Words.{width_bytes, ty_bytes}
use Rattle.ir_ast.specs.Sizes.{most_size}
use Rattle.eager_tree.specs.declared.violation.Violation.{Violation}
use Rattle.eager_tree.specs.declared.violation.Violation.TheVariants.{Stranger, Freed as WasFreed, OutOfRange}
use Rattle.eager_tree.specs.Tree.{Tree, is_node, new_tree}
use Rattle.history.specs.declared.trap.Trap.{Trap}
use Rattle.history.specs.declared.trap.Trap.TheVariants.{OutOfBounds, Freed, BadFree}
use Rattle.history.specs.declared.entry.Request.{Request}
use Rattle.history.specs.declared.entry.Request.TheVariants.{Make, Load, Store, Modify, CmpXchg, CopyOut, CopyIn, Retag, EndProtector, Free, Print, Host, Spawn, Join}
use Rattle.history.specs.declared.entry.Plain.TheVariants.{Copied as IsCopied}
use Rattle.history.specs.declared.entry.Verdict.{Verdict}
use Rattle.history.specs.declared.entry.Verdict.TheVariants.{Clean, Closed, Violated}
use Rattle.history.specs.Pieces.{Byte}
use Rattle.history.specs.Memory.{Memory, span_of, is_outside, trap_in}
use Rattle.history.specs.Objects.{Answer, Made, Judged, Reborrow, reborrow, answer, data_answer, judged, judged_through, node_through, plain_reply, carried_by, retag_judged, end_judged, step_of, step_on, through, kind_of, is_clean, prov_of, violated}
use Rattle.history.specs.Histories.{fits, is_make}
use Rattle.lazy_tree.specs.Eager.{eager_of}
use Rattle.lazy_tree.specs.Shape.{Shape}
use Rattle.lazy_access.specs.declared.request.TreeRequest.{TreeRequest}
use Rattle.lazy_access.specs.declared.request.TreeRequest.TheVariants.{Retag as AskRetag, EndProtector as AskEnd}
use Rattle.lazy_access.specs.Ready.{IsReadyFor, KeepsReady, Fits}
use Rattle.alloc_state.specs.declared.outcome.Seen.TheVariants.{Made as SeesMade, Retagged, Done, Trapped}
use Rattle.alloc_state.specs.declared.outcome.Outcome.{Outcome}
use Rattle.alloc_state.specs.Outcomes.{plain_with, reply_with, seen_in, HasBytesOut}
use Rattle.alloc_state.specs.PlainValues.{PlainValue, is_data, carried_in, done_by}
use Rattle.alloc_state.specs.Asking.{asks_on, asks_through, asked_reborrow, asked, refusal, told, judged_as, asker, MayAsk, IsReadyToAsk}
use Rattle.alloc_state.specs.Counted.{IsCounted}
use Rattle.alloc_state.specs.MadeValues.{MadeValue, made_of, object_of, object_in, judged_of, IsPrepared, KeepsPrepared}
use Rattle.alloc_state.specs.Prepared.{IsFreshFor}

-- The tree can be asked.

-- what is asked is asked of a node, on bytes of the allocation
record IsInside (t : Shape) (request : TreeRequest) : Type 0 where
  node : IsTrue (is_node (eager_of t) (asker request))
  fits : Fits t.size request

inside-may : (t : Shape) (new : Tag) (asks : Result TreeRequest Verdict) → IfOk asks (IsInside t) → IsReadyToAsk t asks → All (λ n. n.tag.0 < new.0) (eager_of t).nodes → IfOk asks (MayAsk t new)
inside-may t new (Err verdict) inside ready newest = tt
inside-may t new (Ok request) inside ready newest = record { node = inside.node; fits = inside.fits; ready = ready inside.fits; newest = newest }

unless-closed : (closed : Bool) (asks : Result TreeRequest Verdict) (P : TreeRequest → Type 0) → IfOk asks P → IfOk (if closed then Err Closed else asks) P
unless-closed true asks P h = tt
unless-closed false asks P h = h

by-node : (same there : Bool) (x : Tag) (ask : Tag → TreeRequest) (P : TreeRequest → Type 0) → (there ≡ true → P (ask x)) → IfOk (asks_through (if same && there then Some x else None) ask) P
by-node true true x ask P h = h refl
by-node true false x ask P h = tt
by-node false there x ask P h = tt

through-node : (number : ℕ) (t : Tree) (prov : Option Prov) (ask : Tag → TreeRequest) (P : TreeRequest → Type 0) → ((x : Tag) → IsTrue (is_node t x) → P (ask x)) → IfOk (asks_through (node_through number t prov) ask) P
through-node number t None ask P h = tt
through-node number t (Some prov) ask P h = by-node (prov.alloc.0 == number) (is_node t prov.tag) prov.tag ask P (λ there. h prov.tag there)

untrapped-by : (live outside bad : Bool) → (if not live then Some Freed else if outside then Some OutOfBounds else if bad then Some BadFree else None) ≡ None → outside ≡ false
untrapped-by true true bad e = absurd (let no_trap : Some OutOfBounds ≡ None = e in cc)
untrapped-by true false bad e = refl
untrapped-by false outside bad e = absurd (let no_trap : Some Freed ≡ None = e in cc)

within-of : (size : ℕ) (span : Span) → is_outside size span ≡ false → span.start + span.len ≤ size
within-of size span e = ltb-false size (span.start + span.len) e

one_width : (width : Width) → 1 ≤ width_bytes width
one_width W8 = omega arith
one_width W16 = omega arith
one_width W32 = omega arith
one_width W64 = omega arith

one_ty : (ty : Ty) → 1 ≤ ty_bytes ty
one_ty (Int width) = one_width width
one_ty Ptr = omega arith

le-of : (a b : ℕ) → nat_le a b ≡ true → a ≤ b
le-of a b e = grind (arith, nat_tests, e)

first-of : (a b : Bool) → (a && b) ≡ true → a ≡ true
first-of true b e = refl
first-of false b e = e

-- an access to bytes of the allocation
access-inside : (number : ℕ) (v : MadeValue) (prov : Option Prov) (span : Span) (kind : Kind) (bad : Bool) → length v.plain.memory.bytes ≡ v.tree.size → 1 ≤ span.len → (if not v.plain.memory.live then Some Freed else if is_outside (length v.plain.memory.bytes) span then Some OutOfBounds else if bad then Some BadFree else None) ≡ None →
    IfOk (if v.closed then Err Closed else asks_through (node_through number (eager_of v.tree) prov) (asks_on (Some span) kind)) (IsInside v.tree)
access-inside number v prov span kind bad size some trap =
    let inside = within-of (length v.plain.memory.bytes) span (untrapped-by v.plain.memory.live (is_outside (length v.plain.memory.bytes) span) bad trap) in
    unless-closed v.closed (asks_through (node_through number (eager_of v.tree) prov) (asks_on (Some span) kind)) (IsInside v.tree)
    (through-node number (eager_of v.tree) prov (asks_on (Some span) kind) (IsInside v.tree) (λ x there. record { node = there; fits = (some, omega (arith, inside, size)) }))

unless-freed : (live outside : Bool) (asks : Result TreeRequest Verdict) (P : TreeRequest → Type 0) → (outside ≡ false → IfOk asks P) → IfOk (if not live then Err (Violated WasFreed) else if outside then Err (Violated OutOfRange) else asks) P
unless-freed true true asks P h = tt
unless-freed true false asks P h = h refl
unless-freed false outside asks P h = tt

reborrow-inside : (number : ℕ) (v : MadeValue) (r : Reborrow) → length v.plain.memory.bytes ≡ v.tree.size → 1 ≤ r.span.len → IfOk (asked_reborrow number (made_of v) r) (IsInside v.tree)
reborrow-inside number v r size some =
    unless-freed v.plain.memory.live (is_outside (length v.plain.memory.bytes) r.span) (asks_through (node_through number (eager_of v.tree) r.prov) (λ x. AskRetag x r.span r.kind r.guard)) (IsInside v.tree)
    (λ e. let inside = within-of (length v.plain.memory.bytes) r.span e in
    through-node number (eager_of v.tree) r.prov (λ x. AskRetag x r.span r.kind r.guard) (IsInside v.tree) (λ x there. record { node = there; fits = (some, omega (arith, inside, size)) }))

end-inside : (v : MadeValue) (tag : Tag) (live there : Bool) → there ≡ is_node (eager_of v.tree) tag → IfOk (if live && there then Ok (AskEnd tag) else Err Clean) (IsInside v.tree)
end-inside v tag true true e = record { node = sym e; fits = tt }
end-inside v tag true false e = tt
end-inside v tag false there e = tt

stranger-inside : (t : Shape) (closed : Bool) → IfOk (if closed then Err Closed else Err (Violated Stranger)) (IsInside t)
stranger-inside t true = tt
stranger-inside t false = tt

asked-inside : (number : ℕ) (v : MadeValue) (request : Request) → length v.plain.memory.bytes ≡ v.tree.size → IsTrue (fits request) → refusal v.plain.memory request ≡ None → IfOk (asked number (made_of v) request) (IsInside v.tree)
asked-inside number v (Make bytes place) size fit trap = stranger-inside v.tree v.closed
asked-inside number v (Load at ty prov) size fit trap = access-inside number v prov (record { start = at; len = ty_bytes ty }) Read false size (one_ty ty) trap
asked-inside number v (Store at ty value carried prov) size fit trap = access-inside number v prov (record { start = at; len = ty_bytes ty }) Write false size (one_ty ty) trap
asked-inside number v (Modify at width op value prov) size fit trap = access-inside number v prov (record { start = at; len = width_bytes width }) Write false size (one_width width) trap
asked-inside number v (CmpXchg at width expected value prov) size fit trap = access-inside number v prov (record { start = at; len = width_bytes width }) Write false size (one_width width) trap
asked-inside number v (CopyOut at len prov) size fit trap = access-inside number v prov (record { start = at; len = len }) Read false size (le-of 1 len (first-of (nat_le 1 len) (nat_le len 32) fit)) trap
asked-inside number v (CopyIn at piece prov) size fit trap = access-inside number v prov (record { start = at; len = length piece }) Write false size (le-of 1 (length piece) (first-of (nat_le 1 (length piece)) (nat_le (length piece) 32) fit)) trap
asked-inside number v (Retag at len kind guard prov) size fit trap =
    unless-closed v.closed (asked_reborrow number (made_of v) (reborrow at len kind guard prov)) (IsInside v.tree) (reborrow-inside number v (reborrow at len kind guard prov) size (le-of 1 len fit))
asked-inside number v (EndProtector tag) size fit trap =
    unless-closed v.closed (if v.plain.memory.live && is_node (eager_of v.tree) tag then Ok (AskEnd tag) else Err Clean) (IsInside v.tree) (end-inside v tag v.plain.memory.live (is_node (eager_of v.tree) tag) refl)
asked-inside number v (Free at stack prov) size fit trap =
    unless-closed v.closed (asks_through (node_through number (eager_of v.tree) prov) (asks_on None Write)) (IsInside v.tree)
    (through-node number (eager_of v.tree) prov (asks_on None Write) (IsInside v.tree) (λ x there. record { node = there; fits = tt }))
asked-inside number v (Print value) size fit trap = stranger-inside v.tree v.closed
asked-inside number v (Host n first second) size fit trap = stranger-inside v.tree v.closed
asked-inside number v (Spawn function) size fit trap = stranger-inside v.tree v.closed
asked-inside number v (Join child) size fit trap = stranger-inside v.tree v.closed

pub may-ask : (number : ℕ) (v : MadeValue) (t : Shape) (request : Request) (new : Tag) (asks : Result TreeRequest Verdict) → asks ≡ asked number (made_of v) request → t ≡ v.tree → length v.plain.memory.bytes ≡ v.tree.size → IsTrue (fits request) → refusal v.plain.memory request ≡ None → IsPrepared number v request → All (λ n. n.tag.0 < new.0) (eager_of v.tree).nodes → IfOk asks (MayAsk t new)
may-ask number v t request new asks is same size fit trap prepared newest =
    subst (λ (u : Shape). IfOk asks (MayAsk u new)) (sym same)
    (subst (λ (a : Result TreeRequest Verdict). IfOk a (MayAsk v.tree new)) (sym is)
    (inside-may v.tree new (asked number (made_of v) request) (asked-inside number v request size fit trap) prepared.tree newest))

-- The verdict.

either-judged : (closed : Bool) (j : Judged) (t : Tree) (asks : Result TreeRequest Verdict) (new : Tag) → j ≡ judged_as t asks new → (if closed then record { verdict = Closed; tree = t; closed = true } else j) ≡ judged_as t (if closed then Err Closed else asks) new
either-judged true j t asks new e = refl
either-judged false j t asks new e = e

through-judged : (t : Tree) (x : Option Tag) (span : Option Span) (kind : Kind) (new : Tag) → judged_through t x (step_on span t kind) ≡ judged_as t (asks_through x (asks_on span kind)) new
through-judged t None span kind new = refl
through-judged t (Some x) None kind new = refl
through-judged t (Some x) (Some span) kind new = refl

-- the verdict on a request for data
data-judged : (number : ℕ) (m : Made) (prov : Option Prov) (span : Option Span) (kind : Kind) (new : Tag) →
    judged number m prov (step_on span m.tree kind) ≡ judged_as m.tree (if m.closed then Err Closed else asks_through (node_through number m.tree prov) (asks_on span kind)) new
data-judged number m prov span kind new =
    either-judged m.closed (judged_through m.tree (node_through number m.tree prov) (step_on span m.tree kind)) m.tree (asks_through (node_through number m.tree prov) (asks_on span kind)) new
    (through-judged m.tree (node_through number m.tree prov) span kind new)

reborrow-through : (t : Tree) (x : Option Tag) (r : Reborrow) (new : Tag) → judged_through t x (λ y. told t (AskRetag y r.span r.kind r.guard) new) ≡ judged_as t (asks_through x (λ y. AskRetag y r.span r.kind r.guard)) new
reborrow-through t None r new = refl
reborrow-through t (Some x) r new = refl

reborrow-judged : (live outside : Bool) (t : Tree) (j : Judged) (asks : Result TreeRequest Verdict) (new : Tag) → j ≡ judged_as t asks new → (if not live then violated t WasFreed else if outside then violated t OutOfRange else j) ≡ judged_as t (if not live then Err (Violated WasFreed) else if outside then Err (Violated OutOfRange) else asks) new
reborrow-judged true true t j asks new e = refl
reborrow-judged true false t j asks new e = e
reborrow-judged false outside t j asks new e = refl

open-judged : (closed : Bool) (t : Tree) (x : Option Tag) (step : Tag → Option Violation × Tree) → (if closed then record { verdict = Closed; tree = t; closed = true } else (if closed then record { verdict = Closed; tree = t; closed = true } else judged_through t x step)) ≡ (if closed then record { verdict = Closed; tree = t; closed = true } else judged_through t x step)
open-judged true t x step = refl
open-judged false t x step = refl

retag-judged : (number : ℕ) (m : Made) (r : Reborrow) (new : Tag) (closed : Bool) → m.closed ≡ closed → retag_judged number m r new.0 ≡ judged_as m.tree (if closed then Err Closed else asked_reborrow number m r) new
retag-judged number m r new true e = rw e refl
retag-judged number m r new false e =
    rw e (reborrow-judged m.memory.live (is_outside (length m.memory.bytes) r.span) m.tree (judged_through m.tree (node_through number m.tree r.prov) (λ x. told m.tree (AskRetag x r.span r.kind r.guard) new)) (asks_through (node_through number m.tree r.prov) (λ x. AskRetag x r.span r.kind r.guard)) new
    (reborrow-through m.tree (node_through number m.tree r.prov) r new))

end-judged : (m : Made) (tag new : Tag) (closed live there : Bool) → (if closed then record { verdict = Closed; tree = m.tree; closed = true } else if not live || not there then record { verdict = Clean; tree = m.tree; closed = false } else judged_as m.tree (Ok (AskEnd tag)) new) ≡ judged_as m.tree (if closed then Err Closed else if live && there then Ok (AskEnd tag) else Err Clean) new
end-judged m tag new true live there = refl
end-judged m tag new false true true = refl
end-judged m tag new false true false = refl
end-judged m tag new false false there = refl

-- The answers.

abbrev pub answer_of : ℕ → MadeValue → List Byte → Outcome → Answer
answer_of number w piece outcome = record { reply = reply_with piece outcome; object = object_of number w }

-- data without a trap, by what plain memory makes of them and by the verdict
data-done : (number : ℕ) (v w : MadeValue) (request : Request) (piece : List Byte) (outcome : Outcome) (room : ℕ) → trap_in v.plain.memory request ≡ None → plain_with piece outcome.seen ≡ plain_reply (made_of v) request → outcome.carried ≡ carried_by (made_of v) request → w.plain ≡ done_by v.plain request room → judged_of outcome.verdict w ≡ judged number (made_of v) (through request) (step_of (eager_of v.tree) request) →
    answer_of number w piece outcome ≡ data_answer (object_of number v) (Some (made_of v)) request
data-done number v w request piece outcome room trap plain carried done judge =
    let verdict : outcome.verdict ≡ (judged number (made_of v) (through request) (step_of (eager_of v.tree) request)).verdict = ap (λ (j : Judged). j.verdict) judge in
    let tree : eager_of w.tree ≡ (judged number (made_of v) (through request) (step_of (eager_of v.tree) request)).tree = ap (λ (j : Judged). j.tree) judge in
    let closed : w.closed ≡ (judged number (made_of v) (through request) (step_of (eager_of v.tree) request)).closed = ap (λ (j : Judged). j.closed) judge in
    let memory = ap (λ (p : PlainValue). p.memory) done in
    let shadow = ap (λ (p : PlainValue). p.shadow) done in
    rw (trap, plain, carried, verdict, memory, shadow, tree, closed) refl

shown : (m : Made) (request : Request) (piece : List Byte) → trap_in m.memory request ≡ None → HasBytesOut (Some m) request piece → plain_with piece (seen_in m.memory request) ≡ plain_reply m request
shown m (Make size place) piece trap h = refl
shown m (Load at ty prov) piece trap h = refl
shown m (Store at ty value carried prov) piece trap h = refl
shown m (Modify at width op value prov) piece trap h = refl
shown m (CmpXchg at width expected value prov) piece trap h = refl
shown m (CopyOut at len prov) piece trap h = ap IsCopied (h trap)
shown m (CopyIn at bytes prov) piece trap h = refl
shown m (Retag at len kind guard prov) piece trap h = refl
shown m (EndProtector tag) piece trap h = refl
shown m (Free at stack prov) piece trap h = refl
shown m (Print value) piece trap h = refl
shown m (Host n first second) piece trap h = refl
shown m (Spawn function) piece trap h = refl
shown m (Join child) piece trap h = refl

carries : (m : Made) (request : Request) → carried_in m.shadow request ≡ carried_by m request
carries m (Make size place) = refl
carries m (Load at ty prov) = refl
carries m (Store at ty value carried prov) = refl
carries m (Modify at width op value prov) = refl
carries m (CmpXchg at width expected value prov) = refl
carries m (CopyOut at len prov) = refl
carries m (CopyIn at bytes prov) = refl
carries m (Retag at len kind guard prov) = refl
carries m (EndProtector tag) = refl
carries m (Free at stack prov) = refl
carries m (Print value) = refl
carries m (Host n first second) = refl
carries m (Spawn function) = refl
carries m (Join child) = refl

-- a request for data is answered as data are
abbrev pub IsDataAnswer : ℕ → Made → Request → Stamp → Type 0
IsDataAnswer number m request stamp =
    (answer (record { number = number; made = Some m }) request stamp ≡ data_answer (record { number = number; made = Some m }) (Some m) request)
    × ((new : Tag) → judged number m (through request) (step_of m.tree request) ≡ judged_as m.tree (asked number m request) new)

pub data-of : (number : ℕ) (m : Made) (request : Request) (stamp : Stamp) → is_data request ≡ true → IsDataAnswer number m request stamp
data-of number m (Make size place) stamp e = absurd (let f : false ≡ true = e in cc)
data-of number m (Load at ty prov) stamp e = (refl, λ new. data-judged number m prov (span_of (Load at ty prov)) (kind_of (Load at ty prov)) new)
data-of number m (Store at ty value carried prov) stamp e = (refl, λ new. data-judged number m prov (span_of (Store at ty value carried prov)) (kind_of (Store at ty value carried prov)) new)
data-of number m (Modify at width op value prov) stamp e = (refl, λ new. data-judged number m prov (span_of (Modify at width op value prov)) (kind_of (Modify at width op value prov)) new)
data-of number m (CmpXchg at width expected value prov) stamp e = (refl, λ new. data-judged number m prov (span_of (CmpXchg at width expected value prov)) (kind_of (CmpXchg at width expected value prov)) new)
data-of number m (CopyOut at len prov) stamp e = (refl, λ new. data-judged number m prov (span_of (CopyOut at len prov)) (kind_of (CopyOut at len prov)) new)
data-of number m (CopyIn at bytes prov) stamp e = (refl, λ new. data-judged number m prov (span_of (CopyIn at bytes prov)) (kind_of (CopyIn at bytes prov)) new)
data-of number m (Retag at len kind guard prov) stamp e = absurd (let f : false ≡ true = e in cc)
data-of number m (EndProtector tag) stamp e = absurd (let f : false ≡ true = e in cc)
data-of number m (Free at stack prov) stamp e = (refl, λ new. data-judged number m prov (span_of (Free at stack prov)) (kind_of (Free at stack prov)) new)
data-of number m (Print value) stamp e = (refl, λ new. data-judged number m None (span_of (Print value)) (kind_of (Print value)) new)
data-of number m (Host n first second) stamp e = (refl, λ new. data-judged number m None (span_of (Host n first second)) (kind_of (Host n first second)) new)
data-of number m (Spawn function) stamp e = (refl, λ new. data-judged number m None (span_of (Spawn function)) (kind_of (Spawn function)) new)
data-of number m (Join child) stamp e = (refl, λ new. data-judged number m None (span_of (Join child)) (kind_of (Join child)) new)

pub data-answers : (number : ℕ) (v w : MadeValue) (request : Request) (stamp : Stamp) (new : Tag) (piece : List Byte) (outcome : Outcome) (room : ℕ) → is_data request ≡ true → trap_in v.plain.memory request ≡ None → outcome.seen ≡ seen_in v.plain.memory request → outcome.carried ≡ carried_in v.plain.shadow request → w.plain ≡ done_by v.plain request room → judged_of outcome.verdict w ≡ judged_as (eager_of v.tree) (asked number (made_of v) request) new → HasBytesOut (Some (made_of v)) request piece →
    answer_of number w piece outcome ≡ answer (object_of number v) request stamp
data-answers number v w request stamp new piece outcome room is_it trap seen carried done judge bytes =
    let parts = data-of number (made_of v) request stamp is_it in
    data-done number v w request piece outcome room trap (ap (plain_with piece) seen ∙ shown (made_of v) request piece trap bytes) (carried ∙ carries (made_of v) request) done (judge ∙ sym (parts.1 new))
    ∙ sym parts.0

-- a trap changes nothing
pub trap-answers : (number : ℕ) (v w : MadeValue) (request : Request) (stamp : Stamp) (piece : List Byte) (trap : Trap) → is_data request ≡ true → Some trap ≡ trap_in v.plain.memory request → w ≡ v → answer_of number w piece (record { seen = Trapped trap; carried = None; verdict = Clean }) ≡ answer (object_of number v) request stamp
trap-answers number v w request stamp piece trap is_it is same =
    let parts = data-of number (made_of v) request stamp is_it in
    rw (same, parts.0, ← is) refl

-- a retag, and the end of a protector
abbrev pub retag_outcome : ℕ → Tag → Option Prov → Verdict → Outcome
retag_outcome number new prov verdict = record { seen = Retagged (is_clean verdict); carried = if is_clean verdict then Some (record { alloc = record { 0 = number }; tag = new }) else prov; verdict = verdict }

pub retag-denied : (number : ℕ) (new : Tag) (prov : Option Prov) (verdict : Verdict) → is_clean verdict ≡ false → (let o : Outcome = record { seen = Retagged false; carried = prov; verdict = verdict } in o) ≡ retag_outcome number new prov verdict
retag-denied number new prov verdict e = rw e refl

pub retag-answers : (number : ℕ) (v w : MadeValue) (request : Request) (r : Reborrow) (stamp : Stamp) (piece : List Byte) (verdict : Verdict) → request ≡ Retag r.span.start r.span.len r.kind r.guard r.prov → w.plain ≡ v.plain → judged_of verdict w ≡ judged_as (eager_of v.tree) (asked number (made_of v) request) (record { 0 = stamp.0 }) →
    answer_of number w piece (retag_outcome number (record { 0 = stamp.0 }) r.prov verdict) ≡ answer (object_of number v) request stamp
retag-answers number v w request r stamp piece verdict is plain judge =
    let same : judged_of verdict w ≡ retag_judged number (made_of v) r stamp.0 = judge ∙ ap (λ (q : Request). judged_as (eager_of v.tree) (asked number (made_of v) q) (record { 0 = stamp.0 })) is ∙ sym (retag-judged number (made_of v) r (record { 0 = stamp.0 }) v.closed refl) in
    let said : verdict ≡ (retag_judged number (made_of v) r stamp.0).verdict = ap (λ (j : Judged). j.verdict) same in
    let tree : eager_of w.tree ≡ (retag_judged number (made_of v) r stamp.0).tree = ap (λ (j : Judged). j.tree) same in
    let closed : w.closed ≡ (retag_judged number (made_of v) r stamp.0).closed = ap (λ (j : Judged). j.closed) same in
    rw (is, said, plain, tree, closed) refl

pub end-answers : (number : ℕ) (v w : MadeValue) (request : Request) (tag : Tag) (stamp : Stamp) (new : Tag) (piece : List Byte) (verdict : Verdict) → request ≡ EndProtector tag → w.plain ≡ v.plain → judged_of verdict w ≡ judged_as (eager_of v.tree) (asked number (made_of v) request) new →
    answer_of number w piece (record { seen = Done; carried = None; verdict = verdict }) ≡ answer (object_of number v) request stamp
end-answers number v w request tag stamp new piece verdict is plain judge =
    let same : judged_of verdict w ≡ end_judged (made_of v) tag = judge ∙ ap (λ (q : Request). judged_as (eager_of v.tree) (asked number (made_of v) q) new) is ∙ sym (end-judged (made_of v) tag new v.closed v.plain.memory.live (is_node (eager_of v.tree) tag)) in
    let said : verdict ≡ (end_judged (made_of v) tag).verdict = ap (λ (j : Judged). j.verdict) same in
    let tree : eager_of w.tree ≡ (end_judged (made_of v) tag).tree = ap (λ (j : Judged). j.tree) same in
    let closed : w.closed ≡ (end_judged (made_of v) tag).closed = ap (λ (j : Judged). j.closed) same in
    rw (is, said, plain, tree, closed) refl

-- a request that plain memory refuses is not asked of the tree
pub counted-none : (t : Shape) (verdict : Verdict) → IsCounted t t (Err Clean) verdict
counted-none t verdict = record { size = refl; rises = omega arith; idle = omega arith; ring = tt; still = λ e. tt; cuts = λ at lt h. inl h }

-- what is no Make, no Retag and no end of a protector is for data
pub is-data : (request : Request) → is_make request ≡ false → ((at len : ℕ) (kind : _) (guard : _) (prov : Option Prov) → request ≡ Retag at len kind guard prov → ⊥) → ((tag : Tag) → request ≡ EndProtector tag → ⊥) → is_data request ≡ true
is-data (Make size place) make retag end = absurd (let f : true ≡ false = make in cc)
is-data (Load at ty prov) make retag end = refl
is-data (Store at ty value carried prov) make retag end = refl
is-data (Modify at width op value prov) make retag end = refl
is-data (CmpXchg at width expected value prov) make retag end = refl
is-data (CopyOut at len prov) make retag end = refl
is-data (CopyIn at bytes prov) make retag end = refl
is-data (Retag at len kind guard prov) make retag end = absurd (retag at len kind guard prov refl)
is-data (EndProtector tag) make retag end = absurd (end tag refl)
is-data (Free at stack prov) make retag end = refl
is-data (Print value) make retag end = refl
is-data (Host n first second) make retag end = refl
is-data (Spawn function) make retag end = refl
is-data (Join child) make retag end = refl

-- a request for data is refused as plain memory does
pub refusal-data : (m : Memory) (request : Request) → is_data request ≡ true → refusal m request ≡ trap_in m request
refusal-data m (Make size place) e = refl
refusal-data m (Load at ty prov) e = refl
refusal-data m (Store at ty value carried prov) e = refl
refusal-data m (Modify at width op value prov) e = refl
refusal-data m (CmpXchg at width expected value prov) e = refl
refusal-data m (CopyOut at len prov) e = refl
refusal-data m (CopyIn at bytes prov) e = refl
refusal-data m (Retag at len kind guard prov) e = absurd (let f : false ≡ true = e in cc)
refusal-data m (EndProtector tag) e = absurd (let f : false ≡ true = e in cc)
refusal-data m (Free at stack prov) e = refl
refusal-data m (Print value) e = refl
refusal-data m (Host n first second) e = refl
refusal-data m (Spawn function) e = refl
refusal-data m (Join child) e = refl

pub not-clean : (verdict : Verdict) → (verdict ≡ Clean → ⊥) → is_clean verdict ≡ false
not-clean Clean h = absurd (h refl)
not-clean Closed h = refl
not-clean (Violated violation) h = refl

-- Room.

if-ok : (asks : Result TreeRequest Verdict) (P Q : TreeRequest → Type 0) → ((r : TreeRequest) → P r → Q r) → IfOk asks P → IfOk asks Q
if-ok (Err verdict) P Q f h = tt
if-ok (Ok request) P Q f h = f request h

-- with the same allocation, and no less room, what was prepared stays so
pub keeps-prepared : (number : ℕ) (v w : MadeValue) → made_of w ≡ made_of v → v.plain.room ≤ w.plain.room → w.tree.size ≡ v.tree.size → KeepsReady v.tree w.tree → KeepsPrepared number v w
keeps-prepared number v w same room size kept request h = record {
  frags = omega (arith, room, h.frags);
  tree = subst (λ (m : Made). IfOk (asked number m request) (λ r. Fits w.tree.size r → IsReadyFor w.tree r)) (sym same)
      (if-ok (asked number (made_of v) request) (λ r. Fits v.tree.size r → IsReadyFor v.tree r) (λ r. Fits w.tree.size r → IsReadyFor w.tree r)
      (λ r ready fit. kept r (ready (subst (λ n. Fits n r) size fit))) h.tree);
}

-- A Make.

abbrev pub made_outcome : ℕ → Stamp → Outcome
made_outcome number stamp = record { seen = SeesMade (record { 0 = number }); carried = Some (prov_of number stamp.0); verdict = Clean }

pub make-answers : (number : ℕ) (made : Option MadeValue) (w : MadeValue) (request : Request) (fresh : PlainValue) (stamp : Stamp) (piece : List Byte) → IsFreshFor request (Some fresh) → w.plain ≡ fresh → eager_of w.tree ≡ new_tree (length fresh.memory.bytes) (record { 0 = stamp.0 }) → w.closed ≡ false →
    answer_of number w piece (made_outcome number stamp) ≡ answer (object_in number made) request stamp
make-answers number made w (Make size place) fresh stamp piece new plain tree closed =
    let long : length fresh.memory.bytes ≡ size = ap (λ (m : Memory). length m.bytes) new.memory ∙ length-replicate size 0 in
    rw (plain, tree, closed, long, new.memory, new.shadow) refl
make-answers number made w (Load at ty prov) fresh stamp piece new plain tree closed = absurd (let no_fresh : Some fresh ≡ None = new in cc)
make-answers number made w (Store at ty value carried prov) fresh stamp piece new plain tree closed = absurd (let no_fresh : Some fresh ≡ None = new in cc)
make-answers number made w (Modify at width op value prov) fresh stamp piece new plain tree closed = absurd (let no_fresh : Some fresh ≡ None = new in cc)
make-answers number made w (CmpXchg at width expected value prov) fresh stamp piece new plain tree closed = absurd (let no_fresh : Some fresh ≡ None = new in cc)
make-answers number made w (CopyOut at len prov) fresh stamp piece new plain tree closed = absurd (let no_fresh : Some fresh ≡ None = new in cc)
make-answers number made w (CopyIn at bytes prov) fresh stamp piece new plain tree closed = absurd (let no_fresh : Some fresh ≡ None = new in cc)
make-answers number made w (Retag at len kind guard prov) fresh stamp piece new plain tree closed = absurd (let no_fresh : Some fresh ≡ None = new in cc)
make-answers number made w (EndProtector tag) fresh stamp piece new plain tree closed = absurd (let no_fresh : Some fresh ≡ None = new in cc)
make-answers number made w (Free at stack prov) fresh stamp piece new plain tree closed = absurd (let no_fresh : Some fresh ≡ None = new in cc)
make-answers number made w (Print value) fresh stamp piece new plain tree closed = absurd (let no_fresh : Some fresh ≡ None = new in cc)
make-answers number made w (Host n first second) fresh stamp piece new plain tree closed = absurd (let no_fresh : Some fresh ≡ None = new in cc)
make-answers number made w (Spawn function) fresh stamp piece new plain tree closed = absurd (let no_fresh : Some fresh ≡ None = new in cc)
make-answers number made w (Join child) fresh stamp piece new plain tree closed = absurd (let no_fresh : Some fresh ≡ None = new in cc)

-- a Make's memory has a byte
pub some-bytes : (request : Request) (fresh : PlainValue) → IsFreshFor request (Some fresh) → IsTrue (fits request) → 1 ≤ length fresh.memory.bytes
some-bytes (Make size place) fresh new fit =
    let long : length fresh.memory.bytes ≡ size = ap (λ (m : Memory). length m.bytes) new.memory ∙ length-replicate size 0 in
    omega (arith, long, le-of 1 size (first-of (nat_le 1 size) (nat_le size most_size) fit))
some-bytes (Load at ty prov) fresh new fit = absurd (let no_fresh : Some fresh ≡ None = new in cc)
some-bytes (Store at ty value carried prov) fresh new fit = absurd (let no_fresh : Some fresh ≡ None = new in cc)
some-bytes (Modify at width op value prov) fresh new fit = absurd (let no_fresh : Some fresh ≡ None = new in cc)
some-bytes (CmpXchg at width expected value prov) fresh new fit = absurd (let no_fresh : Some fresh ≡ None = new in cc)
some-bytes (CopyOut at len prov) fresh new fit = absurd (let no_fresh : Some fresh ≡ None = new in cc)
some-bytes (CopyIn at bytes prov) fresh new fit = absurd (let no_fresh : Some fresh ≡ None = new in cc)
some-bytes (Retag at len kind guard prov) fresh new fit = absurd (let no_fresh : Some fresh ≡ None = new in cc)
some-bytes (EndProtector tag) fresh new fit = absurd (let no_fresh : Some fresh ≡ None = new in cc)
some-bytes (Free at stack prov) fresh new fit = absurd (let no_fresh : Some fresh ≡ None = new in cc)
some-bytes (Print value) fresh new fit = absurd (let no_fresh : Some fresh ≡ None = new in cc)
some-bytes (Host n first second) fresh new fit = absurd (let no_fresh : Some fresh ≡ None = new in cc)
some-bytes (Spawn function) fresh new fit = absurd (let no_fresh : Some fresh ≡ None = new in cc)
some-bytes (Join child) fresh new fit = absurd (let no_fresh : Some fresh ≡ None = new in cc)

-- where no memory was made, the request is no Make
pub no-make : (request : Request) → IsFreshFor request None → is_make request ≡ false
no-make (Make size place) h = absurd h
no-make (Load at ty prov) h = refl
no-make (Store at ty value carried prov) h = refl
no-make (Modify at width op value prov) h = refl
no-make (CmpXchg at width expected value prov) h = refl
no-make (CopyOut at len prov) h = refl
no-make (CopyIn at bytes prov) h = refl
no-make (Retag at len kind guard prov) h = refl
no-make (EndProtector tag) h = refl
no-make (Free at stack prov) h = refl
no-make (Print value) h = refl
no-make (Host n first second) h = refl
no-make (Spawn function) h = refl
no-make (Join child) h = refl
