-- What a request asks the tree of its allocation.
use Rattle.std.specs.Prelude.{ℕ, ◌<◌, ◌&&◌, not, IsTrue, Option, Some, None, Result, Ok, Err, IfOk, All, length, if◌then◌else◌}
use Rattle.bsan_ids.specs.declared.numbers.Tag.{Tag}
use Rattle.bsan_ids.specs.declared.numbers.Span.{Span}
use Rattle.perm_table.specs.declared.Kind.{Kind}
use Rattle.eager_tree.specs.declared.violation.Violation.{Violation}
use Rattle.eager_tree.specs.declared.violation.Violation.TheVariants.{Stranger, Freed as WasFreed, OutOfRange}
use Rattle.eager_tree.specs.Tree.{Tree, is_node}
use Rattle.eager_tree.specs.Steps.{access, retag, end_protector, free_all}
use Rattle.history.specs.declared.entry.Request.{Request}
use Rattle.history.specs.declared.entry.Request.TheVariants.{Retag, EndProtector}
use Rattle.history.specs.declared.entry.Verdict.{Verdict}
use Rattle.history.specs.declared.entry.Verdict.TheVariants.{Clean, Closed, Violated}
use Rattle.history.specs.declared.trap.Trap.{Trap}
use Rattle.history.specs.Memory.{Memory, span_of, is_outside, trap_in}
use Rattle.history.specs.Objects.{Made, Judged, Reborrow, reborrow, judged_by, node_through, through, kind_of, is_clean}
use Rattle.lazy_tree.specs.Eager.{eager_of}
use Rattle.lazy_tree.specs.Shape.{Shape}
use Rattle.lazy_access.specs.declared.request.TreeRequest.{TreeRequest}
use Rattle.lazy_access.specs.declared.request.TreeRequest.TheVariants.{Access as AskAccess, Retag as AskRetag, EndProtector as AskEnd, FreeAll as AskFree}
use Rattle.lazy_access.specs.Ready.{IsReadyFor, Fits}

-- an access on a span, a free where there is none
abbrev pub asks_on : Option Span → Kind → Tag → TreeRequest
asks_on None kind x = AskFree x
asks_on (Some span) kind x = AskAccess x span kind

-- what is asked through a node: without one, the pointer is a stranger's
abbrev pub asks_through : Option Tag → (Tag → TreeRequest) → Result TreeRequest Verdict
asks_through None ask = Err (Violated Stranger)
asks_through (Some x) ask = Ok (ask x)

-- what a reborrow asks, where the tree isn't closed
abbrev pub asked_reborrow : ℕ → Made → Reborrow → Result TreeRequest Verdict
asked_reborrow number m r =
    if not m.memory.live then Err (Violated WasFreed)
    else if is_outside (length m.memory.bytes) r.span then Err (Violated OutOfRange)
    else asks_through (node_through number m.tree r.prov) (λ x. AskRetag x r.span r.kind r.guard)

-- what a request asks the tree, or the verdict on it where the tree isn't asked
abbrev pub asked : ℕ → Made → Request → Result TreeRequest Verdict
asked number m (Retag at len kind guard prov) = if m.closed then Err Closed else asked_reborrow number m (reborrow at len kind guard prov)
asked number m (EndProtector tag) =
    if m.closed then Err Closed
    else if m.memory.live && is_node m.tree tag then Ok (AskEnd tag)
    else Err Clean
asked number m request =
    if m.closed then Err Closed
    else asks_through (node_through number m.tree (through request)) (asks_on (span_of request) (kind_of request))

-- the trap by which plain memory refuses a request for data
abbrev pub refusal : Memory → Request → Option Trap
refusal m (Retag at len kind guard prov) = None
refusal m (EndProtector tag) = None
refusal m request = trap_in m request

-- where plain memory refuses a request, the tree isn't asked
abbrev pub asked_unless : Option Trap → Result TreeRequest Verdict → Result TreeRequest Verdict
asked_unless None asks = asks
asked_unless (Some trap) asks = Err Clean

-- what the tree answers, with this tag for a new node
abbrev pub told : Tree → TreeRequest → Tag → Option Violation × Tree
told t (AskAccess x span kind) tag = access t x span kind
told t (AskRetag x span kind guard) tag = retag t x span kind guard tag
told t (AskEnd x) tag = end_protector t x
told t (AskFree x) tag = free_all t x

-- the verdict on a request, with the tree and the flag that it leaves
abbrev pub judged_as : Tree → Result TreeRequest Verdict → Tag → Judged
judged_as t (Err verdict) tag = record { verdict = verdict; tree = t; closed = not (is_clean verdict) }
judged_as t (Ok request) tag = judged_by (told t request tag)

-- the node through which a tree is asked
abbrev pub asker : TreeRequest → Tag
asker (AskAccess x span kind) = x
asker (AskRetag x span kind guard) = x
asker (AskEnd x) = x
asker (AskFree x) = x

-- the tree can be asked: through one of its nodes, on bytes of the allocation, and with a tag that is new
pub record MayAsk (t : Shape) (tag : Tag) (request : TreeRequest) : Type 0 where
  pub node : IsTrue (is_node (eager_of t) (asker request))
  pub fits : Fits t.size request
  pub ready : IsReadyFor t request
  pub newest : All (λ n. n.tag.0 < tag.0) (eager_of t).nodes

-- all memory is there for what is asked, where it lies in the allocation
abbrev pub IsReadyToAsk : Shape → Result TreeRequest Verdict → Type 0
IsReadyToAsk t asks = IfOk asks (λ request. Fits t.size request → IsReadyFor t request)
