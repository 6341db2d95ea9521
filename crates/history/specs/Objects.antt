-- One allocation: memory, fragments, tree and the flag that its tree is closed; and what it answers.
use Rattle.std.specs.Prelude.{ℕ, ◌==◌, ◌&&◌, ◌||◌, not, Bool, true, false, Option, Some, None, length, replicate, if◌then◌else◌}
use Rattle.std.specs.Option.{option_map_or}
use Rattle.bsan_ids.specs.declared.numbers.Tag.{Tag}
use Rattle.bsan_ids.specs.declared.numbers.Stamp.{Stamp}
use Rattle.bsan_ids.specs.declared.numbers.Prov.{Prov}
use Rattle.bsan_ids.specs.declared.numbers.Span.{Span}
use Rattle.perm_table.specs.declared.Guard.{Guard}
use Rattle.perm_table.specs.declared.RetagKind.{RetagKind}
use Rattle.perm_table.specs.declared.Kind.{Kind}
use Rattle.perm_table.specs.declared.Kind.TheVariants.{Read, Write}
use Rattle.eager_tree.specs.declared.violation.Violation.{Violation}
use Rattle.eager_tree.specs.declared.violation.Violation.TheVariants.{Stranger, Freed as WasFreed, OutOfRange}
use Rattle.eager_tree.specs.Tree.{Tree, new_tree, is_node}
use Rattle.eager_tree.specs.Steps.{access, retag, end_protector, free_all}
use Rattle.history.specs.declared.trap.Trap.{Trap}
use Rattle.history.specs.declared.trap.Trap.TheVariants.{NoAllocation}
use Rattle.history.specs.declared.entry.Request.{Request}
use Rattle.history.specs.declared.entry.Request.TheVariants.{Make, Load, Store, Modify, CmpXchg, CopyOut, CopyIn, Retag, EndProtector, Free}
use Rattle.history.specs.declared.entry.Plain.{Plain}
use Rattle.history.specs.declared.entry.Plain.TheVariants.{Made as IsMade, Value, Copied, Done, Retagged, Trapped}
use Rattle.history.specs.declared.entry.Verdict.{Verdict}
use Rattle.history.specs.declared.entry.Verdict.TheVariants.{Clean, Closed, Violated}
use Rattle.history.specs.declared.entry.Reply.{Reply}
use Rattle.history.specs.Memory.{Memory, made_memory, span_of, is_outside, trap_in, value_in, next_memory, in_range}
use Rattle.history.specs.Fragments.{Shadow, next_shadow, piece_at, loaded_as}

pub record Made : Type 0 where
  pub memory : Memory
  pub shadow : Shadow
  pub tree : Tree
  pub closed : Bool

-- an allocation's number, and what it holds once it is made; a freed one keeps its tree
pub record Object : Type 0 where
  pub number : ℕ
  pub made : Option Made

pub record Answer : Type 0 where
  pub reply : Reply
  pub object : Object

abbrev pub unmade : ℕ → Object
unmade number = record { number = number; made = None }

abbrev pub clean : Plain → Option Prov → Reply
clean plain carried = record { plain = plain; carried = carried; verdict = Clean }

abbrev pub prov_of : ℕ → ℕ → Prov
prov_of number stamp = record { alloc = record { 0 = number }; tag = record { 0 = stamp } }

-- the node through which a provenance may use this allocation, if there is one
abbrev pub node_through : ℕ → Tree → Option Prov → Option Tag
node_through number t None = None
node_through number t (Some prov) = if prov.alloc.0 == number && is_node t prov.tag then Some prov.tag else None

-- a verdict on a step, with the tree and the flag that it leaves
pub record Judged : Type 0 where
  pub verdict : Verdict
  pub tree : Tree
  pub closed : Bool

-- the first violation of an allocation closes its tree
abbrev pub violated : Tree → Violation → Judged
violated t violation = record { verdict = Violated violation; tree = t; closed = true }

abbrev pub judged_by : Option Violation × Tree → Judged
judged_by (None, next) = record { verdict = Clean; tree = next; closed = false }
judged_by (Some violation, next) = violated next violation

abbrev pub judged_through : Tree → Option Tag → (Tag → Option Violation × Tree) → Judged
judged_through t None step = violated t Stranger
judged_through t (Some x) step = judged_by (step x)

-- the first that holds: Closed, Stranger, the tree's violation, Clean
abbrev pub judged : ℕ → Made → Option Prov → (Tag → Option Violation × Tree) → Judged
judged number m prov step =
    if m.closed then record { verdict = Closed; tree = m.tree; closed = true }
    else judged_through m.tree (node_through number m.tree prov) step

-- what a data request asks of the tree, and through which provenance
abbrev pub kind_of : Request → Kind
kind_of (Load at ty prov) = Read
kind_of (CopyOut at len prov) = Read
kind_of _ = Write

abbrev pub step_on : Option Span → Tree → Kind → Tag → Option Violation × Tree
step_on None t kind x = free_all t x
step_on (Some span) t kind x = access t x span kind

abbrev pub step_of : Tree → Request → Tag → Option Violation × Tree
step_of t request x = step_on (span_of request) t (kind_of request) x

abbrev pub through : Request → Option Prov
through (Load at ty prov) = prov
through (Store at ty value carried prov) = prov
through (Modify at width op value prov) = prov
through (CmpXchg at width expected value prov) = prov
through (CopyOut at len prov) = prov
through (CopyIn at piece prov) = prov
through (Retag at len kind guard prov) = prov
through (Free at stack prov) = prov
through _ = None

-- what a data request without a trap answers, and the provenance that it carries
abbrev pub plain_reply : Made → Request → Plain
plain_reply m (CopyOut at len prov) = Copied (piece_at m.memory m.shadow at len)
plain_reply m request = option_map_or Value (value_in m.memory request) Done

abbrev pub carried_by : Made → Request → Option Prov
carried_by m (Load at ty prov) = loaded_as ty (in_range at 8 m.shadow)
carried_by m _ = None

abbrev pub with_made : Object → Made → Object
with_made o m = record o { made = Some m }

abbrev pub data_done : Object → Made → Request → Judged → Answer
data_done o m request j =
    record {
      reply = record { plain = plain_reply m request; carried = carried_by m request; verdict = j.verdict };
      object = with_made o (record {
        memory = next_memory m.memory request;
        shadow = next_shadow m.memory m.shadow request;
        tree = j.tree;
        closed = j.closed;
      });
    }

abbrev pub trapped : Object → Trap → Answer
trapped o trap = record { reply = clean (Trapped trap) None; object = o }

-- loads, stores, read-modify-writes, copies and frees: plain memory first, then the tree
abbrev pub data_unless : Object → Made → Request → Option Trap → Answer
data_unless o m request (Some trap) = trapped o trap
data_unless o m request None = data_done o m request (judged o.number m (through request) (step_of m.tree request))

abbrev pub data_answer : Object → Option Made → Request → Answer
data_answer o None request = trapped o NoAllocation
data_answer o (Some m) request = data_unless o m request (trap_in m.memory request)

abbrev pub make_answer : Object → ℕ → Memory → ℕ → Answer
make_answer o size memory stamp =
    record {
      reply = clean (IsMade (record { 0 = o.number })) (Some (prov_of o.number stamp));
      object = with_made o (record {
        memory = memory;
        shadow = replicate size None;
        tree = new_tree size (record { 0 = stamp });
        closed = false;
      });
    }

-- what a reborrow asks
pub record Reborrow : Type 0 where
  pub span : Span
  pub kind : RetagKind
  pub guard : Guard
  pub prov : Option Prov

abbrev pub reborrow : ℕ → ℕ → RetagKind → Guard → Option Prov → Reborrow
reborrow at len kind guard prov = record { span = record { start = at; len = len }; kind = kind; guard = guard; prov = prov }

-- a reborrow: Closed, Freed, out of range, Stranger, the denied read, or the new node
abbrev pub retag_judged : ℕ → Made → Reborrow → ℕ → Judged
retag_judged number m r stamp =
    if m.closed then record { verdict = Closed; tree = m.tree; closed = true }
    else if not m.memory.live then violated m.tree WasFreed
    else if is_outside (length m.memory.bytes) r.span then violated m.tree OutOfRange
    else judged number m r.prov (λ x. retag m.tree x r.span r.kind r.guard (record { 0 = stamp }))

abbrev pub is_clean : Verdict → Bool
is_clean Clean = true
is_clean _ = false

abbrev pub retag_done : Object → Made → Reborrow → ℕ → Judged → Answer
retag_done o m r stamp j =
    record {
      reply = record {
        plain = Retagged (is_clean j.verdict);
        carried = if is_clean j.verdict then Some (prov_of o.number stamp) else r.prov;
        verdict = j.verdict;
      };
      object = with_made o (record m { tree = j.tree; closed = j.closed });
    }

abbrev pub retag_answer : Object → Option Made → Reborrow → ℕ → Answer
retag_answer o None r stamp = record { reply = clean (Retagged false) None; object = o }
retag_answer o (Some m) r stamp = retag_done o m r stamp (retag_judged o.number m r stamp)

-- the end of a protector: Closed, nothing on a freed allocation or at no node, or the tree's step
abbrev pub end_judged : Made → Tag → Judged
end_judged m x =
    if m.closed then record { verdict = Closed; tree = m.tree; closed = true }
    else if not m.memory.live || not (is_node m.tree x) then record { verdict = Clean; tree = m.tree; closed = false }
    else judged_by (end_protector m.tree x)

abbrev pub end_done : Object → Made → Judged → Answer
end_done o m j =
    record {
      reply = record { plain = Done; carried = None; verdict = j.verdict };
      object = with_made o (record m { tree = j.tree; closed = j.closed });
    }

abbrev pub end_answer : Object → Option Made → Tag → Answer
end_answer o None x = record { reply = clean Done None; object = o }
end_answer o (Some m) x = end_done o m (end_judged m x)

-- what the allocation answers to a request with this stamp, and what it then is
abbrev pub answer : Object → Request → Stamp → Answer
answer o (Make size place) stamp = make_answer o size (made_memory size place) stamp.0
answer o (Retag at len kind guard prov) stamp = retag_answer o o.made (reborrow at len kind guard prov) stamp.0
answer o (EndProtector tag) stamp = end_answer o o.made tag
answer o request stamp = data_answer o o.made request
