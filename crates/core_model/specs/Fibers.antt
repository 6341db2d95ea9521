-- A started thread, as contracts see it, and what a step of it comes to.
use Rattle.std.specs.Prelude.{◌≡◌, ℕ, ◌<◌, ◌⊎◌, List, [], ◌∷◌, ◌++◌, Some, None, map, vec_len, vec_capacity}
use Rattle.std.specs.declared.option.Option.{Option}
use Rattle.std.specs.Prelude.{Vec, Box, option_map}
use Rattle.std.specs.declared.alloc.Global.{Global}
use Rattle.bsan_ids.specs.declared.numbers.ThreadNo.{ThreadNo}
use Rattle.history.specs.declared.ask.Ask.{Ask}
use Rattle.history.specs.declared.ask.Ask.TheVariants as ask
use Rattle.history.specs.declared.entry.Entry.{Entry}
use Rattle.ir_ast.specs.declared.hosts.HostTable.{HostTable}
use Rattle.run_memory.specs.Memory.{Memory, Stays}
use Rattle.run_memory.specs.declared.states.Step.TheVariants.{Done, Ends}
use Rattle.history.specs.declared.log.End.{End}
use Rattle.history.specs.declared.log.End.TheVariants as log_end
use Rattle.source_sem.specs.Source.{Setting, Source, source_site, source_answer, source_child, source_fits}
use Rattle.core_model.specs.declared.fiber.Fiber.{Fiber}
use Rattle.core_model.specs.declared.fiber.Took.{Took}
use Rattle.core_model.specs.declared.fiber.Took.TheVariants.{Stepped, Ended}
use Rattle.core_model.specs.Steps.{IsStep}

-- a thread's setting and state, and its log so far
pub record Seen : Type 0 where
  pub setting : Setting
  pub parent : Option ThreadNo
  pub function : ℕ
  pub state : Source
  pub entries : List Entry
  pub «end» : Option End

abbrev pub seen : {T : Type 0} → (T → Setting) → (T → Source) → Fiber T → Seen
seen setting state f = record {
  setting = setting f.thread;
  parent = f.parent;
  function = f.function;
  state = state f.thread;
  entries = f.entries.items;
  «end» = f.«end»;
}

-- the code's threads
abbrev pub all_seen : {T : Type 0} → (T → Setting) → (T → Source) → List (Fiber T) → List Seen
all_seen setting state fibers = map (seen setting state) fibers

-- there is room for an entry, and the thread is prepared
pub record IsReady {T : Type 0} (prepared : T → Type 0) (f : Fiber T) : Type 0 where
  pub room : vec_len f.entries < vec_capacity f.entries
  pub prepared_is : prepared f.thread

-- a child in its first state
abbrev pub first_seen : Setting → Source → ThreadNo → ℕ → Seen
first_seen x s number function =
    record { setting = x; parent = Some number; function = function; state = source_child x s; entries = []; «end» = None }

abbrev pub IsFirst : {T : Type 0} → (T → Setting) → (T → Source) → Seen → Option (Fiber T) → Type 0
IsFirst setting state first None = ⊥
IsFirst setting state first (Some f) = seen setting state f ≡ first

abbrev pub unboxed : {T : Type 0} → Option (Box (Fiber T) Global) → Option (Fiber T)
unboxed child = option_map (λ b. b.value) child

-- a spawn starts a child, and no other step does
abbrev pub StartsChild : {T : Type 0} → (T → Setting) → (T → Source) → Setting → Source → ThreadNo → Ask → Option (Fiber T) → Type 0
StartsChild setting state x s number (ask.Spawn function) child = IsFirst setting state (first_seen x s number function) child
StartsChild setting state x s number other child = child ≡ None

-- each reply that the step may have fits
abbrev pub GivesFitting : Setting → Source → Memory → HostTable → ThreadNo → Option End → Ask → Type 0
GivesFitting x s m table number joined a =
    (after : Memory) (e : Entry) → IsStep m table number (source_site s) joined a after (Done e) → source_fits x s e

-- the thread ends in place of its step: out of memory, or as the step says
abbrev pub EndsStep : Seen → Memory → HostTable → ThreadNo → Option End → Ask → Memory → End → Type 0
EndsStep f m table number joined a after why =
    ((why ≡ log_end.NoMemory) × Stays m after m.words) ⊎ IsStep m table number (source_site f.state) joined a after (Ends why)

-- the thread with the entry of its step
abbrev pub answered : Seen → Entry → Seen
answered f e = record f { state = source_answer f.setting f.state e.reply; entries = f.entries ++ e ∷ [] }

abbrev pub Takes : {T : Type 0} → (T → Setting) → (T → Source) → Seen → Memory → HostTable → ThreadNo → Option End → Ask → Seen → Memory → Took T → Type 0
Takes setting state f m table number joined a g after Ended =
    (why : End) × EndsStep f m table number joined a after why × (g ≡ record f { «end» = Some why })
Takes setting state f m table number joined a g after (Stepped child) =
    (e : Entry) × IsStep m table number (source_site f.state) joined a after (Done e) × (g ≡ answered f e) × StartsChild setting state f.setting f.state number a (unboxed child)

-- thread 0 before its first instruction
abbrev pub main_fiber : {T : Type 0} → ℕ → T → Vec Entry Global → Fiber T
main_fiber function main entries = record { parent = None; function = function; thread = main; entries = entries; «end» = None }
