-- What a native thread keeps between its steps.
use Rattle.std.specs.Prelude.{◌≡◌, ℕ, ◌+◌, ◌<◌, ◌≤◌, ◌⊎◌, List, [], ◌∷◌, ◌++◌, map, Some, None, All, Contains, vec_len, vec_capacity}
use Rattle.std.specs.declared.option.Option.{Option}
use Rattle.bsan_ids.specs.declared.numbers.ThreadNo.{ThreadNo}
use Rattle.history.specs.declared.ask.Ask.{Ask}
use Rattle.history.specs.declared.ask.Ask.TheVariants as ask
use Rattle.history.specs.declared.entry.Entry.{Entry}
use Rattle.history.specs.declared.log.End.{End}
use Rattle.history.specs.declared.log.End.TheVariants as log_end
use Rattle.history.specs.declared.log.ThreadLog.{ThreadLog}
use Rattle.ir_ast.specs.declared.hosts.HostTable.{HostTable}
use Rattle.run_record.specs.Flatten.{all_logs}
use Rattle.runs.specs.Machine.{MayGoOn}
use Rattle.runs.specs.Objects.{objects}
use Rattle.runs.specs.Parts.{Has, child_of}
use Rattle.runs.specs.Threads.{EndsAs}
use Rattle.runs.specs.Tree.{HasStopped}
use Rattle.source_sem.specs.Records.{allowed}
use Rattle.source_sem.specs.Source.{Setting, Source, source, source_ask}
use Rattle.turn_lock.specs.Plays.{DeskView}
use Rattle.turn_lock.specs.Rule.{newcomer}
use Rattle.alloc_space.specs.Spaces.{SpaceView}
use Rattle.interp.specs.declared.child.TreeOf.{TreeOf}
use Rattle.interp.specs.declared.child.Child.{Child}
use Rattle.interp.specs.declared.child.Begun.{Begun}
use Rattle.interp.specs.declared.running.Running.{Running}
use Rattle.interp.specs.Desks.{Over, running, IsReady}
use Rattle.interp.specs.Flatten.{roots_of}
use Rattle.interp.specs.Goes.{Kid, Goes}
use Rattle.instr_sound.specs.Mains.{IsRunnable}
use Rattle.interp.specs.Views.{ThreadView, Starts, IsKept, Begins, TreeReturns, EndFits}

abbrev pub StartsOrJoins : Ask → Type 0
StartsOrJoins (ask.Spawn f) = Unit {0}
StartsOrJoins (ask.Join c) = Unit {0}
StartsOrJoins _ = ⊥

-- Each child that the thread has started is out or was joined, and runs the function of its Spawn entry. The desk drew its number.
pub record IsOfChildren (entries : List Entry) (started drawn : List ℕ) (kids : List (Kid Source)) (roots : List ThreadLog) : Type 0 where
  pub covered : (c : ℕ) → Has started c → ((k : Kid Source) × Has kids k × (k.number.0 ≡ c)) ⊎ ((log : ThreadLog) × Has roots log × (log.number.0 ≡ c))
  pub of_kids : (k : Kid Source) (f : ℕ) → Has kids k → Starts entries f k.number.0 → f ≡ k.function
  pub of_roots : (log : ThreadLog) (f : ℕ) → Has roots log → Starts entries f log.number.0 → f ≡ log.entry_function
  pub drawn_all : (e : Entry) (c : ℕ) → Has entries e → child_of e ≡ Some c → Contains drawn c
  pub drawn_kids : (k : Kid Source) → Has kids k → Contains drawn k.number.0
  pub drawn_roots : (log : ThreadLog) → Has roots log → Contains drawn log.number.0

module _ {T : Type 0} (setting : T → Setting) (state : T → Source) where
  abbrev pub view_of : T → ThreadView
  view_of m = record { setting = setting m; state = state m }

  abbrev pub kid_of : Child T → Kid Source
  kid_of c = record {
    number = c.handle.promise.number;
    function = c.handle.promise.function;
    first = state c.handle.promise.machine.value;
    seen = c.handle.promise.desk.value.view.seen;
  }

  -- the promise is one of a child of this thread, in the same run
  pub record IsPromised (space : SpaceView) (hosts : HostTable) (x : Setting) (parent : ThreadNo) (p : TreeOf T) : Type 0 where
    pub limits_are : p.limits ≡ space.limits
    pub hosts_are : p.hosts.value ≡ hosts
    pub setting_is : setting p.machine.value ≡ x
    pub parent_is : p.parent ≡ parent
    pub own : p.desk.value.table ≡ space.table

  abbrev pub kids_of : Running T → List (Kid Source)
  kids_of r = map kid_of r.kids.items

  abbrev pub below_of : Running T → List ThreadLog
  below_of r = all_logs r.trees.items

  abbrev pub own_roots_of : Running T → List ThreadLog
  own_roots_of r = roots_of r.trees.items

  -- what a thread keeps: it is in this state with these children, has gone so far in its run, with these entries, and has come to
  -- this end or goes on
  pub record IsGoingAs (space : SpaceView) (over : Over) (now : ThreadView) (kids : List (Kid Source)) (r : Running T) : Type 0 where
    pub own : r.desk.table ≡ space.table
    pub start_own : r.start.value.table ≡ space.table
    pub same_setting : setting r.began.value ≡ now.setting
    pub runnable : IsRunnable now.setting r.hosts.value
    pub kept : IsKept now.setting r.entries.items r.function now.state
    pub goes : Goes (source now.setting) objects (allowed space.limits r.hosts.value) space.limits r.number (state r.began.value) r.start.value.view.seen now.state r.desk.view over r.entries.items (below_of r) (own_roots_of r) kids
    pub promised : All (λ (c : Child T). IsPromised space r.hosts.value now.setting r.number c.handle.promise) r.kids.items
    pub children : IsOfChildren r.entries.items now.state.started r.desk.view.threads.own kids (own_roots_of r)
    pub returns : All (TreeReturns now.setting) r.trees.items
    pub room : vec_len r.trees + vec_len r.kids ≤ vec_capacity r.trees

  abbrev pub IsGoing : SpaceView → Over → Running T → Type 0
  IsGoing space over r = IsGoingAs space over (view_of r.machine) (kids_of r) r

  -- the thread goes on, and its desk may draw again
  pub record GoesOn (space : SpaceView) (r : Running T) : Type 0 where
    pub going : IsGoing space running r
    pub ready : IsReady space.limits r.desk.view

  -- the thread has come to this end, its children aside
  pub record HasEnded (space : SpaceView) (why : End) (r : Running T) : Type 0 where
    pub over : Over
    pub over_is : over.«end» ≡ why
    pub going : IsGoing space over r
    pub ends : EndsAs (source (setting r.machine)) space.limits (state r.machine) why
    pub fits : EndFits (setting r.machine) r.function why
    pub joined : (c : ThreadNo) → why ≡ log_end.ChildEnded c → HasStopped (below_of r) c

  abbrev pub CameTo : SpaceView → Option End → Running T → Type 0
  CameTo space None r = GoesOn space r
  CameTo space (Some why) r = HasEnded space why r

  -- whatever it has come to
  abbrev pub IsThere : SpaceView → Running T → Type 0
  IsThere space r = (over : Over) × IsGoing space over r

  -- the thread asks to start or to join another
  pub record Waits (space : SpaceView) (a : Ask) (r : Running T) : Type 0 where
    pub asks : a ≡ source_ask (setting r.machine) (state r.machine)
    pub kind : StartsOrJoins a
    pub may : MayGoOn (source (setting r.machine)) space.limits.turns (state r.machine)

  -- a child that is to be started, whose Spawn entry is made and whose desk is split off
  abbrev pub begun_kid : Begun T → Kid Source
  begun_kid b = record { number = b.number; function = b.function; first = state b.machine; seen = b.desk.view.seen }

  -- the machine and the desk with which a thread begins: at the beginning of its function, with arguments that fit; and with nothing
  -- on the desk but what it has seen and was told
  pub record IsFirst (space : SpaceView) (hosts : HostTable) (number : ThreadNo) (function : ℕ) (m : T) (d : DeskView) : Type 0 where
    pub runnable : IsRunnable (setting m) hosts
    pub begins : Begins (view_of m) function
    pub own : d.table ≡ space.table
    pub stamp : ℕ
    pub told : List Entry
    pub new : d.view ≡ newcomer number.0 stamp told

  pub record IsBegun (space : SpaceView) (b : Begun T) (r : Running T) : Type 0 where
    pub going : IsGoingAs space running (view_of r.machine) (kids_of r ++ begun_kid b ∷ []) r
    pub ready : IsReady space.limits r.desk.view
    pub first : IsFirst space r.hosts.value b.number b.function b.machine b.desk
    pub same_setting : setting b.machine ≡ setting r.machine
    pub greater : r.number.0 < b.number.0
    pub few : b.number.0 ≤ 1023
    pub room : vec_len r.trees + (vec_len r.kids + 1) ≤ vec_capacity r.trees
    pub kid_room : vec_len r.kids < vec_capacity r.kids

  -- the same, but for memory
  pub record IsReserved (old new : Running T) : Type 0 where
    pub number : new.number ≡ old.number
    pub function : new.function ≡ old.function
    pub machine : view_of new.machine ≡ view_of old.machine
    pub desk : new.desk ≡ old.desk
    pub entries : new.entries.items ≡ old.entries.items
    pub kids : new.kids.items ≡ old.kids.items
    pub trees : new.trees.items ≡ old.trees.items
    pub tree_room : vec_len old.trees + vec_len old.kids ≤ vec_capacity old.trees → vec_len new.trees + vec_len new.kids ≤ vec_capacity new.trees
    pub began : new.began.value ≡ old.began.value
    pub start : new.start.value ≡ old.start.value
    pub hosts : new.hosts.value ≡ old.hosts.value

  -- the promise that is handed to the thread of a child that is to be started
  pub record IsPromiseOf (space : SpaceView) (hosts : HostTable) (parent : ThreadNo) (b : Begun T) (p : TreeOf T) : Type 0 where
    pub limits_are : p.limits ≡ space.limits
    pub hosts_are : p.hosts.value ≡ hosts
    pub number_is : p.number ≡ b.number
    pub function_is : p.function ≡ b.function
    pub parent_is : p.parent ≡ parent
    pub machine_is : p.machine.value ≡ b.machine
    pub desk_is : p.desk.value ≡ b.desk

-- the thread's number, and what it began with
pub record IsSameThread {T : Type 0} (old new : Running T) : Type 0 where
  pub number : new.number ≡ old.number
  pub function : new.function ≡ old.function
  pub began : new.began.value ≡ old.began.value
  pub start : new.start.value ≡ old.start.value
  pub hosts : new.hosts.value ≡ old.hosts.value
