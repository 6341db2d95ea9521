-- How threads have ended.
use Rattle.std.specs.Prelude.{◌≡◌, ◌≢◌, ℕ, Bool, false, List, Some, None, is_none, slice_get, slice_set, unwrap_or, option_map}
use Rattle.history.specs.declared.ask.Ask.{Ask}
use Rattle.history.specs.declared.ask.Ask.TheVariants as ask
use Rattle.source_sem.specs.Source.{Setting, Source}
use Rattle.core_model.specs.Fibers.{Seen, seen, all_seen}
use Rattle.std.specs.declared.option.Option.{Option}
use Rattle.history.specs.declared.log.End.{End}
use Rattle.bsan_ids.specs.declared.numbers.Limits.{Limits}
use Rattle.core_model.specs.declared.fiber.Fiber.{Fiber}
use Rattle.core_model.specs.declared.run.Pick.{Pick}
use Rattle.core_model.specs.declared.run.Pick.TheVariants as pick
use Rattle.core_model.specs.Turns.{Rests}

-- the end of a thread, once it has ended
abbrev pub end_in : {T : Type 0} → List (Fiber T) → ℕ → Option End
end_in fibers t = unwrap_or (option_map (λ f. f.«end») (slice_get fibers t)) None

-- whether a thread is there and has not ended
abbrev pub is_open : {T : Type 0} → Option (Fiber T) → Bool
is_open None = false
is_open (Some f) = is_none f.«end»

-- a child that is joined has this end
abbrev pub IsEndOf : {T : Type 0} → Ask → List (Fiber T) → Option End → Type 0
IsEndOf (ask.Join c) fibers joined = (joined ≡ end_in fibers c.0) × (joined ≢ None)
IsEndOf other fibers joined = Unit {0}

-- thread t has ended, and all else is as it was
abbrev pub EndsAt : {T : Type 0} → (T → Setting) → (T → Source) → List (Fiber T) → ℕ → End → List (Fiber T) → Type 0
EndsAt setting state before t why after =
    (f : Seen) → slice_get (all_seen setting state before) t ≡ Some f → all_seen setting state after ≡ slice_set (all_seen setting state before) t (record f { «end» = Some why })

-- whether a thread that made a step goes on or has ended
abbrev pub pick_of : Option End → Pick
pick_of None = pick.Stepped
pick_of (Some why) = pick.Ended

-- after its step the thread has ended where its state is an end
abbrev pub RestsBy : {T : Type 0} → (T → Setting) → (T → Source) → Limits → Fiber T → Fiber T → Pick → Type 0
RestsBy setting state limits old new came =
    (over : Option End) × Rests (setting old.thread) limits (state old.thread) over × (seen setting state new ≡ record (seen setting state old) { «end» = over }) × (came ≡ pick_of over)
