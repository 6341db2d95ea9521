-- An open thread of the code that has made its local turns.
use Rattle.std.proofs.Common.{◌≡◌, ◌≢◌, ℕ, zero, suc, ◌≤◌, List, [], ◌∷◌, false, refl, sym, ◌∙◌, ap, subst, arith}
use Rattle.std.specs.Prelude.{Some, None, map, slice_get, slice_set}
use Rattle.bsan_ids.specs.declared.numbers.Limits.{Limits}
use Rattle.history.specs.declared.ask.Ask.{Ask}
use Rattle.history.specs.declared.ask.Ask.TheVariants as ask
use Rattle.ir_ast.specs.declared.hosts.HostTable.{HostTable}
use Rattle.run_memory.specs.Memory.{Memory}
use Rattle.history.specs.declared.log.End.{End}
use Rattle.history.specs.declared.log.End.TheVariants as log_end
use Rattle.runs.specs.Machine.{SettlesWithin, MayGoOn}
use Rattle.runs.specs.Objects.{objects}
use Rattle.runs.specs.Replay as replays
use Rattle.runs.specs.Replay.{waits, CanGoOn, EndsNext, drawn_by_end}
use Rattle.runs.proofs.Tracking.{some_inj}
use Rattle.source_sem.specs.Source.{Setting, Source, source, source_ask}
use Rattle.core_model.specs.declared.run.Pick.TheVariants as pick
use Rattle.core_model.specs.Fibers.{Seen}
use Rattle.core_model.specs.Running.{Played, UnderWay, Settled, PickedAs, fiber_in}
use Rattle.instr_sound.specs.Settling.{IsHalt, AsksJoin}
use Rattle.core_model.proofs.Choosing.{Held, got_map, was_going, end_pick}
use Rattle.core_model.proofs.Coming.{AllStand, all_stand}

pub got_back : {X Y : Type 0} (h : X → Y) (xs : List X) (i : ℕ) (y : Y) → slice_get (map h xs) i ≡ Some y → (x : X) × (slice_get xs i ≡ Some x) × (h x ≡ y)
got_back h [] i y is = cc
got_back h (x ∷ xs) zero y is = (x, refl, some_inj is)
got_back h (x ∷ xs) (suc i) y is = got_back h xs i y is

-- a thread that isn't there, or has ended, can't go on
pub shut_rests : (x : Setting) (limits : Limits) (hosts : HostTable) (fibers : List Seen) (m : Memory) (p : Played x) (t : ℕ) → UnderWay x limits hosts fibers m p
    → ((f : Seen) → slice_get fibers t ≡ Some f → f.«end» ≡ None → ⊥) → CanGoOn (source x) objects p t → ⊥
shut_rests x limits hosts fibers m p t w shut can =
    let back = got_back (fiber_in x) fibers t can.0 (ap (λ l. slice_get l t) (sym w.shows.threads) ∙ can.1) in
    shut back.0 back.1 (ap (λ (z : replays.Fiber (source x)). z.«end») back.2 ∙ can.2)

module _ (x : Setting) (limits : Limits) (hosts : HostTable) (before : List Seen) (m : Memory) (p : Played x) (t : ℕ) (w : UnderWay x limits hosts before m p) (f : Seen) (at : slice_get before t ≡ Some f) (opened : f.«end» ≡ None) where
  pub count_within : f.state.count ≤ limits.turns
  count_within =
      let a : AllStand x limits hosts w.runnable w.ranges p = all_stand x limits hosts w.runnable w.ranges p w.came in
      (a.states t (fiber_in x f) (ap (λ l. slice_get l t) w.shows.threads ∙ got_map (fiber_in x) before t f at)).count

  module _ (now : Source) (y : Setting) (turned : SettlesWithin (source y) limits.turns f.state now) (same : y ≡ x) where
    turned_x : SettlesWithin (source x) limits.turns f.state now
    turned_x = subst (λ z. SettlesWithin (source z) limits.turns f.state now) same turned

    settled_here : Held x limits hosts before m p t f now
    settled_here = record { way = w; at = at; «open» = opened; turned = turned_x }

    pub settled_asks : (a : Ask) → MayGoOn (source y) limits.turns now → a ≡ source_ask y now → a ≢ ask.Turn → (fibers : List Seen) → fibers ≡ slice_set before t (record f { state = now })
        → Settled x limits hosts before m p t f now a fibers
    settled_asks a may asks no_turn fibers is = record {
      way = w;
      at = at;
      «open» = opened;
      turned = turned_x;
      may = subst (λ z. MayGoOn (source z) limits.turns now) same may;
      asks = asks ∙ ap (λ z. source_ask z now) same;
      no_turn = no_turn;
      fibers_are = is;
    }

    free_unless : (b : Ask) → (AsksJoin b → ⊥) → waits (source x) objects p b ≡ false
    free_unless (ask.Join c) other = absurd (other tt)
    free_unless _ other = refl

    pub halted : (why : End) → IsHalt y limits.turns now why → (after : List Seen) → after ≡ slice_set before t (record f { state = now; «end» = Some why })
        → (q : Played x) × PickedAs x limits hosts pick.Ended p t q × UnderWay x limits hosts after m q
    halted log_end.TurnLimit h after is =
        end_pick x limits hosts before m p t f now settled_here log_end.TurnLimit h tt (λ still. (let less = subst (λ z. MayGoOn (source x) limits.turns z) still (was_going x limits hosts before m p t f now settled_here) h.0 in let count = h.1 in absurd (omega (arith, less, count)))) m
        (record { limits = refl; logs = λ b. refl; words_are = refl }) after is
    halted log_end.NoMemory h after is =
        end_pick x limits hosts before m p t f now settled_here log_end.NoMemory tt tt (λ still. free_unless (source_ask x now) (subst (λ s. AsksJoin (source_ask s now) → ⊥) same h)) m
        (record { limits = refl; logs = λ b. refl; words_are = refl }) after is
    halted (log_end.Returned v q) h after is = absurd h
    halted (log_end.Trapped e) h after is = absurd h
    halted (log_end.StepLimit k) h after is = absurd h
    halted (log_end.ChildEnded c) h after is = absurd h
