-- Desks of tests.
use Rattle.std.proofs.Common.{◌≡◌, ℕ, ◌≤◌, All, Contains, refl, ap, sym, ◌∙◌, subst, [], ◌∷◌, ◌++◌, List, cond, ⊎_elim, arith}
use Rattle.std.proofs.lemmas.List.Elements.{All-push, All-nil}
use Rattle.std.proofs.lemmas.Bool.Decides.{eqb_tells}
use Rattle.bsan_ids.specs.declared.numbers.AllocNo.{AllocNo}
use Rattle.bsan_ids.specs.declared.numbers.Limits.{Limits}
use Rattle.bsan_ids.specs.declared.numbers.ThreadNo.{ThreadNo}
use Rattle.history.specs.declared.entry.Entry.{Entry}
use Rattle.history.specs.declared.entry.Request.{Request}
use Rattle.history.specs.Merge.{stamp_of}
use Rattle.ir_ast.specs.declared.types.Place.{Place}
use Rattle.turn_lock.specs.Plays.{DeskView}
use Rattle.turn_lock.specs.Rule.{newcomer}
use Rattle.turn_lock.specs.Steps.{parted, child_of, joins, drew_thread}
use Rattle.bsan_ids.specs.Lists.{without}
use Rattle.alloc_space.specs.declared.make.Made.TheVariants as made
use Rattle.alloc_space.specs.Spaces.{SpaceView}
use Rattle.alloc_space.specs.declared.step.Stepped.{Stepped}
use Rattle.alloc_space.specs.declared.step.Stepped.TheVariants as stepped
use Rattle.alloc_space.specs.Steps.{IsStepped, IsStep, IsMade, IsNumbered, numbered}
use Rattle.alloc_space.specs.Tried.{AreParentAndChild, IsFirstDesk, IsOpen, IsSameDesk, MayStore}

module _ (limits : Limits) (thread : ThreadNo) (site : ℕ) (alloc : AllocNo) (request : Request) (first old new : DeskView) where
  -- whatever a step came to
  pub same_after : (came : Stepped) → IsStepped limits thread site alloc request old new came → IsSameDesk first old → IsSameDesk first new
  same_after (stepped.Done e) s d = record {
    table = ap (λ (x : DeskView). x.table) s.step.desk ∙ d.table;
    name = ap (λ (x : DeskView). x.view.name) s.step.desk ∙ d.name;
    outs = ap (λ (x : DeskView). x.view.outs) s.step.desk ∙ d.outs;
    idle = ap (λ (x : DeskView). x.view.turn) s.step.desk ∙ d.idle;
  }
  same_after (stepped.StepLimit stamp) s d = record {
    table = ap (λ (x : DeskView). x.table) s.desk ∙ d.table;
    name = ap (λ (x : DeskView). x.view.name) s.desk ∙ d.name;
    outs = ap (λ (x : DeskView). x.view.outs) s.desk ∙ d.outs;
    idle = ap (λ (x : DeskView). x.view.turn) s.desk ∙ d.idle;
  }
  same_after stepped.NoMemory s d = record {
    table = ap (λ (x : DeskView). x.table) s.desk ∙ d.table;
    name = ap (λ (x : DeskView). x.view.name) s.desk ∙ d.name;
    outs = ap (λ (x : DeskView). x.view.outs) s.desk ∙ d.outs;
    idle = ap (λ (x : DeskView). x.view.turn) s.desk ∙ d.idle;
  }

  -- a step that was made leaves room for the next stamp
  pub room_after : (came : Stepped) (e : Entry) → came ≡ stepped.Done e → IsStepped limits thread site alloc request old new came → All (λ n. n ≤ limits.steps) old.view.stamps.own → All (λ n. n ≤ limits.steps) new.view.stamps.own
  room_after came e is s room =
      let done : IsStep limits thread site alloc request old new e = subst (IsStepped limits thread site alloc request old new) is s in
      subst (λ (x : DeskView). All (λ n. n ≤ limits.steps) x.view.stamps.own) (sym done.step.desk) (All-push (λ n. n ≤ limits.steps) old.view.stamps.own (stamp_of e) room done.step.within)

module _ (space : SpaceView) where
  -- a first desk is one after any step
  pub first_after : (old new : DeskView) → IsFirstDesk space old → IsSameDesk old new → IsFirstDesk space new
  first_after old new f s = record { own = s.table ∙ f.own; name = s.name ∙ f.name; idle = s.idle; outs = s.outs ∙ f.outs }

  same_first : (old : DeskView) → IsFirstDesk space old → IsSameDesk old old
  same_first old f = record { table = refl; name = refl; outs = refl; idle = f.idle }

  pub first_step : (thread : ThreadNo) (site : ℕ) (alloc : AllocNo) (request : Request) (old new : DeskView) (came : Stepped) → IsStepped space.limits thread site alloc request old new came → IsFirstDesk space old → IsFirstDesk space new
  first_step thread site alloc request old new came s f = first_after old new f (same_after space.limits thread site alloc request old old new came s (same_first old f))

  -- a desk that may make a step may make the next one, where the step was made
  pub open_step : (thread : ThreadNo) (site : ℕ) (alloc : AllocNo) (request : Request) (old new : DeskView) (e : Entry) → IsStep space.limits thread site alloc request old new e → IsOpen space old → IsOpen space new
  open_step thread site alloc request old new e s o = record {
    first = first_step thread site alloc request old new (stepped.Done e) s o.first;
    room = room_after space.limits thread site alloc request old old new (stepped.Done e) e refl s o.room;
    threads = ap (λ (x : DeskView). x.view.threads.own) s.step.desk ∙ o.threads;
  }

  open_numbered : (old : DeskView) (n : ℕ) → IsOpen space old → IsOpen space (numbered old n)
  open_numbered old n o = record { first = record { own = o.first.own; name = o.first.name; idle = o.first.idle; outs = o.first.outs }; room = o.room; threads = o.threads }

  module _ (thread : ThreadNo) (site size : ℕ) (place : Place) (old new : DeskView) where
    pub open_make : (e : Entry) → IsMade space.limits thread site size place old new (made.Done e) → IsOpen space old → IsOpen space new
    open_make e m o = open_step thread site m.number _ (numbered old m.number.0) new e m.step (open_numbered old m.number.0 o)

    pub few_made : (e : Entry) → IsMade space.limits thread site size place old new (made.Done e) → All (λ n. n ≤ space.limits.allocs) old.view.allocs.own → All (λ n. n ≤ space.limits.allocs) new.view.allocs.own
    few_made e m few = subst (λ (x : DeskView). All (λ n. n ≤ space.limits.allocs) x.view.allocs.own) (sym m.step.step.desk) (All-push (λ n. n ≤ space.limits.allocs) old.view.allocs.own m.number.0 few m.few)

    pub open_beyond : (drawn : ℕ) → new ≡ numbered old drawn → IsOpen space old → IsOpen space new
    open_beyond drawn is o = subst (λ d. IsOpen space d) (sym is) (open_numbered old drawn o)

  -- the first desk, as a space begins
  pub open_new : (d : DeskView) → d ≡ record { table = space.table; view = newcomer 0 0 [] } → IsOpen space d
  open_new d is = subst (λ x. IsOpen space x) (sym is) (record { first = record { own = refl; name = refl; idle = refl; outs = refl }; room = All-nil _; threads = refl })

  module _ (old drew new child : DeskView) (n : ℕ) (o : IsOpen space old) (number : IsNumbered old drew n) (split : new ≡ record { table = drew.table; view = parted drew.view n }) (is : child ≡ record { table = drew.table; view = child_of drew.view n }) where
    parent_is : new ≡ record { table = old.table; view = parted (drew_thread old.view n) n }
    parent_is = split ∙ ap (λ (d : DeskView). record { table = d.table; view = parted d.view n }) number.desk

    child_is : child ≡ record { table = old.table; view = child_of (drew_thread old.view n) n }
    child_is = is ∙ ap (λ (d : DeskView). record { table = d.table; view = child_of d.view n }) number.desk

    pub family : AreParentAndChild space new child
    family = record {
      own = ap (λ (d : DeskView). d.table) parent_is ∙ o.first.own;
      name = ap (λ (d : DeskView). d.view.name) parent_is ∙ o.first.name;
      idle = ap (λ (d : DeskView). d.view.turn) parent_is ∙ o.first.idle;
      outs = ap (λ (d : DeskView). d.view.outs) parent_is ∙ (ap (λ xs. xs ++ n ∷ []) o.first.outs ∙ ap (λ (d : DeskView). d.view.name ∷ []) (sym child_is));
      child_own = ap (λ (d : DeskView). d.table) child_is ∙ o.first.own;
      child_idle = ap (λ (d : DeskView). d.view.turn) child_is;
      child_outs = ap (λ (d : DeskView). d.view.outs) child_is;
    }

    pub parent_stores : MayStore space new
    parent_stores = record { own = family.own; idle = family.idle; room = subst (λ (d : DeskView). All (λ m. m ≤ space.limits.steps) d.view.stamps.own) (sym parent_is) o.room }

    pub child_stores : MayStore space child
    child_stores = record { own = family.child_own; idle = family.child_idle; room = subst (λ (d : DeskView). All (λ m. m ≤ space.limits.steps) d.view.stamps.own) (sym child_is) (All-nil _) }

  module _ (parent child later grown : DeskView) (f : AreParentAndChild space parent child) (s : IsSameDesk parent later) (t : IsSameDesk child grown) where
    outs_are : later.view.outs ≡ grown.view.name ∷ []
    outs_are = s.outs ∙ (f.outs ∙ ap (λ n. n ∷ []) (sym t.name))

    pub out : Contains later.view.outs grown.view.name
    out = subst (λ xs. Contains xs grown.view.name) (sym outs_are) (0, omega arith, refl)

    pub joined_first : (d : DeskView) → d ≡ record { table = later.table; view = joins later.view grown.view } → IsFirstDesk space d
    joined_first d is = record {
      own = ap (λ (x : DeskView). x.table) is ∙ (s.table ∙ f.own);
      name = ap (λ (x : DeskView). x.view.name) is ∙ (s.name ∙ f.name);
      idle = ap (λ (x : DeskView). x.view.turn) is ∙ s.idle;
      outs = ap (λ (x : DeskView). x.view.outs) is ∙ (ap (without grown.view.name) outs_are ∙ none grown.view.name);
    }
      where
        none : (n : ℕ) → without n (n ∷ []) ≡ []
        none n = ⊎_elim (λ t. ap (λ b. cond {A = List ℕ} b [] (n ∷ [])) t.0) (λ t. absurd (t.1 refl)) (eqb_tells n n)
