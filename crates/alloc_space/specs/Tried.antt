-- What the desks of tests are.
use Rattle.std.specs.Prelude.{◌≡◌, ◌≤◌, All, None, [], ◌∷◌, IsTrue, false}
use Rattle.history.specs.declared.entry.Request.{Request}
use Rattle.history.specs.Histories.{fits, is_make, HasBytes}
use Rattle.turn_lock.specs.Plays.{DeskView}
use Rattle.alloc_space.specs.Spaces.{SpaceView}

-- whatever steps were made on the desk, it may be joined where it could before
pub record IsSameDesk (old new : DeskView) : Type 0 where
  pub table : new.table ≡ old.table
  pub name : new.view.name ≡ old.view.name
  pub outs : new.view.outs ≡ old.view.outs
  pub idle : new.view.turn ≡ None

-- the first desk of this space, from which none is split
pub record IsFirstDesk (space : SpaceView) (desk : DeskView) : Type 0 where
  pub own : desk.table ≡ space.table
  pub name : desk.view.name ≡ 0
  pub idle : desk.view.turn ≡ None
  pub outs : desk.view.outs ≡ []

-- a desk of this space that may make a step
pub record MayStore (space : SpaceView) (desk : DeskView) : Type 0 where
  pub own : desk.table ≡ space.table
  pub idle : desk.view.turn ≡ None
  pub room : All (λ n. n ≤ space.limits.steps) desk.view.stamps.own

-- the first desk, on which no thread number was drawn, and which may make a step
pub record IsOpen (space : SpaceView) (desk : DeskView) : Type 0 where
  pub first : IsFirstDesk space desk
  pub room : All (λ n. n ≤ space.limits.steps) desk.view.stamps.own
  pub threads : desk.view.threads.own ≡ []

-- the first desk, and the one desk that is split from it
pub record AreParentAndChild (space : SpaceView) (parent child : DeskView) : Type 0 where
  pub own : parent.table ≡ space.table
  pub name : parent.view.name ≡ 0
  pub idle : parent.view.turn ≡ None
  pub outs : parent.view.outs ≡ child.view.name ∷ []
  pub child_own : child.table ≡ space.table
  pub child_idle : child.view.turn ≡ None
  pub child_outs : child.view.outs ≡ []

-- requests that fit, and make nothing
pub record IsPlain (request : Request) : Type 0 where
  pub fitting : IsTrue (fits request)
  pub bytes : HasBytes request
  pub other : is_make request ≡ false
