-- A step that a pick makes keeps the lists of the replay in step with the world.
use Rattle.std.proofs.Common.{◌≡◌, ℕ, zero, suc, ◌+◌, ◌<◌, Bool, true, false, List, [], ◌∷◌, ◌++◌, refl, sym, ◌∙◌, ap, subst, ◌≢◌, inl, inr, arith, length}
use Rattle.std.specs.Prelude.{Some, None, slice_get, slice_set, ◌==◌, ◌⊎◌, if◌then◌else◌}
use Rattle.std.specs.declared.option.Option.{Option}
use Rattle.std.proofs.Math.ListN.{set}
use Rattle.std.proofs.lemmas.Bool.{eq-eqb}
use Rattle.std.proofs.lemmas.Bool.Decides.{eqb_tells}
use Rattle.std.proofs.lemmas.Option.{slice_get_within}
use Rattle.std.proofs.Common.{append-nil}
use Rattle.history.specs.declared.entry.Entry.{Entry}
use Rattle.history.specs.declared.entry.Reply.{Reply}
use Rattle.history.specs.declared.entry.Request.{Request}
use Rattle.history.specs.declared.entry.Request.TheVariants as request
use Rattle.runs.specs.Parts.{child_of, is_child, spawned_by, spawned_of}
use Rattle.runs.specs.Machine.{Machine, Memory, Settles}
use Rattle.runs.specs.Interleaving.{World, world_after, Allowed}
use Rattle.runs.specs.Replay.{Progress, Fiber, RepliesNext, new_fibers}
use Rattle.runs.proofs.Order.{some_child, none_is_some}
use Rattle.runs.proofs.Picking.{Tracks}

module _ {A : Type 0} where
  pub got_set_same : (xs : List A) (i : ℕ) (x y : A) → slice_get xs i ≡ Some x → slice_get (slice_set xs i y) i ≡ Some y
  got_set_same [] i x y h = absurd (none_is_some x h)
    where
      none_is_some : (x : A) → None ≡ Some x → ⊥
      none_is_some x h = cc
  got_set_same (z ∷ zs) zero x y h = refl
  got_set_same (z ∷ zs) (suc i) x y h = got_set_same zs i x y h

  pub got_set_other : (xs : List A) (i j : ℕ) (y : A) → i ≢ j → slice_get (slice_set xs i y) j ≡ slice_get xs j
  got_set_other [] i j y ne = refl
  got_set_other (z ∷ zs) zero zero y ne = absurd (ne refl)
  got_set_other (z ∷ zs) zero (suc j) y ne = refl
  got_set_other (z ∷ zs) (suc i) zero y ne = refl
  got_set_other (z ∷ zs) (suc i) (suc j) y ne = got_set_other zs i j y (λ h. ne (ap suc h))

  -- an element of a list with one more is an old one, or the new one at the end
  pub got_more : (xs : List A) (y z : A) (j : ℕ) → slice_get (xs ++ y ∷ []) j ≡ Some z → (slice_get xs j ≡ Some z) ⊎ ((j ≡ length xs) × (y ≡ z))
  got_more [] y z zero h = inr (refl, some_inj y z h)
    where
      some_inj : (y z : A) → Some y ≡ Some z → y ≡ z
      some_inj y z h = cc
  got_more [] y z (suc j) h = inl h
  got_more (x ∷ xs) y z zero h = inl h
  got_more (x ∷ xs) y z (suc j) h = elim (got_more xs y z j h) [ inl old ↦ inl old | inr new ↦ inr (ap suc new.0, new.1) ]

  pub length_set : (xs : List A) (i : ℕ) (y : A) → length (slice_set xs i y) ≡ length xs
  length_set [] i y = refl
  length_set (z ∷ zs) zero y = refl
  length_set (z ∷ zs) (suc i) y = ap suc (length_set zs i y)

pub some_inj : {A : Type 0} {x y : A} → Some x ≡ Some y → x ≡ y
some_inj h = cc

pub not_none : {A : Type 0} (x : A) (o : Option A) → o ≡ Some x → o ≡ None → ⊥
not_none x o h g = cc

-- the child that a step starts has the next number
pub child_next : (M : Machine) (O : Memory) (A : Allowed) (p : Progress M O) (e : Entry) (c : ℕ) (r : Request)
    → RepliesNext M O A p e r → spawned_by r e.reply.plain ≡ Some c → c ≡ p.words.threads + 1
child_next M O A p e c (request.Spawn f) h is = sym (some_inj (sym (ap (λ (y : Reply). spawned_of y.plain) h) ∙ is))
child_next M O A p e c _ h is = absurd (none_is_some c is)

pub spawn_child : (M : Machine) (O : Memory) (A : Allowed) (p : Progress M O) (e : Entry) (f : ℕ) (r : Request)
    → r ≡ request.Spawn f → RepliesNext M O A p e r → spawned_by r e.reply.plain ≡ Some (p.words.threads + 1)
spawn_child M O A p e f r is h =
    let g : RepliesNext M O A p e (request.Spawn f) = subst (λ q. RepliesNext M O A p e q) is h in
    subst (λ q. spawned_by q e.reply.plain ≡ Some (p.words.threads + 1)) (sym is) (ap (λ (y : Reply). spawned_of y.plain) g)

-- where the fiber stands in the world after the step
abbrev pub StandsAfter : (M : Machine) → (O : Memory) → World M O → M.State → Entry → ℕ → Fiber M → Type 0
StandsAfter M O w now e u g = (s : M.State) × ((world_after M O w now e).threads u ≡ Some s) × Settles M s g.state

pub other_stands : (M : Machine) (O : Memory) (A : Allowed) (p : Progress M O) (w : World M O) (now : M.State) (e : Entry) (u : ℕ) (g : Fiber M)
    → Tracks M O p w → RepliesNext M O A p e e.request → (e.thread.0 == u) ≡ false → slice_get p.threads u ≡ Some g → StandsAfter M O w now e u g
other_stands M O A p w now e u g h next miss at =
    let s = h.threads u g at in
    (s.0, rw miss (by_child (is_child (child_of e) u) refl s.1), s.2)
  where
    by_child : {x : M.State} (b : Bool) → is_child (child_of e) u ≡ b → w.threads u ≡ Some x → (if is_child (child_of e) u then Some (M.child now) else w.threads u) ≡ Some x
    by_child {x} true is some =
        let number : u ≡ p.words.threads + 1 = child_next M O A p e u e.request next (some_child (child_of e) u is) in
        absurd (not_none x (w.threads u) some (h.unused u (omega (arith, number))))
    by_child false is some = rw is some

pub old_stands : (M : Machine) (O : Memory) (A : Allowed) (p : Progress M O) (w : World M O) (now : M.State) (e : Entry) (t u : ℕ) (f g : Fiber M)
    → Tracks M O p w → RepliesNext M O A p e e.request → e.thread.0 ≡ t → slice_get p.threads t ≡ Some f
    → slice_get (slice_set p.threads t (record f { state = M.after now e; entries = f.entries ++ e ∷ [] })) u ≡ Some g
    → StandsAfter M O w now e u g
old_stands M O A p w now e t u f g h next own at got = elim (eqb_tells e.thread.0 u) [
  | inl hit ↦
      let f' : Fiber M = record f { state = M.after now e; entries = f.entries ++ e ∷ [] } in
      let here : t ≡ u = sym own ∙ hit.1 in
      let same : f' ≡ g = some_inj (sym (got_set_same p.threads t f f' at) ∙ (ap (slice_get (slice_set p.threads t f')) here ∙ got)) in
      (M.after now e, rw hit.0 refl, (0, ap (λ (k : Fiber M). k.state) same))
  | inr miss ↦
      other_stands M O A p w now e u g h next miss.0 (sym (got_set_other p.threads t u _ (λ k. miss.1 (own ∙ k))) ∙ got)
]

pub fibers_stand : (M : Machine) (O : Memory) (A : Allowed) (p : Progress M O) (w : World M O) (now : M.State) (e : Entry) (t u : ℕ) (f g : Fiber M)
    → Tracks M O p w → RepliesNext M O A p e e.request → e.thread.0 ≡ t → slice_get p.threads t ≡ Some f
    → length p.threads ≡ p.words.threads + 1
    → (r : Request) → e.request ≡ r
    → slice_get (slice_set p.threads t (record f { state = M.after now e; entries = f.entries ++ e ∷ [] }) ++ new_fibers M t (M.child now) r) u ≡ Some g
    → StandsAfter M O w now e u g
fibers_stand M O A p w now e t u f g h next own at count (request.Spawn function) is got =
    let f' : Fiber M = record f { state = M.after now e; entries = f.entries ++ e ∷ [] } in
    elim (got_more (slice_set p.threads t f') _ g u got) [
      | inl old ↦ old_stands M O A p w now e t u f g h next own at old
      | inr new ↦
          let last : u ≡ p.words.threads + 1 = new.0 ∙ (length_set p.threads t f' ∙ count) in
          let within : t < length p.threads = slice_get_within p.threads t f at in
          let child : child_of e ≡ Some (p.words.threads + 1) = spawn_child M O A p e function e.request is next in
          let yes_child : is_child (child_of e) u ≡ true = ap (λ c. is_child c u) child ∙ eq-eqb (p.words.threads + 1) u (sym last) in
          let other : (e.thread.0 == u) ≡ false = elim (eqb_tells e.thread.0 u) [ inl hit ↦ absurd (omega (arith, hit.1, own, within, last, count)) | inr miss ↦ miss.0 ] in
          (M.child now, rw (other, yes_child) refl, (0, ap (λ (k : Fiber M). k.state) new.1))
    ]
fibers_stand M O A p w now e t u f g h next own at count _ is got =
    old_stands M O A p w now e t u f g h next own at (rw append-nil at got)
