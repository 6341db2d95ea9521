-- One set after the other is raised; to raise a mark twice by one clock is to raise it once.
use Rattle.std.proofs.Common.{◌≡◌, ℕ, ◌<◌, List, get_or, refl, ap, subst, ◌∙◌, arith, inl, inr}
use Rattle.std.specs.Prelude.{◌⊎◌, max, Option, Some, None, Bool, true, false, if◌then◌else◌}
use Rattle.bsan_ids.specs.declared.numbers.AllocNo.{AllocNo}
use Rattle.history.specs.declared.entry.Entry.{Entry}
use Rattle.history.specs.declared.entry.Request.{Request}
use Rattle.history.specs.declared.entry.Request.TheVariants.{Spawn}
use Rattle.history.specs.declared.entry.Plain.{Plain}
use Rattle.history.specs.declared.entry.Plain.TheVariants.{Spawned}
use Rattle.race_check.specs.declared.key.Key.{Key}
use Rattle.race_check.specs.declared.key.Key.TheVariants.{Thread, Start, Place}
use Rattle.race_check.specs.declared.clocks.Clocks.{Clocks}
use Rattle.race_check.specs.Accesses.{is_atomic, has_trapped, start_of}
use Rattle.race_check.specs.Keys.{Gives}
use Rattle.race_check.specs.Clocks.{mark_at, start_key, started_by, started_in, place_key, place_in}
use Rattle.race_check.proofs.Exact.{option_key_or}
use Rattle.race_check.proofs.Walk.{key_of_start, key_of_place}

pub record Raises (n : ℕ) (c : List ℕ) (o : Option Key) (old new : Clocks) : Type 0 where
  pub raised : (k : Key) → o ≡ Some k → (s : ℕ) → s < n → mark_at new k s ≡ max (get_or c s 0) (mark_at old k s)
  pub others : (k : Key) → (o ≡ Some k → ⊥) → (s : ℕ) → mark_at new k s ≡ mark_at old k s

twice : (a m : ℕ) → max a (max a m) ≡ max a m
twice a m = omega arith

stay : (n : ℕ) (c : List ℕ) (o : Option Key) (old new : Clocks) → Raises n c o old new → (k : Key) (s m : ℕ) → s < n
    → mark_at old k s ≡ max (get_or c s 0) m → mark_at new k s ≡ max (get_or c s 0) m
stay n c o old new r k s m lt h = by_case (option_key_or o k)
  where
    by_case : (o ≡ Some k) ⊎ (o ≡ Some k → ⊥) → mark_at new k s ≡ max (get_or c s 0) m
    by_case (inl is) = r.raised k is s lt ∙ ap (λ (x : ℕ). max (get_or c s 0) x) h ∙ twice (get_or c s 0) m
    by_case (inr no_key) = r.others k no_key s ∙ h

raise : (n : ℕ) (c : List ℕ) (o : Option Key) (old new : Clocks) → Raises n c o old new → (k : Key) (s m : ℕ) → s < n → o ≡ Some k
    → (mark_at old k s ≡ m) ⊎ (mark_at old k s ≡ max (get_or c s 0) m) → mark_at new k s ≡ max (get_or c s 0) m
raise n c o old new r k s m lt is (inl h) = r.raised k is s lt ∙ ap (λ (x : ℕ). max (get_or c s 0) x) h
raise n c o old new r k s m lt is (inr h) = r.raised k is s lt ∙ ap (λ (x : ℕ). max (get_or c s 0) x) h ∙ twice (get_or c s 0) m

either : (n : ℕ) (c : List ℕ) (o : Option Key) (old new : Clocks) → Raises n c o old new → (k : Key) (s m : ℕ) → s < n
    → (mark_at old k s ≡ m) ⊎ (mark_at old k s ≡ max (get_or c s 0) m) → (mark_at new k s ≡ m) ⊎ (mark_at new k s ≡ max (get_or c s 0) m)
either n c o old new r k s m lt h = by_case (option_key_or o k) h
  where
    by_case : (o ≡ Some k) ⊎ (o ≡ Some k → ⊥) → (mark_at old k s ≡ m) ⊎ (mark_at old k s ≡ max (get_or c s 0) m) → (mark_at new k s ≡ m) ⊎ (mark_at new k s ≡ max (get_or c s 0) m)
    by_case (inl is) before = inr (raise n c o old new r k s m lt is before)
    by_case (inr no_key) (inl before) = inl (r.others k no_key s ∙ before)
    by_case (inr no_key) (inr before) = inr (r.others k no_key s ∙ before)

-- the three steps of a note
pub record Notes (n : ℕ) (c : List ℕ) (e : Entry) (c0 c1 c2 c3 : Clocks) : Type 0 where
  pub thread : Raises n c (Some (Thread e.thread)) c0 c1
  pub start : Raises n c (start_key e) c1 c2
  pub place : Raises n c (place_key e) c2 c3

pub noted_given : (n : ℕ) (c : List ℕ) (e : Entry) (c0 c1 c2 c3 : Clocks) → Notes n c e c0 c1 c2 c3
    → (k : Key) → Gives k e → (s : ℕ) → s < n → mark_at c3 k s ≡ max (get_or c s 0) (mark_at c0 k s)
noted_given n c e c0 c1 c2 c3 r (Thread u) g s lt =
    (stay n c (place_key e) c2 c3 r.place (Thread u) s _ lt (stay n c (start_key e) c1 c2 r.start (Thread u) s _ lt
    (r.thread.raised (Thread u) (ap (λ v. Some (Thread v)) g) s lt)))
noted_given n c e c0 c1 c2 c3 r (Start u) g s lt =
    (stay n c (place_key e) c2 c3 r.place (Start u) s _ lt
    (raise n c (start_key e) c1 c2 r.start (Start u) s _ lt (key_of_start e u g) (either n c _ c0 c1 r.thread (Start u) s (mark_at c0 (Start u) s) lt (inl refl))))
noted_given n c e c0 c1 c2 c3 r (Place a at) g s lt =
    (raise n c (place_key e) c2 c3 r.place (Place a at) s _ lt (key_of_place e a at g)
    (either n c (start_key e) c1 c2 r.start (Place a at) s _ lt (either n c _ c0 c1 r.thread (Place a at) s (mark_at c0 (Place a at) s) lt (inl refl))))

same_key : (j k : Key) → Some j ≡ Some k → j ≡ k
same_key j k h = cc

start_only : (e : Entry) (k : Key) → start_key e ≡ Some k → Gives k e
start_only e k h = by_request e.request refl h
  where
    by_request : (r : Request) → e.request ≡ r → started_by r e.reply.plain ≡ Some k → Gives k e
    by_request (Spawn function) asked at = by_plain e.reply.plain refl at
      where
        by_plain : (p : Plain) → e.reply.plain ≡ p → started_in p ≡ Some k → Gives k e
        by_plain (Spawned u) is at' = subst (λ (j : Key). Gives j e) (same_key (Start u) k at') (record { function = function; asked = asked; answered = is })
        by_plain _ is at' = absurd cc
    by_request _ asked at = absurd cc

place_only : (e : Entry) (k : Key) → place_key e ≡ Some k → Gives k e
place_only e k h = go (is_atomic e.request) refl (has_trapped e) refl e.alloc refl h
  where
    go : (a : Bool) → is_atomic e.request ≡ a → (t : Bool) → has_trapped e ≡ t → (o : Option AllocNo) → e.alloc ≡ o
        → (if a then (if t then None else place_in (start_of e.request) o) else None) ≡ Some k → Gives k e
    go true ea false et (Some n) eo at = subst (λ (j : Key). Gives j e) (same_key (Place n (start_of e.request)) k at) (record { atomic = ea; done = et; alloc = eo; start = refl })
    go true ea false et None eo at = absurd cc
    go true ea true et o eo at = absurd cc
    go false ea t et o eo at = absurd cc

pub noted_others : (n : ℕ) (c : List ℕ) (e : Entry) (c0 c1 c2 c3 : Clocks) → Notes n c e c0 c1 c2 c3
    → (k : Key) → (Gives k e → ⊥) → (s : ℕ) → mark_at c3 k s ≡ mark_at c0 k s
noted_others n c e c0 c1 c2 c3 r k other s =
    r.place.others k (λ h. other (place_only e k h)) s ∙ r.start.others k (λ h. other (start_only e k h)) s
    ∙ r.thread.others k (λ h. other (subst (λ (j : Key). Gives j e) (same_key (Thread e.thread) k h) refl)) s
