-- The erasure of an interleaving run is a run of the plain program.
use Rattle.std.proofs.Common.{◌≡◌, ℕ, zero, suc, Bool, true, false, List, [], ◌∷◌, refl, sym, ◌∙◌, ap, subst, inl, inr}
use Rattle.std.specs.Prelude.{Some, None, if◌then◌else◌, ◌==◌}
use Rattle.std.specs.declared.option.Option.{Option}
use Rattle.std.proofs.lemmas.Bool.{true≢false}
use Rattle.std.proofs.lemmas.Bool.Decides.{eqb_tells}
use Rattle.history.specs.declared.entry.Plain.{Plain}
use Rattle.history.specs.declared.entry.Plain.TheVariants as plain
use Rattle.history.specs.declared.entry.Entry.{Entry}
use Rattle.bsan_ids.specs.declared.numbers.Prov.{Prov}
use Rattle.history.specs.declared.entry.Request.{Request}
use Rattle.history.specs.declared.entry.Request.TheVariants as request
use Rattle.history.specs.declared.ask.MachineEnd.TheVariants as end
use Rattle.runs.specs.Parts.{names, child_of, is_child, spawned_by}
use Rattle.runs.specs.Machine.{Machine, Memory, TurnsTo, Settles}
use Rattle.runs.specs.Interleaving.{World, first_world, world_after, HasReturned, Allowed, Replies, Event, Interleaves, last_world}
use Rattle.history.specs.Replies.{trap_of}
use Rattle.runs.specs.Erasure.{erased_plain, erased_reply, erased_request, erased_entry, erasure, is_left_out, StepsAlike, Follows, Erases}

-- turns, one after another
pub turns_more : (P : Machine) (n k : ℕ) (a b c : P.State) → TurnsTo P n a b → TurnsTo P k b c → Settles P a c
turns_more P zero k a b c h g = (k, subst (λ x. TurnsTo P k x c) (sym h) g)
turns_more P (suc n) k a b c h g = let r = turns_more P n k (P.turn a) b c h.1 g in (suc r.0, (h.0, r.1))

pub settles_more : (P : Machine) (a b c : P.State) → Settles P a b → Settles P b c → Settles P a c
settles_more P a b c h g = turns_more P h.0 g.0 a b c h.1 g.1

-- the plain thread follows through local turns
pub follow_turns : (M P : Machine) (O Q : Memory) (E : Erases M P O Q) (n : ℕ) (s t : M.State) (p : P.State) → E.mirrors s p → TurnsTo M n s t → Follows M P E.mirrors t p
follow_turns M P O Q E zero s t p m h = (p, (0, refl), subst (λ x. E.mirrors x p) h m)
follow_turns M P O Q E (suc n) s t p m h =
    let one = E.turn s p m h.0 in
    let rest = follow_turns M P O Q E n (M.turn s) t one.0 one.2 h.1 in
    (rest.0, settles_more P p one.0 rest.0 one.1 rest.1, rest.2)

pub follow_settled : (M P : Machine) (O Q : Memory) (E : Erases M P O Q) (s t : M.State) (p : P.State) → Follows M P E.mirrors s p → Settles M s t → Follows M P E.mirrors t p
follow_settled M P O Q E s t p f h =
    let rest = follow_turns M P O Q E h.0 s t f.0 f.2 h.1 in (rest.0, settles_more P p f.0 rest.0 f.1 rest.1, rest.2)

-- the plain thread is behind by some local turns
abbrev pub IsBehind : (M P : Machine) (O Q : Memory) (E : Erases M P O Q) → Option M.State → Option P.State → Type 0
IsBehind M P O Q E None None = Unit {0}
IsBehind M P O Q E (Some s) (Some p) = Follows M P E.mirrors s p
IsBehind M P O Q E None (Some p) = ⊥
IsBehind M P O Q E (Some s) None = ⊥

pub none_behind : (M P : Machine) (O Q : Memory) (E : Erases M P O Q) (x : Option M.State) (y : Option P.State) → x ≡ None → IsBehind M P O Q E x y → y ≡ None
none_behind M P O Q E None None is h = refl
none_behind M P O Q E None (Some p) is h = absurd h
none_behind M P O Q E (Some s) None is h = refl
none_behind M P O Q E (Some s) (Some p) is h = cc

pub some_behind : (M P : Machine) (O Q : Memory) (E : Erases M P O Q) (x : Option M.State) (y : Option P.State) (s : M.State) → x ≡ Some s → IsBehind M P O Q E x y → (p : P.State) × (y ≡ Some p) × Follows M P E.mirrors s p
some_behind M P O Q E x None s is h = absurd (subst (λ z. IsBehind M P O Q E z None) is h)
some_behind M P O Q E x (Some p) s is h = (p, refl, subst (λ z. IsBehind M P O Q E z (Some p)) is h)

-- the plain world is the erased one, its threads some local turns behind
pub record Mirrors (M P : Machine) (O Q : Memory) (E : Erases M P O Q) (w : World M O) (u : World P Q) : Type 0 where
  pub threads : (t : ℕ) → IsBehind M P O Q E (w.threads t) (u.threads t)
  pub objects : (a : ℕ) → u.objects a ≡ E.object (w.objects a)
  pub valid : (a : ℕ) → E.valid (w.objects a)

pub returned_too : (M P : Machine) (O Q : Memory) (E : Erases M P O Q) (x : Option M.State) (y : Option P.State) (v : ℕ) (p : Option Prov)
    → IsBehind M P O Q E x y → HasReturned M x v p → HasReturned P y v None
returned_too M P O Q E x y v p h r =
    let b = some_behind M P O Q E x y r.before r.started h in
    let now = follow_settled M P O Q E r.before r.now b.0 b.2 r.settles in
    let over = E.ended r.now now.0 (end.Returned v p) now.2 r.returned in
    record { before = b.0; now = over.0; started = b.1; settles = settles_more P b.0 now.0 over.0 now.1 over.1; returned = over.2 }

pub reply_too : (M P : Machine) (O Q : Memory) (E : Erases M P O Q) (w : World M O) (u : World P Q) (e : Entry) (a : ℕ)
    → Mirrors M P O Q E w u → is_left_out e.request ≡ false
    → e.reply ≡ O.reply (w.objects a) e.request e.stamp.0
    → erased_reply e.reply ≡ Q.reply (u.objects a) (erased_request e.request) 0
reply_too M P O Q E w u e a h in_ is =
    ap erased_reply is ∙ sym (E.reply (w.objects a) e.request e.stamp.0 (h.valid a) in_) ∙ ap (λ o. Q.reply o (erased_request e.request) 0) (sym (h.objects a))

pub replies_too : (M P : Machine) (O Q : Memory) (E : Erases M P O Q) (A : Allowed) (w : World M O) (u : World P Q) (e : Entry) (r : Request)
    → Mirrors M P O Q E w u → is_left_out e.request ≡ false
    → Replies M O A w e r → Replies P Q A u (erased_entry e) (erased_request r)
replies_too M P O Q E A w u e (request.Make size place) h in_ g =
    (g.0, g.1, g.2, g.3, ap Q.made (h.objects g.0.0) ∙ E.made (w.objects g.0.0) ∙ g.4, reply_too M P O Q E w u e g.0.0 h in_ g.5)
replies_too M P O Q E A w u e (request.Print v) h in_ g = ap erased_reply g
replies_too M P O Q E A w u e (request.Host n x y) h in_ g = (g.0, g.1, ap erased_reply g.2)
replies_too M P O Q E A w u e (request.Spawn f) h in_ g =
    (g.0, g.1, g.2, none_behind M P O Q E (w.threads g.0.0) (u.threads g.0.0) g.3 (h.threads g.0.0), ap erased_reply g.4)
replies_too M P O Q E A w u e (request.Join c) h in_ g =
    (g.0, None, returned_too M P O Q E (w.threads c.0) (u.threads c.0) g.0 g.1 (h.threads c.0) g.2, ap erased_reply g.3)
replies_too M P O Q E A w u e _ h in_ g = (g.0, g.1, reply_too M P O Q E w u e g.0.0 h in_ g.2)

pub same_child : (r : Request) (p : Plain) → spawned_by (erased_request r) (erased_plain p) ≡ spawned_by r p
same_child (request.Spawn f) (plain.Copied q) = refl
same_child (request.Spawn f) _ = refl
same_child _ p = refl

pub no_child : (r : Request) (p : Plain) → is_left_out r ≡ true → spawned_by r p ≡ None
no_child (request.Spawn f) p is = absurd (true≢false (sym is))
no_child _ p is = refl

-- a step leaves valid objects
valid_after : (M P : Machine) (O Q : Memory) (E : Erases M P O Q) (w : World M O) (u : World P Q) (now : M.State) (e : Entry) → Mirrors M P O Q E w u → (a : ℕ) → E.valid ((world_after M O w now e).objects a)
valid_after M P O Q E w u now e h a =
    elim (names e.alloc a) as (λ b. E.valid (if b then O.next (w.objects a) e.request e.stamp.0 else w.objects a)) [ true ↦ E.stays (w.objects a) e.request e.stamp.0 (h.valid a) | false ↦ h.valid a ]

-- an entry that is kept is a step of both worlds
pub mirrors_kept : (M P : Machine) (O Q : Memory) (E : Erases M P O Q) (w : World M O) (u : World P Q) (now : M.State) (p : P.State) (e : Entry)
    → Mirrors M P O Q E w u → is_left_out e.request ≡ false → (a : StepsAlike M P E.mirrors now p e)
    → Mirrors M P O Q E (world_after M O w now e) (world_after P Q u a.now (erased_entry e))
mirrors_kept M P O Q E w u now p e h in_ a = record {
  threads = λ t.
      let child : is_child (child_of (erased_entry e)) t ≡ is_child (child_of e) t = ap (λ c. is_child c t) (same_child e.request e.reply.plain) in
      elim (e.thread.0 == t)
      as (λ b. IsBehind M P O Q E (if b then Some (M.after now e) else (if is_child (child_of e) t then Some (M.child now) else w.threads t)) (if b then Some (P.after a.now (erased_entry e)) else (if is_child (child_of (erased_entry e)) t then Some (P.child a.now) else u.threads t))) [
        | true ↦ (P.after a.now (erased_entry e), (0, refl), a.after)
        | false ↦ subst
            (λ c. IsBehind M P O Q E (if is_child (child_of e) t then Some (M.child now) else w.threads t) (if c then Some (P.child a.now) else u.threads t))
            (sym child)
            (elim (is_child (child_of e) t)
            as (λ b. IsBehind M P O Q E (if b then Some (M.child now) else w.threads t) (if b then Some (P.child a.now) else u.threads t))
            [ true ↦ (P.child a.now, (0, refl), a.child) | false ↦ h.threads t ])
      ];
  objects = λ a.
      elim (names e.alloc a)
      as (λ b. (if b then Q.next (u.objects a) (erased_request e.request) 0 else u.objects a) ≡ E.object (if b then O.next (w.objects a) e.request e.stamp.0 else w.objects a))
      [ true ↦ ap (λ o. Q.next o (erased_request e.request) 0) (h.objects a) ∙ E.next (w.objects a) e.request e.stamp.0 (h.valid a) in_ | false ↦ h.objects a ];
  valid = valid_after M P O Q E w u now e h;
}

-- the reply to a retag or a protector's end is no trap
pub left_untrapped : (M P : Machine) (O Q : Memory) (E : Erases M P O Q) (A : Allowed) (w : World M O) (e : Entry) (r : Request) → e.request ≡ r → is_left_out r ≡ true → Replies M O A w e r → trap_of e.reply.plain ≡ None
left_untrapped M P O Q E A w e (request.Retag at len kind guard prov) is out h = rw h.2 (E.untrapped (w.objects h.0.0) e.request e.stamp.0 (ap is_left_out is ∙ out))
left_untrapped M P O Q E A w e (request.EndProtector tag) is out h = rw h.2 (E.untrapped (w.objects h.0.0) e.request e.stamp.0 (ap is_left_out is ∙ out))
left_untrapped M P O Q E A w e _ is out h = absurd (true≢false (sym out))

-- an entry that is left out is local turns of its plain thread, or nothing
pub mirrors_left_out : (M P : Machine) (O Q : Memory) (E : Erases M P O Q) (A : Allowed) (w : World M O) (u : World P Q) (e : Entry)
    → Mirrors M P O Q E w u → is_left_out e.request ≡ true → (v : Event M O A w e)
    → Mirrors M P O Q E (world_after M O w v.now e) u
mirrors_left_out M P O Q E A w u e h out v = record {
  threads = λ t. elim (eqb_tells e.thread.0 t) [
    | inl hit ↦
        let b = some_behind M P O Q E (w.threads e.thread.0) (u.threads e.thread.0) v.before v.started (h.threads e.thread.0) in
        let now = follow_settled M P O Q E v.before v.now b.0 b.2 v.settles in
        let over = E.left_out v.now now.0 e now.2 v.asks out (left_untrapped M P O Q E A w e e.request refl out v.replies) in
        let after : Follows M P E.mirrors (M.after v.now e) b.0 = (over.0, settles_more P b.0 now.0 over.0 now.1 over.1, over.2) in
        rw hit.0 (subst (λ y. IsBehind M P O Q E (Some (M.after v.now e)) y) (sym b.1 ∙ ap u.threads hit.1) after)
    | inr miss ↦
        let none : is_child (child_of e) t ≡ false = ap (λ c. is_child c t) (no_child e.request e.reply.plain out) in
        rw (miss.0, none) (h.threads t)
  ];
  objects = λ a.
      elim (names e.alloc a)
      as (λ b. u.objects a ≡ E.object (if b then O.next (w.objects a) e.request e.stamp.0 else w.objects a))
      [ true ↦ h.objects a ∙ sym (E.unchanged (w.objects a) e.request e.stamp.0 out) | false ↦ h.objects a ];
  valid = valid_after M P O Q E w u v.now e h;
}

-- a run of the plain program that ends in the erased world
abbrev pub ErasedTo : (M P : Machine) (O Q : Memory) (E : Erases M P O Q) → Allowed → World M O → World P Q → List Entry → Type 0
ErasedTo M P O Q E A last u es = (run : Interleaves P Q A u es) × Mirrors M P O Q E last (last_world P Q A u es run)

pub erased_step : (M P : Machine) (O Q : Memory) (E : Erases M P O Q) (A : Allowed) (w last : World M O) (u : World P Q) (e : Entry) (es : List Entry)
    → Mirrors M P O Q E w u → (v : Event M O A w e)
    → ((next : World P Q) → Mirrors M P O Q E (world_after M O w v.now e) next → ErasedTo M P O Q E A last next (erasure es))
    → (b : Bool) → is_left_out e.request ≡ b → ErasedTo M P O Q E A last u (if b then erasure es else erased_entry e ∷ erasure es)
erased_step M P O Q E A w last u e es h v more true is = more u (mirrors_left_out M P O Q E A w u e h is v)
erased_step M P O Q E A w last u e es h v more false is =
    let b = some_behind M P O Q E (w.threads e.thread.0) (u.threads e.thread.0) v.before v.started (h.threads e.thread.0) in
    let now = follow_settled M P O Q E v.before v.now b.0 b.2 v.settles in
    let alike = E.kept v.now now.0 e now.2 v.asks is in
    let event : Event P Q A u (erased_entry e) = record {
      before = b.0;
      now = alike.now;
      started = b.1;
      settles = settles_more P b.0 now.0 alike.now now.1 alike.settles;
      site = alike.site ∙ v.site;
      asks = alike.asks;
      replies = replies_too M P O Q E A w u e e.request h is v.replies;
    } in
    let rest = more (world_after P Q u alike.now (erased_entry e)) (mirrors_kept M P O Q E w u v.now now.0 e h is alike) in
    ((event, rest.0), rest.1)

pub erased_run : (M P : Machine) (O Q : Memory) (E : Erases M P O Q) (A : Allowed) (es : List Entry) (w : World M O) (u : World P Q)
    → Mirrors M P O Q E w u → (run : Interleaves M O A w es) → ErasedTo M P O Q E A (last_world M O A w es run) u (erasure es)
erased_run M P O Q E A [] w u h run = (tt, h)
erased_run M P O Q E A (e ∷ es) w u h run =
    erased_step M P O Q E A w (last_world M O A w (e ∷ es) run) u e es h run.0
    (λ next g. erased_run M P O Q E A es (world_after M O w run.0.now e) next g run.1)
    (is_left_out e.request) refl

-- the first worlds
pub mirrors_first : (M P : Machine) (O Q : Memory) (E : Erases M P O Q) (s : M.State) (p : P.State) → E.mirrors s p → Mirrors M P O Q E (first_world M O s) (first_world P Q p)
mirrors_first M P O Q E s p m = record {
  threads = λ t. elim (0 == t) as (λ b. IsBehind M P O Q E (if b then Some s else None) (if b then Some p else None)) [ true ↦ (p, (0, refl), m) | false ↦ tt ];
  objects = E.unmade;
  valid = E.begins;
}
