-- In a right record a thread that ended by the limit on numbers asked for a number.
use Rattle.std.proofs.Common.{◌≡◌, ℕ, zero, suc, Bool, true, false, List, [], ◌∷◌, refl, sym, ◌∙◌, ap, subst, inl, inr, arith}
use Rattle.std.specs.Prelude.{Some, None, ◌==◌, not, if◌then◌else◌}
use Rattle.std.specs.declared.option.Option.{Option}
use Rattle.std.proofs.lemmas.Bool.Decides.{eqb_tells}
use Rattle.bsan_ids.specs.declared.numbers.Limits.{Limits}
use Rattle.bsan_ids.specs.declared.numbers.Tag.{Tag}
use Rattle.history.specs.declared.ask.MachineEnd.TheVariants as end
use Rattle.history.specs.declared.entry.Entry.{Entry}
use Rattle.history.specs.declared.entry.Reply.{Reply}
use Rattle.history.specs.declared.entry.Request.{Request}
use Rattle.history.specs.declared.entry.Request.TheVariants as request
use Rattle.history.specs.declared.trap.Trap.{Trap}
use Rattle.history.specs.declared.trap.Trap.TheVariants as trap
use Rattle.history.specs.Memory.{Memory as Bytes, trap_in, is_bad_free}
use Rattle.history.specs.Objects.{Object, Made, data_answer, data_unless, plain_reply, retag_answer, end_answer, answer, Reborrow, reborrow}
use Rattle.history.specs.declared.log.End.{End}
use Rattle.history.specs.declared.log.End.TheVariants as log_end
use Rattle.history.specs.declared.log.ThreadLog.{ThreadLog}
use Rattle.history.specs.declared.record.RunRecord.{RunRecord}
use Rattle.runs.specs.Interleaving.{World, first_world, world_after, Allowed, Replies, Interleaves}
use Rattle.runs.specs.Machine.{TurnsWithin}
use Rattle.runs.specs.Merge.{merged, entries_of, MayMerge}
use Rattle.runs.specs.Objects.{objects}
use Rattle.runs.specs.Parts.{Has, of_thread, child_of}
use Rattle.runs.specs.Replay.{Progress, RepliesNext}
use Rattle.runs.specs.Right.{NumbersRiseFrom, IsRight}
use Rattle.runs.specs.RightErasure.{LimitAsked, LimitsAreAsked}
use Rattle.runs.specs.Threads.{Feeds, StartsAs, EndsAs}
use Rattle.runs.proofs.Merges.{in_all}
use Rattle.runs.proofs.MergeLaws.{merged_is_merge}
use Rattle.runs.proofs.RightErases.{number_above}
use Rattle.source_sem.specs.Source.{Setting, Source, source, source_ask}
use Rattle.runs.specs.Threads.{IsOwnTrap}
use Rattle.source_sem.specs.Traps.{EndIsOwn, PlainIsOwn}
use Rattle.source_sem.proofs.TrapLaws.{traps_are_own}
use Rattle.source_sem.specs.Starting.{main_of, main_start}

-- what an allocation answers ------------------------------------------------------

abbrev SomeIsOwn : Option Trap → Type 0
SomeIsOwn None = Unit {0}
SomeIsOwn (Some t) = IsOwnTrap t

by_tests : (live out bad : Bool) → SomeIsOwn (if not live then Some trap.Freed else (if out then Some trap.OutOfBounds else (if bad then Some trap.BadFree else None)))
by_tests false out bad = tt
by_tests true true bad = tt
by_tests true false true = tt
by_tests true false false = tt

trap_own : (m : Bytes) (r : Request) → SomeIsOwn (trap_in m r)
trap_own m r = by_tests m.live _ (is_bad_free m.place r)

value_own : (m : Made) (r : Request) → PlainIsOwn (plain_reply m r)
value_own m (request.CopyOut at len prov) = tt
value_own m _ = tt

unless_own : (o : Object) (m : Made) (r : Request) (t : Option Trap) → SomeIsOwn t → PlainIsOwn (data_unless o m r t).reply.plain
unless_own o m r (Some t) h = h
unless_own o m r None h = value_own m r

data_own : (o : Object) (m : Option Made) (r : Request) → PlainIsOwn (data_answer o m r).reply.plain
data_own o None r = tt
data_own o (Some m) r = unless_own o m r (trap_in m.memory r) (trap_own m.memory r)

retag_own : (o : Object) (m : Option Made) (r : Reborrow) (stamp : ℕ) → PlainIsOwn (retag_answer o m r stamp).reply.plain
retag_own o None r stamp = tt
retag_own o (Some m) r stamp = tt

end_own : (o : Object) (m : Option Made) (tag : Tag) → PlainIsOwn (end_answer o m tag).reply.plain
end_own o None tag = tt
end_own o (Some m) tag = tt

pub answer_own : (o : Object) (r : Request) (stamp : ℕ) → PlainIsOwn (answer o r (record { 0 = stamp })).reply.plain
answer_own o (request.Make size place) stamp = tt
answer_own o (request.Retag at len kind guard prov) stamp = retag_own o o.made (reborrow at len kind guard prov) stamp
answer_own o (request.EndProtector tag) stamp = end_own o o.made tag
answer_own o (request.Load at ty prov) stamp = data_own o o.made (request.Load at ty prov)
answer_own o (request.Store at ty value carried prov) stamp = data_own o o.made (request.Store at ty value carried prov)
answer_own o (request.Modify at width op value prov) stamp = data_own o o.made (request.Modify at width op value prov)
answer_own o (request.CmpXchg at width expected value prov) stamp = data_own o o.made (request.CmpXchg at width expected value prov)
answer_own o (request.CopyOut at len prov) stamp = data_own o o.made (request.CopyOut at len prov)
answer_own o (request.CopyIn at piece prov) stamp = data_own o o.made (request.CopyIn at piece prov)
answer_own o (request.Free at stack prov) stamp = data_own o o.made (request.Free at stack prov)
answer_own o (request.Print value) stamp = data_own o o.made (request.Print value)
answer_own o (request.Host n a b) stamp = data_own o o.made (request.Host n a b)
answer_own o (request.Spawn f) stamp = data_own o o.made (request.Spawn f)
answer_own o (request.Join c) stamp = data_own o o.made (request.Join c)

module _ (x : Setting) (A : Allowed) where
  pub reply_own : (w : World (source x) objects) (e : Entry) (r : Request) → Replies (source x) objects A w e r → PlainIsOwn e.reply.plain
  reply_own w e (request.Make size place) h = subst (λ (y : Reply). PlainIsOwn y.plain) (sym h.5) (answer_own (w.objects h.0.0) e.request e.stamp.0)
  reply_own w e (request.Print v) h = subst (λ (y : Reply). PlainIsOwn y.plain) (sym h) tt
  reply_own w e (request.Host n a b) h = subst (λ (y : Reply). PlainIsOwn y.plain) (sym h.2) tt
  reply_own w e (request.Spawn f) h = subst (λ (y : Reply). PlainIsOwn y.plain) (sym h.4) tt
  reply_own w e (request.Join c) h = subst (λ (y : Reply). PlainIsOwn y.plain) (sym h.3) tt
  reply_own w e _ h = subst (λ (y : Reply). PlainIsOwn y.plain) (sym h.2) (answer_own (w.objects h.0.0) e.request e.stamp.0)

  -- the same of the next reply of a replay
  pub next_own : (p : Progress (source x) objects) (e : Entry) (r : Request) → RepliesNext (source x) objects A p e r → PlainIsOwn e.reply.plain
  next_own p e (request.Make size place) h = subst (λ (y : Reply). PlainIsOwn y.plain) (sym h.1) (answer_own _ e.request e.stamp.0)
  next_own p e (request.Print v) h = subst (λ (y : Reply). PlainIsOwn y.plain) (sym h) tt
  next_own p e (request.Host n a b) h = subst (λ (y : Reply). PlainIsOwn y.plain) (sym h.2) tt
  next_own p e (request.Spawn f) h = subst (λ (y : Reply). PlainIsOwn y.plain) (sym h) tt
  next_own p e (request.Join c) h = subst (λ (y : Reply). PlainIsOwn y.plain) (sym h.3) tt
  next_own p e _ h = subst (λ (y : Reply). PlainIsOwn y.plain) (sym h.2) (answer_own _ e.request e.stamp.0)

  run_own : (w : World (source x) objects) (es : List Entry) → Interleaves (source x) objects A w es → (e : Entry) → Has es e → PlainIsOwn e.reply.plain
  run_own w [] run e h = absurd h
  run_own w (y ∷ es) run e (inl is) = subst (λ (z : Entry). PlainIsOwn z.reply.plain) is (reply_own w y y.request run.0.replies)
  run_own w (y ∷ es) run e (inr h) = run_own (world_after (source x) objects w run.0.now y) es run.1 e h

-- a thread that is fed such replies ---------------------------------------------------

module _ (x : Setting) (turns : ℕ) (starts : ℕ → Source) where
  turned_own : (n : ℕ) (s t : Source) → TurnsWithin (source x) turns n s t → EndIsOwn s.over → EndIsOwn t.over
  turned_own zero s t h own = subst (λ (z : Source). EndIsOwn z.over) h own
  turned_own (suc n) s t h own = turned_own n ((source x).turn s) t h.2 ((traps_are_own x).turn s own)

  fed_own : (s last : Source) (es : List Entry) → Feeds (source x) turns starts s es last → ((e : Entry) → Has es e → PlainIsOwn e.reply.plain) → EndIsOwn s.over → EndIsOwn last.over
  fed_own s last [] f replies own = turned_own f.0 s last f.1 own
  fed_own s last (e ∷ es) f replies own =
      let now = turned_own f.0.settles.0 s f.0.now f.0.settles.1 own in
      fed_own ((source x).after f.0.now e) last es f.1 (λ y h. replies y (inr h)) ((traps_are_own x).after f.0.now e.reply now (replies e (inl refl)))

  -- the first state of a child that was started
  child_own : (s last : Source) (es : List Entry) (e : Entry) (c : ℕ) → Feeds (source x) turns starts s es last → Has es e → child_of e ≡ Some c → EndIsOwn (starts c).over
  child_own s last [] e c f h is = absurd h
  child_own s last (y ∷ es) e c f (inl same) is =
      let first : StartsAs (source x) starts (Some c) ((source x).child f.0.now) = subst (λ o. StartsAs (source x) starts o ((source x).child f.0.now)) (ap child_of same ∙ is) f.0.child in
      subst (λ (z : Source). EndIsOwn z.over) (sym first) ((traps_are_own x).child f.0.now)
  child_own s last (y ∷ es) e c f (inr h) is = child_own ((source x).after f.0.now y) last es e c f.1 h is

-- an entry of a thread's part stands in its log
pub log_with : (logs : List ThreadLog) (t : ℕ) (e : Entry) → Has (entries_of logs t) e → (log : ThreadLog) × Has logs log × Has log.entries e
log_with [] t e h = absurd h
log_with (l ∷ ls) t e h = by_test (l.number.0 == t) h (log_with ls t e)
  where
    by_test : (b : Bool) → Has (if b then l.entries else entries_of ls t) e → (Has (entries_of ls t) e → (log : ThreadLog) × Has ls log × Has log.entries e) → (log : ThreadLog) × Has (l ∷ ls) log × Has log.entries e
    by_test true g more = (l, inl refl, g)
    by_test false g more = let r = more g in (r.0, inr r.1, r.2)

has_own : (logs : List ThreadLog) (log : ThreadLog) (k : ℕ) → NumbersRiseFrom k logs → Has logs log → entries_of logs log.number.0 ≡ log.entries
has_own [] log k r h = absurd h
has_own (l ∷ ls) log k r (inl is) = elim (eqb_tells l.number.0 log.number.0) [
  | inl hit ↦ rw hit.0 (ap (λ (z : ThreadLog). z.entries) is)
  | inr miss ↦ absurd (miss.1 (ap (λ (z : ThreadLog). z.number.0) is))
]
has_own (l ∷ ls) log k r (inr h) = elim (eqb_tells l.number.0 log.number.0) [
  | inl hit ↦ (let above = number_above (suc l.number.0) ls log r.1 h in absurd (omega (arith, above, hit.1)))
  | inr miss ↦ rw miss.0 (has_own ls log (suc l.number.0) r.1 h)
]

pub limits_are_asked : (x : Setting) (A : Allowed) (limits : Limits) (kept : RunRecord) → MayMerge kept.threads
    → (r : IsRight (source x) objects A limits (main_of x.program) (main_start x) kept) → LimitsAreAsked (source x) limits (main_start x) kept.threads r.runs
limits_are_asked x A limits kept may r log h =
    by_end (r.runs.runs log h).last log.«end» (r.runs.runs log h).«end» over
  where
    replies : (l : ThreadLog) → Has kept.threads l → (e : Entry) → Has l.entries e → PlainIsOwn e.reply.plain
    replies l g e in_ =
        let merge = merged_is_merge kept.threads r.threads.rise may in
        let part : of_thread l.number.0 (merged kept.threads) ≡ l.entries = merge.parts l.number.0 ∙ has_own kept.threads l 0 r.threads.rise g in
        run_own x A (first_world (source x) objects (main_start x)) (merged kept.threads) r.run.run e (in_all l.number.0 (merged kept.threads) e (subst (λ z. Has z e) (sym part) in_))

    first : EndIsOwn (r.runs.starts log.number.0).over
    first = elim (r.threads.spawned log h) [
      | inl zero_is ↦ subst (λ n. EndIsOwn (r.runs.starts n).over) (sym zero_is) (subst (λ (s : Source). EndIsOwn s.over) (sym r.runs.first) tt)
      | inr one ↦ (
          let l = log_with kept.threads one.parent.0 one.spawn one.stands in
          let run = r.runs.runs l.0 l.1 in
          child_own x limits.turns r.runs.starts (r.runs.starts l.0.number.0) run.last l.0.entries one.spawn log.number.0 run.feeds l.2 one.answers)
    ]

    over : EndIsOwn (r.runs.runs log h).last.over
    over = fed_own x limits.turns r.runs.starts (r.runs.starts log.number.0) (r.runs.runs log h).last log.entries (r.runs.runs log h).feeds (replies log h) first

    by_end : (s : Source) (e : End) → EndsAs (source x) limits s e → EndIsOwn s.over → LimitAsked (source_ask x s) e
    by_end s (log_end.Trapped (trap.AllocLimit d)) g own = elim g.0 [ inl is ↦ absurd ((traps_are_own x).asks s (end.Trapped (trap.AllocLimit d)) own is) | inr drew ↦ drew.0 ]
    by_end s (log_end.Trapped (trap.ThreadLimit d)) g own = elim g.0 [ inl is ↦ absurd ((traps_are_own x).asks s (end.Trapped (trap.ThreadLimit d)) own is) | inr drew ↦ drew.0 ]
    by_end s (log_end.Trapped _) g own = tt
    by_end s _ g own = tt
