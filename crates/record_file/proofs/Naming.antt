-- Each entry of a run names the allocation that it asks or makes.
use Rattle.std.proofs.Common.{◌≡◌, ℕ, Bool, true, false, List, [], ◌∷◌, refl, sym, ◌∙◌, ap, subst, inl, inr}
use Rattle.std.specs.Prelude.{IsSome, Option, Some, None, if◌then◌else◌}
use Rattle.std.proofs.lemmas.Bool.{true≢false}
use Rattle.bsan_ids.specs.declared.numbers.AllocNo.{AllocNo}
use Rattle.bsan_ids.specs.declared.numbers.Tag.{Tag}
use Rattle.history.specs.declared.ask.Ask.{Ask}
use Rattle.history.specs.declared.ask.Ask.TheVariants as ask
use Rattle.history.specs.declared.entry.Entry.{Entry}
use Rattle.history.specs.declared.entry.Plain.{Plain}
use Rattle.history.specs.declared.entry.Plain.TheVariants as plain
use Rattle.history.specs.declared.entry.Reply.{Reply}
use Rattle.history.specs.declared.entry.Request.{Request}
use Rattle.history.specs.declared.entry.Request.TheVariants as request
use Rattle.history.specs.declared.trap.Trap.{Trap}
use Rattle.history.specs.Histories.{is_make}
use Rattle.history.specs.Memory.{trap_in}
use Rattle.history.specs.Objects.{Object, Made, data_answer, data_unless, retag_answer, end_answer, answer, Reborrow, reborrow}
use Rattle.record_text.specs.Ranges.{IsMadeAs}
use Rattle.runs.specs.Interleaving.{World, world_after, Allowed, Replies, Event, Interleaves}
use Rattle.runs.specs.Machine.{Machine}
use Rattle.runs.specs.Objects.{objects}
use Rattle.runs.specs.Parts.{Has, Answers, IsOnNumber, names}
use Rattle.runs.proofs.Picking.{not_on_number}
use Rattle.record_file.specs.Naming.{IsAddressed, IsNamed}

-- an allocation keeps its number -----------------------------------------------------------

unless_number : (o : Object) (m : Made) (r : Request) (t : Option Trap) → (data_unless o m r t).object.number ≡ o.number
unless_number o m r (Some t) = refl
unless_number o m r None = refl

data_number : (o : Object) (m : Option Made) (r : Request) → (data_answer o m r).object.number ≡ o.number
data_number o None r = refl
data_number o (Some m) r = unless_number o m r (trap_in m.memory r)

retag_number : (o : Object) (m : Option Made) (r : Reborrow) (stamp : ℕ) → (retag_answer o m r stamp).object.number ≡ o.number
retag_number o None r stamp = refl
retag_number o (Some m) r stamp = refl

end_number : (o : Object) (m : Option Made) (tag : Tag) → (end_answer o m tag).object.number ≡ o.number
end_number o None tag = refl
end_number o (Some m) tag = refl

keeps_number : (o : Object) (r : Request) (stamp : ℕ) → (answer o r (record { 0 = stamp })).object.number ≡ o.number
keeps_number o (request.Make size place) stamp = refl
keeps_number o (request.Retag at len kind guard prov) stamp = retag_number o o.made (reborrow at len kind guard prov) stamp
keeps_number o (request.EndProtector tag) stamp = end_number o o.made tag
keeps_number o (request.Load at ty prov) stamp = data_number o o.made (request.Load at ty prov)
keeps_number o (request.Store at ty value carried prov) stamp = data_number o o.made (request.Store at ty value carried prov)
keeps_number o (request.Modify at width op value prov) stamp = data_number o o.made (request.Modify at width op value prov)
keeps_number o (request.CmpXchg at width expected value prov) stamp = data_number o o.made (request.CmpXchg at width expected value prov)
keeps_number o (request.CopyOut at len prov) stamp = data_number o o.made (request.CopyOut at len prov)
keeps_number o (request.CopyIn at piece prov) stamp = data_number o o.made (request.CopyIn at piece prov)
keeps_number o (request.Free at stack prov) stamp = data_number o o.made (request.Free at stack prov)
keeps_number o (request.Print value) stamp = data_number o o.made (request.Print value)
keeps_number o (request.Host n a b) stamp = data_number o o.made (request.Host n a b)
keeps_number o (request.Spawn f) stamp = data_number o o.made (request.Spawn f)
keeps_number o (request.Join c) stamp = data_number o o.made (request.Join c)

-- what an entry names -----------------------------------------------------------------------

none_named : (k : Ask) (e : Entry) (r : Request) → Answers k e → e.request ≡ r → (IsOnNumber r → ⊥) → is_make r ≡ false → e.alloc ≡ None
none_named ask.Turn e r h is off other = absurd h
none_named (ask.Ended over) e r h is off other = absurd h
none_named (ask.Make size place) e r h is off other = absurd (true≢false (ap is_make (sym h ∙ is) ∙ other))
none_named (ask.At a s) e r h is off other = absurd (not_on_number s r e h.0 is h.2 off)
none_named (ask.Print v) e r h is off other = h.1
none_named (ask.Host n a b) e r h is off other = h.1
none_named (ask.Spawn f) e r h is off other = h.1
none_named (ask.Join c) e r h is off other = h.1

module _ (M : Machine) (A : Allowed) where
  -- each object has the number that it is kept under
  abbrev pub IsNumbered : World M objects → Type 0
  IsNumbered w = (a : ℕ) → (w.objects a).number ≡ a

  addressed : (w : World M objects) (k : Ask) (e : Entry) (r : Request) → Answers k e → e.request ≡ r → Replies M objects A w e r → IsAddressed e.alloc r
  addressed w k e (request.Make size place) h is replies = tt
  addressed w k e (request.Print v) h is replies = none_named k e (request.Print v) h is (λ on. on) refl
  addressed w k e (request.Host n x y) h is replies = none_named k e (request.Host n x y) h is (λ on. on) refl
  addressed w k e (request.Spawn f) h is replies = none_named k e (request.Spawn f) h is (λ on. on) refl
  addressed w k e (request.Join c) h is replies = none_named k e (request.Join c) h is (λ on. on) refl
  addressed w k e _ h is replies = subst (λ (o : Option AllocNo). IsSome o) (sym replies.1) refl

  made_as : (w : World M objects) (e : Entry) (r : Request) → IsNumbered w → e.request ≡ r → Replies M objects A w e r → IsMadeAs e.alloc r e.reply.plain
  made_as w e (request.Make size place) numbered is replies =
      let o : Object = w.objects replies.0.0 in
      let reply : e.reply ≡ (answer o (request.Make size place) (record { 0 = e.stamp.0 })).reply = replies.5 ∙ ap (λ (q : Request). (answer o q (record { 0 = e.stamp.0 })).reply) is in
      let made : e.reply.plain ≡ plain.Made replies.0 =
      ap (λ (y : Reply). y.plain) reply ∙ ap (λ (n : ℕ). plain.Made (record { 0 = n })) (numbered replies.0.0) in
      subst (λ (p : Plain). IsMadeAs e.alloc (request.Make size place) p) (sym made) replies.1
  made_as w e _ numbered is replies = tt

  numbered_after : (w : World M objects) (s : M.State) (e : Entry) → IsNumbered w → IsNumbered (world_after M objects w s e)
  numbered_after w s e numbered a = by_name (names e.alloc a)
    where
      by_name : (b : Bool) → (if b then objects.next (w.objects a) e.request e.stamp.0 else w.objects a).number ≡ a
      by_name true = keeps_number (w.objects a) e.request e.stamp.0 ∙ numbered a
      by_name false = numbered a

  pub run_names : (w : World M objects) (es : List Entry) → IsNumbered w → Interleaves M objects A w es → (e : Entry) → Has es e → IsNamed e
  run_names w [] numbered run e there = absurd there
  run_names w (x ∷ es) numbered run e (inl same) =
      let v : Event M objects A w x = run.0 in
      subst IsNamed same (record { asked = addressed w (M.ask v.now) x x.request v.asks refl v.replies; made = made_as w x x.request numbered refl v.replies })
  run_names w (x ∷ es) numbered run e (inr there) = run_names (world_after M objects w run.0.now x) es (numbered_after w run.0.now x numbered) run.1 e there
