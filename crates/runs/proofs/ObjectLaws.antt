-- An allocation is made by a Make alone, answers its own number, and starts no thread.
use Rattle.std.proofs.Common.{◌≡◌, ℕ, Bool, true, false, [], refl, sym}
use Rattle.std.specs.Prelude.{Option, Some, None}
use Rattle.std.proofs.lemmas.Bool.{true≢false}
use Rattle.bsan_ids.specs.declared.numbers.Tag.{Tag}
use Rattle.history.specs.declared.entry.Plain.{Plain}
use Rattle.history.specs.declared.entry.Request.{Request}
use Rattle.history.specs.declared.entry.Request.TheVariants as request
use Rattle.history.specs.declared.trap.Trap.{Trap}
use Rattle.history.specs.Memory.{trap_in}
use Rattle.history.specs.Objects.{Object, Made, data_answer, data_unless, plain_reply, retag_answer, end_answer, answer, Reborrow, reborrow}
use Rattle.runs.specs.Objects.{objects}
use Rattle.runs.specs.Right.{made_by, spawned_by_reply}
use Rattle.runs.specs.ReplayLaw.{makes, MakesAlone}

abbrev NamesNone : Plain → Type 0
NamesNone p = (made_by p ≡ []) × (spawned_by_reply p ≡ [])

value_names : (m : Made) (r : Request) → NamesNone (plain_reply m r)
value_names m (request.CopyOut at len prov) = (refl, refl)
value_names m _ = (refl, refl)

unless_names : (o : Object) (m : Made) (r : Request) (t : Option Trap) → NamesNone (data_unless o m r t).reply.plain
unless_names o m r (Some t) = (refl, refl)
unless_names o m r None = value_names m r

data_names : (o : Object) (m : Option Made) (r : Request) → NamesNone (data_answer o m r).reply.plain
data_names o None r = (refl, refl)
data_names o (Some m) r = unless_names o m r (trap_in m.memory r)

retag_names : (o : Object) (m : Option Made) (r : Reborrow) (stamp : ℕ) → NamesNone (retag_answer o m r stamp).reply.plain
retag_names o None r stamp = (refl, refl)
retag_names o (Some m) r stamp = (refl, refl)

end_names : (o : Object) (m : Option Made) (tag : Tag) → NamesNone (end_answer o m tag).reply.plain
end_names o None tag = (refl, refl)
end_names o (Some m) tag = (refl, refl)

others_name : (o : Object) (r : Request) (stamp : ℕ) → makes r ≡ false → NamesNone (answer o r (record { 0 = stamp })).reply.plain
others_name o (request.Make size place) stamp off = absurd (true≢false off)
others_name o (request.Retag at len kind guard prov) stamp off = retag_names o o.made (reborrow at len kind guard prov) stamp
others_name o (request.EndProtector tag) stamp off = end_names o o.made tag
others_name o (request.Load at ty prov) stamp off = data_names o o.made (request.Load at ty prov)
others_name o (request.Store at ty value carried prov) stamp off = data_names o o.made (request.Store at ty value carried prov)
others_name o (request.Modify at width op value prov) stamp off = data_names o o.made (request.Modify at width op value prov)
others_name o (request.CmpXchg at width expected value prov) stamp off = data_names o o.made (request.CmpXchg at width expected value prov)
others_name o (request.CopyOut at len prov) stamp off = data_names o o.made (request.CopyOut at len prov)
others_name o (request.CopyIn at piece prov) stamp off = data_names o o.made (request.CopyIn at piece prov)
others_name o (request.Free at stack prov) stamp off = data_names o o.made (request.Free at stack prov)
others_name o (request.Print value) stamp off = data_names o o.made (request.Print value)
others_name o (request.Host n a b) stamp off = data_names o o.made (request.Host n a b)
others_name o (request.Spawn f) stamp off = data_names o o.made (request.Spawn f)
others_name o (request.Join c) stamp off = data_names o o.made (request.Join c)

kept : (a : ℕ) (r : Request) (stamp : ℕ) → makes r ≡ false → objects.next (objects.unmade a) r stamp ≡ objects.unmade a
kept a (request.Make size place) stamp off = absurd (true≢false off)
kept a _ stamp off = refl

no_thread : (o : Object) (r : Request) (stamp : ℕ) → spawned_by_reply (answer o r (record { 0 = stamp })).reply.plain ≡ []
no_thread o r stamp = by_kind (makes r) refl
  where
    made_names : (q : Request) → makes q ≡ true → spawned_by_reply (answer o q (record { 0 = stamp })).reply.plain ≡ []
    made_names (request.Make size place) is = refl
    made_names _ is = absurd (true≢false (sym is))

    by_kind : (b : Bool) → makes r ≡ b → spawned_by_reply (answer o r (record { 0 = stamp })).reply.plain ≡ []
    by_kind true is = made_names r is
    by_kind false is = (others_name o r stamp is).1

pub objects_make_alone : MakesAlone objects
objects_make_alone = record {
  first = λ a. refl;
  kept = kept;
  number = λ a size stamp place. refl;
  others = λ o r stamp off. (others_name o r stamp off).0;
  no_thread = no_thread;
}
