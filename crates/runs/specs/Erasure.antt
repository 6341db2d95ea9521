-- The run without its retags and protector ends, and without provenance, fragments, verdicts and stamps.
use Rattle.std.specs.Prelude.{◌≡◌, ℕ, Bool, true, false, if◌then◌else◌, List, [], ◌∷◌, map, None}
use Rattle.history.specs.Pieces.{Byte}
use Rattle.history.specs.declared.entry.Entry.{Entry}
use Rattle.history.specs.declared.entry.Reply.{Reply}
use Rattle.history.specs.declared.entry.Request.{Request}
use Rattle.history.specs.declared.entry.Request.TheVariants as request
use Rattle.history.specs.declared.entry.Plain.{Plain}
use Rattle.history.specs.declared.entry.Plain.TheVariants as plain
use Rattle.history.specs.declared.entry.Verdict.TheVariants as verdict
use Rattle.history.specs.declared.ask.Ask.TheVariants as ask
use Rattle.history.specs.declared.ask.MachineEnd.{MachineEnd}
use Rattle.history.specs.declared.ask.MachineEnd.TheVariants as end
use Rattle.runs.specs.Parts.{Answers}
use Rattle.runs.specs.Machine.{Machine, Memory, Settles}
use Rattle.history.specs.Replies.{trap_of}

abbrev pub without_fragments : List Byte → List Byte
without_fragments piece = map (λ byte. (byte.0, None)) piece

abbrev pub erased_plain : Plain → Plain
erased_plain (plain.Copied piece) = plain.Copied (without_fragments piece)
erased_plain p = p

abbrev pub erased_reply : Reply → Reply
erased_reply r = record { plain = erased_plain r.plain; carried = None; verdict = verdict.Clean }

abbrev pub erased_request : Request → Request
erased_request (request.Load at ty prov) = request.Load at ty None
erased_request (request.Store at ty value carried prov) = request.Store at ty value None None
erased_request (request.Modify at width op value prov) = request.Modify at width op value None
erased_request (request.CmpXchg at width expected value prov) = request.CmpXchg at width expected value None
erased_request (request.CopyOut at len prov) = request.CopyOut at len None
erased_request (request.CopyIn at piece prov) = request.CopyIn at (without_fragments piece) None
erased_request (request.Free at stack prov) = request.Free at stack None
erased_request r = r

abbrev pub erased_end : MachineEnd → MachineEnd
erased_end (end.Returned v p) = end.Returned v None
erased_end (end.Trapped t) = end.Trapped t

-- retags and protector ends are no steps of the plain program
abbrev pub is_left_out : Request → Bool
is_left_out (request.Retag at len kind guard prov) = true
is_left_out (request.EndProtector tag) = true
is_left_out _ = false

abbrev pub erased_entry : Entry → Entry
erased_entry e = record {
  thread = e.thread;
  stamp = record { 0 = 0 };
  site = e.site;
  alloc = e.alloc;
  request = erased_request e.request;
  reply = erased_reply e.reply;
}

abbrev pub erasure : List Entry → List Entry
erasure [] = []
erasure (e ∷ es) = if is_left_out e.request then erasure es else erased_entry e ∷ erasure es

-- the plain thread in state p asks the erased entry too, after local turns, and goes on alike
pub record StepsAlike (M P : Machine) (mirrors : M.State → P.State → Type 0) (s : M.State) (p : P.State) (e : Entry) : Type 0 where
  pub now : P.State
  pub settles : Settles P p now
  pub site : P.site now ≡ M.site s
  pub asks : Answers (P.ask now) (erased_entry e)
  pub after : mirrors (M.after s e) (P.after now (erased_entry e))
  pub child : mirrors (M.child s) (P.child now)

-- the plain thread comes to a state that mirrors this one by local turns
abbrev pub Follows : (M P : Machine) → (M.State → P.State → Type 0) → M.State → P.State → Type 0
Follows M P mirrors s p = (q : P.State) × Settles P p q × mirrors s q

-- the plain thread P over the plain memory Q does what M over O does, retags and protector ends left out: at the objects that
-- answers lead to, which are valid
pub record Erases (M P : Machine) (O Q : Memory) : Type 1 where
  pub mirrors : M.State → P.State → Type 0
  pub turn : (s : M.State) (p : P.State) → mirrors s p → M.ask s ≡ ask.Turn → Follows M P mirrors (M.turn s) p
  pub left_out : (s : M.State) (p : P.State) (e : Entry) → mirrors s p → Answers (M.ask s) e → is_left_out e.request ≡ true → trap_of e.reply.plain ≡ None → Follows M P mirrors (M.after s e) p
  pub kept : (s : M.State) (p : P.State) (e : Entry) → mirrors s p → Answers (M.ask s) e → is_left_out e.request ≡ false → StepsAlike M P mirrors s p e
  pub ended : (s : M.State) (p : P.State) (end : MachineEnd) → mirrors s p → M.ask s ≡ ask.Ended end → (q : P.State) × Settles P p q × (P.ask q ≡ ask.Ended (erased_end end))
  pub valid : O.Object → Type 0
  pub begins : (a : ℕ) → valid (O.unmade a)
  pub stays : (o : O.Object) (r : Request) (stamp : ℕ) → valid o → valid (O.next o r stamp)
  pub object : O.Object → Q.Object
  pub unmade : (a : ℕ) → Q.unmade a ≡ object (O.unmade a)
  pub made : (o : O.Object) → Q.made (object o) ≡ O.made o
  pub reply : (o : O.Object) (r : Request) (stamp : ℕ) → valid o → is_left_out r ≡ false → Q.reply (object o) (erased_request r) 0 ≡ erased_reply (O.reply o r stamp)
  pub next : (o : O.Object) (r : Request) (stamp : ℕ) → valid o → is_left_out r ≡ false → Q.next (object o) (erased_request r) 0 ≡ object (O.next o r stamp)
  pub unchanged : (o : O.Object) (r : Request) (stamp : ℕ) → is_left_out r ≡ true → object (O.next o r stamp) ≡ object o
  pub untrapped : (o : O.Object) (r : Request) (stamp : ℕ) → is_left_out r ≡ true → trap_of (O.reply o r stamp).plain ≡ None
