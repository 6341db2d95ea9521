-- What holds of a thread of an accepted program is kept by local turns and by entries.
use Rattle.std.proofs.Common.{◌≡◌, ℕ, zero, suc, ◌<◌, ◌^◌, List, [], ◌∷◌, ◌++◌, refl, sym, ◌∙◌, ap, subst, inl, inr, arith, length}
use Rattle.std.specs.Prelude.{Some}
use Rattle.std.specs.declared.option.Option.{Option}
use Rattle.bsan_ids.specs.declared.numbers.Prov.{Prov}
use Rattle.bsan_ids.specs.declared.numbers.ThreadNo.{ThreadNo}
use Rattle.history.specs.declared.ask.Ask.{Ask}
use Rattle.history.specs.declared.ask.Ask.TheVariants as ask
use Rattle.history.specs.declared.ask.MachineEnd.TheVariants as end
use Rattle.history.specs.declared.entry.Entry.{Entry}
use Rattle.ir_ast.specs.declared.hosts.HostTable.{HostTable}
use Rattle.ir_ast.specs.declared.types.Ty.{Ty}
use Rattle.runs.specs.Parts.{Has, Answers}
use Rattle.runs.specs.Machine.{TurnsWithin, SettlesWithin}
use Rattle.runs.specs.Threads.{IsOwnTrap}
use Rattle.source_runs.specs.Invariant.{ResultFits, SourceFits, PlainFits, Told, JoinsTyped, StartsWell, WordLaw}
use Rattle.source_runs.proofs.HostsAccepted.{accepted_programs_ask}
use Rattle.source_runs.proofs.JoinsAccepted.{accepted_programs_join}
use Rattle.source_runs.proofs.Keeping.{word_law, fits_for_more}
use Rattle.source_sem.specs.Joining.{StartsNoMain, JoinLaw}
use Rattle.source_sem.specs.Source.{Setting, Source, source, source_ask, source_turn, source_answer, source_child, source_start, source_fits, frames_type}
use Rattle.source_sem.specs.Traps.{PlainIsOwn}
use Rattle.source_sem.proofs.Accepting.{program_typed}
use Rattle.source_sem.proofs.JoinSteps.{join_law}
use Rattle.source_sem.proofs.RequestLaws.{requests_fit}
use Rattle.source_sem.proofs.Stepping.{spawns_start}
use Rattle.source_sem.proofs.TrapLaws.{traps_are_own}
use Rattle.instr_sound.specs.Mains.{IsRunnable}
use Rattle.interp.specs.Views.{result_of, result_in, Knows, IsKept, StepFits}
use Rattle.interp.proofs.Members.{has_left}

knows_short : (entries : List Entry) (f c : ℕ) → Knows entries f c → c < 2 ^ 32
knows_short entries f c (inl none) = omega (arith, none)
knows_short entries f c (inr k) = k.1

pub knows_more : (es : List Entry) (e : Entry) (f c : ℕ) → Knows es f c → Knows (es ++ e ∷ []) f c
knows_more es e f c (inl none) = inl none
knows_more es e f c (inr k) = inr (record { spawn = k.0.spawn; stands = has_left es (e ∷ []) k.0.spawn k.0.stands; asks = k.0.asks; answers = k.0.answers }, k.1)

module _ (x : Setting) (hosts : HostTable) (run : IsRunnable x hosts) where
  words : (entries : List Entry) → WordLaw x (Knows entries)
  words entries = word_law x (Knows entries) (λ k. inl refl) (knows_short entries) run.bytes (program_typed x.program hosts run.program run.accepted)

  joins : JoinLaw x
  joins = join_law x (accepted_programs_join x.program hosts run.program run.accepted)

  -- a thread at the beginning of a function
  pub kept_first : (f : ℕ) (s : Source) → StartsWell x f s → IsKept x [] f s
  kept_first f s b = subst (λ z. IsKept x [] f z) (sym b.is) (record {
    requests = (requests_fit x).start f b.args;
    traps = (traps_are_own x).start f b.args;
    stands = joins.start f b.args;
    words = subst (λ ty. SourceFits x.program (Knows []) ty (source_start x f b.args)) (sym (ap result_in b.code)) ((words []).start f b.function b.args b.code b.fits);
  })

  module _ (entries : List Entry) (f : ℕ) (s : Source) (k : IsKept x entries f s) where
    -- a local turn
    pub kept_turn : source_ask x s ≡ ask.Turn → IsKept x entries f (source_turn x s)
    kept_turn asks = record {
      requests = (requests_fit x).turn s k.requests;
      traps = (traps_are_own x).turn s k.traps;
      stands = joins.turn s k.stands asks;
      words = (words entries).turn (result_of x f) s k.words;
    }

    -- an entry
    pub kept_entry : (e : Entry) → Answers (source_ask x s) e → source_fits x s e → StartsNoMain e → PlainFits e.reply.plain → PlainIsOwn e.reply.plain → Told (Knows (entries ++ e ∷ [])) e.request e.reply.plain
        → IsKept x (entries ++ e ∷ []) f (source_answer x s e.reply)
    kept_entry e asks fit above plain own told = record {
      requests = (requests_fit x).after s e k.requests asks fit;
      traps = (traps_are_own x).after s e.reply k.traps own;
      stands = joins.after s e k.stands asks fit above;
      words = (words (entries ++ e ∷ [])).after (result_of x f) s e (fits_for_more x.program (Knows entries) (Knows (entries ++ e ∷ [])) (result_of x f) s (knows_more entries e) k.words) asks fit plain told;
    }

    -- a thread that it starts
    pub child_begins : (g : ℕ) → source_ask x s ≡ ask.Spawn g → StartsWell x g (source_child x s)
    child_begins g asks = (words entries).child (result_of x f) s g k.words asks

    -- what it asks
    pub asks_fit : (a : Ask) → source_ask x s ≡ a → StepFits (length hosts.entries) a
    asks_fit (ask.At a r) is = ((requests_fit x).numbered s a r is, (requests_fit x).asks s a r k.requests is, (words entries).pieces (result_of x f) s a r k.words is)
    asks_fit (ask.Make size place) is = (requests_fit x).makes s size place k.requests is
    asks_fit (ask.Host n a b) is = let w = (words entries).hosts (result_of x f) s n a b k.words is in (accepted_programs_ask x hosts run.accepted (ap (λ (y : Setting). y.hosts) run.setting) s n a b k.stands is, w.0, w.1)
    asks_fit ask.Turn is = tt
    asks_fit (ask.Ended e) is = tt
    asks_fit (ask.Print v) is = tt
    asks_fit (ask.Spawn g) is = tt
    asks_fit (ask.Join c) is = tt

    -- whom it joins it has started
    pub joins_child : (c : ThreadNo) → source_ask x s ≡ ask.Join c → Has s.started c.0 × (0 < c.0)
    joins_child c is = joins.asks s c k.stands is

    pub joins_typed : (c : ThreadNo) (ty : Ty) → source_ask x s ≡ ask.Join c → frames_type x s.frames ≡ Some ty → JoinsTyped x.program (Knows entries) (Some ty) c.0
    joins_typed c ty is typed = (words entries).joins (result_of x f) s c ty k.words is typed

    -- how it ends
    pub returns_typed : (w : ℕ) (p : Option Prov) → source_ask x s ≡ ask.Ended (end.Returned w p) → ResultFits (result_of x f) (record { value = w; prov = p })
    returns_typed w p is = (words entries).returns (result_of x f) s w p k.words is

    pub traps_own : (t : Rattle.history.specs.declared.trap.Trap.Trap) → source_ask x s ≡ ask.Ended (end.Trapped t) → IsOwnTrap t
    traps_own t is = (traps_are_own x).asks s (end.Trapped t) k.traps is

-- local turns, one after another
module _ (x : Setting) (hosts : HostTable) (run : IsRunnable x hosts) (entries : List Entry) (f : ℕ) where
  turns_kept : (limit n : ℕ) (s t : Source) → TurnsWithin (source x) limit n s t → IsKept x entries f s → IsKept x entries f t × (t.started ≡ s.started)
  turns_kept limit zero s t h k = (subst (λ z. IsKept x entries f z) h k, ap (λ (z : Source). z.started) (sym h))
  turns_kept limit (suc n) s t h k =
      let r = turns_kept limit n (source_turn x s) t h.2 (kept_turn x hosts run entries f s k h.0) in
      (r.0, r.1 ∙ (spawns_start x).turn s)

  pub kept_settled : (limit : ℕ) (s t : Source) → SettlesWithin (source x) limit s t → IsKept x entries f s → IsKept x entries f t × (t.started ≡ s.started)
  kept_settled limit s t h k = turns_kept limit h.0 s t h.1 k
