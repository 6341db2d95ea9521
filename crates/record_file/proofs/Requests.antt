-- What threads ask of allocations are requests that allocations are asked.
use Rattle.std.proofs.Common.{◌≡◌, ℕ, zero, suc, true, List, [], ◌∷◌, refl, sym, ◌∙◌, ap, subst, inl, inr}
use Rattle.std.specs.Prelude.{Some, None}
use Rattle.std.specs.declared.option.Option.{Option}
use Rattle.bsan_ids.specs.declared.numbers.AllocNo.{AllocNo}
use Rattle.bsan_ids.specs.declared.numbers.Limits.{Limits}
use Rattle.history.specs.declared.ask.Ask.{Ask}
use Rattle.history.specs.declared.ask.Ask.TheVariants as ask
use Rattle.history.specs.declared.entry.Entry.{Entry}
use Rattle.history.specs.declared.log.ThreadLog.{ThreadLog}
use Rattle.history.specs.Histories.{fits}
use Rattle.runs.specs.Machine.{TurnsWithin}
use Rattle.runs.specs.Parts.{Has, child_of, Answers}
use Rattle.runs.specs.Right.{HasThreads, HasRuns}
use Rattle.runs.specs.Threads.{Feeds, StartsAs}
use Rattle.runs.proofs.Tying.{log_of_part}
use Rattle.source_sem.specs.Source.{Setting, Source, source, source_ask, source_start}
use Rattle.source_sem.specs.Requests.{TopFits}
use Rattle.source_sem.proofs.RequestLaws.{requests_fit}

some_none : {B : Type 0} (o : Option AllocNo) (b : AllocNo) → o ≡ Some b → o ≡ None → B
some_none o b is none = absurd (let no : None ≡ Some b = sym none ∙ is in cc)

module _ (x : Setting) where
  asked_fits : (s : Source) (a : Ask) (e : Entry) (b : AllocNo) → TopFits x s.frames → source_ask x s ≡ a → Answers a e → e.alloc ≡ Some b → fits e.request ≡ true
  asked_fits s ask.Turn e b top is h at = absurd h
  asked_fits s (ask.Ended o) e b top is h at = absurd h
  asked_fits s (ask.Make size place) e b top is h at = subst (λ r. fits r ≡ true) (sym h) ((requests_fit x).makes s size place top is)
  asked_fits s (ask.At c r) e b top is h at = subst (λ q. fits q ≡ true) (sym h.0) ((requests_fit x).asks s c r top is)
  asked_fits s (ask.Print v) e b top is h at = some_none e.alloc b at h.1
  asked_fits s (ask.Host n p q) e b top is h at = some_none e.alloc b at h.1
  asked_fits s (ask.Spawn f) e b top is h at = some_none e.alloc b at h.1
  asked_fits s (ask.Join c) e b top is h at = some_none e.alloc b at h.1

module _ (x : Setting) (turns : ℕ) (starts : ℕ → Source) where
  turned_fits : (n : ℕ) (s t : Source) → TurnsWithin (source x) turns n s t → TopFits x s.frames → TopFits x t.frames
  turned_fits zero s t h top = subst (λ (z : Source). TopFits x z.frames) h top
  turned_fits (suc n) s t h top = turned_fits n ((source x).turn s) t h.2 ((requests_fit x).turn s top)

  fed_fits : (s last : Source) (es : List Entry) (e : Entry) (b : AllocNo) → Feeds (source x) turns starts s es last → TopFits x s.frames → Has es e → e.alloc ≡ Some b → fits e.request ≡ true
  fed_fits s last [] e b f top h at = absurd h
  fed_fits s last (y ∷ es) e b f top (inl same) at =
      let now = turned_fits f.0.settles.0 s f.0.now f.0.settles.1 top in
      subst (λ (z : Entry). fits z.request ≡ true) same (asked_fits x f.0.now (source_ask x f.0.now) y b now refl f.0.asks (ap (λ (z : Entry). z.alloc) same ∙ at))
  fed_fits s last (y ∷ es) e b f top (inr h) at =
      let now = turned_fits f.0.settles.0 s f.0.now f.0.settles.1 top in
      fed_fits ((source x).after f.0.now y) last es e b f.1 ((requests_fit x).after f.0.now y now f.0.asks f.0.fits) h at

  child_fits : (s last : Source) (es : List Entry) (e : Entry) (c : ℕ) → Feeds (source x) turns starts s es last → Has es e → child_of e ≡ Some c → TopFits x (starts c).frames
  child_fits s last [] e c f h is = absurd h
  child_fits s last (y ∷ es) e c f (inl same) is =
      let first : StartsAs (source x) starts (Some c) ((source x).child f.0.now) = subst (λ o. StartsAs (source x) starts o ((source x).child f.0.now)) (ap child_of same ∙ is) f.0.child in
      subst (λ (z : Source). TopFits x z.frames) (sym first) ((requests_fit x).child f.0.now)
  child_fits s last (y ∷ es) e c f (inr h) is = child_fits ((source x).after f.0.now y) last es e c f.1 h is

-- so does each entry of a log that is a run
pub logs_fit : (x : Setting) (limits : Limits) (main : ℕ) (logs : List ThreadLog) → HasThreads main logs → HasRuns (source x) limits (source_start x main []) logs
    → (log : ThreadLog) (e : Entry) (b : AllocNo) → Has logs log → Has log.entries e → e.alloc ≡ Some b → fits e.request ≡ true
logs_fit x limits main logs threads r log e b there own at =
    let run = r.runs log there in
    fed_fits x limits.turns r.starts (r.starts log.number.0) run.last log.entries e b run.feeds (first log there) own at
  where
    first : (l : ThreadLog) → Has logs l → TopFits x (r.starts l.number.0).frames
    first l g = elim (threads.spawned l g) [
      | inl zero_is ↦ subst (λ n. TopFits x (r.starts n).frames) (sym zero_is) (subst (λ (s : Source). TopFits x s.frames) (sym r.first) ((requests_fit x).start main []))
      | inr one ↦ (
          let p = log_of_part logs one.parent.0 one.spawn one.stands in
          let run = r.runs p.0 p.1 in
          child_fits x limits.turns r.starts (r.starts p.0.number.0) run.last p.0.entries one.spawn l.number.0 run.feeds p.2 one.answers)
    ]
