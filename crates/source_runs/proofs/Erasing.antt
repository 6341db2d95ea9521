-- The thread over the allocation, and the plain thread over plain memory, go alike.
use Rattle.std.proofs.Common.{◌≡◌, ℕ, [], refl, sym, ◌∙◌, subst}
use Rattle.std.specs.Prelude.{Some, None, is_some, option_map}
use Rattle.std.specs.declared.option.Option.{Option}
use Rattle.history.specs.declared.ask.Ask.{Ask}
use Rattle.history.specs.declared.ask.Ask.TheVariants as ask
use Rattle.history.specs.declared.entry.Entry.{Entry}
use Rattle.history.specs.declared.entry.Plain.TheVariants as plain
use Rattle.history.specs.declared.entry.Request.{Request}
use Rattle.history.specs.declared.entry.Request.TheVariants as request
use Rattle.history.specs.declared.entry.Verdict.TheVariants as verdict
use Rattle.ir_ast.specs.declared.types.Place.{Place}
use Rattle.runs.specs.Erasure.{Erases, Follows, erased_entry}
use Rattle.runs.specs.Machine.{Settles}
use Rattle.runs.specs.Objects.{objects}
use Rattle.runs.specs.Parts.{Answers, IsOnNumber}
use Rattle.runs.specs.PlainObjects.{plain_objects}
use Rattle.runs.specs.Threads.{AsksMake, AsksSpawn}
use Rattle.runs.proofs.ErasedRun.{IsBehind, erased_run, mirrors_first, follow_settled, settles_more}
use Rattle.runs.proofs.PlainMemory.{HasShadow, bytes_of_object, answers_alike, leaves_bytes, never_traps, keeps_shadow}
use Rattle.history.specs.Objects.{Object, Made}
use Rattle.source_sem.specs.Source.{Setting, Source, source, source_ask, source_start, plain_setting}
use Rattle.source_sem.specs.Plain as alike
use Rattle.source_sem.proofs.Ending.{erases}
use Rattle.runs.specs.RightErasure.{AsksAlike}
use Rattle.runs.proofs.RightErases.{right_erases}
use Rattle.runs.proofs.RightMerges.{right_may_merge}
use Rattle.source_sem.specs.Starting.{setting_of, main_of, main_start}
use Rattle.source_sem.specs.Records.{allowed}
use Rattle.source_runs.proofs.OwnLimits.{limits_are_asked}
use Rattle.source_runs.specs.ErasureLaw.{EndsAlike, GoAlike, ErasureIsARun, RightRecordsErase}

pub is_made : (o : Object) → plain_objects.made (bytes_of_object o) ≡ objects.made o
is_made o = by_made o.made
  where
    by_made : (m : Option Made) → is_some (option_map (λ (k : Made). k.memory) m) ≡ is_some m
    by_made None = refl
    by_made (Some m) = refl

abbrev pub erases_over_objects : (x : Setting) → Erases (source x) (source (plain_setting x)) objects plain_objects
erases_over_objects x = record {
  mirrors = alike.Mirrors;
  turn = (erases x).turn;
  left_out = (erases x).left_out;
  kept = (erases x).kept;
  ended = (erases x).ended;
  valid = λ o. HasShadow o.made;
  begins = λ a. tt;
  stays = keeps_shadow;
  object = bytes_of_object;
  unmade = λ a. refl;
  made = is_made;
  reply = λ o r stamp valid kept. (answers_alike o r stamp valid kept).0;
  next = λ o r stamp valid kept. (answers_alike o r stamp valid kept).1;
  unchanged = leaves_bytes;
  untrapped = never_traps;
}

-- who answers a Make asks for it
asks_of_make : (a : Ask) (e : Entry) (size : ℕ) (place : Place) → Answers a e → e.request ≡ request.Make size place → AsksMake a
asks_of_make (ask.Make n k) e size place h is = tt
asks_of_make (ask.At b r) e size place h is = absurd (subst IsOnNumber (sym h.0 ∙ is) h.2)
asks_of_make ask.Turn e size place h is = absurd h
asks_of_make (ask.Ended o) e size place h is = absurd h
asks_of_make (ask.Print v) e size place h is = absurd (let x : request.Print v ≡ request.Make size place = sym h.0 ∙ is in cc)
asks_of_make (ask.Host n a b) e size place h is = absurd (let x : request.Host n a b ≡ request.Make size place = sym h.0 ∙ is in cc)
asks_of_make (ask.Spawn f) e size place h is = absurd (let x : request.Spawn f ≡ request.Make size place = sym h.0 ∙ is in cc)
asks_of_make (ask.Join c) e size place h is = absurd (let x : request.Join c ≡ request.Make size place = sym h.0 ∙ is in cc)

asks_of_spawn : (a : Ask) (e : Entry) (f : ℕ) → Answers a e → e.request ≡ request.Spawn f → AsksSpawn a
asks_of_spawn (ask.Spawn g) e f h is = tt
asks_of_spawn (ask.At b r) e f h is = absurd (subst IsOnNumber (sym h.0 ∙ is) h.2)
asks_of_spawn ask.Turn e f h is = absurd h
asks_of_spawn (ask.Ended o) e f h is = absurd h
asks_of_spawn (ask.Make n k) e f h is = absurd (let x : request.Make n k ≡ request.Spawn f = sym h ∙ is in cc)
asks_of_spawn (ask.Print v) e f h is = absurd (let x : request.Print v ≡ request.Spawn f = sym h.0 ∙ is in cc)
asks_of_spawn (ask.Host n a b) e f h is = absurd (let x : request.Host n a b ≡ request.Spawn f = sym h.0 ∙ is in cc)
asks_of_spawn (ask.Join c) e f h is = absurd (let x : request.Join c ≡ request.Spawn f = sym h.0 ∙ is in cc)

some_entry : Request → Entry
some_entry r = record {
  thread = record { 0 = 0 };
  stamp = record { 0 = 0 };
  site = 0;
  alloc = None;
  request = r;
  reply = record { plain = plain.Done; carried = None; verdict = verdict.Clean };
}

module _ (x : Setting) where
  makes_too : (s p : Source) → alike.Mirrors s p → (a : Ask) → source_ask x s ≡ a → AsksMake a → (q : Source) × Settles (source (plain_setting x)) p q × AsksMake (source_ask (plain_setting x) q)
  unfolding some_entry
  makes_too s p m (ask.Make size place) is asks =
      let e = some_entry (request.Make size place) in
      let answers : Answers (source_ask x s) e = subst (λ a. Answers a e) (sym is) refl in
      let step = (erases x).kept s p e m answers refl in
      (step.now, step.settles, asks_of_make (source_ask (plain_setting x) step.now) (erased_entry e) size place step.asks refl)
  makes_too s p m _ is asks = absurd asks

  spawns_too : (s p : Source) → alike.Mirrors s p → (a : Ask) → source_ask x s ≡ a → AsksSpawn a → (q : Source) × Settles (source (plain_setting x)) p q × AsksSpawn (source_ask (plain_setting x) q)
  unfolding some_entry
  spawns_too s p m (ask.Spawn f) is asks =
      let e = some_entry (request.Spawn f) in
      let answers : Answers (source_ask x s) e = subst (λ a. Answers a e) (sym is) (refl, refl) in
      let step = (erases x).kept s p e m answers refl in
      (step.now, step.settles, asks_of_spawn (source_ask (plain_setting x) step.now) (erased_entry e) f step.asks refl)
  spawns_too s p m _ is asks = absurd asks

  ends_alike : (s p : Source) → Follows (source x) (source (plain_setting x)) alike.Mirrors s p → EndsAlike x s p
  ends_alike s p f = record {
    ended = λ now why settles is.
        let q = follow now settles in
        let over = (erases x).ended now q.0 why q.2 is in
        (over.0, settles_more (source (plain_setting x)) p q.0 over.0 q.1 over.1, over.2);
    makes = λ now settles asks.
        let q = follow now settles in
        let over = makes_too now q.0 q.2 (source_ask x now) refl asks in
        (over.0, settles_more (source (plain_setting x)) p q.0 over.0 q.1 over.1, over.2);
    spawns = λ now settles asks.
        let q = follow now settles in
        let over = spawns_too now q.0 q.2 (source_ask x now) refl asks in
        (over.0, settles_more (source (plain_setting x)) p q.0 over.0 q.1 over.1, over.2);
  }
    where
      follow : (now : Source) → Settles (source x) s now → Follows (source x) (source (plain_setting x)) alike.Mirrors now p
      follow now settles = follow_settled (source x) (source (plain_setting x)) objects plain_objects (erases_over_objects x) s now p f settles

  go_alike : (a b : Option Source) → IsBehind (source x) (source (plain_setting x)) objects plain_objects (erases_over_objects x) a b → GoAlike x a b
  go_alike None None h = tt
  go_alike (Some s) (Some p) h = ends_alike s p h
  go_alike None (Some p) h = h
  go_alike (Some s) None h = h

pub erasure_is_a_run : ErasureIsARun
erasure_is_a_run x limits hosts k es run =
    let E = erases_over_objects x in
    let first = mirrors_first (source x) (source (plain_setting x)) objects plain_objects E (source_start x k []) (source_start (plain_setting x) k []) ((erases x).start k []) in
    let r = erased_run (source x) (source (plain_setting x)) objects plain_objects E (allowed limits hosts) es _ _ first run in
    (r.0, λ t. go_alike x _ _ (r.1.threads t))

asks_alike : (x : Setting) → AsksAlike (source x) (source (plain_setting x)) alike.Mirrors
asks_alike x = record {
  makes = λ s p m asks. makes_too x s p m (source_ask x s) refl asks;
  spawns = λ s p m asks. spawns_too x s p m (source_ask x s) refl asks;
}

pub right_records_erase : RightRecordsErase
right_records_erase program input hosts limits kept r =
    let x : Setting = setting_of program input hosts in
    let may = right_may_merge (source x) objects (allowed limits hosts) limits (main_of program) (main_start x) kept r in
    record {
      right = r;
      erases =
          right_erases (source x) (source (plain_setting x)) objects plain_objects (erases_over_objects x) (allowed limits hosts) limits (main_of program) (main_start x) (main_start (plain_setting x)) kept
          ((erases x).start (main_of program) []) (asks_alike x) may r (limits_are_asked x (allowed limits hosts) limits kept may r);
    }
