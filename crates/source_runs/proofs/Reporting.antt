-- Of a right record a report can be made.
use Rattle.std.proofs.Common.{◌≡◌, ℕ, ◌<◌, ◌≤◌, true, false, List, [], ◌∷◌, refl, sym, ◌∙◌, ap, subst, inl, inr, arith, map, nat_eq}
use Rattle.std.specs.Prelude.{All, IsTrue, IsSome, ◌==◌, if◌then◌else◌}
use Rattle.std.specs.List.{flat_map, IsDistinct, AllByRecursion}
use Rattle.std.proofs.lemmas.Bool.Decides.{eqb_tells, nat_tests}
use Rattle.std.proofs.lemmas.List.Elements.{All-from_recursion, recursion_from_All}
use Rattle.std.proofs.lemmas.List.Sorted.{IsPermutation-sym, IsPermutation-map}
use Rattle.std.proofs.lemmas.Map.Keys.{IsDistinct-IsPermutation}
use Rattle.bsan_ids.specs.declared.numbers.AllocNo.{AllocNo}
use Rattle.std.specs.declared.option.Option.{Option}
use Rattle.history.specs.Histories.{IsHistory, fits}
use Rattle.history.specs.Merge.{by_stamp, stamp_of}
use Rattle.history.proofs.Distinct.{by_stamp_moves}
use Rattle.history.specs.Objects.{answer}
use Rattle.history.specs.declared.entry.Entry.{Entry}
use Rattle.history.specs.declared.entry.Reply.{Reply}
use Rattle.history.specs.declared.entry.Request.{Request}
use Rattle.history.specs.declared.entry.Request.TheVariants as request
use Rattle.report.specs.Violation.{IsDescribable, is_operation}
use Rattle.history.specs.Records.{thread_entries, violates, is_violation}
use Rattle.history.specs.declared.log.AllocLog.{AllocLog}
use Rattle.runs.specs.Interleaving.{Legal}
use Rattle.runs.specs.Merge.{merged, entries_of}
use Rattle.runs.specs.Objects.{objects}
use Rattle.runs.specs.Parts.{Has, names}
use Rattle.runs.specs.Right.{AllocsRiseFrom, history_of}
use Rattle.runs.specs.Stamps.{RisesFrom}
use Rattle.runs.proofs.Differing.{rises_differ, both_differ, in_part, has_either, one_stamp, named_one}
use Rattle.runs.proofs.FiberLists.{numbered_rises}
use Rattle.runs.proofs.Merges.{in_own_thread}
use Rattle.runs.proofs.Tying.{in_merge}
use Rattle.source_runs.specs.Reportable.{RightRecordsAreReportable}
use Rattle.source_runs.proofs.LegalHistories.{histories_are_legal}
use Rattle.source_runs.proofs.OwnLimits.{log_with}
use Rattle.source_sem.specs.Starting.{setting_of}

-- a violation is of a step that does something ---------------------------------------

-- a Make is clean
make_clean : (r : Request) (e : Entry) → e.request ≡ r → IsTrue (fits r) → ((size : ℕ) (place : Rattle.ir_ast.specs.declared.types.Place.Place) → r ≡ request.Make size place → violates e ≡ false) → IsTrue (violates e) → IsTrue (is_operation e.request)
make_clean (request.Make size place) e is fitting clean bad = absurd (let no : false ≡ true = sym (clean size place refl) ∙ bad in cc)
make_clean (request.Print v) e is fitting clean bad = absurd (cc)
make_clean (request.Host n a b) e is fitting clean bad = absurd (cc)
make_clean (request.Spawn f) e is fitting clean bad = absurd (cc)
make_clean (request.Join c) e is fitting clean bad = absurd (cc)
make_clean (request.Load at ty prov) e is fitting clean bad = subst (λ z. IsTrue (is_operation z)) (sym is) refl
make_clean (request.Store at ty value carried prov) e is fitting clean bad = subst (λ z. IsTrue (is_operation z)) (sym is) refl
make_clean (request.Modify at width op value prov) e is fitting clean bad = subst (λ z. IsTrue (is_operation z)) (sym is) refl
make_clean (request.CmpXchg at width expected value prov) e is fitting clean bad = subst (λ z. IsTrue (is_operation z)) (sym is) refl
make_clean (request.CopyOut at len prov) e is fitting clean bad = subst (λ z. IsTrue (is_operation z)) (sym is) refl
make_clean (request.CopyIn at piece prov) e is fitting clean bad = subst (λ z. IsTrue (is_operation z)) (sym is) refl
make_clean (request.Retag at len kind guard prov) e is fitting clean bad = subst (λ z. IsTrue (is_operation z)) (sym is) refl
make_clean (request.EndProtector tag) e is fitting clean bad = subst (λ z. IsTrue (is_operation z)) (sym is) refl
make_clean (request.Free at stack prov) e is fitting clean bad = subst (λ z. IsTrue (is_operation z)) (sym is) refl

-- the object that an entry of a legal history was told by
told_by : (o : objects.Object) (es : List Entry) (e : Entry) → Legal objects o es → Has es e → (p : objects.Object) × (e.reply ≡ (answer p e.request (record { 0 = e.stamp.0 })).reply)
told_by o [] e legal h = absurd h
told_by o (x ∷ es) e legal (inl is) = (o, subst (λ (z : Entry). z.reply ≡ (answer o z.request (record { 0 = z.stamp.0 })).reply) is legal.1)
told_by o (x ∷ es) e legal (inr h) = told_by (answer o x.request (record { 0 = x.stamp.0 })).object es e legal.2 h

is_clean : (e : Entry) (p : objects.Object) (size : ℕ) (place : Rattle.ir_ast.specs.declared.types.Place.Place) → e.reply ≡ (answer p e.request (record { 0 = e.stamp.0 })).reply → e.request ≡ request.Make size place → violates e ≡ false
is_clean e p size place told is = ap (λ (r : Reply). is_violation r.verdict) (told ∙ ap (λ r. (answer p r (record { 0 = e.stamp.0 })).reply) is)

-- lists of logs ---------------------------------------------------------------------

alloc_above : (n limit : ℕ) (logs : List AllocLog) (log : AllocLog) → AllocsRiseFrom n limit logs → Has logs log → (n < log.number.0) × (log.number.0 ≤ limit)
alloc_above n limit [] log r h = absurd h
alloc_above n limit (l ∷ ls) log r (inl is) = subst (λ (z : AllocLog). (n < z.number.0) × (z.number.0 ≤ limit)) is (r.0, r.1)
alloc_above n limit (l ∷ ls) log r (inr h) = let more = alloc_above l.number.0 limit ls log r.3 h in let less = r.0 in (omega (arith, less, more.0), more.1)

history_there : (n limit : ℕ) (logs : List AllocLog) (log : AllocLog) → AllocsRiseFrom n limit logs → Has logs log → history_of logs log.number.0 ≡ log.entries
history_there n limit [] log r h = absurd h
history_there n limit (l ∷ ls) log r (inl is) = elim (eqb_tells l.number.0 log.number.0) [
  | inl hit ↦ rw hit.0 (ap (λ (z : AllocLog). z.entries) is)
  | inr miss ↦ absurd (miss.1 (ap (λ (z : AllocLog). z.number.0) is))
]
history_there n limit (l ∷ ls) log r (inr h) = elim (eqb_tells l.number.0 log.number.0) [
  | inl hit ↦ absurd (let above = alloc_above l.number.0 limit ls log r.3 h in omega (arith, above.0, hit.1))
  | inr miss ↦ rw miss.0 (history_there l.number.0 limit ls log r.3 h)
]

-- entries that stand in the merge, in order, each on the log's number
record IsPart (merge : List Entry) (log : AllocLog) : Type 0 where
  rises : RisesFrom 0 log.entries
  within : (e : Entry) → Has log.entries e → Has merge e × (names e.alloc log.number.0 ≡ true)

in_some : (logs : List AllocLog) (e : Entry) → Has (flat_map (λ (l : AllocLog). l.entries) logs) e → (log : AllocLog) × Has logs log × Has log.entries e
in_some [] e h = absurd h
in_some (l ∷ ls) e h = elim (has_either l.entries (flat_map (λ (m : AllocLog). m.entries) ls) e h) [
  | inl own ↦ (l, inl refl, own)
  | inr rest ↦ (let r = in_some ls e rest in (r.0, inr r.1, r.2))
]

parts_differ : (merge : List Entry) (n limit : ℕ) (logs : List AllocLog) → RisesFrom 0 merge → AllocsRiseFrom n limit logs → ((log : AllocLog) → Has logs log → IsPart merge log)
    → IsDistinct nat_eq (map stamp_of (flat_map (λ (l : AllocLog). l.entries) logs))
unfolding IsDistinct
parts_differ merge n limit [] rises r part = tt
parts_differ merge n limit (l ∷ ls) rises r part =
    both_differ l.entries (flat_map (λ (m : AllocLog). m.entries) ls)
    (rises_differ 0 l.entries (part l (inl refl)).rises)
    (parts_differ merge l.number.0 limit ls rises r.3 (λ log h. part log (inr h)))
    (λ x y at there same.
    let log = in_some ls y there in
    let here = (part l (inl refl)).within x at in
    let far = (part log.0 (inr log.1)).within y log.2 in
    let one : x ≡ y = one_stamp 0 merge x y rises here.0 far.0 same in
    let number : l.number.0 ≡ log.0.number.0 = named_one y.alloc l.number.0 log.0.number.0 (subst (λ (z : Entry). names z.alloc l.number.0 ≡ true) one here.1) far.1 in
    let above = alloc_above l.number.0 limit ls log.0 r.3 log.1 in
    omega (arith, number, above.0))

all_allocs : (P : AllocLog → Type 0) (logs : List AllocLog) → ((log : AllocLog) → Has logs log → P log) → AllByRecursion P logs
all_allocs P [] h = tt
all_allocs P (l ∷ ls) h = (h l (inl refl), all_allocs P ls (λ log g. h log (inr g)))

all_entries : (P : Entry → Type 0) (es : List Entry) → ((e : Entry) → Has es e → P e) → AllByRecursion P es
all_entries P [] h = tt
all_entries P (e ∷ es) h = (h e (inl refl), all_entries P es (λ x g. h x (inr g)))

each : (P : Entry → Type 0) (es : List Entry) (e : Entry) → AllByRecursion P es → Has es e → P e
each P [] e h g = absurd g
each P (x ∷ es) e h (inl is) = subst P is h.0
each P (x ∷ es) e h (inr g) = each P es e h.1 g

eq_flips : (a b : ℕ) → nat_eq a b ≡ nat_eq b a
eq_flips a b = grind (arith, nat_tests)

-- all of it -----------------------------------------------------------------------------

pub right_records_are_reportable : RightRecordsAreReportable
right_records_are_reportable program input hosts limits kept r = record {
  distinct = record {
    threads = IsDistinct-IsPermutation nat_eq eq_flips (map stamp_of (by_stamp (thread_entries kept))) (map stamp_of (thread_entries kept))
        (IsPermutation-sym (map stamp_of (thread_entries kept)) (map stamp_of (by_stamp (thread_entries kept))) (IsPermutation-map stamp_of (thread_entries kept) (by_stamp (thread_entries kept)) (by_stamp_moves (thread_entries kept))))
        (rises_differ 0 (merged kept.threads) rising);
    allocs = parts_differ (merged kept.threads) 0 limits.allocs kept.allocs rising r.histories.rise part;
  };
  described = All-from_recursion Described kept.allocs (all_allocs Described kept.allocs (λ log h. All-from_recursion EntryDescribed log.entries (all_entries EntryDescribed log.entries (λ e g bad. describe log h e g bad))));
}
  where
    EntryDescribed : Entry → Type 0
    EntryDescribed e = IsTrue (violates e) → IsDescribable e

    Described : AllocLog → Type 0
    Described log = All (λ e. IsTrue (violates e) → IsDescribable e) log.entries

    rising : RisesFrom 0 (merged kept.threads)
    rising = numbered_rises 0 (merged kept.threads) r.run.numbered

    bounds : (log : AllocLog) → Has kept.allocs log → (0 < log.number.0) × (log.number.0 ≤ limits.allocs)
    bounds log h = alloc_above 0 limits.allocs kept.allocs log r.histories.rise h

    whole : (log : AllocLog) → Has kept.allocs log → history_of kept.allocs log.number.0 ≡ log.entries
    whole log h = history_there 0 limits.allocs kept.allocs log r.histories.rise h

    in_threads : (log : AllocLog) → Has kept.allocs log → (e : Entry) → Has log.entries e → Has (entries_of kept.threads e.thread.0) e × (names e.alloc log.number.0 ≡ true)
    in_threads log h e g =
        let b = bounds log h in
        in_part log.number.0 (entries_of kept.threads e.thread.0) e
        (subst (λ l. Has l e) (r.histories.parts log.number.0 e.thread.0 b.0 b.1) (in_own_thread (history_of kept.allocs log.number.0) e (subst (λ l. Has l e) (sym (whole log h)) g)))

    part : (log : AllocLog) → Has kept.allocs log → IsPart (merged kept.threads) log
    part log h = record {
      rises = subst (λ l. RisesFrom 0 l) (whole log h) (r.histories.stamps log.number.0);
      within = λ e g. (
          let p = in_threads log h e g in
          let l = log_with kept.threads e.thread.0 e p.0 in
          (in_merge kept.threads l.0 e l.1 l.2, p.1));
    }

    describe : (log : AllocLog) → Has kept.allocs log → (e : Entry) → Has log.entries e → IsTrue (violates e) → IsDescribable e
    describe log h e g bad =
        let b = bounds log h in
        let history : IsHistory log.number.0 log.entries = subst (λ l. IsHistory log.number.0 l) (whole log h) (histories_are_legal (setting_of program input hosts) limits hosts kept r log.number.0 b.0 b.1) in
        let told = told_by (objects.unmade log.number.0) log.entries e (subst (λ l. Legal objects (objects.unmade log.number.0) l) (whole log h) (r.histories.legal log.number.0)) g in
        let fitting = each (λ x. IsTrue (fits x.request)) log.entries e (recursion_from_All (λ (x : Entry). IsTrue (fits x.request)) log.entries history.fitting) g in
        let named = each (λ x. x.alloc ≡ Rattle.std.specs.Prelude.Some (record { 0 = log.number.0 })) log.entries e (recursion_from_All _ log.entries history.named) g in
        record {
          operation = make_clean e.request e refl fitting (λ size place is. is_clean e told.0 size place told.1 is) bad;
          alloc = subst (λ (a : Option AllocNo). IsSome a) (sym named) refl;
        }
