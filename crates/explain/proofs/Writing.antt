-- The entries of a legal history can be told in lines.
use Rattle.std.proofs.Common.{◌≡◌, ℕ, Bool, true, false, IsTrue, Option, Some, None, MatchOption, List, ◌∷◌, get_or, refl, sym, subst, arith}
use Rattle.std.specs.Prelude.{Contains, IsSome}
use Rattle.std.proofs.lemmas.List.Elements.{All-contains, Contains-append_left, Contains-append_right, Contains-get_or}
use Rattle.bsan_ids.specs.declared.numbers.Tag.{Tag}
use Rattle.bsan_ids.specs.declared.numbers.AllocNo.{AllocNo}
use Rattle.eager_tree.specs.declared.violation.Violation.TheVariants.{Denied, StrongFree, Stranger, Freed, OutOfRange}
use Rattle.history.specs.declared.entry.Entry.{Entry}
use Rattle.history.specs.declared.entry.Reply.{Reply}
use Rattle.history.specs.declared.entry.Request.{Request}
use Rattle.history.specs.declared.entry.Request.TheVariants.{Make, Print, Host, Spawn, Join}
use Rattle.history.specs.declared.entry.Verdict.{Verdict}
use Rattle.history.specs.declared.entry.Verdict.TheVariants.{Clean, Closed, Violated}
use Rattle.history.specs.declared.log.AllocLog.{AllocLog}
use Rattle.history.specs.declared.record.RunRecord.{RunRecord}
use Rattle.bsan_ids.specs.declared.numbers.Stamp.{Stamp}
use Rattle.history.specs.Histories.{IsHistory, fits, is_make}
use Rattle.history.specs.Objects.{Object, answer, unmade}
use Rattle.history.specs.Records.{HasDistinctStamps, is_violation, violates}
use Rattle.report.specs.Report.{IsReportable}
use Rattle.report.specs.Violation.{IsDescribable, is_operation}
use Rattle.explain.specs.declared.explained.Explained.{Explained}
use Rattle.explain.specs.Explanations.{AreCauses, AreHistories, IsChanger, IsExplainedBy, IsExplainedIn, IsTold}
use Rattle.explain.specs.Text.{IsTellable, IsWritable}
use Rattle.explain.proofs.Stepping.{object_at, reply_at}

operation : (r : Request) → IsTrue (fits r) → is_make r ≡ false → IsTrue (is_operation r)
operation (Make size place) fit other = absurd (let never : true ≡ false = other in cc)
operation (Print value) fit other = absurd (let never : false ≡ true = fit in cc)
operation (Host n first second) fit other = absurd (let never : false ≡ true = fit in cc)
operation (Spawn function) fit other = absurd (let never : false ≡ true = fit in cc)
operation (Join child) fit other = absurd (let never : false ≡ true = fit in cc)
operation _ fit other = refl

tellable : (number : ℕ) (es : List Entry) (e : Entry) → IsHistory number es → Contains es e → IsTellable e
tellable number es e h there other = record {
  operation = operation e.request (All-contains (λ (x : Entry). IsTrue (fits x.request)) es e h.fitting there) other;
  alloc = subst (λ (o : Option AllocNo). IsSome o) (sym (All-contains (λ (x : Entry). x.alloc ≡ Some (record { 0 = number })) es e h.named there)) refl;
}

-- no making violates
clean_make : (o : Object) (r : Request) (stamp : Stamp) (b : Bool) → is_make r ≡ b → is_violation (answer o r stamp).reply.verdict ≡ true → is_make r ≡ false
clean_make o (Make size place) stamp b is bad = absurd (let never : false ≡ true = bad in cc)
clean_make o r stamp false is bad = is
clean_make o r stamp true is bad = absurd (cc)

pub describable : (number : ℕ) (es : List Entry) (e : Entry) → IsHistory number es → Contains es e → violates e ≡ true → IsDescribable e
describable number es e h there bad =
    let reply : e.reply ≡ (answer (object_at number es there.0) e.request e.stamp).reply =
    subst (λ (x : Entry). x.reply ≡ (answer (object_at number es there.0) x.request x.stamp).reply) there.2 (reply_at (unmade number) es there.0 e there.1 h.replies) in
    tellable number es e h there
    (clean_make (object_at number es there.0) e.request e.stamp (is_make e.request) refl (subst (λ (p : Reply). is_violation p.verdict ≡ true) reply bad))

pub reportable : (kept : RunRecord) → AreHistories kept.allocs → HasDistinctStamps kept → IsReportable kept
reportable kept histories distinct = record {
  distinct = distinct;
  described = λ k log lt i e inside bad.
      describable (get_or kept.allocs k log).number.0 (get_or kept.allocs k log).entries (get_or (get_or kept.allocs k log).entries i e)
      (histories k log lt) (Contains-get_or (get_or kept.allocs k log).entries i e inside) bad;
}

-- the causes stand before the violation
told_before : (P : Entry → Type 0) (before : List Entry) (o : Option Entry) → ((e : Entry) → P e → Contains before e) → ((e : Entry) → Contains before e → IsTellable e) → IsTold o P → MatchOption o (Unit {0}) IsTellable
told_before P before None among tell h = absurd h
told_before P before (Some e) among tell h = tell e (among e h)

told_none : (o : Option Entry) → o ≡ None → MatchOption o (Unit {0}) IsTellable
told_none o is = subst (λ (p : Option Entry). MatchOption p (Unit {0}) IsTellable) (sym is) tt

changer_among : (number : ℕ) (before : List Entry) (x : Tag) (offset : ℕ) (e : Entry) → IsChanger number before x offset e → Contains before e
changer_among number before x offset e h =
    subst (λ (es : List Entry). Contains es e) (sym h.place) (Contains-append_right h.earlier (e ∷ h.later) e (0, omega arith, refl))

record AreTellable (w : Verdict) (m c : Option Entry) : Type 0 where
  violates : is_violation w ≡ true
  maker : MatchOption m (Unit {0}) IsTellable
  changer : MatchOption c (Unit {0}) IsTellable

causes_tellable : (number : ℕ) (before : List Entry) (w : Verdict) (maker changer : Option Entry) → ((e : Entry) → Contains before e → IsTellable e) → AreCauses number before w maker changer → AreTellable w maker changer
causes_tellable number before (Violated (Denied offset x perm local)) maker changer tell h = record {
  violates = refl;
  maker = told_before _ before maker (λ e m. m.among) tell h.0;
  changer = told_before (IsChanger number before x offset) before changer (changer_among number before x offset) tell h.1;
}
causes_tellable number before (Violated (StrongFree offset x perm)) maker changer tell h = record {
  violates = refl;
  maker = told_before _ before maker (λ e m. m.among) tell h.0;
  changer = told_before (IsChanger number before x offset) before changer (changer_among number before x offset) tell h.1;
}
causes_tellable number before (Violated Freed) maker changer tell h = record {
  violates = refl;
  maker = told_none maker h.0;
  changer = told_before _ before changer (λ e f. f.among) tell h.1;
}
causes_tellable number before (Violated OutOfRange) maker changer tell h = record {
  violates = refl;
  maker = told_before _ before maker (λ e m. m.among) tell h.0;
  changer = told_none changer h.1;
}
causes_tellable number before (Violated Stranger) maker changer tell h = record { violates = refl; maker = told_none maker h.0; changer = told_none changer h.1 }
causes_tellable number before Clean maker changer tell h = absurd h
causes_tellable number before Closed maker changer tell h = absurd h

pub writable : (log : AllocLog) (x : Explained) → IsHistory log.number.0 log.entries → IsExplainedBy log x → IsWritable x
writable log x history h =
    let number = log.number.0 in
    let here : Contains log.entries x.violation = subst (λ (es : List Entry). Contains es x.violation) (sym h.place) (Contains-append_right h.before (x.violation ∷ h.later) x.violation (0, omega arith, refl)) in
    let tell : (e : Entry) → Contains h.before e → IsTellable e =
    λ (e : Entry) (there : Contains h.before e). tellable number log.entries e history (subst (λ (es : List Entry). Contains es e) (sym h.place) (Contains-append_left h.before (x.violation ∷ h.later) e there)) in
    let causes = causes_tellable number h.before x.violation.reply.verdict x.maker x.changer tell h.causes in
    record {
      violation = describable number log.entries x.violation history here causes.violates;
      violates = causes.violates;
      maker = causes.maker;
      changer = causes.changer;
    }

pub writable_in : (logs : List AllocLog) (x : Explained) → AreHistories logs → IsExplainedIn logs x → IsWritable x
writable_in logs x histories h =
    writable h.log x (All-contains (λ (log : AllocLog). IsHistory log.number.0 log.entries) logs h.log histories h.among) h.explained
