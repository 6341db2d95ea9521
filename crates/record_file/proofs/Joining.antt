-- Threads that are joined, by their logs.
use Rattle.std.proofs.Common.{◌≡◌, ◌↔◌, ℕ, List, refl, sym, ◌∙◌, ap, subst}
use Rattle.std.specs.declared.option.Option.{Option}
use Rattle.bsan_ids.specs.declared.numbers.Prov.{Prov}
use Rattle.bsan_ids.specs.declared.numbers.ThreadNo.{ThreadNo}
use Rattle.history.specs.declared.entry.Entry.{Entry}
use Rattle.history.specs.declared.entry.Plain.TheVariants as plain
use Rattle.history.specs.declared.entry.Request.TheVariants as request
use Rattle.history.specs.declared.log.End.{End}
use Rattle.history.specs.declared.log.End.TheVariants as log_end
use Rattle.history.specs.declared.log.ThreadLog.{ThreadLog}
use Rattle.runs.specs.Parts.{Has}
use Rattle.runs.specs.Right.{NumbersRiseFrom, end_of}
use Rattle.runs.proofs.LogLists.{end_there}
use Rattle.record_file.specs.Joins.{EndsRight, IsReturned, JoinsRight}

returned_is : (e : End) → IsReturned e → (v : ℕ) × (p : Option Prov) × (e ≡ log_end.Returned v p)
returned_is (log_end.Returned v p) h = (v, p, refl)
returned_is _ h = absurd h

value_inj : (a b : ℕ) → plain.Value a ≡ plain.Value b → a ≡ b
value_inj a b is = cc

module _ (logs : List ThreadLog) (rise : NumbersRiseFrom 0 logs) (c : ThreadNo) (log : ThreadLog) (there : Has logs log) (named : log.number ≡ c) where
  its_end : end_of logs c.0 ≡ log.«end»
  its_end = ap (λ (n : ThreadNo). end_of logs n.0) (sym named) ∙ end_there 0 logs log rise there

  pub joins_iff : (e : Entry) (v : ℕ) → e.request ≡ request.Join c → e.reply.plain ≡ plain.Value v → (log.«end» ≡ log_end.Returned v e.reply.carried) ↔ JoinsRight logs e e.request
  joins_iff e v asks tells = (
    λ is. (let one : JoinsRight logs e (request.Join c) = (v, tells, its_end ∙ is, (log, there, named)) in subst (JoinsRight logs e) (sym asks) one),
    λ h. (
        let j : JoinsRight logs e (request.Join c) = subst (JoinsRight logs e) asks h in
        sym its_end ∙ j.2 ∙ ap (λ z. log_end.Returned z e.reply.carried) (value_inj j.0 v (sym j.1 ∙ tells))),
  )

  pub ends_iff : (why : End) → why ≡ log_end.ChildEnded c → (IsReturned log.«end» → ⊥) ↔ EndsRight logs why
  ends_iff why is = (
    λ open_still. (
        let one : EndsRight logs (log_end.ChildEnded c) = ((log, there, named), λ v p same. open_still (subst IsReturned (sym (sym its_end ∙ same)) tt)) in
        subst (EndsRight logs) (sym is) one),
    λ h returned. (
        let j : EndsRight logs (log_end.ChildEnded c) = subst (EndsRight logs) is h in
        let r = returned_is log.«end» returned in
        j.1 r.0 r.1 (its_end ∙ r.2)),
  )
