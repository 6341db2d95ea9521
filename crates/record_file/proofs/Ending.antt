-- What is known once each log was run, and each entry seen.
use Rattle.std.proofs.Common.{◌≡◌, ℕ, zero, suc, ◌+◌, ◌<◌, not, Bool, true, false, List, take, replicate, refl, sym, ◌∙◌, ap, subst, inl, inr, arith}
use Rattle.std.specs.Prelude.{Option, Some, None, slice_get, is_some}
use Rattle.std.proofs.lemmas.Option.{slice_get_within}
use Rattle.bsan_ids.specs.declared.numbers.Limits.{Limits}
use Rattle.history.specs.declared.entry.Entry.{Entry}
use Rattle.history.specs.declared.entry.Request.{Request}
use Rattle.history.specs.declared.entry.Request.TheVariants as request
use Rattle.history.specs.declared.log.End.{End}
use Rattle.history.specs.declared.log.End.TheVariants as log_end
use Rattle.history.specs.declared.log.ThreadLog.{ThreadLog}
use Rattle.runs.specs.Parts.{Has}
use Rattle.runs.proofs.Tracking.{some_inj}
use Rattle.source_sem.specs.Source.{Setting, source}
use Rattle.record_file.specs.declared.feed.Child.{Child}
use Rattle.record_file.specs.declared.reached.Standing.{Standing}
use Rattle.record_file.specs.AsWritten.{HasRunsAsWritten}
use Rattle.record_file.specs.ByNumber.{IsSmall}
use Rattle.record_file.specs.Joins.{AreJoinedRight, EndsRight, JoinsRight}
use Rattle.record_file.specs.Reaching.{AllStand, ComesOn, HasCome, left, main_in}
use Rattle.record_file.proofs.Threading.{has_more}
use Rattle.record_file.proofs.Waiting.{is_some_one, stand_more}

-- a mark that is none is not set
pub none_stands : (ss : List (Option Standing)) (k : ℕ) (o : Option Standing) (b : Bool) → slice_get ss k ≡ Some o → is_some o ≡ not b → b ≡ true → AllStand ss → ⊥
none_stands ss k o b here test none all =
    let a = all k (slice_get_within ss k o here) in
    let some : o ≡ Some a.0 = some_inj (sym here ∙ a.1) in
    let wrong : true ≡ false = sym (ap is_some some) ∙ test ∙ ap not none in
    cc

pub one_stands : (ss : List (Option Standing)) (k : ℕ) (o : Option Standing) (b : Bool) → slice_get ss k ≡ Some o → is_some o ≡ not b → b ≡ false
    → ((i : ℕ) → i < k → (a : Standing) × (slice_get ss i ≡ Some (Some a))) → (i : ℕ) → i < k + 1 → (a : Standing) × (slice_get ss i ≡ Some (Some a))
one_stands ss k o b here test some all =
    let a = is_some_one o (test ∙ ap not some) in
    stand_more ss k a.0 all (here ∙ ap Some a.1)

-- at the start no mark is set
pub none_set : (n i : ℕ) (o : Option Standing) → slice_get (replicate n None) i ≡ Some o → o ≡ None
none_set zero i o is = absurd (cc)
none_set (suc n) zero o is = sym (some_inj is)
none_set (suc n) (suc i) o is = none_set n i o is

pub small_more : (bound : ℕ) (es : List Entry) (k : ℕ) (x : Entry) → ((e : Entry) → Has (take k es) e → IsSmall bound e.alloc) → slice_get es k ≡ Some x → IsSmall bound x.alloc
    → (e : Entry) → Has (take (k + 1) es) e → IsSmall bound e.alloc
small_more bound es k x all here one e there = elim (has_more es k x e here (subst (λ n. Has (take n es) e) up there)) [
  | inl before ↦ all e before
  | inr same ↦ subst (λ (z : Entry). IsSmall bound z.alloc) same one
]
  where
    up : k + 1 ≡ suc k
    up = omega arith

module _ (x : Setting) (limits : Limits) (main : ℕ) (logs : List ThreadLog) where
  pub came_on : (b : Bool) (before standing : List (Option Standing)) (waiting : List Child) → b ≡ true → ComesOn b x limits main logs before standing waiting → HasCome x limits main logs standing waiting × (left standing < left before)
  came_on true before standing waiting is h = h
  came_on false before standing waiting is h = absurd (let no : false ≡ true = is in cc)

  pub came_not : (b : Bool) (before standing : List (Option Standing)) (waiting : List Child) → b ≡ false → ComesOn b x limits main logs before standing waiting → HasRunsAsWritten (source x) limits (main_in x main) logs → ⊥
  came_not true before standing waiting is h r = let no : true ≡ false = is in cc
  came_not false before standing waiting is h r = h r

  -- the logs of runs are joined right
  pub runs_joined : HasRunsAsWritten (source x) limits (main_in x main) logs → AreJoinedRight logs
  runs_joined r log there = (λ e own. by_request e own e.request refl, by_end log.«end» refl)
    where
      by_request : (e : Entry) → Has log.entries e → (q : Request) → e.request ≡ q → JoinsRight logs e q
      by_request e own (request.Join c) is = r.joined log e c there own is
      by_request e own _ is = tt

      by_end : (o : End) → log.«end» ≡ o → EndsRight logs o
      by_end (log_end.ChildEnded c) is = r.ended log c there is
      by_end _ is = tt
