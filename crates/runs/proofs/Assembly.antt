-- What threads and desks promise makes the merge one run.
use Rattle.std.proofs.Common.{◌≡◌, List, [], ◌∷◌, ap, subst, inl, inr, arith, length}
use Rattle.std.specs.List.{AllByRecursion}
use Rattle.std.proofs.lemmas.List.Elements.{recursion_from_All}
use Rattle.history.specs.declared.entry.Entry.{Entry}
use Rattle.bsan_ids.specs.declared.numbers.ThreadNo.{ThreadNo}
use Rattle.runs.specs.Parts.{Has}
use Rattle.runs.specs.Machine.{Machine, Memory}
use Rattle.runs.specs.Interleaving.{Allowed}
use Rattle.runs.specs.Stamps.{IsTied}
use Rattle.runs.specs.Merge.{merged, IsPartwiseMerge}
use Rattle.runs.specs.Right.{end_of}
use Rattle.runs.specs.Theorem.{PromisesMakeOneRun}
use Rattle.runs.proofs.MergeLaws.{merged_is_merge}
use Rattle.runs.proofs.Tying.{OwnEntries, tied_logs, numbered_from}
use Rattle.runs.proofs.RightRun.{right_run}

pub each_has : (P : Entry → Type 0) (es : List Entry) (x : Entry) → AllByRecursion P es → Has es x → P x
each_has P [] x h g = absurd g
each_has P (e ∷ es) x h (inl same) = subst P same h.0
each_has P (e ∷ es) x h (inr g) = each_has P es x h.1 g

pub promises_make_one_run : (M : Machine) (O : Memory) (A : Allowed) → PromisesMakeOneRun M O A
promises_make_one_run M O A limits main start logs allocs p =
    let merge : IsPartwiseMerge logs (merged logs) = merged_is_merge logs p.threads.rise p.merges in
    let own : OwnEntries logs = λ l x g h.
    (let P : Entry → Type 0 = λ e. e.thread ≡ l.number in
    ap (λ (n : ThreadNo). n.0) (each_has P l.entries x (recursion_from_All P l.entries (p.runs.runs l g).own) h)) in
    let tied : IsTied A (end_of logs) (merged logs) = tied_logs M A limits main start logs p.threads p.runs p.order own merge.rises p.entries in
    record {
      numbered = numbered_from 0 (length (merged logs)) (merged logs) merge.rises p.stamps (omega arith);
      within = p.within;
      run = right_run M O A limits start logs allocs (merged logs) p.runs p.histories merge tied p.unslotted;
    }
