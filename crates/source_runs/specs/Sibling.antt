-- A run of the program whose protector's end disables a sibling, its erasure, and the plain run that this is.
use Rattle.std.specs.Prelude.{◌≡◌, ℕ, true, List, [], ◌∷◌, Option, Some, None}
use Rattle.bsan_ids.specs.declared.numbers.Limits.{Limits}
use Rattle.bsan_ids.specs.declared.numbers.Prov.{Prov}
use Rattle.perm_table.specs.declared.Guard.TheVariants.{Free, Strong}
use Rattle.perm_table.specs.declared.Perm.TheVariants.{Disabled}
use Rattle.perm_table.specs.declared.RetagKind.TheVariants.{Mut}
use Rattle.eager_tree.specs.declared.violation.Violation.TheVariants.{Denied}
use Rattle.ir_ast.specs.declared.types.Place.TheVariants.{Stack}
use Rattle.ir_ast.specs.declared.types.Ty.TheVariants.{Int}
use Rattle.ir_ast.specs.declared.types.Width.TheVariants.{W64}
use Rattle.history.specs.declared.entry.Entry.{Entry}
use Rattle.history.specs.declared.entry.Plain.{Plain}
use Rattle.history.specs.declared.entry.Plain.TheVariants as plain
use Rattle.history.specs.declared.entry.Request.{Request}
use Rattle.history.specs.declared.entry.Request.TheVariants as request
use Rattle.history.specs.declared.entry.Verdict.{Verdict}
use Rattle.history.specs.declared.entry.Verdict.TheVariants as verdict
use Rattle.runs.specs.Erasure.{erasure}
use Rattle.runs.specs.Interleaving.{first_world, Interleaves}
use Rattle.runs.specs.Objects.{objects}
use Rattle.runs.specs.PlainObjects.{plain_objects}
use Rattle.source_sem.specs.Source.{Setting, Source, source, source_start, plain_setting}
use Rattle.source_sem.specs.Traces.{sibling, alloc, tag, prov}
use Rattle.source_sem.specs.Records.{no_hosts, allowed}

abbrev pub limits : Limits
limits = record { steps = 1000; turns = 1000; allocs = 100 }

-- a step of thread 0 on allocation 1
abbrev pub step : ℕ → ℕ → Request → Plain → Option Prov → Verdict → Entry
step stamp site request plain carried verdict = record {
  thread = record { 0 = 0 };
  stamp = record { 0 = stamp };
  site = site;
  alloc = Some (alloc 1);
  request = request;
  reply = record { plain = plain; carried = carried; verdict = verdict };
}

abbrev pub steps : List Entry
steps =
    step 1 4 (request.Make 16 Stack) (plain.Made (alloc 1)) (Some (prov 1 1)) verdict.Clean
    ∷ step 2 0 (request.Retag 0 8 Mut Strong (Some (prov 1 1))) (plain.Retagged true) (Some (prov 1 2)) verdict.Clean
    ∷ step 3 0 (request.Store 0 (Int W64) 1 None (Some (prov 1 2))) plain.Done None verdict.Clean
    ∷ step 4 2 (request.Retag 8 8 Mut Free (Some (prov 1 1))) (plain.Retagged true) (Some (prov 1 4)) verdict.Clean
    ∷ step 5 3 (request.EndProtector (tag 2)) plain.Done None verdict.Clean
    ∷ step 6 7 (request.Load 0 (Int W64) (Some (prov 1 4))) (plain.Value 1) None (verdict.Violated (Denied 0 (tag 4) Disabled true))
    ∷ step 7 8 (request.Free 0 true (Some (prov 1 1))) plain.Done None verdict.Closed
    ∷ []

-- without retags and the protector's end, and without provenance, verdicts and stamps
abbrev pub plain_steps : List Entry
plain_steps =
    step 0 4 (request.Make 16 Stack) (plain.Made (alloc 1)) None verdict.Clean
    ∷ step 0 0 (request.Store 0 (Int W64) 1 None None) plain.Done None verdict.Clean
    ∷ step 0 7 (request.Load 0 (Int W64) None) (plain.Value 1) None verdict.Clean
    ∷ step 0 8 (request.Free 0 true None) plain.Done None verdict.Clean
    ∷ []

abbrev pub start : Source
start = source_start sibling 1 []

abbrev pub bare : Setting
bare = plain_setting sibling

abbrev pub plain_start : Source
plain_start = source_start bare 1 []

-- the steps are a run with its violation; what is left of them is a run of the plain program
pub record IsErasedRun : Type 0 where
  pub run : Interleaves (source sibling) objects (allowed limits no_hosts) (first_world (source sibling) objects start) steps
  pub erased : erasure steps ≡ plain_steps
  pub plain_run : Interleaves (source bare) plain_objects (allowed limits no_hosts) (first_world (source bare) plain_objects plain_start) plain_steps
