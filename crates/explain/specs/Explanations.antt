-- What led to the first violation on an allocation, told by the entries of its log before it.
use Rattle.std.specs.Prelude.{ℕ, ◌≡◌, ◌≢◌, Bool, true, false, Option, None, MatchOption, List, [], ◌∷◌, ◌++◌, map, take, All, Contains}
use Rattle.std.specs.Option.{option_map, option_and_then}
use Rattle.bsan_ids.specs.declared.numbers.Tag.{Tag}
use Rattle.perm_table.specs.declared.Perm.{Perm}
use Rattle.eager_tree.specs.declared.violation.Violation.TheVariants.{Denied, StrongFree, Stranger, Freed, OutOfRange}
use Rattle.eager_tree.specs.Tree.{Tree}
use Rattle.eager_tree.specs.Steps.{cell_at}
use Rattle.history.specs.declared.entry.Entry.{Entry}
use Rattle.history.specs.declared.entry.Plain.TheVariants.{Done}
use Rattle.history.specs.declared.entry.Request.{Request}
use Rattle.history.specs.declared.entry.Request.TheVariants.{Free}
use Rattle.history.specs.declared.entry.Verdict.{Verdict}
use Rattle.history.specs.declared.entry.Verdict.TheVariants.{Violated}
use Rattle.history.specs.declared.log.AllocLog.{AllocLog}
use Rattle.history.specs.declared.record.RunRecord.{RunRecord}
use Rattle.history.specs.Histories.{IsHistory, replay, is_make_step}
use Rattle.history.specs.Merge.{stamp_of}
use Rattle.history.specs.Objects.{unmade}
use Rattle.history.specs.Records.{violates, first_violations}
use Rattle.explain.specs.declared.explained.Explained.{Explained}

-- the state of node x at a byte, where the tree has this node and this byte
abbrev pub perm_in : Tree → Tag → ℕ → Option Perm
perm_in t x offset = option_map (λ cell. cell.perm) (cell_at t.nodes x offset)

-- the same in the allocation's tree after these entries; before the node is made it has no state
abbrev pub perm_after : ℕ → List Entry → Tag → ℕ → Option Perm
perm_after number entries x offset =
    option_and_then (λ made. perm_in made.tree x offset) (replay (unmade number) entries).made

-- the entry that made node x
pub record IsMaker (before : List Entry) (x : Tag) (e : Entry) : Type 0 where
  pub among : Contains before e
  pub stamp : stamp_of e ≡ x.0

-- The last entry after which node x had another state at the byte than before it. The node's making is
-- the first such entry, since before it the node had no state.
pub record IsChanger (number : ℕ) (before : List Entry) (x : Tag) (offset : ℕ) (e : Entry) : Type 0 where
  pub earlier : List Entry
  pub later : List Entry
  pub place : before ≡ earlier ++ e ∷ later
  pub changed : perm_after number (earlier ++ e ∷ []) x offset ≢ perm_after number earlier x offset
  pub last : (n : ℕ) → perm_after number (earlier ++ e ∷ take n later) x offset ≡ perm_after number (earlier ++ e ∷ []) x offset

abbrev pub is_free : Request → Bool
is_free (Free at stack prov) = true
is_free _ = false

-- the entry that freed the allocation
pub record IsFreer (before : List Entry) (e : Entry) : Type 0 where
  pub among : Contains before e
  pub asked : is_free e.request ≡ true
  pub done : e.reply.plain ≡ Done

-- the entry that made the allocation
pub record IsMaking (before : List Entry) (e : Entry) : Type 0 where
  pub among : Contains before e
  pub asked : is_make_step e ≡ true

-- an entry is told, and it is such a one
abbrev pub IsTold : Option Entry → (Entry → Type 0) → Type 0
IsTold told P = MatchOption told ⊥ P

-- A denial and a free under a strong guard name a node and a byte: who made the node, and who last changed
-- its state there. A freed allocation: who freed it. Bytes out of its range: who made it.
abbrev pub AreCauses : ℕ → List Entry → Verdict → Option Entry → Option Entry → Type 0
AreCauses number before (Violated (Denied offset x perm local)) maker changer = IsTold maker (IsMaker before x) × IsTold changer (IsChanger number before x offset)
AreCauses number before (Violated (StrongFree offset x perm)) maker changer = IsTold maker (IsMaker before x) × IsTold changer (IsChanger number before x offset)
AreCauses number before (Violated Freed) maker changer = (maker ≡ None) × IsTold changer (IsFreer before)
AreCauses number before (Violated OutOfRange) maker changer = IsTold maker (IsMaking before) × (changer ≡ None)
AreCauses number before (Violated Stranger) maker changer = (maker ≡ None) × (changer ≡ None)
AreCauses number before _ maker changer = ⊥

-- the first violation of a log, explained by the entries before it
pub record IsExplainedBy (log : AllocLog) (x : Explained) : Type 0 where
  pub before : List Entry
  pub later : List Entry
  pub place : log.entries ≡ before ++ x.violation ∷ later
  pub first : All (λ e. violates e ≡ false) before
  pub causes : AreCauses log.number.0 before x.violation.reply.verdict x.maker x.changer

-- the same of one of these logs
pub record IsExplainedIn (logs : List AllocLog) (x : Explained) : Type 0 where
  pub log : AllocLog
  pub among : Contains logs log
  pub explained : IsExplainedBy log x

-- the first violation on each allocation, in stamp order, each with its explanation
pub record AreExplained (kept : RunRecord) (list : List Explained) : Type 0 where
  pub violations : map (λ x. x.violation) list ≡ first_violations kept
  pub each : All (IsExplainedIn kept.allocs) list

-- the log of each allocation is a legal history
abbrev pub AreHistories : List AllocLog → Type 0
AreHistories logs = All (λ log. IsHistory log.number.0 log.entries) logs
