-- The contract of the top call follows from its first clause.
use Rattle.std.proofs.Common.{ℕ, Option}
use Rattle.command_words.specs.Jobs.{Job}
use Rattle.history.specs.declared.record.RunRecord.{RunRecord}
use Rattle.ir_ast.specs.declared.hosts.HostTable.{HostTable}
use Rattle.bsan.specs.Seen.{FilesSeen, SinkSeen}
use Rattle.bsan.specs.Rechecks.{IsRightText, IsWrongText}
use Rattle.bsan.specs.Answer.{Answers}
use Rattle.bsan.specs.TopCall.{IsTopCall}
use Rattle.bsan.proofs.Complete.{asks_nothing, refused, broken, complete}
use Rattle.bsan.proofs.FoundTexts.{wrong_is_11, right_is_0}
use Rattle.bsan.proofs.Hushing.{told_rules}
use Rattle.bsan.proofs.Rechecking.{told_record}
use Rattle.bsan.proofs.Status.{unasked, unread, unverified, refused_rules, wrong_record, right_record, leaves_none, read_cause, put_cause, run_cause, memory_cause, no_record}

pub top_call : (files : FilesSeen) (hosts : HostTable) (sink : SinkSeen) (asked : Option Job) (kept : RunRecord) (status : ℕ)
    → Answers files hosts sink asked kept status → IsTopCall files hosts sink asked kept status
top_call files hosts sink asked kept status of = record {
  answer = of;
  run = run_cause files hosts sink asked kept status of;
  usage = record { only = unasked files hosts sink asked kept status of; always = asks_nothing files hosts sink asked kept status of };
  not_read = record { only = unread files hosts sink asked kept status of; always = refused files hosts sink asked kept status of };
  not_verified = record { only = unverified files hosts sink asked kept status of; always = broken files hosts sink asked kept status of };
  rules = record { only = refused_rules files hosts sink asked kept status of; always = told_rules files hosts sink asked kept status of };
  «record» = record {
    only = wrong_record files hosts sink asked kept status of;
    always = told_record IsWrongText 11 files hosts sink asked kept status (wrong_is_11 kept) of;
    holds_only = right_record files hosts sink asked kept status of;
    holds_always = told_record IsRightText 0 files hosts sink asked kept status (right_is_0 kept) of;
    leaves_none = leaves_none files hosts sink asked kept status of;
  };
  read_fault = read_cause files hosts sink asked kept status of;
  put_fault = put_cause files hosts sink asked kept status of;
  memory = memory_cause files hosts sink asked kept status of;
  no_record = no_record files hosts sink asked kept status of;
  complete = complete files hosts sink asked kept status of;
}
