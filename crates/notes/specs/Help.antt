-- One sentence of help for each way to break a rule.
use Rattle.std.specs.Prelude.{ℕ, true, false, Option, Some, None, List, codes}
use Rattle.perm_table.specs.declared.Perm.{Perm}
use Rattle.perm_table.specs.declared.Perm.TheVariants.{Frozen, Conflicted}
use Rattle.perm_table.specs.declared.RetagKind.{RetagKind}
use Rattle.perm_table.specs.declared.RetagKind.TheVariants.{Shr, Boxed}
use Rattle.eager_tree.specs.declared.violation.Violation.TheVariants.{Denied, StrongFree, Stranger, Freed, OutOfRange}
use Rattle.bsan_ids.specs.declared.numbers.Prov.{Prov}
use Rattle.history.specs.declared.entry.Request.{Request}
use Rattle.history.specs.declared.entry.Request.TheVariants.{Retag, EndProtector}
use Rattle.history.specs.declared.entry.Verdict.{Verdict}
use Rattle.history.specs.declared.entry.Verdict.TheVariants.{Clean, Closed, Violated}
use Rattle.ir_reader.specs.declared.fault.ReadFault.{ReadFault}
use Rattle.ir_reader.specs.declared.fault.ReadFault.TheVariants as fault
use Rattle.ir_rules.specs.declared.rule.Rule.{Rule}
use Rattle.notes.specs.Cures.{byte_help, unexpected_help}
use Rattle.notes.specs.Made.{used_prov}
use Rattle.ir_rules.specs.declared.rule.Rule.TheVariants.{Unknown, Twice, TypeClash, Unassigned, BadTarget, BadCall, HandleUse, NoMain}

-- where a node was disabled by a write, by how it was made
abbrev pub written_help : Option RetagKind → List ℕ
written_help (Some Shr) = codes "a write through another pointer ended this shared reference; read before that write, or borrow again after it"
written_help (Some Boxed) = codes "a write through another pointer ended what the box may do; go through the box alone, or through a raw pointer in its place"
written_help kind = codes "a write through another pointer ended this mutable reference; use it before that write, or borrow again after it"

-- where a node is disabled, by how it was made, and by what disabled it
abbrev pub disabled_help : Option RetagKind → Option Request → List ℕ
disabled_help kind (Some (EndProtector tag)) = codes "a function wrote through the reference that it was given, and its return counts as that write again, which ended this pointer; use it before that return, or borrow again after it"
disabled_help kind change = written_help kind

-- where a node may only be read that was made to write, by what took that from it
abbrev pub read_help : Option Request → List ℕ
read_help (Some (Retag at len kind guard prov)) = codes "another borrow of these bytes was made since, which reads them and may rely on them; write before that borrow, or borrow again for the write"
read_help (Some (EndProtector tag)) = codes "a function read through the reference that it was given, and its return counts as that read again; write before that return, or borrow again for the write"
read_help change = codes "another pointer has read these bytes since, and may rely on them; write before that read, or borrow again for the write"

-- where a node may only be read, by how it was made, and by what gave it that state
abbrev pub frozen_help : Option RetagKind → Option Request → List ℕ
frozen_help (Some Shr) change = codes "nothing is written through a shared reference; take a mutable one, or a reference to a cell"
frozen_help kind change = read_help change

-- where another pointer has read what a protected node may write, by what read it
abbrev pub conflicted_help : Option Request → List ℕ
conflicted_help (Some (Retag at len kind guard prov)) = codes "another borrow of these bytes, which reads them, was made while the function runs that was given this reference; borrow from this reference until it returns"
conflicted_help change = codes "another pointer has read these bytes while the function runs that was given this reference; read them through this reference alone until it returns"

-- where a node's own state denies an access through it, by how the node was made, and by what gave it this state
abbrev pub local_help : Perm → Option RetagKind → Option Request → List ℕ
local_help Frozen kind change = frozen_help kind change
local_help Conflicted kind change = conflicted_help change
local_help perm kind change = disabled_help kind change

-- where a protected node denies an access through another pointer, by how the node was made
abbrev pub protected_help : Option RetagKind → List ℕ
protected_help (Some Shr) = codes "until the function returns that was given this shared reference, no other pointer may write its bytes"
protected_help kind = codes "until the function returns that was given this reference, no other pointer may write its bytes, nor read what was written through it"

-- of a pointer with which no node of the allocation is named, by what it may use
abbrev pub stranger_help : Option Prov → List ℕ
stranger_help None = codes "the pointer may use no allocation: it comes from null or from the host, or bytes of it were overwritten in memory; keep the pointer that the allocation gave, and store, load and copy it whole"
stranger_help (Some prov) = codes "the pointer may use another allocation, and was moved out of it; derive one from a pointer to this allocation"

-- by what was asked, how the node was made that denies it, and what gave that its state
abbrev pub verdict_help : Verdict → Request → Option RetagKind → Option Request → List ℕ
verdict_help (Violated (Denied offset node perm true)) asked kind change = local_help perm kind change
verdict_help (Violated (Denied offset node perm false)) asked kind change = protected_help kind
verdict_help (Violated (StrongFree offset node perm)) asked kind change = codes "until the function returns that was given this reference, the allocation may not be freed; free it later, or hand it over as a box"
verdict_help (Violated Stranger) asked kind change = stranger_help (used_prov asked)
verdict_help (Violated Freed) asked kind change = codes "the allocation was freed before; borrow before the free"
verdict_help (Violated OutOfRange) asked kind change = codes "a borrow ends with its allocation at the latest; borrow fewer bytes"
verdict_help Clean asked kind change = codes "this step keeps the rules"
verdict_help Closed asked kind change = codes "this step keeps the rules"

-- for a refusal of this text
abbrev pub fault_help : List ℕ → ReadFault → List ℕ
fault_help text (fault.TooLarge at) = codes "the text is too long, or it has a function, an instruction or a register too many; make the program smaller"
fault_help text (fault.BadByte at) = byte_help text at
fault_help text (fault.IntToPtr at) = codes "no pointer is made from an integer, since it could use no allocation; keep the pointer itself, store and load it as `ptr`, and move it by `gep`"
fault_help text (fault.Unexpected at) = unexpected_help text at
fault_help text (fault.NumberTooLarge at) = codes "the number is too large for its type, or for a size"
fault_help text fault.NoMemory = codes "out of memory"

abbrev pub rule_help : Rule → List ℕ
rule_help Unknown = codes "nothing of this name is defined: no register of the function, no function, no function of the host"
rule_help Twice = codes "this name is defined before; each register, label and function is defined once"
rule_help TypeClash = codes "another type is wanted here"
rule_help Unassigned = codes "some path to this place doesn't define the register; define it on each, or make it a parameter of the block"
rule_help BadTarget = codes "a jump goes to another block of its function than the first, with a value for each of the block's parameters"
rule_help BadCall = codes "the arguments and the result have to be those of the function that is called, or of the thread that is joined"
rule_help HandleUse = codes "the handle of a thread can only be joined, and only a handle can"
rule_help NoMain = codes "a program has a function `@main` without parameters, with the result `i64`"
