-- A small program and its entries, on which the definitions are tried.
use Rattle.std.specs.Prelude.{◌≡◌, ℕ, true, [], ◌∷◌, Some, None}
use Rattle.history.specs.declared.ask.Ask.TheVariants as ask
use Rattle.bsan_ids.specs.declared.numbers.AllocNo.{AllocNo}
use Rattle.perm_table.specs.declared.Guard.TheVariants.{Strong}
use Rattle.history.specs.declared.ask.MachineEnd.TheVariants as end
use Rattle.ir_ast.specs.declared.types.Place.TheVariants.{Stack}
use Rattle.history.specs.declared.entry.Plain.{Plain}
use Rattle.history.specs.declared.entry.Plain.TheVariants as plain
use Rattle.bsan_ids.specs.declared.numbers.Prov.{Prov}
use Rattle.history.specs.declared.entry.Reply.{Reply}
use Rattle.history.specs.declared.entry.Request.TheVariants as request
use Rattle.perm_table.specs.declared.RetagKind.TheVariants.{Mut}
use Rattle.ir_ast.specs.declared.types.Ty.TheVariants.{Int, Ptr}
use Rattle.history.specs.declared.entry.Verdict.TheVariants as verdict
use Rattle.ir_ast.specs.declared.types.Width.TheVariants.{W64}
use Rattle.ir_ast.specs.declared.program.Function.{Function}
use Rattle.ir_ast.specs.declared.program.Jump.TheVariants as jump
use Rattle.ir_ast.specs.declared.program.Named.{Named}
use Rattle.ir_ast.specs.declared.program.Op.TheVariants as op
use Rattle.ir_ast.specs.declared.program.Val.TheVariants.{Reg, Num}
use Rattle.source_sem.specs.Source.{Setting, Source, source_ask, source_turn, source_answer, source_start, source_site, plain_setting}

abbrev pub named : ℕ → Named
named n = record { name = n ∷ []; at = 0 }

-- func @f(ptr mut(8) %y) -> void: store i64 1, %y; ret void
abbrev pub f : Function
f = record {
  name = named 102;
  params = record { ty = Ptr; attr = Some (record { kind = Mut; size = 8 }); reg = named 121 } ∷ [];
  result = record { ty = None; attr = None };
  blocks = record {
    label = named 101;
    params = [];
    insts = record { dest = None; at = 0; op = op.Store (Int W64) (Num 1) (named 121) } ∷ [];
    term = record { at = 0; jump = jump.Ret None 0 };
  } ∷ [];
}

-- func @m() -> i64: %x = alloca 8; call void @f(ptr %x); %v = load i64, %x; ret i64 %v
abbrev pub m : Function
m = record {
  name = named 109;
  params = [];
  result = record { ty = Some (Int W64); attr = None };
  blocks = record {
    label = named 101;
    params = [];
    insts = record { dest = Some (named 120); at = 0; op = op.Make Stack (Num 8) } ∷ record { dest = None; at = 0; op = op.Call None (named 102) (record { ty = Ptr; val = Reg (named 120) } ∷ []) } ∷ record { dest = Some (named 118); at = 0; op = op.Load (Int W64) (named 120) } ∷ [];
    term = record { at = 0; jump = jump.Ret (Some (record { ty = Int W64; val = Reg (named 118) })) 0 };
  } ∷ [];
}

abbrev pub setting : Setting
setting = record { program = record { version = 1; functions = f ∷ m ∷ []; end = 0 }; input = []; hosts = []; tracked = true }

abbrev pub one : AllocNo
one = record { 0 = 1 }

abbrev pub root : Prov
root = record { alloc = one; tag = record { 0 = 1 } }

abbrev pub tag2 : Prov
tag2 = record { alloc = one; tag = record { 0 = 2 } }

abbrev pub answer : Plain → Reply
answer p = record { plain = p; carried = None; verdict = verdict.Clean }

abbrev pub s0 : Source
s0 = source_start setting 1 []

abbrev pub s1 : Source
s1 = source_answer setting s0 (record { plain = plain.Made one; carried = Some root; verdict = verdict.Clean })

abbrev pub s2 : Source
s2 = source_turn setting s1

abbrev pub s3 : Source
s3 = source_answer setting s2 (record { plain = plain.Retagged true; carried = Some tag2; verdict = verdict.Clean })

abbrev pub s4 : Source
s4 = source_answer setting s3 (answer plain.Done)

abbrev pub s5 : Source
s5 = source_answer setting s4 (answer plain.Done)

abbrev pub s6 : Source
s6 = source_answer setting s5 (answer (plain.Value 1))

abbrev pub s7 : Source
s7 = source_answer setting s6 (answer plain.Done)

-- the same without provenance
abbrev pub bare : Setting
bare = plain_setting setting

abbrev pub p1 : Source
p1 = source_answer bare (source_start bare 1 []) (answer (plain.Made one))

abbrev pub p2 : Source
p2 = source_turn bare p1

abbrev pub p3 : Source
p3 = source_answer bare p2 (answer plain.Done)

abbrev pub p4 : Source
p4 = source_turn bare p3

abbrev pub p5 : Source
p5 = source_answer bare p4 (answer (plain.Value 1))

abbrev pub p6 : Source
p6 = source_answer bare p5 (answer plain.Done)

pub record Tried : Type 0 where
  pub make : source_ask setting s0 ≡ ask.Make 8 Stack
  pub call : source_ask setting s1 ≡ ask.Turn
  pub entry : source_ask setting s2 ≡ ask.At one (request.Retag 0 8 Mut Strong (Some root))
  pub entry_site : source_site s2 ≡ 0
  pub store : source_ask setting s3 ≡ ask.At one (request.Store 0 (Int W64) 1 None (Some tag2))
  pub protector : source_ask setting s4 ≡ ask.At one (request.EndProtector (record { 0 = 2 }))
  pub load : source_ask setting s5 ≡ ask.At one (request.Load 0 (Int W64) (Some root))
  pub load_site : source_site s5 ≡ 4
  pub free : source_ask setting s6 ≡ ask.At one (request.Free 0 true (Some root))
  pub ended : source_ask setting s7 ≡ ask.Ended (end.Returned 1 None)
  pub last : source_site s7 ≡ 5
  pub count : s7.count ≡ 6

pub record TriedPlain : Type 0 where
  pub call : source_ask bare p1 ≡ ask.Turn
  pub store : source_ask bare p2 ≡ ask.At one (request.Store 0 (Int W64) 1 None None)
  pub ret : source_ask bare p3 ≡ ask.Turn
  pub load : source_ask bare p4 ≡ ask.At one (request.Load 0 (Int W64) None)
  pub free : source_ask bare p5 ≡ ask.At one (request.Free 0 true None)
  pub ended : source_ask bare p6 ≡ ask.Ended (end.Returned 1 None)
