-- The family of each form of line.
use Rattle.target_code.specs.declared.line.Line.{Line}
use Rattle.target_code.specs.declared.line.Line.TheVariants as line
use Rattle.target_code.specs.declared.family.Family.{Family}
use Rattle.target_code.specs.declared.family.Family.TheVariants.{Flow, Check, Access, Value, Computation, Call}

abbrev pub family : Line → Family
family (line.Turn number) = Flow
family line.PushFrame = Flow
family (line.Param slot index) = Flow
family (line.ShadowParam shadow index) = Flow
family (line.Branch cond) = Flow
family (line.Jump block) = Flow
family (line.Result value) = Flow
family (line.ShadowResult from) = Flow
family line.PopFrame = Flow
family line.Return = Flow
family line.Unreachable = Flow
family (line.CheckRead ptr ptr_shadow bytes) = Check
family (line.CheckWrite ptr ptr_shadow bytes) = Check
family (line.CheckCopy to to_shadow from from_shadow len) = Check
family (line.CheckFree ptr ptr_shadow) = Check
family (line.Load slot ty ptr) = Access
family (line.Loaded shadow) = Access
family (line.Stored from) = Access
family (line.Store ty value ptr) = Access
family (line.Modify slot op width ptr value) = Access
family (line.CmpXchg slot width ptr expected value) = Access
family (line.Copy to from len) = Access
family (line.Free ptr) = Access
family (line.Const slot ty value) = Value
family (line.Move slot from) = Value
family (line.ShadowMove shadow from) = Value
family (line.Make slot shadow place size) = Value
family (line.Gep slot ptr add) = Value
family (line.Retag shadow kind guard ptr ptr_shadow size) = Value
family (line.Input slot index) = Value
family (line.Print width value) = Value
family (line.Binary slot op width a b) = Computation
family (line.Compare slot cond ty a b) = Computation
family (line.Select slot ty cond a b) = Computation
family (line.ShadowSelect shadow cond a b) = Computation
family (line.Cast slot op from value to) = Computation
family (line.PtrToInt slot ptr) = Computation
family (line.Arg index value) = Call
family (line.ShadowArg index from) = Call
family (line.TakeArg slot index) = Call
family (line.TakeShadowArg shadow index) = Call
family (line.Call function) = Call
family (line.CallResult slot) = Call
family (line.ShadowCallResult shadow) = Call
family (line.RetagResult kind size) = Call
family (line.Spawn slot function) = Call
family (line.Join handle) = Call
family (line.Host slot host args) = Call
