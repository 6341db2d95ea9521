-- How a refusal is written: its name, and its place.
use Rattle.std.specs.Prelude.{ℕ, List, ◌++◌, codes}
use Rattle.std.specs.Fmt.{decimal}
use Rattle.ir_reader.specs.declared.fault.ReadFault.{ReadFault}
use Rattle.ir_reader.specs.declared.fault.ReadFault.TheVariants.{TooLarge, BadByte, IntToPtr, Unexpected, NumberTooLarge, NoMemory}

abbrev pub fault_text : ReadFault → List ℕ
fault_text (TooLarge at) = codes "TooLarge at " ++ decimal at
fault_text (BadByte at) = codes "BadByte at " ++ decimal at
fault_text (IntToPtr at) = codes "IntToPtr at " ++ decimal at
fault_text (Unexpected at) = codes "Unexpected at " ++ decimal at
fault_text (NumberTooLarge at) = codes "NumberTooLarge at " ++ decimal at
fault_text NoMemory = codes "NoMemory"
