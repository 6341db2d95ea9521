-- What a step did to its allocation, in words.
use Rattle.std.specs.Prelude.{ℕ, ◌+◌, List, [], ◌++◌, length, codes}
use Rattle.std.specs.Fmt.{decimal}
use Rattle.history.specs.declared.entry.Request.{Request}
use Rattle.history.specs.declared.entry.Request.TheVariants.{Load, Store, Modify, CmpXchg, CopyOut, CopyIn, Retag, EndProtector, Free}
use Rattle.ir_ast.specs.Keywords.{kind_word}
use Rattle.ir_ast.specs.Words.{width_bytes, ty_bytes}

-- PLAIN DEED of bytes FIRST..END
abbrev pub span_phrase : List ℕ → List ℕ → ℕ → ℕ → List ℕ
span_phrase plain deed at len = plain ++ (deed ++ (codes " of bytes " ++ (decimal at ++ (codes ".." ++ decimal (at + len)))))

-- what a request asks of an allocation; before an access that isn't atomic stand the words that are given
abbrev pub deed_phrase : List ℕ → Request → List ℕ
deed_phrase plain (Load at ty prov) = span_phrase plain (codes "read") at (ty_bytes ty)
deed_phrase plain (CopyOut at len prov) = span_phrase plain (codes "read") at len
deed_phrase plain (Store at ty value carried prov) = span_phrase plain (codes "write") at (ty_bytes ty)
deed_phrase plain (CopyIn at piece prov) = span_phrase plain (codes "write") at (length piece)
deed_phrase plain (Modify at width op value prov) = span_phrase (codes "an atomic ") (codes "write") at (width_bytes width)
deed_phrase plain (CmpXchg at width expected value prov) = span_phrase (codes "an atomic ") (codes "write") at (width_bytes width)
deed_phrase plain (Retag at len kind guard prov) = span_phrase (codes "the retag ") (kind_word kind) at len
deed_phrase plain (EndProtector tag) = codes "the end of protector " ++ decimal tag.0
deed_phrase plain (Free at stack prov) = codes "a free"
deed_phrase plain _ = []
