-- What a writer took of a piece, a part at a time.
use Rattle.std.proofs.Common.{◌≡◌, ◌+◌, ◌-◌, ℕ, List, ◌++◌, length, take, drop, Option, Result, Ok, Err, sym, ap, ◌∙◌, subst, append_assoc, take-append-drop, length-append, arith}
use Rattle.std.proofs.KnownBytes.{Appends-kept, Appends-nil, Appends-trans}
use Rattle.std.proofs.Math.Seq.{take-append_seam}
use Rattle.std.proofs.lemmas.List.{take_rest}
use Rattle.std.specs.Io.KnownBytes.{Appends, WriteAppends}
use Rattle.std.specs.Result.{result_unwrap_or}
use Rattle.outside_io.specs.Putting.{AppendsPrefix}

-- it took as many bytes as it answered, and none where it failed
took : {E : Type 0} (before now : Option (List ℕ)) (answer : Result ℕ E) (rest : List ℕ) → WriteAppends before now answer rest
    → Appends before now (take (result_unwrap_or answer 0) rest)
took before now (Ok count) rest wrote = wrote
took before now (Err fault) rest kept = Appends-kept _ _ _ _ (Appends-nil before) kept

-- after what was taken before
pub took_more : {E : Type 0} (first before now : Option (List ℕ)) (done rest : List ℕ) (answer : Result ℕ E) (count : ℕ) → Appends first before done
    → WriteAppends before now answer rest → count ≡ result_unwrap_or answer 0 → Appends first now (done ++ take count rest)
took_more first before now done rest answer count wrote more is =
    Appends-trans _ _ _ _ _ wrote (subst (λ n. Appends before now (take n rest)) (sym is) (took before now answer rest more))

-- what is left after so many bytes more, as a slice from there on has it
pub left_after : (piece done rest : List ℕ) (count : ℕ) → piece ≡ done ++ rest
    → piece ≡ (done ++ take count rest) ++ take (length rest - count) (drop count rest)
left_after piece done rest count split =
    split ∙ ap (λ l. done ++ l) (sym (take-append-drop count rest)) ∙ sym (append_assoc done (take count rest) (drop count rest))
    ∙ ap (λ l. (done ++ take count rest) ++ l) (sym (take_rest rest count))

-- what was taken before something is left is a prefix
pub took_prefix : (before now : Option (List ℕ)) (piece done rest : List ℕ) → piece ≡ done ++ rest → Appends before now done
    → AppendsPrefix before now piece
took_prefix before now piece done rest split wrote =
    let long : length piece ≡ length done + length rest = ap length split ∙ length-append done rest in
    (length done, omega (arith, long), subst (Appends before now) (sym (ap (take (length done)) split ∙ take-append_seam done rest)) wrote)
