-- The logs of several trees, one tree after another.
use Rattle.std.specs.Prelude.{◌≡◌, ◌+◌, ◌≤◌, List, [], ◌∷◌, ◌++◌, length}
use Rattle.std.proofs.Common.{arith, length-append, append_assoc, append-nil, ap, sym, ◌∙◌}
use denote.Param.Weighed.{most}
use Rattle.history.specs.declared.log.ThreadLog.{ThreadLog}

abbrev pub all_logs : List (List ThreadLog) → List ThreadLog
all_logs [] = []
all_logs (t ∷ ts) = t ++ all_logs ts

pub most_le-length-all_logs : (ts : List (List ThreadLog)) → most (λ t. length t + 1) ts ≤ length (all_logs ts) + 1
most_le-length-all_logs [] = omega arith
most_le-length-all_logs (t ∷ ts) = omega (arith, most_le-length-all_logs ts, length-append t (all_logs ts))

pub all_logs_more : (ts : List (List ThreadLog)) (t : List ThreadLog) → all_logs (ts ++ t ∷ []) ≡ all_logs ts ++ t
all_logs_more [] t = append-nil t
all_logs_more (u ∷ us) t = ap (λ l. u ++ l) (all_logs_more us t) ∙ sym (append_assoc u (all_logs us) t)
