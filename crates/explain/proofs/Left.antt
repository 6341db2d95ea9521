-- The state that a violation names is the one that the last change left.
use Rattle.std.proofs.Common.{◌≡◌, ℕ, ◌<◌, Bool, false, Some, List, [], ◌∷◌, ◌++◌, length, length-append, take, All, get_or, refl, sym, ap, subst, ◌∙◌, arith}
use Rattle.std.proofs.Math.Seq.{get_or-append_seam}
use Rattle.bsan_ids.specs.declared.numbers.Tag.{Tag}
use Rattle.perm_table.specs.declared.Perm.{Perm}
use Rattle.eager_tree.specs.declared.violation.Violation.TheVariants.{Denied, StrongFree}
use Rattle.history.specs.declared.entry.Entry.{Entry}
use Rattle.history.specs.declared.entry.Verdict.TheVariants.{Violated}
use Rattle.history.specs.declared.log.AllocLog.{AllocLog}
use Rattle.history.specs.Histories.{IsHistory}
use Rattle.history.specs.Records.{violates}
use Rattle.explain.specs.declared.explained.Explained.{Explained}
use Rattle.explain.specs.Explanations.{IsExplainedBy, perm_after}
use Rattle.explain.proofs.Explaining.{denied_perm, quiet_before}

take_front : (xs ys : List Entry) → take (length xs) (xs ++ ys) ≡ xs
take_front [] ys = refl
take_front (x ∷ xs) ys = ap (λ (es : List Entry). x ∷ es) (take_front xs ys)

-- the violation is the entry at a place, and the entries before it are those up to there
record IsAt (log : AllocLog) (before : List Entry) (v : Entry) (at : ℕ) : Type 0 where
  inside : at < length log.entries
  first : take at log.entries ≡ before
  here : get_or log.entries at v ≡ v

placed_at : (log : AllocLog) (before later : List Entry) (v : Entry) → log.entries ≡ before ++ v ∷ later → IsAt log before v (length before)
placed_at log before later v place = record {
  inside = omega (arith, ap length place, length-append before (v ∷ later));
  first = ap (take (length before)) place ∙ take_front before (v ∷ later);
  here = ap (λ (es : List Entry). get_or es (length before) v) place ∙ get_or-append_seam before v later v;
}

pub left_denied : (log : AllocLog) (x : Explained) (offset : ℕ) (node : Tag) (perm : Perm) (local : Bool) → IsHistory log.number.0 log.entries → x.violation.reply.verdict ≡ Violated (Denied offset node perm local)
    → (h : IsExplainedBy log x) → perm_after log.number.0 h.before node offset ≡ Some perm
left_denied log x offset node perm local history is h =
    let at : IsAt log h.before x.violation (length h.before) = placed_at log h.before h.later x.violation h.place in
    let quiet = quiet_before log (length h.before) history at.inside (subst (λ (es : List Entry). All (λ e. violates e ≡ false) es) (sym at.first) h.first) in
    ap (λ (es : List Entry). perm_after log.number.0 es node offset) (sym at.first)
    ∙ denied_perm log (length h.before) at.inside quiet x.violation node offset perm (Denied offset node perm local) at.here is (λ there. there)

pub left_strong : (log : AllocLog) (x : Explained) (offset : ℕ) (node : Tag) (perm : Perm) → IsHistory log.number.0 log.entries → x.violation.reply.verdict ≡ Violated (StrongFree offset node perm)
    → (h : IsExplainedBy log x) → perm_after log.number.0 h.before node offset ≡ Some perm
left_strong log x offset node perm history is h =
    let at : IsAt log h.before x.violation (length h.before) = placed_at log h.before h.later x.violation h.place in
    let quiet = quiet_before log (length h.before) history at.inside (subst (λ (es : List Entry). All (λ e. violates e ≡ false) es) (sym at.first) h.first) in
    ap (λ (es : List Entry). perm_after log.number.0 es node offset) (sym at.first)
    ∙ denied_perm log (length h.before) at.inside quiet x.violation node offset perm (StrongFree offset node perm) at.here is (λ there. there)
