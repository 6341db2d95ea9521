-- A thread's last state is told by its log and its count of instructions.
use Rattle.std.proofs.Common.{◌≡◌, ℕ, zero, suc, ◌+◌, List, [], ◌∷◌, refl, sym, ◌∙◌, ap, subst, inl, inr, arith}
use Rattle.std.specs.Prelude.{Some}
use Rattle.std.proofs.lemmas.Bool.Decides.{eqb_tells}
use Rattle.bsan_ids.specs.declared.numbers.Limits.{Limits}
use Rattle.history.specs.declared.ask.Ask.TheVariants as ask
use Rattle.history.specs.declared.entry.Entry.{Entry}
use Rattle.history.specs.declared.log.ThreadLog.{ThreadLog}
use Rattle.runs.specs.Machine.{Machine, TurnsWithin}
use Rattle.runs.specs.Merge.{entries_of}
use Rattle.runs.specs.Parts.{Has, Answers, child_of}
use Rattle.runs.specs.Right.{HasRuns, IsReached, is_main, is_spawned}
use Rattle.runs.specs.Threads.{Feeds, StartsAs, CountsTurns, StandsOnce}

module _ (M : Machine) (counts : CountsTurns M) (limit : ℕ) (starts : ℕ → M.State) where
  turned_count : (n : ℕ) (s t : M.State) → TurnsWithin M limit n s t → M.count t ≡ M.count s + n
  turned_count zero s t h = let same : M.count s ≡ M.count t = ap M.count h in omega (arith, same)
  turned_count (suc n) s t h = let one = counts s h.0 in let more = turned_count n (M.turn s) t h.2 in omega (arith, one, more)

  same_turns : (n k : ℕ) (s a b : M.State) → TurnsWithin M limit n s a → TurnsWithin M limit k s b → n ≡ k → a ≡ b
  same_turns zero zero s a b h g same = sym h ∙ g
  same_turns zero (suc k) s a b h g same = absurd (omega (arith, same))
  same_turns (suc n) zero s a b h g same = absurd (omega (arith, same))
  same_turns (suc n) (suc k) s a b h g same = same_turns n k (M.turn s) a b h.2 g.2 (omega (arith, same))

  no_turn : (a b : M.State) (e : Entry) → a ≡ b → M.ask a ≡ ask.Turn → Answers (M.ask b) e → ⊥
  no_turn a b e same turn h = subst (λ x. Answers x e) (ap M.ask (sym same) ∙ turn) h

  same_fed : (n k : ℕ) (s a b : M.State) (e : Entry) → TurnsWithin M limit n s a → TurnsWithin M limit k s b → Answers (M.ask a) e → Answers (M.ask b) e → a ≡ b
  same_fed zero zero s a b e h g on_a on_b = sym h ∙ g
  same_fed zero (suc k) s a b e h g on_a on_b = absurd (no_turn s a e h g.0 on_a)
  same_fed (suc n) zero s a b e h g on_a on_b = absurd (no_turn s b e g h.0 on_b)
  same_fed (suc n) (suc k) s a b e h g on_a on_b = same_fed n k (M.turn s) a b e h.2 g.2 on_a on_b

  pub stands_once : StandsOnce M limit starts
  stands_once s a b [] f g same =
      let one = turned_count f.0 s a f.1 in
      let two = turned_count g.0 s b g.1 in
      same_turns f.0 g.0 s a b f.1 g.1 (omega (arith, one, two, same))
  stands_once s a b (e ∷ es) f g same =
      let here : f.0.now ≡ g.0.now = same_fed f.0.settles.0 g.0.settles.0 s f.0.now g.0.now e f.0.settles.1 g.0.settles.1 f.0.asks g.0.asks in
      stands_once (M.after f.0.now e) a b es f.1 (subst (λ z. Feeds M limit starts (M.after z e) es b) (sym here) g.1) same

-- the log with this number in which an entry stands
log_at : (logs : List ThreadLog) (t : ℕ) (e : Entry) → Has (entries_of logs t) e → (log : ThreadLog) × Has logs log × Has log.entries e × (log.number.0 ≡ t)
log_at [] t e h = absurd h
log_at (l ∷ ls) t e h = elim (eqb_tells l.number.0 t) [
  | inl hit ↦ (l, inl refl, subst (λ es. Has es e) (rw hit.0 refl) h, hit.1)
  | inr miss ↦ (let r = log_at ls t e (subst (λ es. Has es e) (rw miss.0 refl) h) in (r.0, inr r.1, r.2, r.3))
]

module _ (M : Machine) (counts : CountsTurns M) (limits : Limits) (main : M.State) (logs : List ThreadLog) where
  -- the first state of a child is told by the entries of its parent
  child_agrees : (f g : ℕ → M.State) (s a b : M.State) (es : List Entry) (e : Entry) (c : ℕ) → Feeds M limits.turns f s es a → Feeds M limits.turns g s es b → Has es e → child_of e ≡ Some c → f c ≡ g c
  child_agrees f g s a b [] e c u v h is = absurd h
  child_agrees f g s a b (y ∷ es) e c u v (inl same) is =
      let here : u.0.now ≡ v.0.now = same_fed M counts limits.turns f u.0.settles.0 v.0.settles.0 s u.0.now v.0.now y u.0.settles.1 v.0.settles.1 u.0.asks v.0.asks in
      let child : child_of y ≡ Some c = ap child_of same ∙ is in
      let one : StartsAs M f (Some c) (M.child u.0.now) = subst (λ o. StartsAs M f o (M.child u.0.now)) child u.0.child in
      let two : StartsAs M g (Some c) (M.child v.0.now) = subst (λ o. StartsAs M g o (M.child v.0.now)) child v.0.child in
      one ∙ ap M.child here ∙ sym two
  child_agrees f g s a b (y ∷ es) e c u v (inr h) is =
      let here : u.0.now ≡ v.0.now = same_fed M counts limits.turns f u.0.settles.0 v.0.settles.0 s u.0.now v.0.now y u.0.settles.1 v.0.settles.1 u.0.asks v.0.asks in
      child_agrees f g (M.after u.0.now y) a b es e c u.1 (subst (λ z. Feeds M limits.turns g (M.after z y) es b) (sym here) v.1) h is

  pub starts_agree : (r q : HasRuns M limits main logs) (t : ℕ) → IsReached logs t → r.starts t ≡ q.starts t
  starts_agree r q t is_main = r.first ∙ sym q.first
  starts_agree r q t (is_spawned spawn before stands answers) =
      let same = starts_agree r q _ before in
      let l = log_at logs _ spawn stands in
      let one = r.runs l.0 l.1 in
      let two = q.runs l.0 l.1 in
      let n = l.3 in
      let first : r.starts l.0.number.0 ≡ q.starts l.0.number.0 = ap r.starts n ∙ same ∙ ap q.starts (sym n) in
      child_agrees r.starts q.starts (r.starts l.0.number.0) one.last two.last l.0.entries spawn t one.feeds (subst (λ z. Feeds M limits.turns q.starts z l.0.entries two.last) (sym first) two.feeds) l.2 answers
