-- What a register holds, as the events come.
use Rattle.std.proofs.Common.{◌≡◌, ℕ, suc, ◌+◌, ◌<◌, Bool, true, false, cond, List, [], ◌∷◌, ◌++◌, length, take, get_or, Option, Some, None, refl, sym, ap, ◌∙◌, arith, bytes_eq}
use Rattle.std.proofs.Math.Seq.{take-suc}
use Rattle.std.proofs.lemmas.List.{map-append}
use Rattle.std.specs.Option.{option_map}
use Rattle.ir_rules.specs.Occurrences.{Holds, Event}
use Rattle.ir_rules.specs.Occurrences.Event.{defines, uses}
use Rattle.ir_rules.specs.Rules.{held}
use Rattle.ir_rules.specs.Seen.{seen, event_of, event_by, holds_of}
use Rattle.ir_rules.specs.declared.events.Role.TheVariants.{Defines, Uses}
use Rattle.ir_rules.specs.declared.rule.Wanted.{Wanted}
use Rattle.ir_rules.specs.declared.events.Held.{Held}
use Rattle.ir_rules.specs.declared.events.Occurrence.{Occurrence}
use Rattle.ir_rules.specs.Walk.{or_first}

-- what one more event changes
abbrev pub held_after : Option Holds → Event → List ℕ → Option Holds
held_after o (defines d h) q = or_first o (bytes_eq q d.name) h
held_after o (uses u) q = o

held_pick : (b c : Bool) (h k : Holds) (o : Option Holds) (o' : Option Holds) → o' ≡ or_first o c k → cond b (Some h) o' ≡ or_first (cond b (Some h) o) c k
held_pick true c h k o o' e = refl
held_pick false c h k o o' e = e

held_pick_use : (b : Bool) (h : Holds) (o o' : Option Holds) → o' ≡ o → cond b (Some h) o' ≡ cond b (Some h) o
held_pick_use b h o o' e = ap (cond b (Some h)) e

held_one : (b : Bool) (h : Holds) → cond b (Some h) None ≡ or_first None b h
held_one true h = refl
held_one false h = refl

held_last : (es : List Event) (e : Event) (q : List ℕ) → held (es ++ e ∷ []) q ≡ held_after (held es q) e q
held_last [] (defines d h) q = held_one (bytes_eq q d.name) h
held_last [] (uses u) q = refl
held_last (uses u ∷ es) e q = held_last es e q
held_last (defines d k ∷ es) (defines c h) q = held_pick (bytes_eq q d.name) (bytes_eq q c.name) k h (held es q) (held (es ++ defines c h ∷ []) q) (held_last es (defines c h) q)
held_last (defines d k ∷ es) (uses u) q = held_pick_use (bytes_eq q d.name) k (held es q) (held (es ++ uses u ∷ []) q) (held_last es (uses u) q)

pub held_next : (os : List Occurrence) (i : ℕ) (d : Occurrence) (q : List ℕ) → i < length os → held (seen (take (i + 1) os)) q ≡ held_after (held (seen (take i os)) q) (event_of (get_or os i d)) q
held_next os i d q lt =
    let one : i + 1 ≡ suc i = omega arith in
    let more : take (i + 1) os ≡ take i os ++ get_or os i d ∷ [] = ap (λ (n : ℕ). take n os) one ∙ take-suc os i d lt in
    ap (λ (z : List Occurrence). held (seen z) q) more ∙ ap (λ (z : List Event). held z q) (map-append event_of (take i os) (get_or os i d ∷ [])) ∙ held_last (seen (take i os)) (event_of (get_or os i d)) q

-- what is put into the table under a name that has nothing yet
pub held_first : (o o' : Option Held) (b : Bool) (h : Held) → o' ≡ or_first o b h → option_map holds_of o' ≡ or_first (option_map holds_of o) b (holds_of h)
held_first (Some k) o' b h e = ap (option_map holds_of) e
held_first None o' true h e = ap (option_map holds_of) e
held_first None o' false h e = ap (option_map holds_of) e

pub step_defines : (os : List Occurrence) (i : ℕ) (d : Occurrence) (m m' : List ℕ → Option Holds) (h : Held) → i < length os → ((q : List ℕ) → m q ≡ held (seen (take i os)) q) → (get_or os i d).role ≡ Defines h
    → ((q : List ℕ) → m' q ≡ or_first (m q) (bytes_eq q (get_or os i d).register.now.name) (holds_of h)) → (q : List ℕ) → m' q ≡ held (seen (take (i + 1) os)) q
step_defines os i d m m' h lt so_far is new q =
    let o = get_or os i d in
    let event : event_of o ≡ defines o.register.now (holds_of h) = ap (event_by o.register.now) is in
    new q ∙ ap (λ (z : Option Holds). or_first z (bytes_eq q o.register.now.name) (holds_of h)) (so_far q)
    ∙ sym (held_next os i d q lt ∙ ap (λ (z : Event). held_after (held (seen (take i os)) q) z q) event)

pub step_uses : (os : List Occurrence) (i : ℕ) (d : Occurrence) (m : List ℕ → Option Holds) (w : Wanted) → i < length os → ((q : List ℕ) → m q ≡ held (seen (take i os)) q) → (get_or os i d).role ≡ Uses w
    → (q : List ℕ) → m q ≡ held (seen (take (i + 1) os)) q
step_uses os i d m w lt so_far is q =
    let o = get_or os i d in
    let event : event_of o ≡ uses (record { reg = o.register.now; wanted = w }) = ap (event_by o.register.now) is in
    so_far q ∙ sym (held_next os i d q lt ∙ ap (λ (z : Event). held_after (held (seen (take i os)) q) z q) event)
