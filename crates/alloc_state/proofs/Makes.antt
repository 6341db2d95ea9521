-- An allocation is made exactly where one of its entries is a Make.
use Rattle.std.proofs.Common.{is_some, ◌≡◌, ℕ, ◌+◌, Bool, true, false, ◌||◌, List, [], ◌∷◌, Option, Some, None, refl, sym, ap, ◌∙◌, cond, count_by}
use Rattle.std.proofs.lemmas.Bool.{or_parts}
use Rattle.std.proofs.lemmas.List.Recursion.{is_count_by}
use Rattle.bsan_ids.specs.declared.numbers.Stamp.{Stamp}
use Rattle.history.specs.declared.trap.Trap.{Trap}
use Rattle.history.specs.declared.entry.Entry.{Entry}
use Rattle.history.specs.declared.entry.Request.{Request}
use Rattle.history.specs.declared.entry.Request.TheVariants.{Make, Load, Store, Modify, CmpXchg, CopyOut, CopyIn, Retag, EndProtector, Free, Print, Host, Spawn, Join}
use Rattle.history.specs.Memory.{trap_in}
use Rattle.history.specs.Objects.{Object, Made, unmade, answer, data_answer, data_unless}
use Rattle.history.specs.Histories.{replay, is_make}
use Rattle.alloc_state.specs.Prepared.{is_made_in}
use Rattle.alloc_state.specs.Log.{has_make}

data_stays : (number : ℕ) (m : Made) (request : Request) (trap : Option Trap) → is_made_in (data_unless (record { number = number; made = Some m }) m request trap).object ≡ true
data_stays number m request (Some trap) = refl
data_stays number m request None = refl

-- a request that is no Make leaves what is made made, and nothing else
stays : (number : ℕ) (made : Option Made) (request : Request) → is_made_in (data_answer (record { number = number; made = made }) made request).object ≡ is_some made
stays number None request = refl
stays number (Some m) request = data_stays number m request (trap_in m.memory request)

or_false : (b : Bool) → b ≡ (b || false)
or_false true = refl
or_false false = refl

answer_makes : (number : ℕ) (made : Option Made) (request : Request) (stamp : Stamp) → is_made_in (answer (record { number = number; made = made }) request stamp).object ≡ (is_make request || is_some made)
answer_makes number made (Make size place) stamp = refl
answer_makes number None (Retag at len kind guard prov) stamp = refl
answer_makes number (Some m) (Retag at len kind guard prov) stamp = refl
answer_makes number None (EndProtector tag) stamp = refl
answer_makes number (Some m) (EndProtector tag) stamp = refl
answer_makes number made (Load at ty prov) stamp = stays number made (Load at ty prov)
answer_makes number made (Store at ty value carried prov) stamp = stays number made (Store at ty value carried prov)
answer_makes number made (Modify at width op value prov) stamp = stays number made (Modify at width op value prov)
answer_makes number made (CmpXchg at width expected value prov) stamp = stays number made (CmpXchg at width expected value prov)
answer_makes number made (CopyOut at len prov) stamp = stays number made (CopyOut at len prov)
answer_makes number made (CopyIn at piece prov) stamp = stays number made (CopyIn at piece prov)
answer_makes number made (Free at stack prov) stamp = stays number made (Free at stack prov)
answer_makes number made (Print value) stamp = stays number made (Print value)
answer_makes number made (Host n first second) stamp = stays number made (Host n first second)
answer_makes number made (Spawn function) stamp = stays number made (Spawn function)
answer_makes number made (Join child) stamp = stays number made (Join child)

or_moves : (a b c : Bool) → ((a || b) || c) ≡ (b || (a || c))
or_moves true true c = refl
or_moves true false c = refl
or_moves false b c = refl

replay_makes : (o : Object) (entries : List Entry) → is_made_in (replay o entries) ≡ (is_made_in o || has_make entries)
replay_makes o [] = or_false (is_made_in o)
replay_makes o (e ∷ entries) =
    replay_makes (answer o e.request e.stamp).object entries
    ∙ ap (λ (b : Bool). b || has_make entries) (answer_makes o.number o.made e.request e.stamp)
    ∙ or_moves (is_make e.request) (is_made_in o) (has_make entries)

pub made_where_make : (number : ℕ) (entries : List Entry) → is_made_in (replay (unmade number) entries) ≡ has_make entries
made_where_make number entries = replay_makes (unmade number) entries

abbrev makes_in : List Entry → ℕ
makes_in [] = 0
makes_in (e ∷ entries) = cond (is_make e.request) (1 + makes_in entries) (makes_in entries)

none_counted : (entries : List Entry) → has_make entries ≡ false → makes_in entries ≡ 0
none_counted [] none = refl
none_counted (e ∷ entries) none =
    let parts = or_parts (is_make e.request) (has_make entries) none in
    simp (parts.0) (none_counted entries parts.1)

-- without a Make among them none is counted
pub none_made : (entries : List Entry) → has_make entries ≡ false → count_by (λ (e : Entry). is_make e.request) entries ≡ 0
none_made entries none = sym (is_count_by makes_in (λ (e : Entry). is_make e.request) refl (λ x xs. refl) entries) ∙ none_counted entries none
