-- What each step makes of a view.
use Rattle.std.specs.Prelude.{ℕ, max, List, [], ◌∷◌, ◌++◌, length, drop, Option, Some, None}
use Rattle.bsan_ids.specs.Lists.{without}
use Rattle.history.specs.declared.entry.Entry.{Entry}
use Rattle.turn_lock.specs.declared.view.HeldTurn.{HeldTurn}
use Rattle.turn_lock.specs.declared.view.Drawn.{Drawn}
use Rattle.turn_lock.specs.declared.view.View.{View}
use Rattle.history.specs.Merge.{stamp_of}
use Rattle.turn_lock.specs.Weights.{latest}
use Rattle.turn_lock.specs.Rule.{newcomer}

abbrev pub draws : Drawn → ℕ → Drawn
draws d n = record { own = d.own ++ n ∷ []; joined = d.joined }

-- a stamp that is drawn while a turn is held
abbrev pub since_turn : ℕ → Option HeldTurn → Option HeldTurn
since_turn n None = None
since_turn n (Some t) = Some (record { slot = t.slot; taken = t.taken; since = t.since ++ n ∷ [] })

abbrev pub drew_stamp : View → ℕ → View
drew_stamp v n = record v { stamps = draws v.stamps n; seen = n; turn = since_turn n v.turn }

abbrev pub drew_alloc : View → ℕ → View
drew_alloc v n = record v { allocs = draws v.allocs n }

abbrev pub drew_thread : View → ℕ → View
drew_thread v n = record v { threads = draws v.threads n }

-- the name of a desk that is split from it is out
abbrev pub parted : View → ℕ → View
parted v n = record v { outs = v.outs ++ n ∷ [] }

-- that desk: it has seen what its maker has seen, and is told what its maker called or was told
abbrev pub child_of : View → ℕ → View
child_of v n = newcomer n v.seen (v.told ++ v.calls)

-- A split is two steps, since the table's own step of a split reads the view alone: the first step leaves the name in the view.
abbrev pub chose : View → ℕ → View
chose v n = record v { next = n }

abbrev pub split_left : View → View
split_left v = record v { outs = v.outs ++ v.next ∷ []; next = 0 }

abbrev pub split_right : View → View
split_right v = child_of v v.next

abbrev pub gathers : Drawn → Drawn → Drawn
gathers d e = record { own = d.own; joined = d.joined ++ (e.own ++ e.joined) }

abbrev pub joins : View → View → View
joins v u = record v {
  outs = without u.name v.outs;
  joined = v.joined ++ (u.name ∷ u.joined);
  stamps = gathers v.stamps u.stamps;
  allocs = gathers v.allocs u.allocs;
  threads = gathers v.threads u.threads;
  seen = max v.seen u.seen;
  calls = v.calls ++ u.calls;
}

abbrev pub held_turn : ℕ → List Entry → HeldTurn
held_turn k taken = record { slot = k; taken = taken; since = [] }

-- a turn is taken, of the slot k, whose value has these entries
abbrev pub took : View → ℕ → List Entry → View
took v k es = record v { seen = max v.seen (latest es); turn = Some (held_turn k es) }

-- what the value has beyond the entries that it was taken with
abbrev pub beyond : Option HeldTurn → List Entry → List Entry
beyond None es = []
beyond (Some t) es = drop (length t.taken) es

abbrev pub gave : View → List Entry → View
gave v es = record v { calls = v.calls ++ beyond v.turn es; turn = None }

-- A turn that was taken and given back leaves one of these.

-- the desk has seen more, and all else stays
abbrev pub saw : View → ℕ → View
saw v n = record v { seen = n }

-- it drew this entry's stamp and made this call
abbrev pub called : View → Entry → View
called v e = record v { stamps = draws v.stamps (stamp_of e); seen = stamp_of e; calls = v.calls ++ e ∷ [] }
