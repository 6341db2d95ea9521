-- A run goes on by an event, and each beginning of a run is a run.
use Rattle.std.proofs.Common.{◌≡◌, List, [], ◌∷◌, ◌++◌, refl}
use Rattle.history.specs.declared.entry.Entry.{Entry}
use Rattle.runs.specs.Machine.{Machine, Memory}
use Rattle.runs.specs.Interleaving.{World, world_after, Allowed, Event, Interleaves, last_world}

pub run_more : (M : Machine) (O : Memory) (A : Allowed) (w : World M O) (es : List Entry) (e : Entry)
    → (run : Interleaves M O A w es) → Event M O A (last_world M O A w es run) e → Interleaves M O A w (es ++ e ∷ [])
run_more M O A w [] e run v = (v, tt)
run_more M O A w (x ∷ xs) e run v = (run.0, run_more M O A (world_after M O w run.0.now x) xs e run.1 v)

pub last_world_more : (M : Machine) (O : Memory) (A : Allowed) (w : World M O) (es : List Entry) (e : Entry)
    → (run : Interleaves M O A w es) → (v : Event M O A (last_world M O A w es run) e)
    → last_world M O A w (es ++ e ∷ []) (run_more M O A w es e run v) ≡ world_after M O (last_world M O A w es run) v.now e
unfolding run_more
last_world_more M O A w [] e run v = refl
last_world_more M O A w (x ∷ xs) e run v = last_world_more M O A (world_after M O w run.0.now x) xs e run.1 v

pub prefix_runs : (M : Machine) (O : Memory) (A : Allowed) (w : World M O) (es fs : List Entry) → Interleaves M O A w (es ++ fs) → Interleaves M O A w es
prefix_runs M O A w [] fs run = tt
prefix_runs M O A w (x ∷ xs) fs run = (run.0, prefix_runs M O A (world_after M O w run.0.now x) xs fs run.1)
