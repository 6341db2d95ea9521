-- A thread's run goes on by a local turn, and by an entry.
use Rattle.std.proofs.Common.{◌≡◌, ℕ, zero, suc, List, [], ◌∷◌, ◌++◌, refl, sym, ◌∙◌, ap, subst, inl, inr}
use Rattle.std.specs.Prelude.{Some, None}
use Rattle.std.specs.declared.option.Option.{Option}
use Rattle.history.specs.declared.ask.Ask.TheVariants as ask
use Rattle.history.specs.declared.entry.Entry.{Entry}
use Rattle.runs.specs.Parts.{Has, Answers, child_of}
use Rattle.runs.specs.Machine.{Machine, MayGoOn, TurnsWithin, SettlesWithin}
use Rattle.bsan_ids.specs.declared.numbers.Limits.{Limits}
use Rattle.history.specs.declared.log.ThreadLog.{ThreadLog}
use Rattle.runs.specs.Threads.{Feeds, StartsAs, IsThreadRun}

pub turns_one_more : (M : Machine) (limit n : ℕ) (s t : M.State) → TurnsWithin M limit n s t → M.ask t ≡ ask.Turn → MayGoOn M limit t → TurnsWithin M limit (suc n) s (M.turn t)
turns_one_more M limit zero s t h asks may =
    let asked : M.ask s ≡ ask.Turn = subst (λ x. M.ask x ≡ ask.Turn) (sym h) asks in
    (asked, subst (λ x. MayGoOn M limit x) (sym h) may, ap M.turn h)
turns_one_more M limit (suc n) s t h asks may = (h.0, h.1, turns_one_more M limit n (M.turn s) t h.2 asks may)

pub settles_one_more : (M : Machine) (limit : ℕ) (s t : M.State) → SettlesWithin M limit s t → M.ask t ≡ ask.Turn → MayGoOn M limit t → SettlesWithin M limit s (M.turn t)
settles_one_more M limit s t h asks may = (suc h.0, turns_one_more M limit h.0 s t h.1 asks may)

-- a local turn
pub feeds_turn : (M : Machine) (limit : ℕ) (starts : ℕ → M.State) (s t : M.State) (es : List Entry)
    → Feeds M limit starts s es t → M.ask t ≡ ask.Turn → MayGoOn M limit t → Feeds M limit starts s es (M.turn t)
feeds_turn M limit starts s t [] h asks may = settles_one_more M limit s t h asks may
feeds_turn M limit starts s t (e ∷ es) h asks may = (h.0, feeds_turn M limit starts (M.after h.0.now e) t es h.1 asks may)

-- an entry
pub feeds_entry : (M : Machine) (limit : ℕ) (starts : ℕ → M.State) (s t : M.State) (es : List Entry) (e : Entry)
    → Feeds M limit starts s es t → MayGoOn M limit t → M.site t ≡ e.site → Answers (M.ask t) e → M.fits t e → StartsAs M starts (child_of e) (M.child t)
    → Feeds M limit starts s (es ++ e ∷ []) (M.after t e)
feeds_entry M limit starts s t [] e h may site asks fits child =
    (record { now = t; settles = h; may = may; site = site; asks = asks; fits = fits; child = child }, (0, refl))
feeds_entry M limit starts s t (x ∷ xs) e h may site asks fits child =
    (h.0, feeds_entry M limit starts (M.after h.0.now x) t xs e h.1 may site asks fits child)

pub starts_agree : (M : Machine) (starts others : ℕ → M.State) (c : Option ℕ) (s : M.State) → ((t : ℕ) → c ≡ Some t → starts t ≡ others t) → StartsAs M starts c s → StartsAs M others c s
starts_agree M starts others None s same h = tt
starts_agree M starts others (Some c) s same h = sym (same c refl) ∙ h

-- what is said of other threads' first states speaks of the children in the log alone
pub feeds_agree : (M : Machine) (limit : ℕ) (starts others : ℕ → M.State) (s t : M.State) (es : List Entry)
    → ((e : Entry) (c : ℕ) → Has es e → child_of e ≡ Some c → starts c ≡ others c)
    → Feeds M limit starts s es t → Feeds M limit others s es t
feeds_agree M limit starts others s t [] same h = h
feeds_agree M limit starts others s t (e ∷ es) same h =
    let f = h.0 in (
      record {
        now = f.now;
        settles = f.settles;
        may = f.may;
        site = f.site;
        asks = f.asks;
        fits = f.fits;
        child = starts_agree M starts others (child_of e) (M.child f.now) (λ c is. same e c (inl refl) is) f.child;
      },
      feeds_agree M limit starts others (M.after f.now e) t es (λ x c g is. same x c (inr g) is) h.1,
    )

pub turns_within_more : (M : Machine) (limit n k : ℕ) (a b c : M.State) → TurnsWithin M limit n a b → TurnsWithin M limit k b c → SettlesWithin M limit a c
turns_within_more M limit zero k a b c h g = (k, subst (λ x. TurnsWithin M limit k x c) (sym h) g)
turns_within_more M limit (suc n) k a b c h g = let r = turns_within_more M limit n k (M.turn a) b c h.2 g in (suc r.0, (h.0, h.1, r.1))

-- some local turns
pub feeds_settled : (M : Machine) (limit : ℕ) (starts : ℕ → M.State) (s t u : M.State) (es : List Entry)
    → Feeds M limit starts s es t → SettlesWithin M limit t u → Feeds M limit starts s es u
feeds_settled M limit starts s t u [] h g = turns_within_more M limit h.0 g.0 s t u h.1 g.1
feeds_settled M limit starts s t u (e ∷ es) h g = (h.0, feeds_settled M limit starts (M.after h.0.now e) t u es h.1 g)

-- a log's run under other first states that agree on it and on its children: so a child's tree is joined to its parent's
pub run_agree : (M : Machine) (limits : Limits) (starts others : ℕ → M.State) (log : ThreadLog)
    → starts log.number.0 ≡ others log.number.0
    → ((e : Entry) (c : ℕ) → Has log.entries e → child_of e ≡ Some c → starts c ≡ others c)
    → IsThreadRun M limits starts log → IsThreadRun M limits others log
run_agree M limits starts others log same agree r =
    let F : M.State → Type 0 = λ s. Feeds M limits.turns others s log.entries r.last in
    record {
      last = r.last;
      own = r.own;
      rises = r.rises;
      feeds = subst F same (feeds_agree M limits.turns starts others (starts log.number.0) r.last log.entries agree r.feeds);
      «end» = r.«end»;
      count = r.count;
      site = r.site;
    }
