-- What a command's matches make of its words.
use Rattle.std.proofs.Common.{◌≡◌, Bool, false, cond, List, [], ◌∷◌, map, Option, Some, None, option_map, refl, sym, ap, ◌∙◌, codes}
use Rattle.std.specs.Prelude.{slice_get}
use Rattle.std.specs.Str.{bytes_eq}
use Rattle.std.specs.Cmp.Lexicographic.{bytes_decides}
use Rattle.std.proofs.lemmas.Bool.{false_from_ne_true}
use Rattle.clap.specs.Words.{App, Row, Text, Kinds, matches_of}
use Rattle.clap.specs.Faults.{fault_of}
use Rattle.command_words.specs.Jobs.{Job, unless_fault, said_by, file_by, solo_by, native_by, load_by, scheduled_by, recheck_by, hush_by, job_of}
use Rattle.command_words.specs.Jobs.Job.{Check, Instrument, Replay, Run, Load, Races, Record, Recheck, Hush, Explain}
use Rattle.command_words.specs.Commands.{Takes}

unless_none : {A : Type 0} (kinds : Kinds) (answer : Option A) → kinds ≡ [] → unless_fault kinds answer ≡ answer
unless_none kinds answer none = ap (λ (k : Kinds). unless_fault k answer) none

unless_some : {A : Type 0} (kinds : Kinds) (answer : Option A) → (kinds ≡ [] → ⊥) → unless_fault kinds answer ≡ None
unless_some [] answer some = absurd (some refl)
unless_some (kind ∷ kinds) answer some = refl

-- words that clap takes say what its matches do
taken : {A : Type 0} (app : App) (says : List Row → Option A) (words : List Text) (rows : List Row) → Takes app words → rows ≡ matches_of app words
    → said_by app says words ≡ says rows
unfolding said_by
taken app says words rows takes are = unless_none (fault_of app words) (says (matches_of app words)) takes ∙ ap says (sym are)

-- words that clap refuses say nothing
refused : {A : Type 0} (app : App) (says : List Row → Option A) (words : List Text) → (Takes app words → ⊥) → said_by app says words ≡ None
unfolding said_by
refused app says words differ = unless_some (fault_of app words) (says (matches_of app words)) differ

-- the same at a command that was built
pub taken_at : {A : Type 0} (app made : App) (says : List Row → Option A) (words : List Text) (rows : List Row) → made ≡ app → Takes made words → rows ≡ matches_of made words
    → said_by app says words ≡ says rows
taken_at app made says words rows is takes are = ap (λ (a : App). said_by a says words) (sym is) ∙ taken made says words rows takes are

pub refused_at : {A : Type 0} (app made : App) (says : List Row → Option A) (words : List Text) → made ≡ app → (Takes made words → ⊥) → said_by app says words ≡ None
refused_at app made says words is differ = ap (λ (a : App). said_by a says words) (sym is) ∙ refused made says words differ

-- ---- words whose first is no command's name
differs : (n m : Text) → (n ≡ m → ⊥) → bytes_eq n m ≡ false
differs n m ne = false_from_ne_true (bytes_eq n m) (λ e. ne ((bytes_decides n m).0 e))

-- the next name is another one
next : (other : Bool) (x rest : Option Job) → other ≡ false → rest ≡ None → cond other x rest ≡ None
next other x rest is none = rw is none

-- none of the commands has this name
pub record IsUnnamed (name : Text) : Type 0 where
  pub not_check : name ≡ codes "check" → ⊥
  pub not_instrument : name ≡ codes "instrument" → ⊥
  pub not_solo : name ≡ codes "solo" → ⊥
  pub not_replay : name ≡ codes "replay" → ⊥
  pub not_run : name ≡ codes "run" → ⊥
  pub not_load : name ≡ codes "load" → ⊥
  pub not_races : name ≡ codes "races" → ⊥
  pub not_record : name ≡ codes "record" → ⊥
  pub not_recheck : name ≡ codes "recheck" → ⊥
  pub not_hush : name ≡ codes "hush" → ⊥
  pub not_explain : name ≡ codes "explain" → ⊥

unnamed : (name : Text) (rest : List Text) → IsUnnamed name → job_of (name ∷ rest) ≡ None
unfolding job_of
unnamed name rest none =
    next (bytes_eq name (codes "check")) (option_map Check (file_by (codes "check") (name ∷ rest))) _ (differs name (codes "check") none.not_check)
    (next (bytes_eq name (codes "instrument")) (option_map Instrument (file_by (codes "instrument") (name ∷ rest))) _ (differs name (codes "instrument") none.not_instrument)
    (next (bytes_eq name (codes "solo")) (option_map Replay (solo_by (name ∷ rest))) _ (differs name (codes "solo") none.not_solo)
    (next (bytes_eq name (codes "replay")) (option_map Replay (scheduled_by (codes "replay") (name ∷ rest))) _ (differs name (codes "replay") none.not_replay)
    (next (bytes_eq name (codes "run")) (option_map Run (native_by (codes "run") (name ∷ rest))) _ (differs name (codes "run") none.not_run)
    (next (bytes_eq name (codes "load")) (option_map Load (load_by (name ∷ rest))) _ (differs name (codes "load") none.not_load)
    (next (bytes_eq name (codes "races")) (option_map Races (scheduled_by (codes "races") (name ∷ rest))) _ (differs name (codes "races") none.not_races)
    (next (bytes_eq name (codes "record")) (option_map Record (native_by (codes "record") (name ∷ rest))) _ (differs name (codes "record") none.not_record)
    (next (bytes_eq name (codes "recheck")) (option_map Recheck (recheck_by (name ∷ rest))) _ (differs name (codes "recheck") none.not_recheck)
    (next (bytes_eq name (codes "hush")) (option_map Hush (hush_by (name ∷ rest))) _ (differs name (codes "hush") none.not_hush)
    (next (bytes_eq name (codes "explain")) (option_map Explain (scheduled_by (codes "explain") (name ∷ rest))) None (differs name (codes "explain") none.not_explain) refl))))))))))

pub no_command : {A : Type 0} (text : A → Text) (words : List A) (first : A) (name : Text) → (let o : Option A = Some first in o) ≡ slice_get words 0 → name ≡ text first
    → IsUnnamed name → job_of (map text words) ≡ None
no_command text [] first name e is none = absurd cc
no_command text (w ∷ words) first name e is none =
    let same : first ≡ w = cc in
    let named : name ≡ text w = is ∙ ap text same in
    ap (λ (t : Text). job_of (t ∷ map text words)) (sym named) ∙ unnamed name (map text words) none
