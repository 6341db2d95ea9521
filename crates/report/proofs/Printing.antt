-- What was printed needs the steps that print alone: the order of those is that of all steps.
use Rattle.std.proofs.Common.{◌≡◌, ℕ, ◌≤◌, List, [], ◌∷◌, ◌++◌, Bool, true, false, refl, sym, ap, ◌∙◌, cond, arith}
use Rattle.std.specs.Prelude.{filter, nat_le}
use Rattle.std.specs.List.{flat_map}
use Rattle.std.proofs.lemmas.Bool.Decides.{nat_tests}
use Rattle.history.specs.declared.entry.Entry.{Entry}
use Rattle.history.specs.declared.entry.Request.{Request}
use Rattle.history.specs.declared.entry.Request.TheVariants.{Print}
use Rattle.history.specs.declared.record.RunRecord.{RunRecord}
use Rattle.history.specs.Merge.{stamp_of, put_by_stamp, by_stamp}
use Rattle.history.specs.Records.{thread_entries, merged}
use Rattle.history.proofs.Order.{AllFrom, Rises, from_lower, by_stamp_rises}
use Rattle.report.specs.Report.{asks_print, is_print, print_text, print_line, prints}

-- the entries that pass a test keep their order ------------------------------------------

is_le : (a b : ℕ) → a ≤ b → nat_le a b ≡ true
is_le a b le = grind (arith, nat_tests)

le_of : (a b : ℕ) → nat_le a b ≡ true → a ≤ b
le_of a b is = grind (arith, nat_tests)

-- an entry whose stamp is no greater than the others' comes first
put_first : (e : Entry) (es : List Entry) → AllFrom (stamp_of e) es → put_by_stamp e es ≡ e ∷ es
put_first e [] low = refl
put_first e (f ∷ fs) low = rw (is_le (stamp_of e) (stamp_of f) low.0) refl

filter_from : (test : Entry → Bool) (n : ℕ) (es : List Entry) → AllFrom n es → AllFrom n (filter test es)
filter_from test n [] low = tt
filter_from test n (e ∷ es) low = by_test (test e) (filter_from test n es low.1)
  where
    by_test : (b : Bool) → AllFrom n (filter test es) → AllFrom n (cond b (e ∷ filter test es) (filter test es))
    by_test true rest = (low.0, rest)
    by_test false rest = rest

module _ (test : Entry → Bool) where
  -- the entry that is put among those that pass, if it passes
  abbrev put_passing : Entry → List Entry → List Entry
  put_passing e es = cond (test e) (put_by_stamp e es) es

  put_filtered : (e : Entry) (es : List Entry) → Rises es → filter test (put_by_stamp e es) ≡ put_passing e (filter test es)
  put_filtered e [] rises = refl
  put_filtered e (f ∷ fs) rises = by_order (put_filtered e fs rises.1) (nat_le (stamp_of e) (stamp_of f)) refl (test e) refl (test f) refl
    where
      low : nat_le (stamp_of e) (stamp_of f) ≡ true → AllFrom (stamp_of e) (filter test fs)
      low is = filter_from test (stamp_of e) fs (from_lower (stamp_of e) (stamp_of f) fs (le_of (stamp_of e) (stamp_of f) is) rises.0)

      by_order : filter test (put_by_stamp e fs) ≡ put_passing e (filter test fs) → (b : Bool) → nat_le (stamp_of e) (stamp_of f) ≡ b → (t : Bool) → test e ≡ t → (u : Bool) → test f ≡ u
          → filter test (put_by_stamp e (f ∷ fs)) ≡ put_passing e (filter test (f ∷ fs))
      by_order rest true is true ht true hu = rw (is, ht, hu, is) refl
      by_order rest true is true ht false hu = rw (is, ht, hu) (sym (put_first e (filter test fs) (low is)))
      by_order rest true is false ht u hu = rw (is, ht) refl
      by_order rest false is true ht true hu = rw (is, hu, rest, ht, is) refl
      by_order rest false is true ht false hu = rw (is, hu, rest, ht) refl
      by_order rest false is false ht true hu = rw (is, hu, rest, ht) refl
      by_order rest false is false ht false hu = rw (is, hu, rest, ht) refl

  pub by_stamp_filtered : (es : List Entry) → filter test (by_stamp es) ≡ by_stamp (filter test es)
  by_stamp_filtered [] = refl
  by_stamp_filtered (e ∷ es) = put_filtered e (by_stamp es) (by_stamp_rises es) ∙ ap (put_passing e) (by_stamp_filtered es) ∙ by_test (test e)
    where
      by_test : (b : Bool) → cond b (put_by_stamp e (by_stamp (filter test es))) (by_stamp (filter test es)) ≡ by_stamp (cond b (e ∷ filter test es) (filter test es))
      by_test true = refl
      by_test false = refl

-- the others have no line --------------------------------------------------------------------

silent : (thread : ℕ) (q : Request) → asks_print q ≡ false → print_text thread q ≡ []
silent thread (Print value) none = cc
silent thread _ none = refl

lines_kept : (es : List Entry) → flat_map print_line (filter is_print es) ≡ flat_map print_line es
lines_kept [] = refl
lines_kept (e ∷ es) = by_test (lines_kept es) (is_print e) refl
  where
    by_test : flat_map print_line (filter is_print es) ≡ flat_map print_line es → (b : Bool) → is_print e ≡ b
        → flat_map print_line (cond b (e ∷ filter is_print es) (filter is_print es)) ≡ print_line e ++ flat_map print_line es
    by_test rest true is = ap (λ (l : List ℕ). print_line e ++ l) rest
    by_test rest false is = rest ∙ ap (λ (l : List ℕ). l ++ flat_map print_line es) (sym (silent e.thread.0 e.request is))

pub prints_alone : (kept : RunRecord) → flat_map print_line (by_stamp (filter is_print (thread_entries kept))) ≡ prints kept
prints_alone kept = ap (flat_map print_line) (sym (by_stamp_filtered is_print (thread_entries kept))) ∙ lines_kept (merged kept)
