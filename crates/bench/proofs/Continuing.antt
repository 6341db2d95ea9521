-- Calls one after another at one desk.
use Rattle.std.proofs.Common.{◌≡◌, ℕ, zero, suc, ◌+◌, ◌<◌, ◌≤◌, [], ◌∷◌, ◌++◌, append-nil, append_assoc, length-append, map, All, false, Some, Ok, Err, refl, sym, ap, ◌∙◌, subst, arith, le_refl}
use Rattle.std.specs.List.{range_with_len}
use Rattle.std.proofs.lemmas.List.{map-append}
use Rattle.std.proofs.lemmas.List.Elements.{All-nil, All-push}
use Rattle.bsan_ids.specs.declared.numbers.AllocNo.{AllocNo}
use Rattle.bsan_ids.specs.declared.numbers.NoMemory.{NoMemory}
use Rattle.bsan_ids.specs.declared.numbers.Stamp.{Stamp}
use Rattle.bsan_ids.specs.declared.numbers.ThreadNo.{ThreadNo}
use Rattle.history.specs.declared.entry.Entry.{Entry}
use Rattle.history.specs.Merge.{stamp_of}
use Rattle.history.specs.Histories.{is_make_step}
use Rattle.turn_lock.specs.Steps.{saw, called}
use Rattle.turn_lock.specs.Plays.{DeskView}
use Rattle.bench.specs.Journals.{Answers, Calls}

-- the numbers from a on, with one more at the end
counted_more : (a n j : ℕ) → a + n ≡ j → range_with_len a (suc n) ≡ range_with_len a n ++ j ∷ []
counted_more a zero j e = let same : a ≡ j = omega arith in ap (λ k. k ∷ []) same
counted_more a (suc n) j e = ap (λ l. a ∷ l) (counted_more (a + 1) n j (omega arith))

site_more : (n site : ℕ) → site ≡ n → range_with_len 0 n ++ site ∷ [] ≡ range_with_len 0 (n + 1)
site_more n site e = let on : suc n ≡ n + 1 = omega arith in sym (counted_more 0 n site (omega arith)) ∙ ap (range_with_len 0) on

module _ (thread : ThreadNo) (alloc : AllocNo) where
  pub no_calls : (d : DeskView) → Calls thread alloc 0 d d
  no_calls d = record {
    more = [];
    seen = d.view.seen;
    many = refl;
    desk = λ i. record {
      table = d.table;
      view = record d.view { stamps = record { own = sym (append-nil d.view.stamps.own) i; joined = d.view.stamps.joined }; calls = sym (append-nil d.view.calls) i };
    };
    grows = le_refl _;
    later = All-nil _;
    reached = All-nil _;
    threads = All-nil _;
    allocs = All-nil _;
    sites = refl;
    no_makes = All-nil _;
  }

  pub call_made : (n : ℕ) (stamp : Stamp) (old mid new : DeskView) → Calls thread alloc n old mid → Answers thread n alloc mid new (Ok stamp) → Calls thread alloc (n + 1) old new
  call_made n stamp old mid new r made =
      let e : Entry = made.0 in
      let above : mid.view.seen < stamp_of e = subst (λ (s : Stamp). mid.view.seen < s.0) (sym made.1.stamp_is) made.2 in
      let reached : mid.view.seen ≡ r.seen = ap (λ d. d.view.seen) r.desk in
      let own : (old.view.stamps.own ++ map stamp_of r.more) ++ stamp_of e ∷ [] ≡ old.view.stamps.own ++ map stamp_of (r.more ++ e ∷ []) =
      append_assoc old.view.stamps.own (map stamp_of r.more) (stamp_of e ∷ []) ∙ ap (λ l. old.view.stamps.own ++ l) (sym (map-append stamp_of r.more (e ∷ []))) in
      let after : (d : DeskView) → DeskView = λ d. record { table = d.table; view = called d.view e } in
      record {
        more = r.more ++ e ∷ [];
        seen = stamp_of e;
        many = let a = r.many in let b = length-append r.more (e ∷ []) in omega arith;
        desk = made.3 ∙ (ap after r.desk ∙ (λ i. record {
          table = old.table;
          view = record old.view { stamps = record { own = own i; joined = old.view.stamps.joined }; seen = stamp_of e; calls = append_assoc old.view.calls r.more (e ∷ []) i };
        }));
        grows = let a = r.grows in omega arith;
        later = All-push (λ (f : Entry). old.view.seen < stamp_of f) r.more e r.later (let a = r.grows in omega arith);
        reached = All-push (λ (f : Entry). stamp_of f ≤ stamp_of e) r.more e (λ k d lt. let a = r.reached k d lt in omega arith) (le_refl _);
        threads = All-push (λ (f : Entry). f.thread ≡ thread) r.more e r.threads made.1.thread_is;
        allocs = All-push (λ (f : Entry). f.alloc ≡ Some alloc) r.more e r.allocs made.1.alloc_is;
        sites = map-append (λ (f : Entry). f.site) r.more (e ∷ []) ∙ (ap (λ l. l ++ e.site ∷ []) r.sites ∙ site_more n e.site made.1.site_is);
        no_makes = All-push (λ (f : Entry). is_make_step f ≡ false) r.more e r.no_makes made.1.no_make;
      }

  pub call_refused : (n site : ℕ) (why : NoMemory) (old mid new : DeskView) → Calls thread alloc n old mid → Answers thread site alloc mid new (Err why) → Calls thread alloc n old new
  call_refused n site why old mid new r refused =
      let reached : mid.view.seen ≡ r.seen = ap (λ d. d.view.seen) r.desk in
      let after : (d : DeskView) → DeskView = λ d. record { table = d.table; view = saw d.view refused.0 } in
      let more = refused.1 in
      record {
        more = r.more;
        seen = refused.0;
        many = r.many;
        desk = refused.2 ∙ ap after r.desk;
        grows = let a = r.grows in omega arith;
        later = r.later;
        reached = λ k d lt. let a = r.reached k d lt in omega arith;
        threads = r.threads;
        allocs = r.allocs;
        sites = r.sites;
        no_makes = r.no_makes;
      }

  -- after a call whose stamp is at most the limit the desk may draw again
  pub room_left : (limit site : ℕ) (stamp : Stamp) (mid new : DeskView) → All (λ n. n ≤ limit) mid.view.stamps.own → Answers thread site alloc mid new (Ok stamp) → stamp.0 ≤ limit → All (λ n. n ≤ limit) new.view.stamps.own
  room_left limit site stamp mid new room made within =
      let small : stamp_of made.0 ≤ limit = subst (λ (s : Stamp). s.0 ≤ limit) (sym made.1.stamp_is) within in
      subst (λ (d : DeskView). All (λ n. n ≤ limit) d.view.stamps.own) (sym made.3) (All-push (λ n. n ≤ limit) mid.view.stamps.own (stamp_of made.0) room small)
