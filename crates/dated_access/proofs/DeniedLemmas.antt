-- The first denial at a byte, and on a span.
use Rattle.std.proofs.Common.{◌≡◌, ◌⊎◌, inl, inr, ℕ, zero, suc, ◌+◌, ◌-◌, ◌*◌, ◌<◌, ◌≤◌, ◌==◌, ◌++◌, nat_lt, Bool, true, false, cond, List, [], ◌∷◌, length, Option, Some, None, is_some, refl, sym, ap, subst, ◌∙◌, arith, length-append}
use Rattle.std.proofs.lemmas.Bool.{cases_lt, cases_eq, ne_eqb}
use Rattle.std.proofs.lemmas.Bool.Decides.{nat_tests}
use Rattle.std.proofs.lemmas.List.{get_or_default}
use Rattle.bsan_ids.specs.declared.numbers.Span.{Span}
use Rattle.perm_table.specs.declared.Kind.{Kind}
use Rattle.perm_table.specs.declared.Guard.{Guard}
use Rattle.perm_table.specs.declared.Guard.TheVariants.{Free, Weak, Strong}
use Rattle.perm_table.specs.Table.{is_protected}
use Rattle.dated_tree.specs.declared.node.Slot.{Slot}
use Rattle.dated_tree.specs.Shape.{Shape, node_at, slot_at}
use Rattle.eager_tree.specs.declared.node.Cell.{Cell}
use Rattle.dated_tree.specs.Dates.{last, seen_within, seen_below, seen, IsAsMet}
use Rattle.dated_tree.specs.Eager.{eager_cell, cell_of}
use Rattle.dated_tree.specs.Path.{is_on_path}
use Rattle.dated_tree.specs.Meet.{is_refused, kept_cell}
use Rattle.dated_tree.specs.Kept.{IsSound}
use Rattle.std.proofs.Math.Nat.{mul-le-mul_right, add-mul}
use Rattle.dated_tree.specs.Stored.{AreStored}
use Rattle.dated_tree.proofs.MeetLemmas.{kept-cell}
use Rattle.dated_tree.proofs.WholeLemmas.{path-or-guard}
use Rattle.dated_access.specs.Path.{entry, IsPathTo}
use Rattle.dated_access.specs.Change.{AreOthers}
use Rattle.dated_access.specs.Others.{IsRising}
use Rattle.dated_access.specs.Denial.{refuses_local, refuses_foreign, perm_at, kept_perm, IsFirstOf, FindsFirst}
use Rattle.dated_access.specs.declared.denial.Found.{Found}
use Rattle.dated_access.specs.declared.denied.Denial.{Denial}
use Rattle.dated_access.specs.Denied.{refuses, NoneRefuses, IsLeastAt, FindsLeast, FindsFirstOn, lesser, denial_by}
use Rattle.dated_access.specs.Pieces.{count, is_cut, pieces, IsPiece, piece_start, ArePieces}
use Rattle.dated_access.proofs.ChangeLemmas.{rising-way, seen-alike}
use Rattle.dated_access.proofs.DenialLemmas.{seen-next}
use Rattle.std.proofs.Math.ListN.{get_or-append}
use Rattle.std.proofs.Math.Seq.{get_or-append_seam}

pub stored-of : (t : Shape) → IsSound t → AreStored t.size t.nodes
stored-of t h = record {
  parent = λ place some stored. (h.nodes place some stored).parent;
  sized = λ place some stored. (h.nodes place some stored).sized;
}

pub by-false : (b : Bool) → (b ≡ true → ⊥) → b ≡ false
by-false true h = absurd (h refl)
by-false false h = refl

both : (b : Bool) → b ≡ true → b ≡ false → ⊥
both true e f = cc
both false e f = cc

not-free : (guard : Guard) → guard ≡ Free → is_protected guard ≡ true → ⊥
not-free Free e p = cc
not-free Weak e p = cc
not-free Strong e p = cc

-- on the path a node denies the access as a local one
pub refuses-on : (t : Shape) (x : ℕ) (kind : Kind) (b place : ℕ) → is_on_path t.nodes x place ≡ true → refuses t x kind b place ≡ refuses_local t kind b place
refuses-on t x kind b place on = ap (λ l. is_refused (Some kind) l (node_at t.nodes place).guard (cell_of t place b)) on

-- a guarded node has met all
pub guarded-cell : (t : Shape) (b place : ℕ) → IsSound t → 1 ≤ place → place ≤ length t.nodes → b < t.size → is_protected (node_at t.nodes place).guard ≡ true → cell_of t place b ≡ kept_cell (slot_at t.nodes place b)
guarded-cell t b place h some stored in_size protected =
    kept-cell (seen t place b) (slot_at t.nodes place b) (elim (h.slots place b some stored in_size).guard [ inl free ↦ absurd (not-free _ free protected) | inr met ↦ met ])

pub refuses-off : (t : Shape) (x : ℕ) (kind : Kind) (b place : ℕ) → IsSound t → 1 ≤ place → place ≤ length t.nodes → b < t.size → is_on_path t.nodes x place ≡ false → is_protected (node_at t.nodes place).guard ≡ true → refuses t x kind b place ≡ refuses_foreign t kind b place
refuses-off t x kind b place h some stored in_size off protected =
    ap (λ l. is_refused (Some kind) l (node_at t.nodes place).guard (cell_of t place b)) off
    ∙ ap (is_refused (Some kind) false (node_at t.nodes place).guard) (guarded-cell t b place h some stored in_size protected)

-- a node that denies is in one of the two lists
pub record InList (t : Shape) (x : ℕ) (kind : Kind) (b place : ℕ) (path others : List ℕ) : Type 0 where
  pub place_in : ((k : ℕ) × (k < length path) × (entry path k ≡ place) × (refuses_local t kind b place ≡ true)) ⊎ ((k : ℕ) × (k < length others) × (entry others k ≡ place) × (refuses_foreign t kind b place ≡ true))

pub in-list : (t : Shape) (x : ℕ) (kind : Kind) (b place : ℕ) (path others : List ℕ) → IsSound t → b < t.size → IsPathTo t.nodes x path → AreOthers t x others → 1 ≤ place → place ≤ length t.nodes → refuses t x kind b place ≡ true → InList t x kind b place path others
in-list t x kind b place path others h in_size p o some stored r = by (is_on_path t.nodes x place) refl
  where
    by : (l : Bool) → is_on_path t.nodes x place ≡ l → InList t x kind b place path others
    by true on =
        let c = p.whole place some on in
        record { place_in = inl (c.0, c.1, get_or_default path c.0 0 place c.1 ∙ c.2, sym (refuses-on t x kind b place on) ∙ r) }
    by false off =
        let protected : is_protected (node_at t.nodes place).guard ≡ true = elim (path-or-guard t x (λ _. Some kind) place b r) [ inl on ↦ absurd (both _ on off) | inr guarded ↦ guarded ] in
        let c = o.whole place some stored off protected in
        record { place_in = inr (c.0, c.1, get_or_default others c.0 0 place c.1 ∙ c.2, sym (refuses-off t x kind b place h some stored in_size off protected) ∙ r) }

-- the first of rising places is the least
first-least : (refuse : ℕ → Bool) (perm : ℕ → _) (places : List ℕ) (found : Found) (k place : ℕ) → IsRising places → IsFirstOf refuse perm places found → k < length places → entry places k ≡ place → refuse place ≡ true → found.place ≤ place
first-least refuse perm places found k place rising f lt e r =
    elim (cases_lt k f.at) [
      | inl before ↦ absurd (both _ (ap refuse e ∙ r) (f.first k before))
      | inr after ↦ elim (cases_eq f.at k) [
        | inl same ↦ (let here = f.here in let eq : entry places f.at ≡ entry places k = ap (entry places) same in omega (arith, here, eq, e))
        | inr more ↦ (let up = rising f.at k (omega (arith, after, more)) lt in let here = f.here in omega (arith, up, here, e))
      ]
    ]

none-in : (refuse : ℕ → Bool) (places : List ℕ) (k place : ℕ) → ((i : ℕ) → i < length places → refuse (entry places i) ≡ false) → k < length places → entry places k ≡ place → refuse place ≡ true → ⊥
none-in refuse places k place none lt e r = both _ (ap refuse e ∙ r) (none k lt)

pub path-rises : (t : Shape) (x : ℕ) (path : List ℕ) → IsSound t → IsPathTo t.nodes x path → IsRising path
path-rises t x path h p j k less lt = rising-way k t.size t path (stored-of t h) p.way j k (omega arith) less lt

-- a denial on the path, as one of all nodes
of-path : (t : Shape) (x : ℕ) (kind : Kind) (b : ℕ) (path : List ℕ) (found : Found) → IsPathTo t.nodes x path → IsFirstOf (refuses_local t kind b) (perm_at t b) path found → ((i : ℕ) → 1 ≤ i → i ≤ length t.nodes → refuses t x kind b i ≡ true → found.place ≤ i) → IsLeastAt t x kind b (denial_by b true found)
of-path t x kind b path found p f least =
    let on : is_on_path t.nodes x found.place ≡ true = ap (is_on_path t.nodes x) (sym f.here) ∙ p.sound f.at f.below in
    record {
      offset = refl;
      some = subst (λ q. 1 ≤ q) f.here (p.way.some f.at f.below);
      stored = subst (λ q. q ≤ length t.nodes) f.here (p.way.stored f.at f.below);
      denied = refuses-on t x kind b found.place on ∙ f.denied;
      least = least;
      perm_there = f.perm_there;
      local_there = sym on;
    }

of-others : (t : Shape) (x : ℕ) (kind : Kind) (b : ℕ) (others : List ℕ) (found : Found) → IsSound t → b < t.size → AreOthers t x others → IsFirstOf (refuses_foreign t kind b) (kept_perm t b) others found → ((i : ℕ) → 1 ≤ i → i ≤ length t.nodes → refuses t x kind b i ≡ true → found.place ≤ i) → IsLeastAt t x kind b (denial_by b false found)
of-others t x kind b others found h in_size o f least =
    let off : is_on_path t.nodes x found.place ≡ false = ap (is_on_path t.nodes x) (sym f.here) ∙ o.off f.at f.below in
    let protected : is_protected (node_at t.nodes found.place).guard ≡ true = ap (λ q. is_protected (node_at t.nodes q).guard) (sym f.here) ∙ o.guarded f.at f.below in
    let some : 1 ≤ found.place = subst (λ q. 1 ≤ q) f.here (o.distinct.some f.at f.below) in
    let stored : found.place ≤ length t.nodes = subst (λ q. q ≤ length t.nodes) f.here (o.distinct.stored f.at f.below) in
    record {
      offset = refl;
      some = some;
      stored = stored;
      denied = refuses-off t x kind b found.place h some stored in_size off protected ∙ f.denied;
      least = least;
      perm_there = f.perm_there ∙ ap (λ (c : _). c.perm) (sym (guarded-cell t b found.place h some stored in_size protected));
      local_there = sym off;
    }

is-less : (m n : ℕ) → nat_lt m n ≡ true → m < n
is-less m n e = grind (arith, nat_tests, e)

is-more : (m n : ℕ) → nat_lt m n ≡ false → n ≤ m
is-more m n e = grind (arith, nat_tests, e)

-- of the two denials the one of the lesser place is the least of all
pub least-at : (t : Shape) (x : ℕ) (kind : Kind) (b : ℕ) (path others : List ℕ) (local foreign : Option Found) → IsSound t → b < t.size → IsPathTo t.nodes x path → AreOthers t x others → FindsFirst (refuses_local t kind b) (perm_at t b) path local → FindsFirst (refuses_foreign t kind b) (kept_perm t b) others foreign →
    FindsLeast t x kind b (lesser b local foreign)
least-at t x kind b path others None None h in_size p o here other = λ place some stored. by-false _ (λ r.
    elim (in-list t x kind b place path others h in_size p o some stored r).place_in [
      | inl l ↦ none-in (refuses_local t kind b) path l.0 place here l.1 l.2 l.3
      | inr l ↦ none-in (refuses_foreign t kind b) others l.0 place other l.1 l.2 l.3
    ])
least-at t x kind b path others (Some found) None h in_size p o here other =
    of-path t x kind b path found p here (λ i some stored r.
    elim (in-list t x kind b i path others h in_size p o some stored r).place_in [
      | inl l ↦ first-least (refuses_local t kind b) (perm_at t b) path found l.0 i (path-rises t x path h p) here l.1 l.2 l.3
      | inr l ↦ absurd (none-in (refuses_foreign t kind b) others l.0 i other l.1 l.2 l.3)
    ])
least-at t x kind b path others None (Some found) h in_size p o here other =
    of-others t x kind b others found h in_size o other (λ i some stored r.
    elim (in-list t x kind b i path others h in_size p o some stored r).place_in [
      | inl l ↦ absurd (none-in (refuses_local t kind b) path l.0 i here l.1 l.2 l.3)
      | inr l ↦ first-least (refuses_foreign t kind b) (kept_perm t b) others found l.0 i o.rising other l.1 l.2 l.3
    ])
least-at t x kind b path others (Some a) (Some c) h in_size p o here other = pick (nat_lt a.place c.place) refl
  where
    lower : (i : ℕ) → 1 ≤ i → i ≤ length t.nodes → refuses t x kind b i ≡ true → (a.place ≤ i) ⊎ (c.place ≤ i)
    lower i some stored r = elim (in-list t x kind b i path others h in_size p o some stored r).place_in [
      | inl l ↦ inl (first-least (refuses_local t kind b) (perm_at t b) path a l.0 i (path-rises t x path h p) here l.1 l.2 l.3)
      | inr l ↦ inr (first-least (refuses_foreign t kind b) (kept_perm t b) others c l.0 i o.rising other l.1 l.2 l.3)
    ]

    pick : (l : Bool) → nat_lt a.place c.place ≡ l → FindsLeast t x kind b (cond l (Some (denial_by b true a)) (Some (denial_by b false c)))
    pick true e = of-path t x kind b path a p here (λ i some stored r. (let less = is-less a.place c.place e in elim (lower i some stored r) [ inl le ↦ le | inr le ↦ omega (arith, less, le) ]))
    pick false e = of-others t x kind b others c h in_size o other (λ i some stored r. (let more = is-more a.place c.place e in elim (lower i some stored r) [ inl le ↦ omega (arith, more, le) | inr le ↦ le ]))

-- on a piece a node of the path stands for one cell
cell-alike : (t : Shape) (x b from end k : ℕ) (path others : List ℕ) → IsSound t → IsPathTo t.nodes x path → IsPiece t path others from end → from ≤ b → b < end → k < length path → cell_of t (entry path k) b ≡ cell_of t (entry path k) from
cell-alike t x b from end k path others h p piece low high lt =
    let span : Span = record { start = from; len = end - from } in
    let inside : b < from + (end - from) = omega (arith, low, high) in
    let same : seen t (entry path k) b ≡ seen t (entry path k) from =
    seen-next t t.size b k path (seen t (entry path k) b) refl
    ∙ seen-alike (k + 1) t.size b t path span (stored-of t h) p.way (λ j c less f to. piece.on_path j c less f (omega (arith, to, low, high))) (λ c f to. piece.dates c f (omega (arith, to, low, high))) low inside (k + 1) (omega arith) (omega (arith, lt))
    ∙ sym (seen-next t t.size from k path (seen t (entry path k) from) refl) in
    ap (λ d. eager_cell d (slot_at t.nodes (entry path k) b)) same ∙ ap (eager_cell (seen t (entry path k) from)) (piece.on_path k b lt low high)

-- where no node denies the access at the first byte of a piece, none does at another one
pub none-alike : (t : Shape) (x : ℕ) (kind : Kind) (b from end : ℕ) (path others : List ℕ) → IsSound t → end ≤ t.size → IsPathTo t.nodes x path → AreOthers t x others → IsPiece t path others from end → NoneRefuses t x kind from → from ≤ b → b < end → NoneRefuses t x kind b
none-alike t x kind b from end path others h fits p o piece none low high = λ place some stored. by-false _ (λ r.
    elim (in-list t x kind b place path others h (omega (arith, high, fits)) p o some stored r).place_in [
      | inl l ↦
          let on : is_on_path t.nodes x place ≡ true = ap (is_on_path t.nodes x) (sym l.2) ∙ p.sound l.0 l.1 in
          let same : cell_of t place b ≡ cell_of t place from = subst (λ q. cell_of t q b ≡ cell_of t q from) l.2 (cell-alike t x b from end l.0 path others h p piece low high l.1) in
          both _ (refuses-on t x kind from place on ∙ ap (is_refused (Some kind) true (node_at t.nodes place).guard) (sym same) ∙ l.3) (none place some stored)
      | inr l ↦
          let off : is_on_path t.nodes x place ≡ false = ap (is_on_path t.nodes x) (sym l.2) ∙ o.off l.0 l.1 in
          let protected : is_protected (node_at t.nodes place).guard ≡ true = ap (λ q. is_protected (node_at t.nodes q).guard) (sym l.2) ∙ o.guarded l.0 l.1 in
          let same : slot_at t.nodes place b ≡ slot_at t.nodes place from = subst (λ q. slot_at t.nodes q b ≡ slot_at t.nodes q from) l.2 (piece.off_path l.0 b l.1 low high) in
          both _ (refuses-off t x kind from place h some stored (omega (arith, low, high, fits)) off protected ∙ ap (λ (s : Slot). is_refused (Some kind) false (node_at t.nodes place).guard (kept_cell s)) (sym same) ∙ l.3) (none place some stored)
    ])

-- what is done when the bytes before `at` are
pub record DoneTo (t : Shape) (x : ℕ) (path others : List ℕ) (span : Span) (kind : Kind) (ends : List ℕ) (at : ℕ) : Type 0 where
  pub from : span.start ≤ at
  pub to : at ≤ span.start + span.len
  pub pieces_are : ArePieces t path others span.start ends
  pub here : piece_start span.start ends (length ends) ≡ at
  pub few : at < span.start + span.len → length ends + pieces t path others (record { start = at; len = span.start + span.len - at }) ≤ pieces t path others span
  pub all : length ends ≤ pieces t path others span
  pub none : (b : ℕ) → span.start ≤ b → b < at → NoneRefuses t x kind b

pub done-none : (t : Shape) (x : ℕ) (path others : List ℕ) (span : Span) (kind : Kind) (ends : List ℕ) → ends ≡ [] → DoneTo t x path others span kind ends span.start
done-none t x path others span kind ends e = rw e (record {
  from = omega arith;
  to = omega arith;
  pieces_are = λ k lt. absurd (omega (arith, lt));
  here = refl;
  few = λ lt. (let same : pieces t path others (record { start = span.start; len = span.start + span.len - span.start }) ≡ pieces t path others span = ap (λ n. 1 + count (is_cut t path others) (span.start + 1) (n - 1)) (let n : span.start + span.len - span.start ≡ span.len = omega arith in n) in omega (arith, same));
  all = omega arith;
  none = λ b low high. absurd (omega (arith, low, high));
})

-- the numbers up to a cut hold one more than those from it on
count-cut : (n : ℕ) (has : ℕ → Bool) (from next end : ℕ) → from ≤ next → next < end → end - from ≤ n → has next ≡ true → count has (next + 1) (end - next - 1) + 1 ≤ count has from (end - from)
count-cut zero has from next end low high le h = absurd (omega (arith, low, high, le))
count-cut (suc n) has from next end low high le h =
    let one : end - from ≡ suc (end - (from + 1)) = omega (arith, low, high) in
    rw one (elim (cases_eq from next) [
      | inl same ↦
          let here : has from ≡ true = ap has same ∙ h in
          let rest : end - (from + 1) ≡ end - next - 1 = omega (arith, same) in
          rw here (let eq : count has (from + 1) (end - (from + 1)) ≡ count has (next + 1) (end - next - 1) = ap (λ m. count has (from + 1) m) rest ∙ ap (λ m. count has (m + 1) (end - next - 1)) same in omega (arith, eq))
      | inr other ↦ (let rest = count-cut n has (from + 1) next end (omega (arith, low, other)) high (omega (arith, le, one)) h in at-least (has from) _ _ rest)
    ])
  where
    at-least : (b : Bool) (c d : ℕ) → c ≤ d → c ≤ cond b (d + 1) d
    at-least true c d le = omega (arith, le)
    at-least false c d le = le

start-left : (from : ℕ) (ends : List ℕ) (next k : ℕ) → k ≤ length ends → piece_start from (ends ++ next ∷ []) k ≡ piece_start from ends k
start-left from ends next k le =
    elim (cases_eq k 0) [
      | inl e ↦ rw e refl
      | inr ne ↦ ap (λ e. cond (k == 0) from e) (get_or-append ends (next ∷ []) 0 (k - 1) (omega (arith, ne, le)))
    ]

start-last : (from : ℕ) (ends : List ℕ) (next n : ℕ) → n ≡ length ends + 1 → piece_start from (ends ++ next ∷ []) n ≡ next
start-last from ends next n e =
    rw (ne_eqb n 0 (λ z. omega (arith, z, e))) (ap (λ k. entry (ends ++ next ∷ []) k) (let k : n - 1 ≡ length ends = omega (arith, e) in k) ∙ get_or-append_seam ends next [] 0)

pieces-more : (t : Shape) (path others : List ℕ) (from : ℕ) (ends now : List ℕ) (at next : ℕ) → ArePieces t path others from ends → piece_start from ends (length ends) ≡ at → IsPiece t path others at next → now ≡ ends ++ next ∷ [] → ArePieces t path others from now
pieces-more t path others from ends now at next h here piece e = rw e (λ k lt.
    elim (cases_lt k (length ends)) [
      | inl old ↦ subst (λ s. IsPiece t path others s (entry (ends ++ next ∷ []) k)) (sym (start-left from ends next k (omega (arith, old)))) (subst (IsPiece t path others (piece_start from ends k)) (sym (get_or-append ends (next ∷ []) 0 k old)) (h k old))
      | inr new ↦
          let last : k ≡ length ends = omega (arith, new, lt, length-append ends (next ∷ [])) in
          subst (λ j. IsPiece t path others (piece_start from (ends ++ next ∷ []) j) (entry (ends ++ next ∷ []) j)) (sym last)
          (subst (λ s. IsPiece t path others s (entry (ends ++ next ∷ []) (length ends))) (sym (start-left from ends next (length ends) (omega arith) ∙ here))
          (subst (IsPiece t path others at) (sym (get_or-append_seam ends next [] 0)) piece))
    ])

pub done-more : (t : Shape) (x : ℕ) (path others : List ℕ) (span : Span) (kind : Kind) (ends now : List ℕ) (at next : ℕ) → IsSound t → span.start + span.len ≤ t.size → IsPathTo t.nodes x path → AreOthers t x others → DoneTo t x path others span kind ends at → at < span.start + span.len → NoneRefuses t x kind at →
    IsPiece t path others at next → next ≤ span.start + span.len → (next ≡ span.start + span.len) ⊎ (is_cut t path others next ≡ true) → now ≡ ends ++ next ∷ [] → DoneTo t x path others span kind now next
done-more t x path others span kind ends now at next h fits p o d lt none piece to cut e =
    let more : length now ≡ length ends + 1 = ap length e ∙ length-append ends (next ∷ []) in
    let some : at < next = piece.some in
    let before = d.few lt in
    record {
      from = (let f = d.from in omega (arith, f, some));
      to = to;
      pieces_are = pieces-more t path others span.start ends now at next d.pieces_are d.here piece e;
      here = ap (λ l. piece_start span.start l (length now)) e ∙ start-last span.start ends next (length now) more;
      few = λ less. elim cut [
        | inl end ↦ absurd (omega (arith, end, less))
        | inr has ↦
            let counted = count-cut (span.start + span.len) (is_cut t path others) (at + 1) next (span.start + span.len) (omega (arith, some)) less (omega arith) has in
            let left : span.start + span.len - (at + 1) ≡ span.start + span.len - at - 1 = omega arith in
            let same : count (is_cut t path others) (at + 1) (span.start + span.len - (at + 1)) ≡ count (is_cut t path others) (at + 1) (span.start + span.len - at - 1) = ap (count (is_cut t path others) (at + 1)) left in
            omega (arith, before, counted, same, more)
      ];
      all = omega (arith, before, more);
      none = λ b low high. elim (cases_lt b at) [
        | inl old ↦ d.none b low old
        | inr new ↦ none-alike t x kind b at next path others h (omega (arith, to, fits)) p o piece none new high
      ];
    }

-- the counter doesn't matter
pub visits-same : (t u w : Shape) → u ≡ record t { visits = u.visits } → w ≡ record u { visits = w.visits } → w ≡ record t { visits = w.visits }
visits-same t u w e f = f ∙ ap {A = Shape} (λ (s : Shape). record s { visits = w.visits }) e

seen-steps : (more visits b : ℕ) (t : Shape) (place : ℕ) → seen_within more (record t { visits = visits }) place b ≡ seen_within more t place b
seen-steps zero visits b t place = refl
seen-steps (suc more) visits b t place =
    ap (λ d. cond (place == 0) (last t b) (seen_below (node_at t.nodes place).ends (slot_at t.nodes place b).met d)) (seen-steps more visits b t (node_at t.nodes place).parent)

pub seen-counted : (t : Shape) (visits place b : ℕ) → seen (record t { visits = visits }) place b ≡ seen t place b
seen-counted t visits place b = seen-steps place visits b t place

pub cell-counted : (t : Shape) (visits place b : ℕ) → cell_of (record t { visits = visits }) place b ≡ cell_of t place b
cell-counted t visits place b = ap (λ d. eager_cell d (slot_at t.nodes place b)) (seen-counted t visits place b)

refuses-counted : (t : Shape) (visits x b place : ℕ) (kind : Kind) → refuses (record t { visits = visits }) x kind b place ≡ refuses t x kind b place
refuses-counted t visits x b place kind = ap (is_refused (Some kind) (is_on_path t.nodes x place) (node_at t.nodes place).guard) (cell-counted t visits place b)

sound-counted : (t : Shape) (visits : ℕ) → IsSound t → IsSound (record t { visits = visits })
sound-counted t visits h = record {
  some = h.some;
  accesses = h.accesses;
  writes = h.writes;
  last = λ b lt. (let k = h.last b lt in record { write = k.write; access = k.access });
  rising = h.rising;
  nodes = λ place some stored. (let k = h.nodes place some stored in record { parent = k.parent; sized = k.sized; ends = k.ends });
  slots = λ place b some stored lt. (let k = h.slots place b some stored lt in record { access = k.access; write = k.write; guard = subst (λ d. ((node_at t.nodes place).guard ≡ Free) ⊎ IsAsMet d (slot_at t.nodes place b)) (sym (seen-counted t visits place b)) k.guard });
  guarded = record { rising = h.guarded.rising; sound = h.guarded.sound; whole = h.guarded.whole };
  actor = λ x low e. (let f = h.actor x low e in record { now = f.now; ends = f.ends; met = f.met });
}

pub sound-same : (t u : Shape) → u ≡ record t { visits = u.visits } → IsSound t → IsSound u
sound-same t u e h = subst IsSound (sym e) (sound-counted t u.visits h)

least-counted : (t : Shape) (visits x b : ℕ) (kind : Kind) (found : Option Denial) → FindsLeast (record t { visits = visits }) x kind b found → FindsLeast t x kind b found
least-counted t visits x b kind None h = λ place some stored. sym (refuses-counted t visits x b place kind) ∙ h place some stored
least-counted t visits x b kind (Some found) h = record {
  offset = h.offset;
  some = h.some;
  stored = h.stored;
  denied = sym (refuses-counted t visits x b found.place kind) ∙ h.denied;
  least = λ i some stored r. h.least i some stored (refuses-counted t visits x b i kind ∙ r);
  perm_there = h.perm_there ∙ ap (λ (c : Cell). c.perm) (cell-counted t visits found.place b);
  local_there = h.local_there;
}

pub least-same : (t u : Shape) (x b : ℕ) (kind : Kind) (found : Option Denial) → u ≡ record t { visits = u.visits } → FindsLeast u x kind b found → FindsLeast t x kind b found
least-same t u x b kind found e h = least-counted t u.visits x b kind found (subst (λ s. FindsLeast s x kind b found) e h)

piece-counted : (t : Shape) (visits from end : ℕ) (path others : List ℕ) → IsPiece (record t { visits = visits }) path others from end → IsPiece t path others from end
piece-counted t visits from end path others h = record { some = h.some; within = h.within; on_path = h.on_path; off_path = h.off_path; dates = h.dates }

pub piece-same : (t u : Shape) (from end : ℕ) (path others : List ℕ) → u ≡ record t { visits = u.visits } → IsPiece u path others from end → IsPiece t path others from end
piece-same t u from end path others e h = piece-counted t u.visits from end path others (subst (λ s. IsPiece s path others from end) e h)

pub cut-same : (t u : Shape) (at end : ℕ) (path others : List ℕ) → u ≡ record t { visits = u.visits } → (at ≡ end) ⊎ (is_cut u path others at ≡ true) → (at ≡ end) ⊎ (is_cut t path others at ≡ true)
cut-same t u at end path others e h = subst (λ s. (at ≡ end) ⊎ (is_cut s path others at ≡ true)) e h

pub least-in : (t : Shape) (x b : ℕ) (kind : Kind) (path others : List ℕ) (local foreign : Option Found) (result : Option Denial) (u : Shape) → IsSound t → b < t.size → IsPathTo t.nodes x path → AreOthers t x others → u ≡ record t { visits = u.visits } →
    FindsFirst (refuses_local t kind b) (perm_at t b) path local → FindsFirst (refuses_foreign u kind b) (kept_perm u b) others foreign → result ≡ lesser b local foreign → FindsLeast t x kind b result
least-in t x b kind path others local foreign result u h in_size p o e here other is =
    subst (FindsLeast t x kind b) (sym is) (least-at t x kind b path others local foreign h in_size p o here (subst (λ s. FindsFirst (refuses_foreign s kind b) (kept_perm s b) others foreign) e other))

pub none-found : (t : Shape) (x b : ℕ) (kind : Kind) (found : Option Denial) → is_some found ≡ false → FindsLeast t x kind b found → NoneRefuses t x kind b
none-found t x b kind None e h = h
none-found t x b kind (Some found) e h = cc

pub first-found : (t : Shape) (x : ℕ) (path others : List ℕ) (span : Span) (kind : Kind) (ends : List ℕ) (at : ℕ) (found : Option Denial) → is_some found ≡ true → FindsLeast t x kind at found → DoneTo t x path others span kind ends at → at < span.start + span.len → FindsFirstOn t x span kind found
first-found t x path others span kind ends at None e h d lt = cc
first-found t x path others span kind ends at (Some found) e h d lt = record {
  from = (let f = d.from in omega (arith, f, h.offset));
  to = omega (arith, lt, h.offset);
  here = subst (λ b. IsLeastAt t x kind b found) (sym h.offset) h;
  before = λ b low high. d.none b low (omega (arith, high, h.offset));
}

pub times-one : (n m k : ℕ) → k ≡ n + 1 → k * m ≡ n * m + m
times-one n m k e = (let step : (n + 1) * m ≡ n * m + 1 * m = add-mul n 1 m in ap (λ i. i * m) e ∙ omega (arith, step))

pub times-upto : (n m k : ℕ) → n ≤ k → n * m ≤ k * m
times-upto n m k le = mul-le-mul_right m le
