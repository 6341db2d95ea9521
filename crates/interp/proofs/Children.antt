-- A thread's children: trees that are added, children that are started and joined.
use Rattle.std.proofs.Common.{◌≡◌, ℕ, suc, zero, ◌<◌, List, [], ◌∷◌, ◌++◌, append-nil, append_assoc, length, ap, sym, ◌∙◌, refl, subst, inl, inr, arith, All, Contains, get_or, map}
use Rattle.std.specs.Prelude.{◌⊎◌, Some, None}
use Rattle.std.specs.List.{remove}
use Rattle.std.proofs.lemmas.List.Elements.{Contains-append_left, Contains-push, All-contains}
use Rattle.std.proofs.lemmas.List.Sums.{sum_by-cons, sum_by_push}
use Rattle.bsan_ids.specs.declared.numbers.ThreadNo.{ThreadNo}
use Rattle.history.specs.declared.entry.Entry.{Entry}
use Rattle.history.specs.declared.entry.Request.TheVariants as request
use Rattle.history.specs.declared.log.ThreadLog.{ThreadLog}
use Rattle.runs.specs.Parts.{Has, child_of}
use Rattle.source_sem.specs.Source.{Source}
use Rattle.interp.specs.Flatten.{root_of, roots_of}
use Rattle.interp.specs.Goes.{Kid, Takes}
use Rattle.interp.specs.Running.{IsOfChildren}
use Rattle.interp.specs.Views.{Starts}
use Rattle.interp.proofs.Members.{has_left, has_right, has_push, has_either}

pub roots_of_more : (ts : List (List ThreadLog)) (t : List ThreadLog) → roots_of (ts ++ t ∷ []) ≡ roots_of ts ++ root_of t
roots_of_more [] t = append-nil (root_of t)
roots_of_more (u ∷ us) t = ap (λ l. root_of u ++ l) (roots_of_more us t) ∙ sym (append_assoc (root_of u) (roots_of us) (root_of t))

starts_before : (es : List Entry) (e : Entry) (f c : ℕ) → Starts (es ++ e ∷ []) f c → Starts es f c ⊎ ((e.request ≡ request.Spawn f) × (child_of e ≡ Some c))
starts_before es e f c s = elim (has_push es e s.spawn s.stands) [
  | inl old ↦ inl (record { spawn = s.spawn; stands = old; asks = s.asks; answers = s.answers })
  | inr same ↦ inr (ap (λ (y : Entry). y.request) same ∙ s.asks, ap (λ (y : Entry). child_of y) same ∙ s.answers)
]

none_some : {B : Type 0} (c : ℕ) → None ≡ Some c → B
none_some c is = cc

some_same : (a b : ℕ) → Some a ≡ Some b → a ≡ b
some_same a b is = cc

spawn_same : (f g : ℕ) → request.Spawn f ≡ request.Spawn g → f ≡ g
spawn_same f g is = cc

-- the desk has drawn more
pub children_drawn : (es : List Entry) (started old new : List ℕ) (kids : List (Kid Source)) (roots : List ThreadLog) → ((c : ℕ) → Contains old c → Contains new c) → IsOfChildren es started old kids roots → IsOfChildren es started new kids roots
children_drawn es started old new kids roots more f = record {
  covered = f.covered;
  of_kids = f.of_kids;
  of_roots = f.of_roots;
  drawn_all = λ e c h is. more c (f.drawn_all e c h is);
  drawn_kids = λ k h. more k.number.0 (f.drawn_kids k h);
  drawn_roots = λ l h. more l.number.0 (f.drawn_roots l h);
}

-- an entry that starts no thread
pub children_entry : (es : List Entry) (e : Entry) (started more drawn : List ℕ) (kids : List (Kid Source)) (roots : List ThreadLog) → child_of e ≡ None → more ≡ started
    → IsOfChildren es started drawn kids roots → IsOfChildren (es ++ e ∷ []) more drawn kids roots
children_entry es e started more drawn kids roots none same f = record {
  covered = λ c h. f.covered c (subst (λ cs. Has cs c) same h);
  of_kids = λ k g h s. elim (starts_before es e g k.number.0 s) [ inl old ↦ f.of_kids k g h old | inr new ↦ none_some k.number.0 (sym none ∙ new.1) ];
  of_roots = λ l g h s. elim (starts_before es e g l.number.0 s) [ inl old ↦ f.of_roots l g h old | inr new ↦ none_some l.number.0 (sym none ∙ new.1) ];
  drawn_all = λ x c h is. elim (has_push es e x h) [ inl old ↦ f.drawn_all x c old is | inr at ↦ none_some c (sym none ∙ (ap (λ (y : Entry). child_of y) at ∙ is)) ];
  drawn_kids = f.drawn_kids;
  drawn_roots = f.drawn_roots;
}

-- a child is started, with a number above all that the desk drew
pub children_spawned : (es : List Entry) (e : Entry) (started more drawn drew : List ℕ) (kids : List (Kid Source)) (roots : List ThreadLog) (k : Kid Source)
    → e.request ≡ request.Spawn k.function → child_of e ≡ Some k.number.0 → more ≡ k.number.0 ∷ started → drew ≡ drawn ++ k.number.0 ∷ [] → All (λ m. m < k.number.0) drawn
    → IsOfChildren es started drawn kids roots → IsOfChildren (es ++ e ∷ []) more drew (kids ++ k ∷ []) roots
children_spawned es e started more drawn drew kids roots k asks child same is below f = record {
  covered = λ c h. elim (subst (λ cs. Has cs c) same h) [
    | inl here ↦ inl (k, has_right kids (k ∷ []) k (inl refl), here)
    | inr old ↦ elim (f.covered c old) [
      | inl q ↦ inl (q.0, has_left kids (k ∷ []) q.0 q.1, q.2)
      | inr q ↦ inr q
    ]
  ];
  of_kids = λ x g h s. of_kids x g (has_push kids k x h) (starts_before es e g x.number.0 s);
  of_roots = λ l g h s. elim (starts_before es e g l.number.0 s) [
    | inl old ↦ f.of_roots l g h old
    | inr new ↦ clash (f.drawn_roots l h) (some_same k.number.0 l.number.0 (sym child ∙ new.1))
  ];
  drawn_all = λ x c h at. subst (λ xs. Contains xs c) (sym is) (elim (has_push es e x h) [
    | inl old ↦ Contains-append_left drawn (k.number.0 ∷ []) c (f.drawn_all x c old at)
    | inr here ↦ subst (λ m. Contains (drawn ++ k.number.0 ∷ []) m) (some_same k.number.0 c (sym child ∙ (ap (λ (y : Entry). child_of y) here ∙ at))) (Contains-push drawn k.number.0)
  ]);
  drawn_kids = λ x h. subst (λ xs. Contains xs x.number.0) (sym is) (elim (has_push kids k x h) [
    | inl old ↦ Contains-append_left drawn (k.number.0 ∷ []) x.number.0 (f.drawn_kids x old)
    | inr here ↦ subst (λ (y : Kid Source). Contains (drawn ++ k.number.0 ∷ []) y.number.0) here (Contains-push drawn k.number.0)
  ]);
  drawn_roots = λ l h. subst (λ xs. Contains xs l.number.0) (sym is) (Contains-append_left drawn (k.number.0 ∷ []) l.number.0 (f.drawn_roots l h));
}
  where
    clash : {B : Type 0} {c : ℕ} → Contains drawn c → k.number.0 ≡ c → B
    clash {B} {c} there at = let less : c < k.number.0 = All-contains (λ m. m < k.number.0) drawn c below there in absurd (omega (arith, less, at))

    of_kids : (x : Kid Source) (g : ℕ) → Has kids x ⊎ (k ≡ x) → Starts es g x.number.0 ⊎ ((e.request ≡ request.Spawn g) × (child_of e ≡ Some x.number.0)) → g ≡ x.function
    of_kids x g (inl old) (inl before) = f.of_kids x g old before
    of_kids x g (inl old) (inr new) = clash (f.drawn_kids x old) (some_same k.number.0 x.number.0 (sym child ∙ new.1))
    of_kids x g (inr here) (inl before) = clash (f.drawn_all before.spawn x.number.0 before.stands before.answers) (ap (λ (y : Kid Source). y.number.0) here)
    of_kids x g (inr here) (inr new) = spawn_same g k.function (sym new.0 ∙ asks) ∙ ap (λ (y : Kid Source). y.function) here

-- a child's desk is joined: it was a kid, and its own log is a root
pub children_joined : (es : List Entry) (started drawn : List ℕ) (kids rest : List (Kid Source)) (roots : List ThreadLog) (k : Kid Source) (own : ThreadLog) → Takes kids k rest → own.number ≡ k.number → own.entry_function ≡ k.function
    → IsOfChildren es started drawn kids roots → IsOfChildren es started drawn rest (roots ++ own ∷ [])
children_joined es started drawn kids rest roots k own takes number function f = record {
  covered = λ c h. elim (f.covered c h) [
    | inl q ↦ elim (takes.back q.0 q.1) [
      | inl same ↦ inr (own, has_right roots (own ∷ []) own (inl refl), ap (λ (n : ThreadNo). n.0) (number ∙ ap (λ (y : Kid Source). y.number) (sym same)) ∙ q.2)
      | inr other ↦ inl (q.0, other, q.2)
    ]
    | inr q ↦ inr (q.0, has_left roots (own ∷ []) q.0 q.1, q.2)
  ];
  of_kids = λ x g h s. f.of_kids x g (takes.others x h) s;
  of_roots = λ l g h s. elim (has_either roots (own ∷ []) l h) [
    | inl old ↦ f.of_roots l g old s
    | inr new ↦ elim new [
      | inl same ↦
          let at : k.number.0 ≡ l.number.0 = ap (λ (n : ThreadNo). n.0) (sym number ∙ ap (λ (y : ThreadLog). y.number) same) in
          f.of_kids k g takes.there (subst (λ c. Starts es g c) (sym at) s) ∙ (sym function ∙ ap (λ (y : ThreadLog). y.entry_function) same)
      | inr none ↦ absurd none
    ]
  ];
  drawn_all = f.drawn_all;
  drawn_kids = λ x h. f.drawn_kids x (takes.others x h);
  drawn_roots = λ l h. elim (has_either roots (own ∷ []) l h) [
    | inl old ↦ f.drawn_roots l old
    | inr new ↦ elim new [
      | inl same ↦ subst (λ c. Contains drawn c) (ap (λ (n : ThreadNo). n.0) (sym number ∙ ap (λ (y : ThreadLog). y.number) same)) (f.drawn_kids k takes.there)
      | inr none ↦ absurd none
    ]
  ];
}

-- one of the kids is taken from its place
module _ {X : Type 0} (kid : X → Kid Source) where
  pub takes_last : (kids : List (Kid Source)) (k : Kid Source) → Takes (kids ++ k ∷ []) k kids
  takes_last kids k = record {
    there = has_right kids (k ∷ []) k (inl refl);
    others = λ x h. has_left kids (k ∷ []) x h;
    back = λ x h. elim (has_push kids k x h) [ inl l ↦ inr l | inr r ↦ inl (sym r) ];
    weight = λ h. omega (arith, sum_by_push (λ (y : Kid Source). h y.number.0) kids k);
  }

  takes_first : (k : Kid Source) (rest : List (Kid Source)) → Takes (k ∷ rest) k rest
  takes_first k rest = record {
    there = inl refl;
    others = λ x h. inr h;
    back = λ x h. elim h [ inl l ↦ inl (sym l) | inr r ↦ inr r ];
    weight = λ h. sum_by-cons (λ (y : Kid Source). h y.number.0) k rest;
  }

  takes_later : (j : Kid Source) (kids : List (Kid Source)) (k : Kid Source) (rest : List (Kid Source)) → Takes kids k rest → Takes (j ∷ kids) k (j ∷ rest)
  takes_later j kids k rest t = record {
    there = inr t.there;
    others = λ x h. elim h [ inl l ↦ inl l | inr r ↦ inr (t.others x r) ];
    back = λ x h. elim h [ inl l ↦ inr (inl l) | inr r ↦ elim (t.back x r) [ inl a ↦ inl a | inr b ↦ inr (inr b) ] ];
    weight = λ h. let a = t.weight h in omega (arith, a, sum_by-cons (λ (y : Kid Source). h y.number.0) j kids, sum_by-cons (λ (y : Kid Source). h y.number.0) j rest);
  }

  pub takes_removed : (xs : List X) (i : ℕ) (x : X) → i < length xs → x ≡ get_or xs i x → Takes (map kid xs) (kid x) (map kid (remove xs i))
  takes_removed [] i x lt is = absurd (omega (arith, lt))
  takes_removed (y ∷ ys) zero x lt is = let K : X → Type 0 = λ z. Takes (kid y ∷ map kid ys) (kid z) (map kid ys) in subst K (sym is) (takes_first (kid y) (map kid ys))
  takes_removed (y ∷ ys) (suc i) x lt is = takes_later (kid y) (map kid ys) (kid x) (map kid (remove ys i)) (takes_removed ys i x (omega (arith, lt)) is)
