-- A log is legal where its allocation, asked its requests again, answers as it says.
use Rattle.std.proofs.Common.{◌≡◌, ◌↔◌, ℕ, ◌<◌, ◌≤◌, Bool, true, false, List, [], ◌∷◌, ◌++◌, refl, sym, ◌∙◌, ap, subst, inl, inr, arith, All}
use Rattle.std.specs.Prelude.{is_some, IsTrue}
use Rattle.std.proofs.lemmas.List.Elements.{All-push, All-weaker, All-from_recursion}
use Rattle.bsan_ids.specs.declared.numbers.Stamp.{Stamp}
use Rattle.history.specs.declared.entry.Entry.{Entry}
use Rattle.history.specs.declared.entry.Request.{Request}
use Rattle.history.specs.declared.entry.Request.TheVariants as request
use Rattle.history.specs.declared.log.AllocLog.{AllocLog}
use Rattle.history.specs.Histories.{fits, is_make, replay}
use Rattle.history.specs.Objects.{Object, answer, unmade}
use Rattle.runs.specs.Interleaving.{Legal, MakesUnmade}
use Rattle.runs.specs.Objects.{objects}
use Rattle.runs.specs.Stamps.{RisesFrom}
use Rattle.alloc_state.specs.Log.{has_make}
use Rattle.alloc_state.proofs.Makes.{made_where_make}
use Rattle.record_file.specs.ByNumber.{AllFit, IsLegalLog}
use Rattle.record_file.specs.Replaying.{Answered, AnswersSo, GoesOn}

replay_push : (o : Object) (es : List Entry) (e : Entry) → replay o (es ++ e ∷ []) ≡ (answer (replay o es) e.request e.stamp).object
replay_push o [] e = refl
replay_push o (x ∷ es) e = replay_push (answer o x.request x.stamp).object es e

makes_unmade : (o : Object) (r : Request) → (is_make r ≡ true → is_some o.made ≡ false) → MakesUnmade objects o r
makes_unmade o (request.Make size place) h = h refl
makes_unmade o _ h = tt

unmade_makes : (o : Object) (r : Request) → MakesUnmade objects o r → is_make r ≡ true → is_some o.made ≡ false
unmade_makes o (request.Make size place) h is = h
unmade_makes o _ h is = absurd (let no : false ≡ true = is in cc)

module _ (n : ℕ) (before : List Entry) (e : Entry) where
  abbrev now : Object
  now = replay (unmade n) before

  -- where it isn't asked so, or is made again, it doesn't answer so
  pub wrong_request : (b : Bool) → b ≡ fits e.request → b ≡ false → AnswersSo (replay (unmade n) before) e → ⊥
  wrong_request b is unfit h = let wrong : true ≡ false = sym h.fitting ∙ sym is ∙ unfit in cc

  pub made_again : is_make e.request ≡ true → has_make before ≡ true → AnswersSo (replay (unmade n) before) e → ⊥
  made_again make made h = let wrong : false ≡ true = sym (unmade_makes now e.request h.unmade make) ∙ made_where_make n before ∙ made in cc

  module _ (r : Request) (same : r ≡ e.request) (made : Entry) (after : List Entry) (asked : made.request ≡ r) (stamp : made.stamp ≡ e.stamp) (reply : made.reply ≡ (answer (replay (unmade n) before) r e.stamp).reply) where
    given : made.reply ≡ objects.reply now e.request e.stamp.0
    given = reply ∙ ap (λ q. (answer now q e.stamp).reply) same

    pub other_reply : (made.reply ≡ e.reply → ⊥) → AnswersSo (replay (unmade n) before) e → ⊥
    other_reply other h = other (given ∙ sym h.reply)

    pub answers_so : fits e.request ≡ true → (is_make e.request ≡ true → has_make before ≡ false) → made.reply ≡ e.reply → AnswersSo (replay (unmade n) before) e
    answers_so fit once is = record {
      fitting = fit;
      unmade = makes_unmade now e.request (λ make. made_where_make n before ∙ once make);
      reply = sym is ∙ given;
    }

    pub goes_on : after ≡ before ++ made ∷ [] → All (λ (z : Entry). z.stamp.0 < e.stamp.0) before → GoesOn (replay (unmade n) before) e (replay (unmade n) after) after
    goes_on is earlier = record {
      next = ap (replay (unmade n)) is ∙ replay_push (unmade n) before made ∙ ap (λ q. (answer now q made.stamp).object) (asked ∙ same) ∙ ap (λ (s : Stamp). (answer now e.request s).object) stamp;
      earlier = subst (All (λ (z : Entry). z.stamp.0 ≤ e.stamp.0)) (sym is)
          (All-push (λ (z : Entry). z.stamp.0 ≤ e.stamp.0) before made (All-weaker (λ (z : Entry). z.stamp.0 < e.stamp.0) (λ (z : Entry). z.stamp.0 ≤ e.stamp.0) (λ z less. omega (arith, less)) before earlier)
          (let same_stamp = ap (λ (s : Stamp). s.0) stamp in omega (arith, same_stamp)));
    }

-- what is answered of the entry
pub answered_by : (b : Bool) (n : ℕ) (before : List Entry) (e : Entry) (m : ℕ) (after : List Entry) → m ≡ n → (b ≡ true → AnswersSo (replay (unmade n) before) e) → (b ≡ false → AnswersSo (replay (unmade n) before) e → ⊥)
    → GoesOn (replay (unmade n) before) e (replay (unmade n) after) after → Answered b n before e m after
answered_by true n before e m after same so not_so on = (same, so refl, on)
answered_by false n before e m after same so not_so on = not_so refl

-- the rest of a log -----------------------------------------------------------------------

pub record IsLegalFrom (o : Object) (es : List Entry) : Type 0 where
  pub legal : Legal objects o es
  pub fitting : AllFit es

legal_next : (o : Object) (e : Entry) (es : List Entry) → AnswersSo o e → IsLegalFrom (objects.next o e.request e.stamp.0) es ↔ IsLegalFrom o (e ∷ es)
legal_next o e es h = (
  λ l. record {
    legal = (h.unmade, h.reply, l.legal);
    fitting = λ x there. elim there [ inl same ↦ subst (λ (z : Entry). IsTrue (fits z.request)) same h.fitting | inr more ↦ l.fitting x more ];
  },
  λ l. record { legal = l.legal.2; fitting = λ x there. l.fitting x (inr there) },
)

legal_first : (o : Object) (e : Entry) (es : List Entry) → IsLegalFrom o (e ∷ es) → AnswersSo o e
legal_first o e es l = record { fitting = l.fitting e (inl refl); unmade = l.legal.0; reply = l.legal.1 }

-- an allocation that was asked so far: the rest is legal from where it stands, exactly where the log is
pub record IsAsked (log : AllocLog) (rest : List Entry) (n : ℕ) (entries : List Entry) : Type 0 where
  pub number : n ≡ log.number.0
  pub same : IsLegalFrom (replay (unmade n) entries) rest ↔ IsLegalLog log
  pub last : ℕ
  pub rises : RisesFrom last rest
  pub earlier : All (λ z. z.stamp.0 ≤ last) entries

pub asked_first : (log : AllocLog) → RisesFrom 0 log.entries → IsAsked log log.entries log.number.0 []
asked_first log rises = record {
  number = refl;
  same = (λ l. record { legal = l.legal; fitting = l.fitting }, λ l. record { legal = l.legal; fitting = l.fitting });
  last = 0;
  rises = rises;
  earlier = All-from_recursion (λ (z : Entry). z.stamp.0 ≤ 0) [] tt;
}

pub asked_earlier : (log : AllocLog) (rest : List Entry) (n : ℕ) (entries : List Entry) (e : Entry) (more : List Entry) → IsAsked log rest n entries → rest ≡ e ∷ more → All (λ (z : Entry). z.stamp.0 < e.stamp.0) entries
asked_earlier log rest n entries e more h is =
    let r : RisesFrom h.last (e ∷ more) = subst (RisesFrom h.last) is h.rises in
    let above = r.0 in
    All-weaker (λ (z : Entry). z.stamp.0 ≤ h.last) (λ (z : Entry). z.stamp.0 < e.stamp.0) (λ z le. omega (arith, le, above)) entries h.earlier

pub asked_stops : (b : Bool) (log : AllocLog) (rest : List Entry) (n m : ℕ) (entries after : List Entry) (e : Entry) (more : List Entry) → b ≡ false → Answered b n entries e m after → IsAsked log rest n entries → rest ≡ e ∷ more → IsLegalLog log → ⊥
asked_stops true log rest n m entries after e more is a h here l = let no : true ≡ false = is in cc
asked_stops false log rest n m entries after e more is a h here l = a (legal_first (replay (unmade n) entries) e more (subst (IsLegalFrom (replay (unmade n) entries)) here (h.same.1 l)))

pub asked_more : (b : Bool) (log : AllocLog) (rest : List Entry) (n m : ℕ) (entries after : List Entry) (e : Entry) (more : List Entry) → b ≡ true → Answered b n entries e m after → IsAsked log rest n entries → rest ≡ e ∷ more → IsAsked log more m after
asked_more false log rest n m entries after e more is a h here = let no : false ≡ true = is in cc
asked_more true log rest n m entries after e more is a h here =
    let r : RisesFrom h.last (e ∷ more) = subst (RisesFrom h.last) here h.rises in
    let step = legal_next (replay (unmade n) entries) e more a.1 in
    let stands : replay (unmade m) after ≡ objects.next (replay (unmade n) entries) e.request e.stamp.0 = ap (λ k. replay (unmade k) after) a.0 ∙ a.2.next in
    record {
      number = a.0 ∙ h.number;
      same = (
        λ l. h.same.0 (subst (IsLegalFrom (replay (unmade n) entries)) (sym here) (step.0 (subst (λ o. IsLegalFrom o more) stands l))),
        λ l. subst (λ o. IsLegalFrom o more) (sym stands) (step.1 (subst (IsLegalFrom (replay (unmade n) entries)) here (h.same.1 l))),
      );
      last = e.stamp.0;
      rises = r.1;
      earlier = a.2.earlier;
    }

pub asked_all : (log : AllocLog) (rest : List Entry) (n : ℕ) (entries : List Entry) → rest ≡ [] → IsAsked log rest n entries → IsLegalLog log
asked_all log rest n entries none h = h.same.0 (subst (IsLegalFrom (replay (unmade n) entries)) (sym none) (record { legal = tt; fitting = λ e there. absurd there }))
