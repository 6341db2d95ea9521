-- From what stamps say to the order in which threads start and end.
use Rattle.std.proofs.Common.{◌≡◌, ℕ, ◌<◌, ◌≤◌, Bool, true, false, List, [], ◌∷◌, refl, sym, ◌∙◌, ap, subst, inl, inr, arith}
use Rattle.std.specs.Prelude.{Some, None, if◌then◌else◌, ◌==◌, ◌⊎◌}
use Rattle.std.specs.declared.option.Option.{Option}
use Rattle.std.proofs.lemmas.Bool.{true≢false, eqb-true, eq-eqb}
use Rattle.std.proofs.lemmas.Bool.Decides.{eqb_tells}
use Rattle.history.specs.declared.entry.Entry.{Entry}
use Rattle.history.specs.declared.log.End.{End}
use Rattle.history.specs.declared.entry.Reply.{Reply}
use Rattle.history.specs.declared.entry.Request.{Request}
use Rattle.history.specs.declared.entry.Request.TheVariants as request
use Rattle.runs.specs.Parts.{Has, of_thread, child_of, spawned_by, spawned_of, is_child}
use Rattle.runs.specs.Interleaving.{Allowed}
use Rattle.runs.specs.Order.{StandsRight, with_child, InOrder}
use Rattle.runs.specs.Stamps.{RisesFrom, SpawnedBefore, StandsAmong, IsTied}

pub rises_above : (n : ℕ) (es : List Entry) (x : Entry) → RisesFrom n es → Has es x → n < x.stamp.0
rises_above n [] x r h = absurd h
rises_above n (e ∷ es) x r (inl is) = subst (λ y. n < y.stamp.0) is r.0
rises_above n (e ∷ es) x r (inr h) = omega (arith, rises_above e.stamp.0 es x r.1 h, r.0)

-- the first has the least stamp
pub first_is_least : (n : ℕ) (e : Entry) (es : List Entry) (x : Entry) → RisesFrom n (e ∷ es) → Has (e ∷ es) x → e.stamp.0 ≤ x.stamp.0
first_is_least n e es x r (inl is) = subst (λ y. e.stamp.0 ≤ y.stamp.0) is (omega arith)
first_is_least n e es x r (inr h) = omega (arith, rises_above e.stamp.0 es x r.1 h)

pub none_of_thread : (c : ℕ) (es : List Entry) → ((x : Entry) → Has es x → x.thread.0 ≡ c → ⊥) → of_thread c es ≡ []
none_of_thread c [] h = refl
none_of_thread c (e ∷ es) h = elim (eqb_tells e.thread.0 c) [
  | inl hit ↦ absurd (h e (inl refl) hit.1)
  | inr miss ↦ rw miss.0 (none_of_thread c es (λ x g. h x (inr g)))
]

pub none_is_some : (t : ℕ) → None ≡ Some t → ⊥
none_is_some t h = cc

-- what is left of the entries, and who has started
pub record Rest (entries : List Entry) (n : ℕ) (es : List Entry) (started : ℕ → Bool) : Type 0 where
  pub rises : RisesFrom n es
  pub within : (x : Entry) → Has es x → Has entries x
  pub spawned : (s : Entry) (t : ℕ) → Has entries s → child_of s ≡ Some t → (started t ≡ true) ⊎ Has es s
  pub fresh : (s : Entry) (t : ℕ) → Has es s → child_of s ≡ Some t → started t ≡ false
  pub main : started 0 ≡ true

pub started_before : (entries : List Entry) (n : ℕ) (e : Entry) (es : List Entry) (started : ℕ → Bool) (t : ℕ)
    → Rest entries n (e ∷ es) started → SpawnedBefore entries t e → started t ≡ true
started_before entries n e es started t r h = elim (r.spawned h.0 t h.1 h.2) [
  | inl on ↦ on
  | inr ahead ↦ absurd (omega (arith, first_is_least n e es h.0 r.rises ahead, h.3))
]

-- the child of a Spawn entry
pub child_here : (e : Entry) (f c : ℕ) (r : Request) (reply : Reply) → r ≡ request.Spawn f → spawned_of reply.plain ≡ Some c → spawned_by r reply.plain ≡ Some c
child_here e f c r reply is h = rw is h

pub stands_right : (A : Allowed) (ends : ℕ → End) (entries : List Entry) (n : ℕ) (e : Entry) (es : List Entry) (started : ℕ → Bool) (r : Request)
    → e.request ≡ r → Has entries e → Rest entries n (e ∷ es) started
    → StandsAmong A ends entries e r → StandsRight A ends started (e ∷ es) e r
stands_right A ends entries n e es started (request.Make size place) is in_ rest h = h
stands_right A ends entries n e es started (request.Print v) is in_ rest h = h
stands_right A ends entries n e es started (request.Host k x y) is in_ rest h = h
stands_right A ends entries n e es started (request.Spawn f) is in_ rest h =
    let child : child_of e ≡ Some h.0.0 = child_here e f h.0.0 e.request e.reply is (ap (λ (y : Reply). spawned_of y.plain) h.4) in
    (h.0, h.1, h.2, rest.fresh e h.0.0 (inl refl) child, h.4)
stands_right A ends entries n e es started (request.Join c) is in_ rest h = (
  h.0,
  h.1,
  started_before entries n e es started c.0 rest h.2,
  none_of_thread c.0 (e ∷ es) (λ x g same. omega (arith, first_is_least n e es x rest.rises g, h.3 x (rest.within x g) same)),
  h.4,
  h.5,
)
stands_right A ends entries n e es started _ is in_ rest h = h

-- a child is spawned by one entry
pub spawned_once : (A : Allowed) (ends : ℕ → End) (entries : List Entry) (e s : Entry) (t : ℕ) (r : Request)
    → StandsAmong A ends entries e r → spawned_by r e.reply.plain ≡ Some t → Has entries s → child_of s ≡ Some t → s.stamp.0 ≡ e.stamp.0
spawned_once A ends entries e s t (request.Spawn f) h is g js =
    let same : Some h.0.0 ≡ Some t = sym (ap (λ (y : Reply). spawned_of y.plain) h.4) ∙ is in
    h.3 s g (js ∙ sym same)
spawned_once A ends entries e s t _ h is g js = absurd (none_is_some t is)

pub child_above : (A : Allowed) (ends : ℕ → End) (entries : List Entry) (e : Entry) (t : ℕ) (r : Request)
    → StandsAmong A ends entries e r → spawned_by r e.reply.plain ≡ Some t → 0 < t
child_above A ends entries e t (request.Spawn f) h is =
    let same : h.0.0 ≡ t = cc (ap (λ (y : Reply). spawned_of y.plain) h.4, is) in subst (λ k. 0 < k) same h.1
child_above A ends entries e t _ h is = absurd (none_is_some t is)

pub some_child : (c : Option ℕ) (t : ℕ) → is_child c t ≡ true → c ≡ Some t
some_child None t is = absurd (true≢false (sym is))
some_child (Some c) t is = ap Some (eqb-true c t is)

pub eq_itself : (t : ℕ) → (t == t) ≡ true
eq_itself t = eq-eqb t t refl

pub not_zero : (t : ℕ) → 0 < t → (0 == t) ≡ false
not_zero t h = elim (eqb_tells 0 t) [ inl hit ↦ absurd (omega (arith, hit.1, h)) | inr miss ↦ miss.0 ]

pub fresh_after : (A : Allowed) (ends : ℕ → End) (entries : List Entry) (n : ℕ) (e : Entry) (es : List Entry) (started : ℕ → Bool)
    → StandsAmong A ends entries e e.request → Rest entries n (e ∷ es) started
    → (s : Entry) (t : ℕ) → Has es s → child_of s ≡ Some t → (b : Bool) → is_child (child_of e) t ≡ b → with_child started (child_of e) t ≡ false
fresh_after A ends entries n e es started h r s t g is true same =
    absurd (omega (arith, rises_above e.stamp.0 es s r.rises.1 g, spawned_once A ends entries e s t e.request h (some_child (child_of e) t same) (r.within s (inr g)) is))
fresh_after A ends entries n e es started h r s t g is false same = rw same (r.fresh s t (inr g) is)

pub rest_after : (A : Allowed) (ends : ℕ → End) (entries : List Entry) (n : ℕ) (e : Entry) (es : List Entry) (started : ℕ → Bool)
    → StandsAmong A ends entries e e.request
    → Rest entries n (e ∷ es) started → Rest entries e.stamp.0 es (with_child started (child_of e))
rest_after A ends entries n e es started h r = record {
  rises = r.rises.1;
  within = λ x g. r.within x (inr g);
  spawned = λ s t g is. elim (r.spawned s t g is) [
    | inl on ↦ inl (elim (is_child (child_of e) t) as (λ b. (if b then true else started t) ≡ true) [ true ↦ refl | false ↦ on ])
    | inr (inl same) ↦ inl (rw (ap (λ c. is_child c t) (ap child_of same ∙ is)) (rw (eq_itself t) refl))
    | inr (inr ahead) ↦ inr ahead
  ];
  fresh = λ s t g is. fresh_after A ends entries n e es started h r s t g is (is_child (child_of e) t) refl;
  main = elim (is_child (child_of e) 0) as (λ b. (if b then true else started 0) ≡ true) [ true ↦ refl | false ↦ r.main ];
}

pub in_order : (A : Allowed) (ends : ℕ → End) (entries : List Entry) (tied : IsTied A ends entries) (n : ℕ) (es : List Entry) (started : ℕ → Bool)
    → Rest entries n es started → InOrder A ends started es
in_order A ends entries tied n [] started r = tt
in_order A ends entries tied n (e ∷ es) started r =
    let in_ = r.within e (inl refl) in
    let stands = tied.stands e in_ in (
      elim (tied.started e in_) [
        | inl main ↦ subst (λ k. started k ≡ true) (sym main) r.main
        | inr before ↦ started_before entries n e es started e.thread.0 r before
      ],
      stands_right A ends entries n e es started e.request refl in_ r stands,
      in_order A ends entries tied e.stamp.0 es (with_child started (child_of e)) (rest_after A ends entries n e es started stands r),
    )

pub tied_in_order : (A : Allowed) (ends : ℕ → End) (entries : List Entry) → IsTied A ends entries → InOrder A ends (λ t. 0 == t) entries
tied_in_order A ends entries tied =
    in_order A ends entries tied 0 entries (λ t. 0 == t) (record {
      rises = tied.rises;
      within = λ x g. g;
      spawned = λ s t g is. inr g;
      fresh = λ s t g is. not_zero t (child_above A ends entries s t s.request (tied.stands s g) is);
      main = refl;
    })
