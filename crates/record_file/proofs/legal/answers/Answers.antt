use Rattle.std.proofs.Common.{◌≡◌, ◌++◌, ◌∷◌, [], true, false, refl, sym, ◌∙◌, ap}
use Rattle.std.proofs.lemmas.Bool.{true≢false}
use Rattle.history.specs.declared.entry.Entry.{Entry}
use Rattle.history.specs.Histories.{is_make, replay}
use Rattle.history.specs.Objects.{answer, unmade}
use Rattle.alloc_state.specs.Log.{has_make}
use Rattle.record_file.proofs.Replaying.{answered_by, answers_so, goes_on, made_again, other_reply, wrong_request}
use Rattle.record_file.proofs.legal.answers.Goals as goal
use Rattle.record_file.proofs.legal.answers.Goals.{then-not-fits-via-then-not-fits, then-not-fits-via-else-not-fits+then-is_made, then-is_make, else-is_make}

pub returns-then-not-fits : goal.returns-then-not-fits
returns-then-not-fits c =
    let n = c.args.state.now.number.0 in
    let before = c.args.state.now.entries in
    let e = c.args.entry.now in
    elim c.then-not-fits.branch [
      | then-not-fits-via-then-not-fits w ↦ wrong_request n before e c.fits.result c.fits.ensures w.if-not-fits.true
      | then-not-fits-via-else-not-fits+then-is_made w ↦ elim w.if-is_make.branch [
        | then-is_make v ↦ made_again n before e (sym w.is_make.ensures ∙ v.if-is_make.true) (sym v.is_made.ensures ∙ sym v.value-is ∙ w.if-is_made.true)
        | else-is_make v ↦ absurd (true≢false (sym w.if-is_made.true ∙ v.value-is ∙ v.if-is_make.false))
      ]
    ]

pub returns : goal.returns
returns c =
    let n = c.args.state.now.number.0 in
    let before = c.args.state.now.entries in
    let e = c.args.entry.now in
    let r = c.in_ok-request.request in
    let same : r ≡ e.request = c.in_ok-request.ensures in
    let made = c.commit-answer.result in
    let after = c.commit-answer.new.self.entries in
    let asked : made.request ≡ r = rw c.commit-answer.ensures.entry refl in
    let stamp : made.stamp ≡ e.stamp = rw c.commit-answer.ensures.entry refl in
    let numbers : c.prepare.new.self.number.0 ≡ n = rw c.in_ok-prepare.ensures.ok refl in
    let entries : c.prepare.new.self.entries ≡ before = rw c.in_ok-prepare.ensures.ok refl in
    let reply : made.reply ≡ (answer (replay (unmade n) before) r e.stamp).reply =
    ap (λ (z : Entry). z.reply) c.commit-answer.ensures.entry ∙ ap (λ k. (answer (replay (unmade k) c.prepare.new.self.entries) r e.stamp).reply) numbers
    ∙ ap (λ es. (answer (replay (unmade n) es) r e.stamp).reply) entries in
    let number : c.commit-answer.new.self.number.0 ≡ c.prepare.new.self.number.0 = rw c.commit-answer.ensures.appended refl in
    let longer : after ≡ c.prepare.new.self.entries ++ made ∷ [] = rw c.commit-answer.ensures.appended refl in
    let once : is_make e.request ≡ true → has_make before ≡ false = elim c.if-is_make.branch [
      | then-is_make w ↦ λ make. (sym w.is_made.ensures ∙ sym w.value-is ∙ c.if-is_made.false)
      | else-is_make w ↦ λ make. absurd (true≢false (sym make ∙ sym c.is_make.ensures ∙ w.if-is_make.false))
    ] in
    answered_by c.equals.result n before e c.commit-answer.new.self.number.0 after (number ∙ numbers)
    (λ is. answers_so n before e r same made after asked stamp reply (sym c.fits.ensures ∙ c.if-not-fits.false) once (c.equals.ensures.0 is))
    (λ differ. other_reply n before e r same made after asked stamp reply (λ q. true≢false (sym (c.equals.ensures.1 q) ∙ differ)))
    (goes_on n before e r same made after asked stamp reply (longer ∙ ap (λ es. es ++ made ∷ []) entries) c.requires)
