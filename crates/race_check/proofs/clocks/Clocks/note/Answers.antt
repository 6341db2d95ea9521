use Rattle.std.proofs.Common.{get_or, ◌≡◌, length, sym, ap, subst, ◌∙◌, Some}
use Rattle.std.specs.Prelude.{max}
use Rattle.race_check.specs.declared.key.Key.{Key}
use Rattle.race_check.specs.Clocks.{mark_at}
use Rattle.race_check.proofs.Noted.{noted_given, noted_others}
use Rattle.race_check.proofs.clocks.Clocks.note.Goals as goal

same_key : (j k : Key) → Some j ≡ Some k → j ≡ k
same_key j k h = cc

pub returns-clause-given : goal.returns-clause-given
returns-clause-given c = noted_given (length c.args.clock.now) c.args.clock.now c.args.entry.now c.args.self.now c.add.new.self c.add_if.new.self c.add_if-2.new.self
    (record {
      thread = record {
        raised = λ k is s lt. subst (λ (j : Key). mark_at c.add.new.self j s ≡ max (get_or c.args.clock.now s 0) (mark_at c.args.self.now j s)) (same_key _ k is) (c.in_ok-add.ensures.raised s lt);
        others = λ k other s. c.in_ok-add.ensures.others k (λ h. other (ap (λ (j : Key). Some j) (sym h))) s;
      };
      start = record { raised = λ k is. c.in_ok-add_if.ensures.raised k (c.started.ensures ∙ is); others = λ k other. c.in_ok-add_if.ensures.others k (λ h. other (sym c.started.ensures ∙ h)) };
      place = record { raised = λ k is. c.in_ok-add_if-2.ensures.raised k (c.place_of.ensures ∙ is); others = λ k other. c.in_ok-add_if-2.ensures.others k (λ h. other (sym c.place_of.ensures ∙ h)) };
    })

pub returns-clause-others : goal.returns-clause-others
returns-clause-others c = noted_others (length c.args.clock.now) c.args.clock.now c.args.entry.now c.args.self.now c.add.new.self c.add_if.new.self c.add_if-2.new.self
    (record {
      thread = record {
        raised = λ k is s lt. subst (λ (j : Key). mark_at c.add.new.self j s ≡ max (get_or c.args.clock.now s 0) (mark_at c.args.self.now j s)) (same_key _ k is) (c.in_ok-add.ensures.raised s lt);
        others = λ k other s. c.in_ok-add.ensures.others k (λ h. other (ap (λ (j : Key). Some j) (sym h))) s;
      };
      start = record { raised = λ k is. c.in_ok-add_if.ensures.raised k (c.started.ensures ∙ is); others = λ k other. c.in_ok-add_if.ensures.others k (λ h. other (sym c.started.ensures ∙ h)) };
      place = record { raised = λ k is. c.in_ok-add_if-2.ensures.raised k (c.place_of.ensures ∙ is); others = λ k other. c.in_ok-add_if-2.ensures.others k (λ h. other (sym c.place_of.ensures ∙ h)) };
    })
