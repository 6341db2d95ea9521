-- Foreign accesses one after another, case by case.
use Rattle.std.proofs.Common.{◌≡◌, Bool, true, false, ◌&&◌, ◌||◌, not, cond, IsTrue, List, [], ◌∷◌, refl, ◌∙◌, arith}
use Rattle.std.specs.List.{list_any}
use Rattle.perm_table.specs.declared.Perm.{Perm}
use Rattle.perm_table.specs.declared.Kind.{Kind}
use Rattle.perm_table.specs.declared.Kind.TheVariants.{Read, Write}
use Rattle.perm_table.specs.declared.Outcome.TheVariants.{Next, Denied}
use Rattle.perm_table.specs.Table.{after_foreign, foreign_outcome, is_disabled}
use Rattle.table_laws.specs.Foreign.{is_read, is_write, after_all, after_one, kind_among, sum_of, hides}

-- what a foreign access leaves, one that it hides leaves as it is
pub foreign-hidden : (kind further : Kind) (guarded later : Bool) (perm : Perm) → IsTrue (not later || guarded) → IsTrue (hides kind further) → after_foreign further later (after_foreign kind guarded perm) ≡ after_foreign kind guarded perm
foreign-hidden kind further guarded later perm g h = grind arith

-- a read adds nothing to a write after it
pub read-write : (perm : Perm) → after_foreign Write false (after_foreign Read false perm) ≡ after_foreign Write false perm
read-write perm = grind arith

sum-step : (kind : Kind) (read write : Bool) (perm : Perm) → after_one (kind_among read write) (after_foreign kind false perm) ≡ after_one (kind_among (is_read kind || read) (is_write kind || write)) perm
sum-step kind read write perm = grind arith

pub after_all-sum : (kinds : List Kind) (perm : Perm) → after_all kinds perm ≡ after_one (sum_of kinds) perm
after_all-sum [] perm = refl
after_all-sum (kind ∷ kinds) perm =
    after_all-sum kinds (after_foreign kind false perm) ∙ sum-step kind (list_any is_read kinds) (list_any is_write kinds) perm

-- a foreign access that changes nothing is not denied
pub foreign_outcome-same : (perm : Perm) (accessed guarded : Bool) → foreign_outcome perm accessed guarded perm ≡ Next perm accessed
foreign_outcome-same perm accessed guarded = grind arith

next-by : (denied accessed after : Bool) (perm next : Perm) → cond denied Denied (Next perm accessed) ≡ Next next after → perm ≡ next
next-by true accessed after perm next e = cc
next-by false accessed after perm next e = cc

pub met-stays : (perm next : Perm) (accessed after : Bool) (guarded later : Bool) (kind further : Kind) → IsTrue (not later || guarded) → IsTrue (hides kind further) → foreign_outcome perm accessed guarded (after_foreign kind guarded perm) ≡ Next next after → foreign_outcome next after later (after_foreign further later next) ≡ Next next after
met-stays perm next accessed after guarded later kind further g h e =
    let is : after_foreign kind guarded perm ≡ next = next-by (guarded && accessed && not (is_disabled perm) && is_disabled (after_foreign kind guarded perm)) accessed after (after_foreign kind guarded perm) next e in
    let same : after_foreign further later next ≡ next = rw is at (foreign-hidden kind further guarded later perm g h) in
    rw same (foreign_outcome-same next after later)
