-- `lanes::anew` meets its contract: sets whose meet is empty are apart.
use mathlib.Core.Path.{◌≡◌, refl, sym, ◌∙◌}
use mathlib.Core.Bool.{Bool, true, false, not, ◌&&◌, false≢true}
use lib.Dec.{eqb}
use borrow.Author.Tests.{eqb-true}
use Rattle.sets.specs.Set.{member}
use Rattle.sets.proofs.SetLaws.{member_none}
use Rattle.lanes.specs.Promises.{SomeApart}
use Rattle.lanes.proofs.anew.Goals as goal

-- of two of which not both are, one is not where the other is
other_false : (a b : Bool) → (a && b) ≡ false → a ≡ true → b ≡ false
other_false true b h e = h
other_false false b h e = absurd (false≢true e)

not_false : (b : Bool) → not b ≡ false → b ≡ true
not_false true h = refl
not_false false h = sym h

pub returns-in-Some : goal.returns-in-Some
unfolding SomeApart
returns-in-Some c e =
    let none : c.both.result ≡ 0 = eqb-true c.both.result 0 (not_false (eqb c.both.result 0) e) in
    rw c.in-Some.is (record {
      lacks =
          λ k h. other_false (member c.args.named k) (member c.in-Some.changed k)
          (sym (c.both.ensures k) ∙ rw none (member_none k)) h;
    })

pub returns-in-None : goal.returns-in-None
returns-in-None c e = absurd (false≢true (sym e))
