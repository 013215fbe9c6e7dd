-- A set of sixteen is 0 exactly where it has no member; so whether one lacks a member of another is asked by a difference.
use Prim.Native.Nat.{ℕ, ◌^◌, ◌<◌}
use native.Mathlib.Omega.{arith}
use mathlib.Core.Path.{◌≡◌, sym, ap, ◌∙◌}
use mathlib.Core.Bool.{true, false, not, ◌&&◌}
use Rattle.logic.specs.Tests.{any}
use Rattle.logic.proofs.Any.{any_intro, any_false}
use Rattle.logic.proofs.Bools.{split, clash, is_false}
use Rattle.sets.specs.Set.{member}
use Rattle.sets.proofs.SetLaws.{same_members, member_none, member_within}
use Rattle.choice.specs.Slots.{lacks}

-- one without members is 0
pub no_member : (s : ℕ) → s < 2 ^ 16 → ((u : ℕ) → u < 16 → member s u ≡ false) → s ≡ 0
no_member s fits h =
    same_members 16 s 0 fits (omega arith)
    (λ u. is_false (λ t. clash t (h u (member_within s u fits t))) ∙ sym (member_none u))

-- the difference of two sets: 0 where the first has every member of the other
module _ (set other rest : ℕ) (fits : rest < 2 ^ 16)
    (is : (u : ℕ) → member rest u ≡ member other u && not (member set u)) where
  pub none_left : rest ≡ 0 → lacks set other ≡ false
  unfolding lacks
  none_left e = any_false 16 _ (λ u low. sym (is u) ∙ ap (λ (x : ℕ). member x u) e ∙ member_none u)

  pub some_left : (rest ≡ 0 → ⊥) → lacks set other ≡ true
  unfolding lacks
  some_left n =
      split (any 16 (λ u. member other u && not (member set u))) (λ h. h)
      (λ f. absurd (n (no_member rest fits (λ u low. is u ∙ is_false (λ t. clash (any_intro 16 _ u low t) f)))))

-- nothing is lacked of the empty set
pub lacks_none : (set : ℕ) → lacks set 0 ≡ false
unfolding lacks
lacks_none set = any_false 16 _ (λ u low. rw (member_none u))
