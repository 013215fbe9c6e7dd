-- Values that may be lacking: what lacks where parts do, as a Bool.
use Prim.Native.Nat.{ℕ}
use mathlib.Core.Path.{◌≡◌, refl, sym, ap, ◌∙◌}
use mathlib.Core.Bool.{Bool, true, false, not, ◌&&◌, ◌||◌}
use mathlib.Core.Option.{Option, none, some}
use Rattle.sets.specs.Set.{member}
use Rattle.sets.proofs.SetLaws.{member_none}
use Rattle.meaning.specs.Value.{of_one, of_both, is_true}
use Rattle.evaluator.specs.Promises.{given}

pub given_as : {A : Type 0} {p q : Bool} {a b : A} → p ≡ q → a ≡ b → given p a ≡ given q b
given_as {q = q} {a = a} e f = ap (λ (p : Bool). given p a) e ∙ ap (given q) f

pub of_one_lem : {A B : Type 0} (f : A → B) (p : Bool) (a : A) → of_one f (given p a) ≡ given p (f a)
unfolding of_one given
of_one_lem f true a = refl
of_one_lem f false a = refl

module _ {A B C : Type 0} where
  pub of_both_lem : (f : A → B → C) (p q : Bool) (a : A) (b : B) → of_both f (given p a) (given q b) ≡ given (p || q) (f a b)
  unfolding of_both given
  of_both_lem f true q a b = refl
  of_both_lem f false q a b = of_one_lem (f a) q b

  -- the second part is there
  pub of_first : (f : A → B → C) (p : Bool) (a : A) (b : B) → of_both f (given p a) (some b) ≡ given p (f a b)
  unfolding of_both of_one given
  of_first f true a b = refl
  of_first f false a b = refl

module _ {A : Type 0} where
  -- no lane lacks anything
  pub all_there : (j : ℕ) (a : A) → given (member 0 j) a ≡ some a
  unfolding given
  all_there j a = ap (λ p. given p a) (member_none j)

  pub of_same : (f : A → A) → ((a : A) → f a ≡ a) → (t : Option A) → of_one f t ≡ t
  unfolding of_one
  of_same f same none = refl
  of_same f same (some a) = ap some (same a)

-- three parts, joined from the left or from the right
pub of_chain : {A : Type 0} (f : A → A → A) → ((a b c : A) → f (f a b) c ≡ f a (f b c)) → (p q : Bool) (a b : A) (t : Option A)
    → of_both f (given p a) (of_both f (given q b) t) ≡ of_both f (given (p || q) (f a b)) t
unfolding of_both of_one given
of_chain f assoc true q a b t = refl
of_chain f assoc false true a b t = refl
of_chain f assoc false false a b none = refl
of_chain f assoc false false a b (some c) = ap some (sym (assoc a b c))

pub is_true_lem : (p b : Bool) → is_true (given p b) ≡ b && not p
unfolding is_true given
is_true_lem true true = refl
is_true_lem true false = refl
is_true_lem false true = refl
is_true_lem false false = refl
